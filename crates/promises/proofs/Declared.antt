-- A declaration that is accepted is kept as a sound one.
use Rattle.std.proofs.Common.{◌≡◌, ℕ, zero, suc, ◌-◌, ◌^◌, ◌<◌, ◌≤◌, Bool, true, false, cond, eqb, ltb, ◌⊎◌, List, [], ◌∷◌, length, get_or, drop, replicate, sym, refl, ap, ◌∙◌, inl, inr, arith}
use Rattle.std.specs.List.{AllByRecursion}
use Rattle.std.proofs.lemmas.List.{nil_from_length}
use Rattle.layout.specs.declared.kind.BtfKind.{BtfKind}
use Rattle.layout.specs.Kinds.{kind_number, has_linkage, extra_words, element_words, Third, nothing, bytes, refers, third_word}
use Rattle.layout.specs.Heads.{low_bits, third_kept, extra_kept, head_kept}
use Rattle.meaning.specs.Adding.{decl_with}
use Rattle.promises.specs.Calls.{Word, Given, Elements}
use Rattle.layout.proofs.Each.{each_kind}
use Rattle.layout.proofs.Words.{kind_built, low_built, info_fits}
use Rattle.promises.proofs.Sound.{Sound}

-- what is so of a declaration of a kind with no fault, with `count` elements of a type that serves some kinds
pub record Fine (k : BtfKind) (linkage : ℕ) (serving : BtfKind → Bool) (count : ℕ) : Type 0 where
  pub known : eqb (kind_number k) 0 ≡ false
  pub served : (count ≡ 0) ⊎ (serving k ≡ true)
  pub linked : has_linkage k ≡ true → linkage ≤ 3
  pub few : count ≤ 65535

-- the low bits are sixteen
pub low_small : (linkage count : ℕ) → count ≤ 65535 → (k : BtfKind) → low_bits k linkage count < 2 ^ 16
low_small linkage count few = each_kind (λ k. low_bits k linkage count < 2 ^ 16) (omega arith)

-- they tell the element count, but of a kind that has no elements
count_kept : (linkage count : ℕ) (k : BtfKind) → (count ≡ 0) ⊎ (0 < element_words k) → count ≡ cond (ltb 0 (element_words k)) (low_bits k linkage count) 0
count_kept linkage count =
    each_kind (λ k. (count ≡ 0) ⊎ (0 < element_words k) → count ≡ cond (ltb 0 (element_words k)) (low_bits k linkage count) 0) (omega arith)

third_word_fits : (third : Third) (n : ℕ) → Word n → Word (third_kept third n)
third_word_fits nothing n p = omega arith
third_word_fits bytes n p = p
third_word_fits refers n p = p

-- three places are kept, and those that the kind does not have are 0
module _ (linkage : ℕ) (e : List ℕ) where
  three_kept : (k : BtfKind) → length (extra_kept k linkage e) ≡ 3
  three_kept = each_kind (λ k. length (extra_kept k linkage e) ≡ 3) (search)

  rest_kept : (k : BtfKind) → drop (extra_words k) (extra_kept k linkage e) ≡ replicate (3 - extra_words k) 0
  rest_kept = each_kind (λ k. drop (extra_words k) (extra_kept k linkage e) ≡ replicate (3 - extra_words k) 0) (search)

pub word_at : (e : List ℕ) (i : ℕ) → AllByRecursion Word e → Word (get_or e i 0)
word_at [] i p = omega arith
word_at (n ∷ e) zero p = p.0
word_at (n ∷ e) (suc i) p = word_at e i p.1

zeros : AllByRecursion Word (0 ∷ 0 ∷ 0 ∷ [])
zeros = omega arith

one : (n : ℕ) → Word n → AllByRecursion Word (n ∷ 0 ∷ 0 ∷ [])
one n p = omega arith

three : (e : List ℕ) → AllByRecursion Word e → AllByRecursion Word (get_or e 0 0 ∷ get_or e 1 0 ∷ get_or e 2 0 ∷ [])
three e p = (word_at e 0 p, (word_at e 1 p, (word_at e 2 p, tt)))

linkage_fits : (linkage : ℕ) → (true ≡ true → linkage ≤ 3) → AllByRecursion Word (linkage ∷ 0 ∷ 0 ∷ [])
linkage_fits linkage h = omega (arith, h refl)

extra_fit : (linkage : ℕ) (e : List ℕ) → AllByRecursion Word e → (k : BtfKind) → (has_linkage k ≡ true → linkage ≤ 3) → AllByRecursion Word (extra_kept k linkage e)
extra_fit linkage e p =
    each_kind (λ k. (has_linkage k ≡ true → linkage ≤ 3) → AllByRecursion Word (extra_kept k linkage e))
    (search (zeros, one (get_or e 0 0) (word_at e 0 p), three e p, linkage_fits linkage) parts 40)

-- elements come only with a kind that has some, and are as wide as it asks
module _ (g : Given) (es : Elements) (k : BtfKind) (fine : Fine k g.declaration.linkage es.serving (length es.items)) where
  has_elements : (length es.items ≡ 0) ⊎ (0 < element_words k)
  has_elements = elim fine.served [ inl none ↦ inl none | inr s ↦ inr (omega (arith, es.wide, es.suits k s)) ]

  wide_enough : AllByRecursion (λ ws. length ws ≡ element_words k) es.items
  wide_enough =
      elim fine.served [
        | inl none ↦ rw (nil_from_length es.items none) tt
        | inr s ↦ rw (es.suits k s) es.counted
      ]

  pub sound_declared : Sound (decl_with (head_kept g.declaration k (length es.items)) es.items)
  sound_declared =
      let linkage = g.declaration.linkage in
      let count = length es.items in
      let flag = g.declaration.flag in
      let low = low_bits k linkage count in
      let small = low_small linkage count fine.few k in
      record {
        kind = k;
        kind_is = kind_built k flag low small;
        known = fine.known;
        name_fits = g.name_fits;
        info_fits = info_fits k flag low small;
        third_fits = third_word_fits (third_word k) g.declaration.size_or_type g.third_fits;
        extra_fits = extra_fit linkage g.declaration.extra g.extra_fits k fine.linked;
        extra_length = three_kept linkage g.declaration.extra k;
        extra_rest = rest_kept linkage g.declaration.extra k;
        counted = count_kept linkage count k has_elements ∙ ap (λ n. cond (ltb 0 (element_words k)) n 0) (sym (low_built k flag low small));
        widths = wide_enough;
        tail_fits = es.items_fit;
      }

  pub kind_declared : sound_declared.kind ≡ k
  unfolding sound_declared
  kind_declared = refl
