-- The words of sound declarations.
use Rattle.std.proofs.Common.{◌≡◌, ℕ, ◌+◌, ◌*◌, ◌≤◌, cond, eqb, List, [], ◌∷◌, ◌++◌, length, take, refl, ap, ◌∙◌, arith, length-append, length-take, sum_by}
use Rattle.std.specs.List.{flat_map, AllByRecursion}
use Rattle.std.proofs.lemmas.Nat.{mul-le}
use Rattle.std.proofs.ByRecursion.{All-append, All-take, All-weaker}
use Rattle.std.proofs.lemmas.List.Sums.{sum_by-cons}
use Rattle.std.proofs.lemmas.Bool.{cond-false}
use Rattle.layout.specs.Kinds.{kind_number, extra_words, element_words}
use Rattle.layout.specs.Info.{low_of, type_length}
use Rattle.meaning.specs.Table.{Decl}
use Rattle.meaning.specs.File.{decl_words, type_words, type_bytes}
use Rattle.meaning.proofs.Lengths.{element_total}
use Rattle.promises.specs.Calls.{Word}
use Rattle.layout.proofs.Each.{extra_small, element_small}
use Rattle.promises.proofs.Parts.{length_joined, all_joined, joined_push}
use Rattle.promises.proofs.Sound.{Sound, tail_length}

module _ (d : Decl) (s : Sound d) where
  pub words_are : decl_words d ≡ d.name ∷ d.info ∷ d.third ∷ (take (extra_words s.kind) d.extra ++ flat_map (λ e. e) d.tail)
  words_are =
      ap (λ k. cond (eqb (kind_number k) 0) [] (d.name ∷ d.info ∷ d.third ∷ (take (extra_words k) d.extra ++ flat_map (λ e. e) d.tail))) s.kind_is ∙
      cond-false (eqb (kind_number s.kind) 0) [] _ s.known

  pub length_extra : length (take (extra_words s.kind) d.extra) ≡ extra_words s.kind
  length_extra = omega (arith, length-take (extra_words s.kind) d.extra, s.extra_length, extra_small s.kind)

  pub length_words : length (decl_words d) ≡ 3 + extra_words s.kind + element_words s.kind * length d.tail
  length_words =
      let rest = length-append (take (extra_words s.kind) d.extra) (flat_map (λ e. e) d.tail) in
      let tails = length_joined (λ e. e) (element_words s.kind) (λ ws. length ws ≡ element_words s.kind) (λ ws p. p) d.tail s.widths in
      ap length words_are ∙ omega (arith, length_extra, rest, tails)

  pub words_fit : AllByRecursion Word (decl_words d)
  words_fit =
      let extras = All-take Word (extra_words s.kind) d.extra s.extra_fits in
      let tails = all_joined (λ e. e) Word d.tail s.tail_fits in
      rw words_are (s.name_fits, (s.info_fits, (s.third_fits, All-append Word _ _ extras tails)))

  -- at most six words, and three for each element
  pub few_words : length (decl_words d) ≤ 6 + 3 * length d.tail
  few_words = omega (arith, length_words, extra_small s.kind, mul-le (element_words s.kind) (length d.tail) 3 (length d.tail) (element_small s.kind) (omega arith))

pub type_words_fit : (ds : List Decl) → AllByRecursion Sound ds → AllByRecursion Word (type_words ds)
type_words_fit ds p = all_joined decl_words Word ds (All-weaker Sound (λ d. AllByRecursion Word (decl_words d)) words_fit ds p)

pub few_type_words : (ds : List Decl) → AllByRecursion Sound ds → length (type_words ds) ≤ 6 * length ds + 3 * sum_by tail_length ds
few_type_words [] p = omega arith
few_type_words (d ∷ ds) p = omega (arith, length-append (decl_words d) (type_words ds), few_words d p.0, few_type_words ds p.1, sum_by-cons tail_length d ds)

pub length_pushed : (ds : List Decl) (d : Decl) → length (type_words (ds ++ d ∷ [])) ≡ length (type_words ds) + length (decl_words d)
length_pushed ds d = ap length (joined_push decl_words ds d) ∙ length-append (type_words ds) (decl_words d)

-- four bytes for each word
abbrev pub word_bytes : List Decl → ℕ
word_bytes ds = 4 * length (type_words ds)

-- what the info word states is the length
pub length_stated : (d : Decl) (s : Sound d) → type_length d.info ≡ 4 * length (decl_words d)
length_stated d s =
    let k = s.kind in
    let by_kind : type_length d.info ≡ cond (eqb (kind_number k) 0) 0 (12 + 4 * extra_words k + 4 * element_words k * low_of d.info) =
    ap (λ j. cond (eqb (kind_number j) 0) 0 (12 + 4 * extra_words j + 4 * element_words j * low_of d.info)) s.kind_is in
    by_kind ∙ cond-false (eqb (kind_number k) 0) 0 _ s.known ∙ omega (arith, length_words d s, element_total (element_words k) (low_of d.info) (length d.tail) s.counted)

pub types_stated : (ds : List Decl) → AllByRecursion Sound ds → type_bytes ds ≡ word_bytes ds
types_stated [] p = refl
types_stated (d ∷ ds) p = omega (arith, sum_by-cons (λ x. type_length x.info) d ds, length_stated d p.0, types_stated ds p.1, length-append (decl_words d) (type_words ds))
