-- A declaration that a rule makes is sound, and shows what it was made of.
use Rattle.std.proofs.Common.{◌≡◌, ℕ, ◌<◌, ◌≤◌, true, false, eqb, ◌⊎◌, List, [], ◌∷◌, length, refl, inl, inr, arith}
use Rattle.std.specs.List.{AllByRecursion}
use Rattle.std.proofs.lemmas.List.{nil_from_length}
use Rattle.std.proofs.lemmas.Bool.{eqb-true, eq-eqb, ne_eqb}
use Rattle.layout.specs.declared.kind.BtfKind.{BtfKind}
use Rattle.layout.specs.Kinds.{kind_number, element_words}
use Rattle.layout.specs.Info.{flag_of}
use Rattle.layout.specs.Heads.{low_bits, declared}
use Rattle.meaning.specs.Questions.{decl_kind}
use Rattle.rewriting.specs.Rules.{kept}
use Rattle.promises.specs.Calls.{Word, Given, Elements}
use Rattle.layout.proofs.Each.{kind_small}
use Rattle.layout.proofs.Words.{kind_built}
use Rattle.promises.proofs.Sound.{Sound}
use Rattle.promises.proofs.Declared.{sound_declared, low_small}

none_serves : (k : BtfKind) → false ≡ true → element_words k ≡ 1
none_serves k e = cc

module _ (name : ℕ) (k : BtfKind) (linkage third data_word : ℕ) (tail : List (List ℕ)) (few : length tail ≤ 65535) where
  pub kind_kept : decl_kind (kept name k linkage third data_word tail) ≡ k
  kind_kept = kind_built k false (low_bits k linkage (length tail)) (low_small linkage (length tail) few k)

  pub flag_kept : flag_of (kept name k linkage third data_word tail).info ≡ false
  flag_kept = ne_eqb _ _ (λ e. omega (arith, kind_small k, low_small linkage (length tail) few k))

  pub sound_kept : Word name → Word third → Word data_word → linkage ≤ 3 → eqb (kind_number k) 0 ≡ false → (length tail ≡ 0) ⊎ (0 < element_words k) →
      AllByRecursion (λ ws. length ws ≡ element_words k) tail → AllByRecursion (AllByRecursion Word) tail → Sound (kept name k linkage third data_word tail)
  sound_kept name_fits third_fits data-fits linked known some widths fits =
      elim some [
        | inl none ↦
            let es : Elements = record { width = 1; serving = λ k'. false; wide = omega arith; suits = none_serves; items = tail; counted = rw (nil_from_length tail none) tt; items_fit = fits } in
            sound_declared given es k (record { known = known; served = inl none; linked = λ e. linked; few = few })
        | inr wide ↦
            let es : Elements = record { width = element_words k; serving = λ k'. eqb (element_words k') (element_words k); wide = wide; suits = λ k' e. eqb-true _ _ e; items = tail; counted = widths; items_fit = fits } in
            sound_declared given es k (record { known = known; served = inr (eq-eqb _ _ refl); linked = λ e. linked; few = few })
      ]
    where
      given : Given
      given = record { declaration = declared name k false linkage third (data_word ∷ 0 ∷ 0 ∷ []); name_fits = name_fits; third_fits = third_fits; extra_fits = (data-fits, (omega arith, (omega arith, tt))) }
