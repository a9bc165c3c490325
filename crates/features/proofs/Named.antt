-- A comparison of features by `==` is that of their numbers, and a walk over a list looks for a feature.
use Rattle.std.proofs.Common.{◌≡◌, ℕ, ◌+◌, ◌<◌, ◌≤◌, true, false, ◌||◌, List, length, get_or, drop, eqb, refl, ap, ◌∙◌}
use Rattle.std.proofs.lemmas.List.{at_drop_more, at_drop_all}
use denote.Enum.Bare.{sameb}
use denote.Enum.Declared.{tag_of}
use Rattle.features.specs.contracts.BtfFeature.{the_type}
use Rattle.features.specs.declared.BtfFeature.{BtfFeature}
use Rattle.features.specs.declared.BtfFeature.TheVariants.{Func, FuncGlobal, DataSec, DataSecZero, Float, DeclTag, TypeTag, Enum64}
use Rattle.features.specs.Features.{number_of, same, names}

tag_number : (f : BtfFeature) → tag_of the_type f ≡ number_of f
tag_number Func = refl
tag_number FuncGlobal = refl
tag_number DataSec = refl
tag_number DataSecZero = refl
tag_number Float = refl
tag_number DeclTag = refl
tag_number TypeTag = refl
tag_number Enum64 = refl

pub compared : (g f : BtfFeature) → sameb the_type g f ≡ same g f
compared g f = ap (λ n. eqb n (tag_of the_type f)) (tag_number g) ∙ ap (λ n. eqb (number_of g) n) (tag_number f)

-- what one turn tells of the rest of the list
pub record Walk (xs : List BtfFeature) (f : BtfFeature) : Type 0 where
  pub found : (i : ℕ) (d : BtfFeature) → i < length xs → same (get_or xs i d) f ≡ true → names (drop i xs) f ≡ true
  pub passed : (i : ℕ) (d : BtfFeature) → i < length xs → same (get_or xs i d) f ≡ false → names (drop i xs) f ≡ names (drop (i + 1) xs) f
  pub ended : (i : ℕ) → length xs ≤ i → names (drop i xs) f ≡ false

step : (xs : List BtfFeature) (f : BtfFeature) (i : ℕ) (d : BtfFeature) → i < length xs → names (drop i xs) f ≡ (same (get_or xs i d) f || names (drop (i + 1) xs) f)
step xs f i d h = at_drop_more (λ ys. names ys f) xs i d h

pub walk : (xs : List BtfFeature) (f : BtfFeature) → Walk xs f
walk xs f = record {
  found = λ i d h e. step xs f i d h ∙ ap (λ t. t || names (drop (i + 1) xs) f) e;
  passed = λ i d h e. step xs f i d h ∙ ap (λ t. t || names (drop (i + 1) xs) f) e;
  ended = λ i h. at_drop_all (λ ys. names ys f) xs i h;
}
