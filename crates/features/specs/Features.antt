-- The features by number, and what the two built sources answer.
use Rattle.std.specs.Prelude.{ℕ, ◌+◌, ◌/◌, ◌%◌, ◌^◌, Bool, false, cond, not, ◌||◌, List, [], ◌∷◌, ◌==◌}
use Rattle.features.specs.declared.FeatureSet.{FeatureSet}
use Rattle.features.specs.declared.RefusedFeatures.{RefusedFeatures}
use Rattle.features.specs.declared.BtfFeature.{BtfFeature}
use Rattle.features.specs.declared.BtfFeature.TheVariants.{Func, FuncGlobal, DataSec, DataSecZero, Float, DeclTag, TypeTag, Enum64}

-- in the order of their declaration, from 0
abbrev pub number_of : BtfFeature → ℕ
number_of Func = 0
number_of FuncGlobal = 1
number_of DataSec = 2
number_of DataSecZero = 3
number_of Float = 4
number_of DeclTag = 5
number_of TypeTag = 6
number_of Enum64 = 7

abbrev pub same : BtfFeature → BtfFeature → Bool
same f g = number_of f == number_of g

-- whether the bit of a feature is set
abbrev pub bit_of : ℕ → BtfFeature → Bool
bit_of n f = n / 2 ^ number_of f % 2 == 1

-- the number with that bit set
abbrev pub with_bit : ℕ → BtfFeature → ℕ
with_bit n f = cond (bit_of n f) n (n + 2 ^ number_of f)

-- a set has the features whose bits are set
abbrev pub has : FeatureSet → BtfFeature → Bool
has s f = bit_of s.bits f

-- whether a list names a feature
abbrev pub names : List BtfFeature → BtfFeature → Bool
names [] f = false
names (g ∷ gs) f = same g f || names gs f

-- a feature is allowed unless the list names it
abbrev pub allows : RefusedFeatures → BtfFeature → Bool
allows s f = not (names s.refused.now f)
