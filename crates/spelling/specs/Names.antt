-- A name that is spelled anew behind the strings.
use Rattle.std.specs.Prelude.{ℕ, ◌+◌, Bool, not, ◌&&◌, List, [], ◌∷◌, ◌++◌, map, length, take, drop, nat_le, nat_lt}
use Rattle.std.specs.Str.{bytes_eq}
use Rattle.meaning.specs.Adding.{over}

-- whether a spelling changes a name
abbrev pub changes : (ℕ → ℕ) → List ℕ → Bool
changes spells name = not (bytes_eq (map spells name) name)

-- a name of `count` bytes at `from` can be written at `at` with its zero byte, without touching itself
abbrev pub fits : List ℕ → ℕ → ℕ → ℕ → Bool
fits area at from count = nat_le (from + count) at && nat_lt (at + count) (length area)

abbrev pub respelled : (ℕ → ℕ) → List ℕ → ℕ → ℕ → ℕ → List ℕ
respelled spells area at from count = over at (map spells (take count (drop from area)) ++ 0 ∷ []) area
