-- Strings that end in a zero byte.
use Rattle.std.specs.Prelude.{◌≡◌, ℕ, ◌-◌, List, length, slice_index_or}

abbrev pub Ends : List ℕ → Type 0
Ends bytes = slice_index_or bytes (length bytes - 1) 1 ≡ 0
