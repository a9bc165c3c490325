-- How the byte orders that are built are written.
use Rattle.std.specs.Prelude.{ℕ, List, codes, ◌≢◌}
use Rattle.order.specs.declared.endian.Endian.{Endian}
use Rattle.order.specs.declared.endian.Endian.TheVariants.{Little, Big}

abbrev pub order_word : Endian → List ℕ
order_word Little = codes "little"
order_word Big = codes "big"

-- the word is no byte order's
abbrev pub NamesNoOrder : List ℕ → Type 0
NamesNoOrder word = (e : Endian) → word ≢ order_word e
