-- The info word of btf.h: the element count (of a Func its linkage) in bits 0 to 15, the kind in bits 24 to 28, the flag in bit 31.
use Rattle.std.specs.Prelude.{ℕ, ◌+◌, ◌*◌, ◌/◌, ◌%◌, ◌^◌, Bool, cond, ◌==◌, nat_lt}
use Rattle.layout.specs.declared.kind.BtfKind.{BtfKind}
use Rattle.layout.specs.Kinds.{kind_number, kind_at, extra_words, element_words}

abbrev pub info_word : BtfKind → Bool → ℕ → ℕ
info_word kind flag low = low + kind_number kind * 2 ^ 24 + cond flag (2 ^ 31) 0

abbrev pub kind_of : ℕ → BtfKind
kind_of info = kind_at (info / 2 ^ 24 % 2 ^ 5)

abbrev pub low_of : ℕ → ℕ
low_of info = info % 2 ^ 16

abbrev pub flag_of : ℕ → Bool
flag_of info = info / 2 ^ 31 == 1

-- how many elements follow: a kind without elements has none, whatever the low bits hold
abbrev pub elements_of : ℕ → ℕ
elements_of info = cond (nat_lt 0 (element_words (kind_of info))) (low_of info) 0

-- the published length: 12 bytes, 4 for each extra word and each element word; id 0 has no bytes
abbrev pub type_length : ℕ → ℕ
type_length info = cond (kind_number (kind_of info) == 0) 0 (12 + 4 * extra_words (kind_of info) + 4 * element_words (kind_of info) * low_of info)
