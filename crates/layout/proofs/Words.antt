-- Masks and shifts build and read what the arithmetic of the info word and of Int's data says.
use Rattle.std.proofs.lemmas.Bool.{cases_cond}
use Rattle.std.proofs.Common.{◌⊎◌, ◌≡◌, ℕ, ◌+◌, ◌*◌, ◌/◌, ◌%◌, ◌^◌, ◌<◌, Bool, true, false, cond, refl, ap, ◌∙◌, arith}
use lib.Bits.{bit_or}
use mir.Val.{bool_byte}
use Rattle.std.proofs.lemmas.Nat.{or_shifted}
use Rattle.layout.specs.declared.kind.BtfKind.{BtfKind}
use Rattle.layout.proofs.Each.{kind_small, kind_at_number}
use Rattle.layout.specs.Kinds.{kind_number, kind_at}
use Rattle.layout.specs.Info.{info_word, kind_of, low_of}

-- two fields that do not overlap, at bits 31 and 24, over a low one
fields : (f k low : ℕ) → f < 2 → k < 32 → low < 2 ^ 16 → bit_or (bit_or (f * 2 ^ 31) (k * 2 ^ 24)) low ≡ low + k * 2 ^ 24 + f * 2 ^ 31
fields f k low p q r =
    let high : bit_or (f * 2 ^ 31) (k * 2 ^ 24) ≡ (f * 128 + k) * 2 ^ 24 = or_shifted f 31 (k * 2 ^ 24) (omega arith) ∙ omega arith in
    ap (λ n. bit_or n low) high ∙ (or_shifted (f * 128 + k) 24 low (omega arith) ∙ omega arith)

flag_bit : (flag : Bool) → bool_byte flag < 2
flag_bit true = omega arith
flag_bit false = omega arith

flag_word : (flag : Bool) → bool_byte flag * 2 ^ 31 ≡ cond flag (2 ^ 31) 0
flag_word true = refl
flag_word false = refl

pub info_built : (kind : BtfKind) (flag : Bool) (low k : ℕ) → k ≡ kind_number kind → low < 2 ^ 16 →
    bit_or (bit_or (bool_byte flag * 2 ^ 31 % 2 ^ 32) (k * 2 ^ 24 % 2 ^ 32)) low ≡ low + kind_number kind * 2 ^ 24 + cond flag (2 ^ 31) 0
info_built kind flag low k e r =
    let small = kind_small kind in
    let bit = flag_bit flag in
    let whole_flag : bool_byte flag * 2 ^ 31 % 2 ^ 32 ≡ bool_byte flag * 2 ^ 31 = omega arith in
    let whole_kind : k * 2 ^ 24 % 2 ^ 32 ≡ kind_number kind * 2 ^ 24 = omega arith in
    ap (λ n. bit_or (bit_or n (k * 2 ^ 24 % 2 ^ 32)) low) whole_flag ∙
    ap (λ n. bit_or (bit_or (bool_byte flag * 2 ^ 31) n) low) whole_kind ∙
    fields (bool_byte flag) (kind_number kind) low bit (omega arith) r ∙
    ap (λ n. low + kind_number kind * 2 ^ 24 + n) (flag_word flag)

flag_or_none : (flag : Bool) → (cond flag (2 ^ 31) 0 ≡ 2 ^ 31) ⊎ (cond flag (2 ^ 31) 0 ≡ 0)
flag_or_none flag = cases_cond flag (2 ^ 31) 0 (cond flag (2 ^ 31) 0) refl

-- an info word is read as it was built
module _ (kind : BtfKind) (flag : Bool) (low : ℕ) (small : low < 2 ^ 16) where
  number_built : info_word kind flag low / 2 ^ 24 % 2 ^ 5 ≡ kind_number kind
  number_built = omega (arith, kind_small kind, flag_or_none flag)

  pub kind_built : kind_of (info_word kind flag low) ≡ kind
  kind_built = ap kind_at number_built ∙ kind_at_number kind

  pub low_built : low_of (info_word kind flag low) ≡ low
  low_built = omega (arith, flag_or_none flag)

  pub info_fits : info_word kind flag low < 2 ^ 32
  info_fits = omega (arith, kind_small kind, flag_or_none flag)
