-- Masks and shifts build an Int's data word.
use Rattle.std.proofs.Common.{◌≡◌, ℕ, ◌+◌, ◌*◌, ◌%◌, ◌^◌, ◌<◌, ap, ◌∙◌, arith}
use lib.Bits.{bit_and, bit_or}
use Rattle.std.proofs.lemmas.Nat.{and_mask, or_shifted}

fields : (e o w : ℕ) → e < 16 → o < 256 → w < 32 → bit_or (bit_or (e * 2 ^ 24 % 2 ^ 32) (o * 2 ^ 16 % 2 ^ 32)) (w * 2 ^ 3 % 2 ^ 32) ≡ e * 2 ^ 24 + o * 2 ^ 16 + w * 8
fields e o w p q r =
    let whole_e : e * 2 ^ 24 % 2 ^ 32 ≡ e * 2 ^ 24 = omega arith in
    let whole_o : o * 2 ^ 16 % 2 ^ 32 ≡ o * 2 ^ 16 = omega arith in
    let whole_w : w * 2 ^ 3 % 2 ^ 32 ≡ w * 8 = omega arith in
    let high : bit_or (e * 2 ^ 24) (o * 2 ^ 16) ≡ (e * 256 + o) * 2 ^ 16 = or_shifted e 24 (o * 2 ^ 16) (omega arith) ∙ omega arith in
    ap (λ n. bit_or (bit_or n (o * 2 ^ 16 % 2 ^ 32)) (w * 2 ^ 3 % 2 ^ 32)) whole_e ∙
    ap (λ n. bit_or (bit_or (e * 2 ^ 24) n) (w * 2 ^ 3 % 2 ^ 32)) whole_o ∙
    ap (λ n. bit_or (bit_or (e * 2 ^ 24) (o * 2 ^ 16)) n) whole_w ∙
    ap (λ n. bit_or n (w * 8)) high ∙
    or_shifted (e * 256 + o) 16 (w * 8) (omega arith) ∙
    omega arith

pub data_built : (encoding offset size : ℕ) →
    bit_or (bit_or (bit_and encoding 15 * 2 ^ 24 % 2 ^ 32) (bit_and offset 255 * 2 ^ 16 % 2 ^ 32)) (bit_and size 31 * 2 ^ 3 % 2 ^ 32) ≡
    encoding % 16 * 2 ^ 24 + offset % 256 * 2 ^ 16 + size * 8 % 256
data_built encoding offset size =
    let e = and_mask encoding 4 in
    let o = and_mask offset 8 in
    let w = and_mask size 5 in
    fields (bit_and encoding 15) (bit_and offset 255) (bit_and size 31) (omega arith) (omega arith) (omega arith) ∙ omega arith
