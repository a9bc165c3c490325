-- The two byte orders that are built.
use Rattle.std.specs.Prelude.{◌≡◌, ℕ, ◌^◌, ◌<◌, slice_index, refl}
use Rattle.std.proofs.Common.{ap, arith}
use Rattle.order.specs.Order.{Order, byte, little_half, little_word, big_half, big_word}

pub half_apart : (m n : ℕ) → m < 2 ^ 16 → n < 2 ^ 16 → byte m 0 ≡ byte n 0 → byte m 8 ≡ byte n 8 → m ≡ n
half_apart m n p q a b = omega arith

pub word_apart : (m n : ℕ) → m < 2 ^ 32 → n < 2 ^ 32 → byte m 0 ≡ byte n 0 → byte m 8 ≡ byte n 8 → byte m 16 ≡ byte n 16 → byte m 24 ≡ byte n 24 → m ≡ n
word_apart m n p q a b c d = omega arith

abbrev pub little : Order
little = record {
  half = little_half;
  word = little_word;
  half_length = λ n. refl;
  word_length = λ n. refl;
  half_unlike = λ m n p q e. half_apart m n p q (ap (λ l. slice_index l 0) e) (ap (λ l. slice_index l 1) e);
  word_unlike = λ m n p q e. word_apart m n p q (ap (λ l. slice_index l 0) e) (ap (λ l. slice_index l 1) e) (ap (λ l. slice_index l 2) e) (ap (λ l. slice_index l 3) e);
}

abbrev pub big : Order
big = record {
  half = big_half;
  word = big_word;
  half_length = λ n. refl;
  word_length = λ n. refl;
  half_unlike = λ m n p q e. half_apart m n p q (ap (λ l. slice_index l 1) e) (ap (λ l. slice_index l 0) e);
  word_unlike = λ m n p q e. word_apart m n p q (ap (λ l. slice_index l 3) e) (ap (λ l. slice_index l 2) e) (ap (λ l. slice_index l 1) e) (ap (λ l. slice_index l 0) e);
}
