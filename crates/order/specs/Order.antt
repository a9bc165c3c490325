-- What a byte order is: two bytes for a 16-bit number, four for a 32-bit word, and unlike numbers have unlike bytes.
use Rattle.std.specs.Prelude.{◌≡◌, ℕ, ◌/◌, ◌%◌, ◌^◌, ◌<◌, List, [], ◌∷◌, length}

pub record Order : Type 0 where
  pub half : ℕ → List ℕ
  pub word : ℕ → List ℕ
  pub half_length : (n : ℕ) → length (half n) ≡ 2
  pub word_length : (n : ℕ) → length (word n) ≡ 4
  pub half_unlike : (m n : ℕ) → m < 2 ^ 16 → n < 2 ^ 16 → half m ≡ half n → m ≡ n
  pub word_unlike : (m n : ℕ) → m < 2 ^ 32 → n < 2 ^ 32 → word m ≡ word n → m ≡ n

-- the byte of n that stands for the multiples of 2 ^ k
abbrev pub byte : ℕ → ℕ → ℕ
byte n k = n / 2 ^ k % 256

-- the least significant byte first
abbrev pub little_half : ℕ → List ℕ
little_half n = byte n 0 ∷ byte n 8 ∷ []

abbrev pub little_word : ℕ → List ℕ
little_word n = byte n 0 ∷ byte n 8 ∷ byte n 16 ∷ byte n 24 ∷ []

-- the most significant byte first
abbrev pub big_half : ℕ → List ℕ
big_half n = byte n 8 ∷ byte n 0 ∷ []

abbrev pub big_word : ℕ → List ℕ
big_word n = byte n 24 ∷ byte n 16 ∷ byte n 8 ∷ byte n 0 ∷ []
