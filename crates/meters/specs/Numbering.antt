-- How files are numbered.
use Rattle.std.specs.Prelude.{◌≡◌, ℕ, ◌-◌, ◌<◌, List, [], length, ◌≢◌, slice_index_or}

-- no file has these bytes
abbrev pub Absent : List (List ℕ) → List ℕ → Type 0
Absent files bytes = (k : ℕ) → k < length files → slice_index_or files k [] ≢ bytes

-- the file at i has these bytes
abbrev pub Stands : List (List ℕ) → ℕ → List ℕ → Type 0
Stands files i bytes = (i < length files) × (slice_index_or files i [] ≡ bytes)

-- the file of the number n has these bytes; numbers begin at 1
abbrev pub Numbered : List (List ℕ) → ℕ → List ℕ → Type 0
Numbered files n bytes = (0 < n) × Stands files (n - 1) bytes

-- no two files have the same bytes
abbrev pub Unlike : List (List ℕ) → Type 0
Unlike files = (i j : ℕ) → (i < j) × (j < length files) × (slice_index_or files i [] ≡ slice_index_or files j []) → ⊥

-- numbers that were given stand for the same bytes as before
abbrev pub Kept : List (List ℕ) → List (List ℕ) → Type 0
Kept before after = (k : ℕ) → k < length before → slice_index_or after k [] ≡ slice_index_or before k []
