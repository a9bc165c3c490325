-- How bytes are cut at a mark, and what the fields of a row are.
use Rattle.std.specs.Prelude.{◌≡◌, ℕ, ◌<◌, ◌≤◌, List, ◌∷◌, ◌++◌, length, ◌≢◌, slice_index}

-- none of the first n bytes is b
abbrev pub Without : List ℕ → ℕ → ℕ → Type 0
Without bytes b n = (k : ℕ) → k < n → slice_index bytes k ≢ b

-- no byte is b
abbrev pub Lacks : List ℕ → ℕ → Type 0
Lacks bytes b = Without bytes b (length bytes)

-- the bytes are cut at the first b
abbrev pub Split : List ℕ → ℕ → List ℕ → List ℕ → Type 0
Split bytes b before behind = (bytes ≡ before ++ b ∷ behind) × Lacks before b

-- each byte is printable ASCII
abbrev pub AllPrintable : List ℕ → Type 0
AllPrintable bytes = (k : ℕ) → k < length bytes → (32 ≤ slice_index bytes k) × (slice_index bytes k ≤ 126)

-- the bytes may be the name of a gateway
abbrev pub Named : List ℕ → Type 0
Named name = (0 < length name) × (length name ≤ 64) × AllPrintable name

-- a row is its three fields with commas between them, 44
abbrev pub Fields : List ℕ → List ℕ → List ℕ → List ℕ → Type 0
Fields line name order kernel =
    (line ≡ name ++ 44 ∷ (order ++ 44 ∷ kernel)) × Lacks name 44 × Lacks order 44 × Lacks kernel 44
