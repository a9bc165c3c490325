-- Worked examples: on the left what the definitions give, on the right what it should be.
use Rattle.std.specs.Prelude.{◌≡◌, ℕ, zero, suc, ◌^◌, ◌<◌, true, false, List, [], ◌∷◌, ◌++◌, replicate, Some, None, codes, slice_index}
use Rattle.std.proofs.Common.{arith, lit<}
use Rattle.std.specs.List.{AllByRecursion}
use Rattle.order.specs.Built.{little}
use Rattle.layout.specs.declared.kind.BtfKind.{BtfKind}
use Rattle.layout.specs.declared.kind.BtfKind.TheVariants.{Int, Array, Const}
use Rattle.layout.specs.declared.pointer.PointerWidth.TheVariants.{Eight}
use Rattle.layout.specs.Kinds.{element_words}
use Rattle.layout.specs.Heads.{declared, int_data}
use Rattle.layout.specs.Refusals.{Answer, accepted, refused, refusal}
use Rattle.meaning.specs.Table.{Table, made}
use Rattle.meaning.specs.Adding.{add_string}
use Rattle.meaning.specs.Questions.{decl_at}
use Rattle.meaning.specs.File.{type_bytes, file, file_length}
use Rattle.promises.specs.Calls.{Word, Elements, Reply, walked, end_of, size_of, ask, Call, adds_string, adds_type, run}

pub data Shown : Type 0 where
  number : ℕ → Shown
  bytes : List ℕ → Shown
  answer : Answer ℕ → Shown
  reply : Reply → Shown

pub none_served : (k : BtfKind) → false ≡ true → element_words k ≡ 1
none_served k e = cc

abbrev pub no_elements : Elements
no_elements = record { width = 1; serving = λ k. false; wide = lit< tt; suits = none_served; items = []; counted = tt; items_fit = tt }

-- a declaration without flag, linkage and elements
abbrev pub adds : (name : ℕ) (kind : BtfKind) (third : ℕ) (extra : List ℕ) → Word name → Word third → AllByRecursion Word extra → Call
adds name kind third extra p q r =
    adds_type (record { declaration = declared name kind false 0 third extra; name_fits = p; third_fits = q; extra_fits = r }) no_elements

abbrev pub new : Table
new = made 40 4 (replicate 8 0)

-- id 1: a signed Int of 4 bytes, named "int"
abbrev pub with_int : Table
with_int = run new (adds_string (codes "int") ∷ adds 1 Int 4 (int_data 1 0 4 ∷ 0 ∷ 0 ∷ []) (lit< tt) (lit< tt) (lit< tt, (lit< tt, (lit< tt, tt))) ∷ [])

-- so many Consts behind the Int, each of the declaration before it
abbrev pub consts : (n : ℕ) → n < 2 ^ 32 → List Call
consts zero p = []
consts (suc n) p = consts n (omega arith) ++ adds 0 Const (suc n) (0 ∷ 0 ∷ 0 ∷ []) (lit< tt) p (lit< tt, (lit< tt, (lit< tt, tt))) ∷ []

-- id 2: an Array of `inner` Ints; id 3: an Array of `outer` of those
abbrev pub arrays : (inner outer : ℕ) → Word inner → Word outer → List Call
arrays inner outer p q =
    adds 0 Array 0 (1 ∷ 1 ∷ inner ∷ []) (lit< tt) (lit< tt) (lit< tt, (lit< tt, (p, tt))) ∷
    adds 0 Array 0 (2 ∷ 1 ∷ outer ∷ []) (lit< tt) (lit< tt) (lit< tt, (lit< tt, (q, tt))) ∷ []

-- the file of a new table
abbrev pub new_file : List ℕ
new_file =
    -- magic, version, flags; the header's length
    0x9f ∷ 0xeb ∷ 1 ∷ 0 ∷ 24 ∷ 0 ∷ 0 ∷ 0 ∷
    -- offset and length of the types, offset and length of the strings
    0 ∷ 0 ∷ 0 ∷ 0 ∷ 0 ∷ 0 ∷ 0 ∷ 0 ∷ 0 ∷ 0 ∷ 0 ∷ 0 ∷ 1 ∷ 0 ∷ 0 ∷ 0 ∷
    -- the strings
    0 ∷ []

-- the file of the table with the Int
abbrev pub int_file : List ℕ
int_file =
    0x9f ∷ 0xeb ∷ 1 ∷ 0 ∷ 24 ∷ 0 ∷ 0 ∷ 0 ∷
    0 ∷ 0 ∷ 0 ∷ 0 ∷ 16 ∷ 0 ∷ 0 ∷ 0 ∷ 16 ∷ 0 ∷ 0 ∷ 0 ∷ 5 ∷ 0 ∷ 0 ∷ 0 ∷
    -- name offset 1, info (kind 1), size 4, data
    1 ∷ 0 ∷ 0 ∷ 0 ∷ 0 ∷ 0 ∷ 0 ∷ 1 ∷ 4 ∷ 0 ∷ 0 ∷ 0 ∷ 0x20 ∷ 0 ∷ 0 ∷ 1 ∷
    -- "", "int"
    0 ∷ 105 ∷ 110 ∷ 116 ∷ 0 ∷ []

abbrev pub examples : List (Shown × Shown)
examples =
    (bytes (file little new), bytes new_file) ∷
    -- a name, and then the Int
    (answer (add_string new (codes "int")).answer, answer (accepted 1)) ∷
    (number (slice_index (decl_at with_int.decls 1).extra 0), number 0x01000020) ∷
    (number (type_bytes with_int.decls), number 16) ∷
    (number with_int.strings, number 5) ∷
    (number (file_length with_int), number 45) ∷
    (bytes (file little with_int), bytes int_file) ∷
    -- Consts: 31 are followed, 32 are too many
    (reply (ask (run with_int (consts 31 (lit< tt))) (end_of 32)), reply (walked (accepted (1, 31)))) ∷
    (reply (ask (run with_int (consts 32 (lit< tt))) (end_of 33)), reply (walked (refused (refusal 10 (Some 33) None None)))) ∷
    -- Arrays: 3 times 5 times 4 bytes, and a product that is no word
    (reply (ask (run with_int (arrays 5 3 (lit< tt) (lit< tt))) (size_of 3 Eight)), reply (walked (accepted (60, 2)))) ∷
    (reply (ask (run with_int (arrays 65536 65536 (lit< tt) (lit< tt))) (size_of 3 Eight)), reply (walked (refused (refusal 9 (Some 2) None (Some 4294967296))))) ∷ []

abbrev pub ExamplesHold : Type 0
ExamplesHold = AllByRecursion (λ p. p.0 ≡ p.1) examples
