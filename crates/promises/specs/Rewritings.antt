-- Worked examples of rewritings: on the left what the definitions give, on the right what it should be.
use Rattle.std.specs.Prelude.{◌≡◌, ℕ, Bool, true, false, not, List, [], ◌∷◌, map, replicate, Some, None, codes, Option}
use Rattle.std.proofs.Common.{lit<}
use Rattle.std.specs.List.{AllByRecursion}
use Rattle.order.specs.Built.{little}
use Rattle.layout.specs.declared.kind.BtfKind.{BtfKind}
use Rattle.layout.specs.declared.kind.BtfKind.TheVariants.{Unknown, Int, Ptr, Struct, Const, Var, DataSec, Float}
use Rattle.layout.specs.declared.pointer.PointerWidth.TheVariants.{Eight}
use Rattle.layout.specs.Kinds.{kind_number}
use Rattle.layout.specs.Heads.{declared, int_data}
use Rattle.elements.specs.Typed.{of_section}
use Rattle.features.specs.Features.{same}
use Rattle.features.specs.declared.BtfFeature.{BtfFeature}
use Rattle.features.specs.declared.BtfFeature.TheVariants as feature
use Rattle.layout.specs.Refusals.{Answer, accepted, refused, refusal}
use Rattle.meaning.specs.Table.{Decl, Table, made}
use Rattle.meaning.specs.Adding.{add_string, add_type}
use Rattle.meaning.specs.Questions.{decl_kind, decl_at, measuring, most_reads}
use Rattle.meaning.specs.File.{type_bytes, file}
use Rattle.rewriting.specs.Requests.{Row, Request}
use Rattle.rewriting.specs.Rewriting.{Tallies, rewrite}
use Rattle.promises.specs.Calls.{Reply, bytes as text_bytes, walked, head_of, name_of, end_of, size_of, ask, Call, asks, encodes, run}
use Rattle.promises.specs.Acts.{calls, rewrites, left_by_all}
use Rattle.promises.specs.Kinds.{reads}
use Rattle.promises.specs.Examples.{adds, new}

pub data Seen : Type 0 where
  number : ℕ → Seen
  bytes : List ℕ → Seen
  reply : Reply → Seen
  declaration : Decl → Seen
  tallies : Answer Tallies → Seen

-- Tables to rewrite: a name at 1; id 1 is an Int, id 2 a global Var "flows" of it, id 3 the section of the name.
abbrev pub section_table_in : (decl_room element_room string_room : ℕ) → List ℕ → ℕ → List (List ℕ) → Table
section_table_in decl_room element_room string_room name size entries =
    let named = (add_string (made decl_room element_room (replicate string_room 0)) name).later in
    let two_names = (add_string named (codes "flows")).later in
    let with_one = (add_type two_names (declared 0 Int false 0 4 (int_data 0 0 4 ∷ 0 ∷ 0 ∷ [])) of_section []).later in
    let with_var = (add_type with_one (declared named.strings Var false 1 1 (0 ∷ 0 ∷ 0 ∷ [])) of_section []).later in
    (add_type with_var (declared 1 DataSec false 0 size (0 ∷ 0 ∷ 0 ∷ [])) of_section entries).later

abbrev pub section_table : List ℕ → ℕ → List (List ℕ) → Table
section_table = section_table_in 40 8 120

-- id 1 alone, of a kind, with a name offset and an id
abbrev pub one_decl : ℕ → BtfKind → ℕ → List (List ℕ) → Table
one_decl name kind third tail = (add_type new (declared name kind false 0 third (0 ∷ 0 ∷ 0 ∷ [])) (λ k. true) tail).later

-- a rewriting without symbol rows, and with a row of ".bss" or none
abbrev pub asking : List Row → (BtfFeature → Bool) → Request
asking sections grants = record { sections = sections; symbols = []; names = codes ".bss"; grants = grants }

abbrev pub bss_of : ℕ → List Row
bss_of size = record { start = 0; span = 4; number = size } ∷ []

abbrev pub nothing_granted : BtfFeature → Bool
nothing_granted f = false

abbrev pub all_granted : BtfFeature → Bool
all_granted f = true

abbrev pub all_but_empty_sections : BtfFeature → Bool
all_but_empty_sections f = not (same f feature.DataSecZero)

-- id 3 after a rewriting, its name, and by how much the type part grew
abbrev pub rewritten_section : Table → Request → Seen
rewritten_section t q = declaration (decl_at (rewrite t q).later.decls 3)

abbrev pub rewritten_name : Table → Request → Seen
rewritten_name t q = reply (ask (rewrite t q).later (name_of 3))

abbrev pub refusing : Table → Request → Seen
refusing t q = tallies (rewrite t q).answer

abbrev pub refuses_with : ℕ → Option ℕ → Option ℕ → Option ℕ → Seen
refuses_with n id element value = tallies (refused (refusal n id element value))

abbrev pub shown_section : ℕ → ℕ → ℕ → List (List ℕ) → Seen
shown_section name info size entries = declaration (record { name = name; info = info; third = size; extra = 0 ∷ 0 ∷ 0 ∷ []; tail = entries })

-- Lists of calls for which the promises' premises hold: id 1 is a Float, id 2 a Const of it.
abbrev pub no_words : List ℕ
no_words = 0 ∷ 0 ∷ 0 ∷ []

abbrev pub float_calls : List Call
float_calls =
    adds 0 Float 8 no_words (lit< tt) (lit< tt) (lit< tt, (lit< tt, (lit< tt, tt))) ∷
    adds 0 Const 1 no_words (lit< tt) (lit< tt) (lit< tt, (lit< tt, (lit< tt, tt))) ∷ []

-- the same with questions, a refused adding and a refused encoding among them
abbrev pub other_calls : List Call
other_calls =
    asks (end_of 5) ∷ adds 0 Unknown 8 no_words (lit< tt) (lit< tt) (lit< tt, (lit< tt, (lit< tt, tt))) ∷
    adds 0 Float 8 no_words (lit< tt) (lit< tt) (lit< tt, (lit< tt, (lit< tt, tt))) ∷ encodes little [] ∷
    adds 0 Const 1 no_words (lit< tt) (lit< tt) (lit< tt, (lit< tt, (lit< tt, tt))) ∷ asks (head_of 1) ∷ []

abbrev pub rewritings : List (Seen × Seen)
rewritings =
    -- sections refused: ".maps" becomes Struct "_maps", with its own size or with where its entry ends
    (rewritten_section (section_table (codes ".maps") 24 ((2 ∷ 8 ∷ 16 ∷ []) ∷ [])) (asking [] nothing_granted), shown_section 13 0x04000001 24 ((7 ∷ 2 ∷ 64 ∷ []) ∷ [])) ∷
    (rewritten_name (section_table (codes ".maps") 24 ((2 ∷ 8 ∷ 16 ∷ []) ∷ [])) (asking [] nothing_granted), reply (text_bytes (accepted (codes "_maps")))) ∷
    (rewritten_section (section_table (codes ".maps") 0 ((2 ∷ 8 ∷ 16 ∷ []) ∷ [])) (asking [] nothing_granted), shown_section 13 0x04000001 24 ((7 ∷ 2 ∷ 64 ∷ []) ∷ [])) ∷
    -- an empty section whose row says 0 gets size 1 and an entry: 44 bytes more
    (rewritten_section (section_table (codes ".bss") 0 []) (asking (bss_of 0) all_granted), shown_section 1 0x0f000001 1 ((5 ∷ 0 ∷ 1 ∷ []) ∷ [])) ∷
    (tallies (rewrite (section_table (codes ".bss") 0 []) (asking (bss_of 0) all_granted)).answer, tallies (accepted (record { placeholders = 0; fillers = 1; filled = 1; string_bytes = 47 }))) ∷
    (number (type_bytes (section_table (codes ".bss") 0 []).decls), number 44) ∷
    (number (type_bytes (rewrite (section_table (codes ".bss") 0 []) (asking (bss_of 0) all_granted)).later.decls), number 88) ∷
    -- row 7, or size 7 and no row: an entry of 7 where sections without entries are refused, none where they are granted
    (rewritten_section (section_table (codes ".bss") 0 []) (asking (bss_of 7) all_but_empty_sections), shown_section 1 0x0f000001 7 ((5 ∷ 0 ∷ 7 ∷ []) ∷ [])) ∷
    (rewritten_section (section_table (codes ".bss") 7 []) (asking [] all_but_empty_sections), shown_section 1 0x0f000001 7 ((5 ∷ 0 ∷ 7 ∷ []) ∷ [])) ∷
    (rewritten_section (section_table (codes ".bss") 0 []) (asking (bss_of 7) all_granted), shown_section 1 0x0f000000 7 []) ∷
    (rewritten_section (section_table (codes ".bss") 7 []) (asking [] all_granted), shown_section 1 0x0f000000 7 []) ∷
    -- refusals of a rewriting: a table that holds nothing; a name, an id and an element's id that are none
    (refusing (made 0 0 []) (asking [] all_granted), refuses_with 1 None None None) ∷
    (refusing (one_decl 9 Ptr 1 []) (asking [] all_granted), refuses_with 6 (Some 1) None (Some 9)) ∷
    (refusing (one_decl 0 Ptr 9 []) (asking [] all_granted), refuses_with 7 (Some 1) None (Some 9)) ∷
    (refusing (one_decl 0 Struct 4 ((0 ∷ 1 ∷ 0 ∷ []) ∷ (0 ∷ 9 ∷ 0 ∷ []) ∷ [])) (asking [] all_granted), refuses_with 7 (Some 1) (Some 1) (Some 9)) ∷
    -- a row that is missing, an entry that is no Var's, a symbol that is missing
    (refusing (section_table (codes ".bss") 0 []) (asking [] all_granted), refuses_with 12 (Some 3) None None) ∷
    (refusing (section_table (codes ".bss") 0 ((1 ∷ 0 ∷ 4 ∷ []) ∷ [])) (asking (bss_of 4) all_granted), refuses_with 13 (Some 3) (Some 0) (Some 1)) ∷
    (refusing (section_table (codes ".bss") 0 ((2 ∷ 0 ∷ 4 ∷ []) ∷ [])) (asking (bss_of 4) all_granted), refuses_with 14 (Some 3) (Some 0) None) ∷
    -- numbers that are no words: a row's, an offset in bits, an end
    (refusing (section_table (codes ".bss") 0 []) (asking (bss_of 4294967296) all_granted), refuses_with 15 (Some 3) None (Some 4294967296)) ∷
    (refusing (section_table (codes ".bss") 0 ((2 ∷ 536870912 ∷ 4 ∷ []) ∷ [])) (asking [] nothing_granted), refuses_with 15 (Some 3) (Some 0) (Some 4294967296)) ∷
    (refusing (section_table (codes ".bss") 0 ((2 ∷ 1 ∷ 4294967295 ∷ []) ∷ [])) (asking [] nothing_granted), refuses_with 15 (Some 3) (Some 0) (Some 4294967296)) ∷
    -- no room: declarations, elements, strings; and just enough
    (refusing (section_table_in 5 8 120 (codes ".bss") 0 []) (asking (bss_of 0) all_granted), refuses_with 16 None None (Some 0)) ∷
    (refusing (section_table_in 6 0 120 (codes ".bss") 0 []) (asking (bss_of 0) all_granted), refuses_with 16 None None (Some 1)) ∷
    (refusing (section_table_in 6 1 58 (codes ".bss") 0 []) (asking (bss_of 0) all_granted), refuses_with 16 None None (Some 2)) ∷
    (refusing (section_table_in 6 1 59 (codes ".bss") 0 []) (asking (bss_of 0) all_granted), tallies (accepted (record { placeholders = 0; fillers = 1; filled = 1; string_bytes = 47 }))) ∷
    -- two lists of calls with one file; a rewriting that both accept, and the kinds that a walk reads before it
    (bytes (file little (run new float_calls)), bytes (file little (run new other_calls))) ∷
    (tallies (rewrite (run new float_calls) (asking [] nothing_granted)).answer, tallies (accepted (record { placeholders = 0; fillers = 0; filled = 0; string_bytes = 0 }))) ∷
    (bytes (map (λ d. kind_number (decl_kind d)) (reads (measuring 8) most_reads (run new float_calls).decls 1 2)), bytes (10 ∷ 16 ∷ [])) ∷
    -- after it the Float is a Struct, and the Const has the size that it had, after more calls too
    (number (kind_number (decl_kind (decl_at (rewrite (run new float_calls) (asking [] nothing_granted)).later.decls 1))), number 4) ∷
    (reply (ask (run new float_calls) (size_of 2 Eight)), reply (walked (accepted (8, 1)))) ∷
    (reply (ask (left_by_all (run new float_calls) (rewrites (asking [] nothing_granted) ∷ map calls float_calls)) (size_of 2 Eight)), reply (walked (accepted (8, 1)))) ∷ []

abbrev pub RewritingsHold : Type 0
RewritingsHold = AllByRecursion (λ p. p.0 ≡ p.1) rewritings
