-- A table: declarations with their elements, and a string of bytes.
use Rattle.std.specs.Prelude.{ℕ, Bool, cond, ◌&&◌, List, [], ◌∷◌, length, take, None, nat_le, nat_lt, slice_set}
use Rattle.layout.specs.Refusals.{Refusal, Answer, accepted, refused, refusal}

-- A declaration: name offset, info word, third word, three places for extra words, and the words of each element.
pub record Decl : Type 0 where
  pub name : ℕ
  pub info : ℕ
  pub third : ℕ
  pub extra : List ℕ
  pub tail : List (List ℕ)

-- The declarations by id, the string area with the count of its bytes that are strings, the count of elements in
-- use, and how many declarations and elements the two other areas have room for.
pub record Table : Type 0 where
  pub decls : List Decl
  pub area : List ℕ
  pub strings : ℕ
  pub elements : ℕ
  pub decl_room : ℕ
  pub element_room : ℕ

-- id 0
abbrev pub void : Decl
void = record { name = 0; info = 0; third = 0; extra = 0 ∷ 0 ∷ 0 ∷ []; tail = [] }

-- the strings
abbrev pub text : Table → List ℕ
text t = take t.strings t.area

-- A table over areas with room for a declaration and a byte holds id 0 and one zero byte; any other holds nothing.
abbrev pub made : ℕ → ℕ → List ℕ → Table
made decl_room element_room area =
    cond (nat_lt 0 decl_room && nat_lt 0 (length area))
    (record { decls = void ∷ []; area = slice_set area 0 0; strings = 1; elements = 0; decl_room = decl_room; element_room = element_room })
    (record { decls = []; area = area; strings = 0; elements = 0; decl_room = decl_room; element_room = element_room })

-- A table answers where it holds something and the string area has all its strings.
abbrev pub holds : Table → Bool
holds t = nat_lt 0 (length t.decls) && nat_le t.strings (length t.area)

-- the areas are used up to these many items
abbrev pub most_decls : ℕ
most_decls = 1048575

abbrev pub most_elements : ℕ
most_elements = 2097152

abbrev pub most_strings : ℕ
most_strings = 16777215

-- what a call answers and leaves
pub record Outcome (A : Type 0) : Type 0 where
  pub answer : Answer A
  pub later : Table

abbrev pub refuses : {A : Type 0} → Table → Refusal → Outcome A
refuses t r = record { answer = refused r; later = t }

abbrev pub accepts : {A : Type 0} → A → Table → Outcome A
accepts a t = record { answer = accepted a; later = t }

-- refusal 1
abbrev pub no_table : Refusal
no_table = refusal 1 None None None
