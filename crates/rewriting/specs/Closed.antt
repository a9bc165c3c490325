-- A table is closed where every name in it is a name and every id in it has a declaration.
use Rattle.std.specs.Prelude.{ℕ, ◌+◌, cond, List, [], ◌∷◌, length, Some, None, Option, ◌==◌, nat_lt, slice_index}
use Rattle.layout.specs.Kinds.{kind_number, Third, nothing, bytes as a_size, refers, third_word}
use Rattle.layout.specs.Refusals.{Refusal, refusal}
use Rattle.layout.specs.declared.kind.BtfKind.{BtfKind}
use Rattle.layout.specs.declared.kind.BtfKind.TheVariants.{Unknown, Int, Ptr, Array, Struct, Union, Enum, Fwd, Typedef, Volatile, Const, Restrict, Func, FuncProto, Var, DataSec, Float, DeclTag, TypeTag, Enum64}
use Rattle.meaning.specs.Table.{Decl}
use Rattle.meaning.specs.Questions.{decl_kind, string_from}

-- a fault that comes first, else one that may follow
abbrev pub before : Option Refusal → Option Refusal → Option Refusal
before (Some r) later = Some r
before None later = later

-- refusal 6 at a name offset where no name stands
abbrev pub no_name : ℕ → Option ℕ → ℕ → Option (List ℕ) → Option Refusal
no_name id element offset (Some name) = None
no_name id element offset None = Some (refusal 6 (Some id) element (Some offset))

abbrev pub name_fault : List ℕ → ℕ → Option ℕ → ℕ → Option Refusal
name_fault bytes id element offset = no_name id element offset (string_from bytes offset)

-- refusal 7 at an id that no declaration has
abbrev pub id_fault : ℕ → ℕ → Option ℕ → ℕ → Option Refusal
id_fault count id element named = cond (nat_lt named count) None (Some (refusal 7 (Some id) element (Some named)))

-- the ids of a declaration itself: its third word where that is one, and of an Array its element and its index
abbrev pub third_ids : Third → Decl → List ℕ
third_ids nothing d = []
third_ids a_size d = []
third_ids refers d = d.third ∷ []

abbrev pub own_ids : Decl → List ℕ
own_ids d =
    cond (kind_number (decl_kind d) == 3) (slice_index d.extra 0 ∷ slice_index d.extra 1 ∷ [])
    (third_ids (third_word (decl_kind d)) d)

abbrev pub ids_fault : ℕ → ℕ → List ℕ → Option Refusal
ids_fault count id [] = None
ids_fault count id (named ∷ rest) = before (id_fault count id None named) (ids_fault count id rest)

-- what an element of a kind refers to, by its first two words
pub data Refers : Type 0 where
  to_none : Refers
  to_name : Refers
  to_name_and_id : Refers
  to_id : Refers

abbrev pub element_refers : BtfKind → Refers
element_refers Enum = to_name
element_refers Enum64 = to_name
element_refers FuncProto = to_name_and_id
element_refers Struct = to_name_and_id
element_refers Union = to_name_and_id
element_refers DataSec = to_id
element_refers Unknown = to_none
element_refers Int = to_none
element_refers Ptr = to_none
element_refers Array = to_none
element_refers Fwd = to_none
element_refers Typedef = to_none
element_refers Volatile = to_none
element_refers Const = to_none
element_refers Restrict = to_none
element_refers Func = to_none
element_refers Var = to_none
element_refers Float = to_none
element_refers DeclTag = to_none
element_refers TypeTag = to_none

abbrev pub element_fault : List ℕ → ℕ → ℕ → Refers → ℕ → List ℕ → Option Refusal
element_fault bytes count id to_none index ws = None
element_fault bytes count id to_name index ws = name_fault bytes id (Some index) (slice_index ws 0)
element_fault bytes count id to_name_and_id index ws = before (name_fault bytes id (Some index) (slice_index ws 0)) (id_fault count id (Some index) (slice_index ws 1))
element_fault bytes count id to_id index ws = id_fault count id (Some index) (slice_index ws 0)

abbrev pub elements_fault : List ℕ → ℕ → ℕ → Refers → ℕ → List (List ℕ) → Option Refusal
elements_fault bytes count id to index [] = None
elements_fault bytes count id to index (ws ∷ rest) =
    before (element_fault bytes count id to index ws) (elements_fault bytes count id to (index + 1) rest)

-- in a declaration its own name comes first, then its ids, then its elements
abbrev pub open_at : List ℕ → ℕ → ℕ → Decl → Option Refusal
open_at bytes count id d =
    before (name_fault bytes id None d.name)
    (before (ids_fault count id (own_ids d))
    (elements_fault bytes count id (element_refers (decl_kind d)) 0 d.tail))

abbrev pub open_from : List ℕ → ℕ → ℕ → List Decl → Option Refusal
open_from bytes count id [] = None
open_from bytes count id (d ∷ ds) = before (open_at bytes count id d) (open_from bytes count (id + 1) ds)

-- the first name that is none, or id that no declaration has, in rising id order
abbrev pub open_fault : List ℕ → List Decl → Option Refusal
open_fault bytes ds = open_from bytes (length ds) 0 ds
