-- The kinds of btf.h by number, and what a declaration of each kind is made of.
use Rattle.std.specs.Prelude.{ℕ, Bool, true, false, List, [], ◌∷◌, slice_index_or}
use Rattle.layout.specs.declared.kind.BtfKind.{BtfKind}
use Rattle.layout.specs.declared.kind.BtfKind.TheVariants.{Unknown, Int, Ptr, Array, Struct, Union, Enum, Fwd, Typedef, Volatile, Const, Restrict, Func, FuncProto, Var, DataSec, Float, DeclTag, TypeTag, Enum64}
use Rattle.layout.specs.declared.pointer.PointerWidth.{PointerWidth}
use Rattle.layout.specs.declared.pointer.PointerWidth.TheVariants.{Four, Eight}
use Rattle.layout.specs.declared.linkage.Linkage.{Linkage}
use Rattle.layout.specs.declared.linkage.Linkage.TheVariants.{Static, Global, Extern, Unstated}

abbrev pub kind_number : BtfKind → ℕ
kind_number Unknown = 0
kind_number Int = 1
kind_number Ptr = 2
kind_number Array = 3
kind_number Struct = 4
kind_number Union = 5
kind_number Enum = 6
kind_number Fwd = 7
kind_number Typedef = 8
kind_number Volatile = 9
kind_number Const = 10
kind_number Restrict = 11
kind_number Func = 12
kind_number FuncProto = 13
kind_number Var = 14
kind_number DataSec = 15
kind_number Float = 16
kind_number DeclTag = 17
kind_number TypeTag = 18
kind_number Enum64 = 19

-- in the order of their numbers, from 0
abbrev pub kinds : List BtfKind
kinds =
    Unknown ∷ Int ∷ Ptr ∷ Array ∷ Struct ∷ Union ∷ Enum ∷ Fwd ∷ Typedef ∷ Volatile ∷ Const ∷ Restrict ∷ Func ∷ FuncProto ∷
    Var ∷ DataSec ∷ Float ∷ DeclTag ∷ TypeTag ∷ Enum64 ∷ []

-- the kind of a number; a number that no kind has stands for none, as 0 does
abbrev pub kind_at : ℕ → BtfKind
kind_at n = slice_index_or kinds n Unknown

-- which kinds may have the flag
abbrev pub takes_flag : BtfKind → Bool
takes_flag Struct = true
takes_flag Union = true
takes_flag Enum = true
takes_flag Fwd = true
takes_flag Enum64 = true
takes_flag Unknown = false
takes_flag Int = false
takes_flag Ptr = false
takes_flag Array = false
takes_flag Typedef = false
takes_flag Volatile = false
takes_flag Const = false
takes_flag Restrict = false
takes_flag Func = false
takes_flag FuncProto = false
takes_flag Var = false
takes_flag DataSec = false
takes_flag Float = false
takes_flag DeclTag = false
takes_flag TypeTag = false

-- which kinds have a linkage
abbrev pub has_linkage : BtfKind → Bool
has_linkage Func = true
has_linkage Var = true
has_linkage Unknown = false
has_linkage Int = false
has_linkage Ptr = false
has_linkage Array = false
has_linkage Struct = false
has_linkage Union = false
has_linkage Enum = false
has_linkage Fwd = false
has_linkage Typedef = false
has_linkage Volatile = false
has_linkage Const = false
has_linkage Restrict = false
has_linkage FuncProto = false
has_linkage DataSec = false
has_linkage Float = false
has_linkage DeclTag = false
has_linkage TypeTag = false
has_linkage Enum64 = false

-- what the third word of a kind is
pub data Third : Type 0 where
  nothing : Third
  bytes : Third
  refers : Third

abbrev pub third_word : BtfKind → Third
third_word Int = bytes
third_word Struct = bytes
third_word Union = bytes
third_word Enum = bytes
third_word DataSec = bytes
third_word Float = bytes
third_word Enum64 = bytes
third_word Unknown = nothing
third_word Fwd = nothing
third_word Array = nothing
third_word Ptr = refers
third_word Typedef = refers
third_word Volatile = refers
third_word Const = refers
third_word Restrict = refers
third_word Func = refers
third_word FuncProto = refers
third_word Var = refers
third_word DeclTag = refers
third_word TypeTag = refers

-- how many words follow the third before the elements
abbrev pub extra_words : BtfKind → ℕ
extra_words Int = 1
extra_words Array = 3
extra_words Var = 1
extra_words DeclTag = 1
extra_words Unknown = 0
extra_words Ptr = 0
extra_words Struct = 0
extra_words Union = 0
extra_words Enum = 0
extra_words Fwd = 0
extra_words Typedef = 0
extra_words Volatile = 0
extra_words Const = 0
extra_words Restrict = 0
extra_words Func = 0
extra_words FuncProto = 0
extra_words DataSec = 0
extra_words Float = 0
extra_words TypeTag = 0
extra_words Enum64 = 0

-- how many words one element has; 0 where the kind has no elements
abbrev pub element_words : BtfKind → ℕ
element_words Enum = 2
element_words FuncProto = 2
element_words Enum64 = 3
element_words Struct = 3
element_words Union = 3
element_words DataSec = 3
element_words Unknown = 0
element_words Int = 0
element_words Ptr = 0
element_words Array = 0
element_words Fwd = 0
element_words Typedef = 0
element_words Volatile = 0
element_words Const = 0
element_words Restrict = 0
element_words Func = 0
element_words Var = 0
element_words Float = 0
element_words DeclTag = 0
element_words TypeTag = 0

abbrev pub linkage_number : Linkage → ℕ
linkage_number Static = 0
linkage_number Global = 1
linkage_number Extern = 2
linkage_number Unstated = 3

abbrev pub pointer_bytes : PointerWidth → ℕ
pointer_bytes Four = 4
pointer_bytes Eight = 8
