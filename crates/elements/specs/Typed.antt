-- The elements of a declaration by its kind: Enum (name, value), FuncProto (name, id), Enum64 (name, low, high),
-- Struct and Union (name, id, offset), DataSec (id, offset, size).
use Rattle.std.specs.Prelude.{ℕ, ◌/◌, ◌%◌, ◌^◌, Bool, ◌||◌, List, [], ◌∷◌, Some, None, Option, ◌==◌, slice_index}
use Rattle.layout.specs.Kinds.{kind_number}
use Rattle.layout.specs.declared.kind.BtfKind.{BtfKind}
use Rattle.layout.specs.declared.kind.BtfKind.TheVariants.{Unknown, Int, Ptr, Array, Struct, Union, Enum, Fwd, Typedef, Volatile, Const, Restrict, Func, FuncProto, Var, DataSec, Float, DeclTag, TypeTag, Enum64}
use Rattle.elements.specs.declared.BtfEnum.{BtfEnum}
use Rattle.elements.specs.declared.BtfParam.{BtfParam}
use Rattle.elements.specs.declared.BtfEnum64.{BtfEnum64}
use Rattle.elements.specs.declared.BtfMember.{BtfMember}
use Rattle.elements.specs.declared.DataSecEntry.{DataSecEntry}
use Rattle.elements.specs.declared.BtfElement.{BtfElement}
use Rattle.elements.specs.declared.BtfElement.TheVariants.{Variant, Param, Variant64, Member, Entry}

abbrev pub enum_words : BtfEnum → List ℕ
enum_words e = e.name_offset ∷ e.value ∷ []

abbrev pub param_words : BtfParam → List ℕ
param_words e = e.name_offset ∷ e.btf_type ∷ []

abbrev pub enum64_words : BtfEnum64 → List ℕ
enum64_words e = e.name_offset ∷ e.value_low ∷ e.value_high ∷ []

abbrev pub member_words : BtfMember → List ℕ
member_words e = e.name_offset ∷ e.btf_type ∷ e.offset ∷ []

abbrev pub entry_words : DataSecEntry → List ℕ
entry_words e = e.btf_type ∷ e.offset ∷ e.size ∷ []

-- which kinds have elements of each type
abbrev pub of_enum : BtfKind → Bool
of_enum kind = kind_number kind == 6

abbrev pub of_proto : BtfKind → Bool
of_proto kind = kind_number kind == 13

abbrev pub of_enum64 : BtfKind → Bool
of_enum64 kind = kind_number kind == 19

abbrev pub of_composite : BtfKind → Bool
of_composite kind = kind_number kind == 4 || kind_number kind == 5

abbrev pub of_section : BtfKind → Bool
of_section kind = kind_number kind == 15

-- the low and the high word of a 64-bit value
abbrev pub enum64_of : ℕ → ℕ → BtfEnum64
enum64_of name value = record { name_offset = name; value_low = value % 2 ^ 32; value_high = value / 2 ^ 32 }

abbrev pub as_enum : List ℕ → BtfEnum
as_enum ws = record { name_offset = slice_index ws 0; value = slice_index ws 1 }

abbrev pub as_param : List ℕ → BtfParam
as_param ws = record { name_offset = slice_index ws 0; btf_type = slice_index ws 1 }

abbrev pub as_enum64 : List ℕ → BtfEnum64
as_enum64 ws = record { name_offset = slice_index ws 0; value_low = slice_index ws 1; value_high = slice_index ws 2 }

abbrev pub as_member : List ℕ → BtfMember
as_member ws = record { name_offset = slice_index ws 0; btf_type = slice_index ws 1; offset = slice_index ws 2 }

abbrev pub as_entry : List ℕ → DataSecEntry
as_entry ws = record { btf_type = slice_index ws 0; offset = slice_index ws 1; size = slice_index ws 2 }

-- words as an element of a declaration of a kind
abbrev pub typed : BtfKind → List ℕ → Option BtfElement
typed Enum ws = Some (Variant (as_enum ws))
typed FuncProto ws = Some (Param (as_param ws))
typed Enum64 ws = Some (Variant64 (as_enum64 ws))
typed Struct ws = Some (Member (as_member ws))
typed Union ws = Some (Member (as_member ws))
typed DataSec ws = Some (Entry (as_entry ws))
typed Unknown ws = None
typed Int ws = None
typed Ptr ws = None
typed Array ws = None
typed Fwd ws = None
typed Typedef ws = None
typed Volatile ws = None
typed Const ws = None
typed Restrict ws = None
typed Func ws = None
typed Var ws = None
typed Float ws = None
typed DeclTag ws = None
typed TypeTag ws = None
