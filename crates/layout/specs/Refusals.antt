-- What a refusal says: its number, the id of the declaration read, the element from 0, and the refused value, where there are such.
use Rattle.std.specs.Prelude.{ℕ, Some, None, Ok, Err, Option, Result}
use Rattle.layout.specs.declared.error.BtfError.{BtfError}
use Rattle.layout.specs.declared.error.BtfError.TheVariants.{NoTable, InvalidTypeKind, UnexpectedFlag, InvalidLinkage, TooManyElements, ZeroByteInName, InvalidStringOffset, UnknownBtfType, UnexpectedBtfType, InvalidTypeInfo, MaximumTypeDepthReached, UnknownBtfTypeName, NoRoom, OutputTooShort, NoSuchElement}
use Rattle.layout.specs.declared.error.Area.{Area}
use Rattle.layout.specs.declared.error.Area.TheVariants.{Declarations, Elements, Strings}

pub record Refusal : Type 0 where
  pub number : ℕ
  pub declaration : Option ℕ
  pub element : Option ℕ
  pub value : Option ℕ

-- an answer, or a refusal
pub data Answer (A : Type 0) : Type 0 where
  accepted : A → Answer A
  refused : Refusal → Answer A

abbrev pub refusal : ℕ → Option ℕ → Option ℕ → Option ℕ → Refusal
refusal number declaration element value = record { number = number; declaration = declaration; element = element; value = value }

abbrev pub area_number : Area → ℕ
area_number Declarations = 0
area_number Elements = 1
area_number Strings = 2

-- number and values by case
abbrev pub said : BtfError → Refusal
said NoTable = refusal 1 None None None
said (InvalidTypeKind kind) = refusal 2 None None (Some kind)
said UnexpectedFlag = refusal 3 None None (Some 1)
said (InvalidLinkage linkage) = refusal 3 None None (Some linkage)
said (TooManyElements count) = refusal 4 None None (Some count)
said (ZeroByteInName place) = refusal 5 None None (Some place)
said (InvalidStringOffset holder element offset) = refusal 6 holder element (Some offset)
said (UnknownBtfType holder element id) = refusal 7 holder element (Some id)
said (UnexpectedBtfType id) = refusal 8 (Some id) None None
said (InvalidTypeInfo id product) = refusal 9 (Some id) None (Some product)
said (MaximumTypeDepthReached id) = refusal 10 (Some id) None None
said UnknownBtfTypeName = refusal 11 None None None
said (NoRoom area) = refusal 16 None None (Some (area_number area))
said (OutputTooShort needed) = refusal 17 None None (Some needed)
said (NoSuchElement id element) = refusal 18 (Some id) (Some element) None

-- what a call answered: what its value means, or what its refusal says
abbrev pub told : {A B : Type 0} → (A → B) → Result A BtfError → Answer B
told means (Ok a) = accepted (means a)
told means (Err e) = refused (said e)

-- what a check found, by what its error says
abbrev pub fault_of : {A E : Type 0} → (E → Refusal) → Result A E → Option Refusal
fault_of says (Ok a) = None
fault_of says (Err e) = Some (says e)
