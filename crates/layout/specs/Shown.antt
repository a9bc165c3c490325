-- How a kind is printed, by its word in btf.h; and a refusal: its number, then the refused value, the id of the declaration read and the element, where there
-- are such, as `refused 7: id 99` or `refused 18: at id 5, element 3`.
use Rattle.std.specs.Prelude.{ℕ, Bool, false, cond, ◌||◌, List, [], ◌++◌, Some, None, Option, is_some, codes, decimal}
use Rattle.layout.specs.Refusals.{said}
use Rattle.layout.specs.declared.kind.BtfKind.{BtfKind}
use Rattle.layout.specs.declared.kind.BtfKind.TheVariants.{Unknown, Int, Ptr, Array, Struct, Union, Enum, Fwd, Typedef, Volatile, Const, Restrict, Func, FuncProto, Var, DataSec, Float, DeclTag, TypeTag, Enum64}
use Rattle.layout.specs.declared.error.BtfError.{BtfError}
use Rattle.layout.specs.declared.error.BtfError.TheVariants.{NoTable, InvalidTypeKind, UnexpectedFlag, InvalidLinkage, TooManyElements, ZeroByteInName, InvalidStringOffset, UnknownBtfType, UnexpectedBtfType, InvalidTypeInfo, MaximumTypeDepthReached, UnknownBtfTypeName, NoRoom, OutputTooShort, NoSuchElement}

-- what the refused value is, where there is one
abbrev pub value_label : BtfError → List ℕ
value_label NoTable = codes "value"
value_label (InvalidTypeKind kind) = codes "kind"
value_label UnexpectedFlag = codes "flag"
value_label (InvalidLinkage linkage) = codes "linkage"
value_label (TooManyElements count) = codes "elements"
value_label (ZeroByteInName place) = codes "place"
value_label (InvalidStringOffset holder element offset) = codes "offset"
value_label (UnknownBtfType holder element id) = codes "id"
value_label (UnexpectedBtfType id) = codes "value"
value_label (InvalidTypeInfo id product) = codes "product"
value_label (MaximumTypeDepthReached id) = codes "value"
value_label UnknownBtfTypeName = codes "value"
value_label (NoRoom area) = codes "area"
value_label (OutputTooShort needed) = codes "bytes"
value_label (NoSuchElement id element) = codes "value"

-- a part that is there, behind its mark
abbrev pub part : List ℕ → List ℕ → Option ℕ → List ℕ
part mark label (Some n) = mark ++ codes " " ++ label ++ codes " " ++ decimal n
part mark label None = []

-- the first part that is there stands behind a colon, the others behind commas
abbrev pub mark : Bool → List ℕ
mark others = cond others (codes ",") (codes ":")

abbrev pub shown : BtfError → List ℕ
shown e =
    let r = said e in
    codes "refused " ++ decimal r.number ++
    part (mark false) (value_label e) r.value ++
    part (mark (is_some r.value)) (codes "at id") r.declaration ++
    part (mark (is_some r.value || is_some r.declaration)) (codes "element") r.element

abbrev pub kind_word : BtfKind → List ℕ
kind_word Unknown = codes "VOID"
kind_word Int = codes "INT"
kind_word Ptr = codes "PTR"
kind_word Array = codes "ARRAY"
kind_word Struct = codes "STRUCT"
kind_word Union = codes "UNION"
kind_word Enum = codes "ENUM"
kind_word Fwd = codes "FWD"
kind_word Typedef = codes "TYPEDEF"
kind_word Volatile = codes "VOLATILE"
kind_word Const = codes "CONST"
kind_word Restrict = codes "RESTRICT"
kind_word Func = codes "FUNC"
kind_word FuncProto = codes "FUNC_PROTO"
kind_word Var = codes "VAR"
kind_word DataSec = codes "DATASEC"
kind_word Float = codes "FLOAT"
kind_word DeclTag = codes "DECL_TAG"
kind_word TypeTag = codes "TYPE_TAG"
kind_word Enum64 = codes "ENUM64"
