-- What holds of each kind.
use Rattle.std.proofs.Common.{◌≡◌, ◌<◌, ◌≤◌, arith}
use Rattle.std.specs.List.{AllByRecursion}
use Rattle.layout.specs.declared.kind.BtfKind.{BtfKind}
use Rattle.layout.specs.declared.kind.BtfKind.TheVariants.{Unknown, Int, Ptr, Array, Struct, Union, Enum, Fwd, Typedef, Volatile, Const, Restrict, Func, FuncProto, Var, DataSec, Float, DeclTag, TypeTag, Enum64}
use Rattle.layout.specs.Kinds.{kinds, kind_number, kind_at, extra_words, element_words}

-- what holds of all that the list of kinds has holds of each kind
pub each_kind : (P : BtfKind → Type 0) → AllByRecursion P kinds → (k : BtfKind) → P k
each_kind P all Unknown = all.0
each_kind P all Int = all.1.0
each_kind P all Ptr = all.1.1.0
each_kind P all Array = all.1.1.1.0
each_kind P all Struct = all.1.1.1.1.0
each_kind P all Union = all.1.1.1.1.1.0
each_kind P all Enum = all.1.1.1.1.1.1.0
each_kind P all Fwd = all.1.1.1.1.1.1.1.0
each_kind P all Typedef = all.1.1.1.1.1.1.1.1.0
each_kind P all Volatile = all.1.1.1.1.1.1.1.1.1.0
each_kind P all Const = all.1.1.1.1.1.1.1.1.1.1.0
each_kind P all Restrict = all.1.1.1.1.1.1.1.1.1.1.1.0
each_kind P all Func = all.1.1.1.1.1.1.1.1.1.1.1.1.0
each_kind P all FuncProto = all.1.1.1.1.1.1.1.1.1.1.1.1.1.0
each_kind P all Var = all.1.1.1.1.1.1.1.1.1.1.1.1.1.1.0
each_kind P all DataSec = all.1.1.1.1.1.1.1.1.1.1.1.1.1.1.1.0
each_kind P all Float = all.1.1.1.1.1.1.1.1.1.1.1.1.1.1.1.1.0
each_kind P all DeclTag = all.1.1.1.1.1.1.1.1.1.1.1.1.1.1.1.1.1.0
each_kind P all TypeTag = all.1.1.1.1.1.1.1.1.1.1.1.1.1.1.1.1.1.1.0
each_kind P all Enum64 = all.1.1.1.1.1.1.1.1.1.1.1.1.1.1.1.1.1.1.1.0

pub kind_small : (k : BtfKind) → kind_number k < 20
kind_small = each_kind (λ k. kind_number k < 20) (omega arith)

pub kind_at_number : (k : BtfKind) → kind_at (kind_number k) ≡ k
kind_at_number = each_kind (λ k. kind_at (kind_number k) ≡ k) (search)

pub extra_small : (kind : BtfKind) → extra_words kind ≤ 3
extra_small = each_kind (λ kind. extra_words kind ≤ 3) (omega arith)

pub element_small : (kind : BtfKind) → element_words kind ≤ 3
element_small = each_kind (λ kind. element_words kind ≤ 3) (omega arith)
