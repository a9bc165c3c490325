-- What is kept of a declaration as a caller gives it, but for its elements.
use Rattle.std.specs.Prelude.{ℕ, ◌+◌, ◌-◌, ◌*◌, ◌%◌, ◌^◌, Bool, List, [], ◌∷◌, ℤ, pos, negsuc, Some, None, Option, slice_index}
use Rattle.layout.specs.declared.kind.BtfKind.{BtfKind}
use Rattle.layout.specs.declared.kind.BtfKind.TheVariants.{Unknown, Int, Ptr, Array, Struct, Union, Enum, Fwd, Typedef, Volatile, Const, Restrict, Func, FuncProto, Var, DataSec, Float, DeclTag, TypeTag, Enum64}
use Rattle.layout.specs.declared.head.BtfType.{BtfType}
use Rattle.layout.specs.declared.declaration.Declaration.{Declaration}
use Rattle.layout.specs.Kinds.{Third, nothing, bytes, refers, third_word, kind_number}
use Rattle.layout.specs.Info.{info_word}

-- a Func keeps its linkage where the others have their element count (sixteen bits are all that there are)
abbrev pub low_bits : BtfKind → ℕ → ℕ → ℕ
low_bits Func linkage count = linkage % 2 ^ 16
low_bits Unknown linkage count = count
low_bits Int linkage count = count
low_bits Ptr linkage count = count
low_bits Array linkage count = count
low_bits Struct linkage count = count
low_bits Union linkage count = count
low_bits Enum linkage count = count
low_bits Fwd linkage count = count
low_bits Typedef linkage count = count
low_bits Volatile linkage count = count
low_bits Const linkage count = count
low_bits Restrict linkage count = count
low_bits FuncProto linkage count = count
low_bits Var linkage count = count
low_bits DataSec linkage count = count
low_bits Float linkage count = count
low_bits DeclTag linkage count = count
low_bits TypeTag linkage count = count
low_bits Enum64 linkage count = count

-- the third word where the kind has one, else 0
abbrev pub third_kept : Third → ℕ → ℕ
third_kept nothing n = 0
third_kept bytes n = n
third_kept refers n = n

-- the extra words that the kind has, and 0 for the others: Int its data, Array its element id, index id and length, Var its linkage, DeclTag its component
abbrev pub extra_kept : BtfKind → ℕ → List ℕ → List ℕ
extra_kept Int linkage e = slice_index e 0 ∷ 0 ∷ 0 ∷ []
extra_kept Array linkage e = slice_index e 0 ∷ slice_index e 1 ∷ slice_index e 2 ∷ []
extra_kept Var linkage e = linkage ∷ 0 ∷ 0 ∷ []
extra_kept DeclTag linkage e = slice_index e 0 ∷ 0 ∷ 0 ∷ []
extra_kept Unknown linkage e = 0 ∷ 0 ∷ 0 ∷ []
extra_kept Ptr linkage e = 0 ∷ 0 ∷ 0 ∷ []
extra_kept Struct linkage e = 0 ∷ 0 ∷ 0 ∷ []
extra_kept Union linkage e = 0 ∷ 0 ∷ 0 ∷ []
extra_kept Enum linkage e = 0 ∷ 0 ∷ 0 ∷ []
extra_kept Fwd linkage e = 0 ∷ 0 ∷ 0 ∷ []
extra_kept Typedef linkage e = 0 ∷ 0 ∷ 0 ∷ []
extra_kept Volatile linkage e = 0 ∷ 0 ∷ 0 ∷ []
extra_kept Const linkage e = 0 ∷ 0 ∷ 0 ∷ []
extra_kept Restrict linkage e = 0 ∷ 0 ∷ 0 ∷ []
extra_kept Func linkage e = 0 ∷ 0 ∷ 0 ∷ []
extra_kept FuncProto linkage e = 0 ∷ 0 ∷ 0 ∷ []
extra_kept DataSec linkage e = 0 ∷ 0 ∷ 0 ∷ []
extra_kept Float linkage e = 0 ∷ 0 ∷ 0 ∷ []
extra_kept TypeTag linkage e = 0 ∷ 0 ∷ 0 ∷ []
extra_kept Enum64 linkage e = 0 ∷ 0 ∷ 0 ∷ []

abbrev pub head_kept : Declaration → BtfKind → ℕ → BtfType
head_kept d kind count = record {
  name_offset = d.name_offset;
  info = info_word kind d.flag (low_bits kind d.linkage count);
  size_or_type = third_kept (third_word kind) d.size_or_type;
  extra = extra_kept kind d.linkage d.extra;
}

-- the data word of an Int: encoding in bits 24 to 27, offset in bits 16 to 23, width in bits 0 to 7
abbrev pub int_data : ℕ → ℕ → ℕ → ℕ
int_data encoding offset size = encoding % 16 * 2 ^ 24 + offset % 256 * 2 ^ 16 + size * 8 % 256

abbrev pub size_given : Third → ℕ → Option ℕ
size_given nothing n = None
size_given bytes n = Some n
size_given refers n = None

abbrev pub id_given : Third → ℕ → Option ℕ
id_given nothing n = None
id_given bytes n = None
id_given refers n = Some n

-- a declaration of a kind, as its constructor gives it
abbrev pub declared : ℕ → BtfKind → Bool → ℕ → ℕ → List ℕ → Declaration
declared name kind flag linkage third extra = record {
  name_offset = name;
  kind = kind_number kind;
  flag = flag;
  linkage = linkage;
  size_or_type = third;
  extra = extra;
}

-- a signed number as the word that stands for it
abbrev pub signed_word : ℤ → ℕ
signed_word (pos n) = n
signed_word (negsuc n) = 2 ^ 32 - 1 - n
