-- What a table is asked, and what it answers.
use Rattle.std.specs.Prelude.{ℕ, zero, suc, ◌+◌, ◌*◌, Bool, true, false, cond, not, List, [], ◌∷◌, length, take, drop, Some, None, Option, ◌==◌, nat_le, nat_lt, slice_index, slice_index_or}
use Rattle.std.specs.List.{prefix_len}
use Rattle.std.specs.Str.{bytes_eq}
use Rattle.layout.specs.Kinds.{kind_number}
use Rattle.layout.specs.Info.{kind_of}
use Rattle.layout.specs.Refusals.{Refusal, Answer, accepted, refused, refusal}
use Rattle.layout.specs.declared.head.BtfType.{BtfType}
use Rattle.layout.specs.declared.kind.BtfKind.{BtfKind}
use Rattle.layout.specs.declared.kind.BtfKind.TheVariants.{Unknown, Int, Ptr, Array, Struct, Union, Enum, Fwd, Typedef, Volatile, Const, Restrict, Func, FuncProto, Var, DataSec, Float, DeclTag, TypeTag, Enum64}
use Rattle.elements.specs.Typed.{typed}
use Rattle.elements.specs.declared.BtfElement.{BtfElement}
use Rattle.meaning.specs.Table.{Decl, Table, void, holds, no_table}
use Rattle.meaning.specs.Adding.{named}

abbrev pub decl_kind : Decl → BtfKind
decl_kind d = kind_of d.info

-- the bytes from an offset up to the next zero byte, where one follows
abbrev pub string_from : List ℕ → ℕ → Option (List ℕ)
string_from bytes offset =
    let rest = drop offset bytes in
    cond (nat_lt (prefix_len named rest) (length rest)) (Some (take (prefix_len named rest) rest)) None

-- a name, or refusal 6 with the declaration that holds its offset
abbrev pub name_or : Option ℕ → ℕ → Option (List ℕ) → Answer (List ℕ)
name_or holder offset (Some s) = accepted s
name_or holder offset None = refused (refusal 6 holder None (Some offset))

abbrev pub string_at : List ℕ → Option ℕ → ℕ → Answer (List ℕ)
string_at bytes holder offset = name_or holder offset (string_from bytes offset)

-- refusal 7, with the declaration that names the id
abbrev pub unknown : Option ℕ → ℕ → Refusal
unknown holder id = refusal 7 holder None (Some id)

abbrev pub head_of : Decl → BtfType
head_of d = record { name_offset = d.name; info = d.info; size_or_type = d.third; extra = d.extra }

abbrev pub decl_at : List Decl → ℕ → Decl
decl_at ds id = slice_index_or ds id void

abbrev pub type_by_id : List Decl → ℕ → Answer BtfType
type_by_id ds id = cond (nat_lt id (length ds)) (accepted (head_of (decl_at ds id))) (refused (unknown None id))

-- an element, or refusal 18
abbrev pub element_or : ℕ → ℕ → Option BtfElement → Answer BtfElement
element_or id index (Some e) = accepted e
element_or id index None = refused (refusal 18 (Some id) (Some index) None)

abbrev pub element_of : Decl → ℕ → Option BtfElement
element_of d index = cond (nat_lt index (length d.tail)) (typed (decl_kind d) (slice_index_or d.tail index [])) None

abbrev pub element_at : List Decl → ℕ → ℕ → Answer BtfElement
element_at ds id index = cond (nat_lt id (length ds)) (element_or id index (element_of (decl_at ds id) index)) (refused (unknown None id))

abbrev pub type_name : List Decl → List ℕ → ℕ → Answer (List ℕ)
type_name ds bytes id = cond (nat_lt id (length ds)) (string_at bytes (Some id) (decl_at ds id).name) (refused (unknown None id))

-- The lowest id of that kind and name, unless a name that is none comes at a lower id of that kind.
abbrev pub judge : Decl → List ℕ → List ℕ → ℕ → Answer ℕ → Option (List ℕ) → Answer ℕ
judge d bytes name id rest (Some s) = cond (bytes_eq s name) (accepted id) rest
judge d bytes name id rest None = refused (refusal 6 (Some id) None (Some d.name))

abbrev pub find_here : Decl → List ℕ → List ℕ → BtfKind → ℕ → Answer ℕ → Answer ℕ
find_here d bytes name kind id rest = cond (kind_number (decl_kind d) == kind_number kind) (judge d bytes name id rest (string_from bytes d.name)) rest

abbrev pub find_from : List Decl → List ℕ → List ℕ → BtfKind → ℕ → Answer ℕ
find_from [] bytes name kind id = refused (refusal 11 None None None)
find_from (d ∷ ds) bytes name kind id = find_here d bytes name kind id (find_from ds bytes name kind (id + 1))

-- What a walk does at a declaration: goes on to an id, ends with an answer, or is refused.
pub data Move (S X : Type 0) : Type 0 where
  onward : ℕ → S → Move S X
  ends : X → Move S X
  stuck : Refusal → Move S X

abbrev pub moved : {S X Y : Type 0} → Move S X → (ℕ → S → Answer Y) → (X → Answer Y) → Answer Y
moved (onward id s) go stop = go id s
moved (ends x) go stop = stop x
moved (stuck r) go stop = refused r

-- A walk reads at most `left` declarations and counts the links that it follows.
unfoldable pub walk : {S X : Type 0} → (S → ℕ → Decl → Move S X) → ℕ → List Decl → ℕ → Option ℕ → S → ℕ → ℕ → Answer (X × ℕ)
walk look zero ds asked holder s id links = refused (refusal 10 (Some asked) None None)
walk look (suc left) ds asked holder s id links =
    cond (nat_lt id (length ds))
    (moved (look s id (decl_at ds id)) (λ next s'. walk look left ds asked (Some id) s' next (links + 1)) (λ x. accepted (x, links)))
    (refused (unknown holder id))

abbrev pub most_reads : ℕ
most_reads = 32

-- the kinds that resolving follows
abbrev pub follows : BtfKind → Bool
follows Volatile = true
follows Const = true
follows Restrict = true
follows Typedef = true
follows TypeTag = true
follows Unknown = false
follows Int = false
follows Ptr = false
follows Array = false
follows Struct = false
follows Union = false
follows Enum = false
follows Fwd = false
follows Func = false
follows FuncProto = false
follows Var = false
follows DataSec = false
follows Float = false
follows DeclTag = false
follows Enum64 = false

abbrev pub resolving : Unit {0} → ℕ → Decl → Move (Unit {0}) ℕ
resolving s id d = cond (follows (decl_kind d)) (onward d.third tt) (ends id)

-- the end of an id, and the links to it
abbrev pub resolve_type : List Decl → ℕ → Answer (ℕ × ℕ)
resolve_type ds id = walk resolving most_reads ds id None tt id 0

-- how the size walk takes a kind
pub data Sizing : Type 0 where
  repeats : Sizing
  points : Sizing
  sized : Sizing
  passes : Sizing
  sizeless : Sizing

abbrev pub sizing : BtfKind → Sizing
sizing Array = repeats
sizing Ptr = points
sizing Int = sized
sizing Struct = sized
sizing Union = sized
sizing Enum = sized
sizing DataSec = sized
sizing Float = sized
sizing Enum64 = sized
sizing Const = passes
sizing Volatile = passes
sizing Restrict = passes
sizing Typedef = passes
sizing Var = passes
sizing DeclTag = passes
sizing TypeTag = passes
sizing Unknown = sizeless
sizing Fwd = sizeless
sizing Func = sizeless
sizing FuncProto = sizeless

abbrev pub greatest_word : ℕ
greatest_word = 4294967295

-- a product that is a word, else refusal 9
abbrev pub product : {S X : Type 0} → ℕ → ℕ → (ℕ → Move S X) → Move S X
product id n go = cond (nat_le n greatest_word) (go n) (stuck (refusal 9 (Some id) None (Some n)))

abbrev pub size_step : Sizing → ℕ → ℕ → ℕ → Decl → Move ℕ ℕ
size_step repeats width count id d = product id (count * slice_index d.extra 2) (λ n. onward (slice_index d.extra 0) n)
size_step points width count id d = product id (width * count) (λ n. ends n)
size_step sized width count id d = product id (d.third * count) (λ n. ends n)
size_step passes width count id d = onward d.third count
size_step sizeless width count id d = stuck (refusal 8 (Some id) None None)

abbrev pub measuring : ℕ → ℕ → ℕ → Decl → Move ℕ ℕ
measuring width count id d = size_step (sizing (decl_kind d)) width count id d

-- the size of an id, and the links to what has it
abbrev pub type_size : ℕ → List Decl → ℕ → Answer (ℕ × ℕ)
type_size width ds id = walk (measuring width) most_reads ds id None 1 id 0

-- refusal 1 comes first
abbrev pub asked_of : {A : Type 0} → Table → Answer A → Answer A
asked_of t a = cond (not (holds t)) (refused no_table) a
