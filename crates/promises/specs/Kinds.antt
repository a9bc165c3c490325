-- Data kinds, the declarations that a walk reads, and the kinds that a kernel refuses.
use Rattle.std.specs.Prelude.{◌≡◌, ℕ, zero, suc, Bool, true, false, cond, not, ◌&&◌, ◌||◌, List, [], ◌∷◌, length, ◌==◌, nat_lt}
use Rattle.std.specs.List.{AllByRecursion}
use Rattle.layout.specs.Info.{low_of, flag_of}
use Rattle.layout.specs.declared.kind.BtfKind.{BtfKind}
use Rattle.layout.specs.declared.kind.BtfKind.TheVariants.{Unknown, Int, Ptr, Array, Struct, Union, Enum, Fwd, Typedef, Volatile, Const, Restrict, Func, FuncProto, Var, DataSec, Float, DeclTag, TypeTag, Enum64}
use Rattle.features.specs.declared.BtfFeature.{BtfFeature}
use Rattle.features.specs.declared.BtfFeature.TheVariants as feature
use Rattle.meaning.specs.Table.{Decl}
use Rattle.meaning.specs.Questions.{decl_kind, decl_at, Move, onward, ends, stuck, most_reads}

-- all but variables, sections, functions, prototypes and declaration tags
abbrev pub data_kind : BtfKind → Bool
data_kind Var = false
data_kind DataSec = false
data_kind Func = false
data_kind FuncProto = false
data_kind DeclTag = false
data_kind Unknown = true
data_kind Int = true
data_kind Ptr = true
data_kind Array = true
data_kind Struct = true
data_kind Union = true
data_kind Enum = true
data_kind Fwd = true
data_kind Typedef = true
data_kind Volatile = true
data_kind Const = true
data_kind Restrict = true
data_kind Float = true
data_kind TypeTag = true
data_kind Enum64 = true

-- what is read behind a declaration where the walk goes on
abbrev pub read_on : {S X : Type 0} → Move S X → (ℕ → S → List Decl) → List Decl
read_on (onward id s) go = go id s
read_on (ends x) go = []
read_on (stuck r) go = []

-- the declarations that a walk reads, at most `left`
unfoldable pub reads : {S X : Type 0} → (S → ℕ → Decl → Move S X) → ℕ → List Decl → S → ℕ → List Decl
reads look zero ds s id = []
reads look (suc left) ds s id =
    cond (nat_lt id (length ds)) (decl_at ds id ∷ read_on (look s id (decl_at ds id)) (λ next s'. reads look left ds s' next)) []

-- a walk meets data kinds only
abbrev pub DataOnly : {S X : Type 0} → (S → ℕ → Decl → Move S X) → List Decl → S → ℕ → Type 0
DataOnly look ds s id = AllByRecursion (λ d. data_kind (decl_kind d) ≡ true) (reads look most_reads ds s id)

-- whether a kernel with these features refuses a declaration of a kind, by its flag, its low bits and its count of elements
abbrev pub kind_refused : (BtfFeature → Bool) → BtfKind → Bool → ℕ → ℕ → Bool
kind_refused grants Var flag low count = not (grants feature.DataSec)
kind_refused grants DataSec flag low count = not (grants feature.DataSec) || (not (grants feature.DataSecZero) && count == 0)
kind_refused grants Func flag low count = not (grants feature.Func) || (not (grants feature.FuncGlobal) && low == 1)
kind_refused grants FuncProto flag low count = not (grants feature.Func)
kind_refused grants Enum flag low count = not (grants feature.Enum64) && flag
kind_refused grants Enum64 flag low count = not (grants feature.Enum64)
kind_refused grants Float flag low count = not (grants feature.Float)
kind_refused grants DeclTag flag low count = not (grants feature.DeclTag)
kind_refused grants TypeTag flag low count = not (grants feature.TypeTag)
kind_refused grants Unknown flag low count = false
kind_refused grants Int flag low count = false
kind_refused grants Ptr flag low count = false
kind_refused grants Array flag low count = false
kind_refused grants Struct flag low count = false
kind_refused grants Union flag low count = false
kind_refused grants Fwd flag low count = false
kind_refused grants Typedef flag low count = false
kind_refused grants Volatile flag low count = false
kind_refused grants Const flag low count = false
kind_refused grants Restrict flag low count = false

abbrev pub refused_kind : (BtfFeature → Bool) → Decl → Bool
refused_kind grants d = kind_refused grants (decl_kind d) (flag_of d.info) (low_of d.info) (length d.tail)
