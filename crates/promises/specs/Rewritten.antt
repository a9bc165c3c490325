-- What a rewriting has done, as a relation between the table before it and the table after it.
use Rattle.std.specs.Prelude.{◌≡◌, ℕ, ◌+◌, ◌*◌, ◌<◌, ◌≤◌, max, Bool, true, false, cond, ◌⊎◌, List, [], ◌∷◌, ◌++◌, map, length, get_or, take, Some, codes, decimal, ◌==◌, ◌≢◌, nat_lt, slice_index, slice_index_or}
use Rattle.layout.specs.Kinds.{extra_words}
use Rattle.layout.specs.Info.{low_of, flag_of}
use Rattle.layout.specs.declared.kind.BtfKind.{BtfKind}
use Rattle.layout.specs.declared.kind.BtfKind.TheVariants.{Unknown, Int, Ptr, Array, Struct, Union, Enum, Fwd, Typedef, Volatile, Const, Restrict, Func, FuncProto, Var, DataSec, Float, DeclTag, TypeTag, Enum64}
use Rattle.features.specs.declared.BtfFeature.TheVariants as feature
use Rattle.meaning.specs.Table.{Decl, Table, text}
use Rattle.meaning.specs.Questions.{decl_kind, decl_at, string_from}
use Rattle.rewriting.specs.Requests.{Request, number_of}
use Rattle.rewriting.specs.Rewriting.{Tallies}

-- what is read of a declaration: its kind and flag, its third word, the extra words that its kind has, its elements
pub record Shows (d : Decl) (kind : BtfKind) (flag : Bool) (name third : ℕ) (extra : List ℕ) (tail : List (List ℕ)) : Type 0 where
  pub kind_is : decl_kind d ≡ kind
  pub flag_is : flag_of d.info ≡ flag
  pub name_is : d.name ≡ name
  pub third_is : d.third ≡ third
  pub extra_is : take (extra_words kind) d.extra ≡ extra
  pub tail_is : d.tail ≡ tail

-- one byte, encoding 0: eight bits and nothing else in the data word
abbrev pub OneByteInt : Decl → ℕ → Type 0
OneByteInt d name = Shows d Int false name 1 (8 ∷ []) []

-- a declaration that differs in its name, third word and elements alone
pub record OtherwiseSame (d d' : Decl) : Type 0 where
  pub info : d'.info ≡ d.info
  pub extra : d'.extra ≡ d.extra

-- A declaration is new: its id is behind the old ones. Its name is a new string.
pub record NewInt (t u : Table) (id : ℕ) (name : List ℕ) : Type 0 where
  pub behind : length t.decls ≤ id
  pub there : id < length u.decls
  pub offset : ℕ
  pub int : OneByteInt (decl_at u.decls id) offset
  pub named : string_from (text u) offset ≡ Some name

-- the filler: a static Var of a new Int
pub record NewFiller (t u : Table) (id : ℕ) : Type 0 where
  pub behind : length t.decls ≤ id
  pub there : id < length u.decls
  pub offset : ℕ
  pub of : ℕ
  pub var : Shows (decl_at u.decls id) Var false offset of (0 ∷ []) []
  pub named : string_from (text u) offset ≡ Some (codes "__aya_datasec_filler")
  pub int : NewInt t u of (codes "__aya_datasec_filler_type")

-- a name with one byte in place of another: the same offset where that changes nothing
pub record Respelled (t u : Table) (old new : ℕ) (from to : ℕ) : Type 0 where
  pub before : List ℕ
  pub was : string_from (text t) old ≡ Some before
  pub is : string_from (text u) new ≡ Some (map (λ b. cond (b == from) to b) before)
  pub kept : map (λ b. cond (b == from) to b) before ≡ before → new ≡ old

-- Sections refused: a section becomes a struct, '.' in its name '_', each entry a member with the name that its id has
-- when the section's turn comes, its size the greatest of the section's and of where the entries end.
abbrev pub entry_reach : List ℕ → ℕ
entry_reach ws = slice_index ws 1 + max (slice_index ws 2) 1

pub record BecameStruct (t u : Table) (id : ℕ) (d d' : Decl) : Type 0 where
  pub shows : Shows d' Struct false d'.name d'.third [] d'.tail
  pub named : Respelled t u d.name d'.name 46 95
  pub count : length d'.tail ≡ length d.tail
  pub members : (k : ℕ) → k < length d.tail →
      let entry = get_or d.tail k [] in
      slice_index_or d'.tail k [] ≡ (decl_at (cond (nat_lt (slice_index entry 0) id) u.decls t.decls) (slice_index entry 0)).name ∷ slice_index entry 0 ∷ slice_index entry 1 * 8 ∷ []
  pub at_least : d.third ≤ d'.third
  pub reaches : (k : ℕ) → k < length d.tail → entry_reach (slice_index_or d.tail k []) ≤ d'.third
  pub no_more : (d'.third ≡ d.third) ⊎ ((k : ℕ) × (k < length d.tail) × (d'.third ≡ entry_reach (slice_index_or d.tail k [])))

-- Sections granted: '/' in its name becomes '.'. A size above 0 stays; size 0 becomes its row's, at least 1 without
-- entries. Without entries it gets the filler where its size is 0 or sections without entries are refused. Entries of a
-- section that had no size are of Vars, and those that are not static get their symbol's offset.
pub record EntryMended (q : Request) (t : Table) (entry new : List ℕ) : Type 0 where
  pub var : decl_kind (decl_at t.decls (slice_index entry 0)) ≡ Var
  pub static : get_or (decl_at t.decls (slice_index entry 0)).extra 0 0 ≡ 0 → new ≡ entry
  pub other : (slice_index (decl_at t.decls (slice_index entry 0)).extra 0 ≢ 0) →
      (symbol : List ℕ) × (offset : ℕ) × (string_from (text t) (decl_at t.decls (slice_index entry 0)).name ≡ Some symbol) ×
      (number_of q.names q.symbols symbol ≡ Some offset) × (new ≡ slice_index entry 0 ∷ offset ∷ slice_index entry 2 ∷ [])

-- the size that a section has, or gets from the row of its old name
pub record Sized (q : Request) (t : Table) (d : Decl) (size : ℕ) : Type 0 where
  pub own : 0 < d.third → size ≡ d.third
  pub row : d.third ≡ 0 → (name : List ℕ) × (string_from (text t) d.name ≡ Some name) × (number_of q.names q.sections name ≡ Some size)

pub record Mended (q : Request) (t u : Table) (d d' : Decl) : Type 0 where
  pub kind : decl_kind d' ≡ DataSec
  pub named : Respelled t u d.name d'.name 47 46
  pub size : ℕ
  pub sized : Sized q t d size
  pub empty : length d.tail ≡ 0 → d'.third ≡ max size 1
  pub left_empty : length d.tail ≡ 0 → 0 < size → q.grants feature.DataSecZero ≡ true → d'.tail ≡ []
  pub filled : length d.tail ≡ 0 → (size ≡ 0) ⊎ (q.grants feature.DataSecZero ≡ false) →
      (id : ℕ) × NewFiller t u id × (d'.tail ≡ (id ∷ 0 ∷ max size 1 ∷ []) ∷ [])
  pub entries : 0 < length d.tail → (d'.third ≡ size) × (length d'.tail ≡ length d.tail)
  pub stay : 0 < length d.tail → 0 < d.third → d'.tail ≡ d.tail
  pub mended : d.third ≡ 0 → (k : ℕ) → k < length d.tail → EntryMended q t (slice_index_or d.tail k []) (slice_index_or d'.tail k [])

-- Functions granted: a parameter without a name, of any type but void, gets "param" and its index.
abbrev pub NeedsName : List ℕ → Type 0
NeedsName param = (slice_index param 0 ≡ 0) × (slice_index param 1 ≢ 0)

pub record ParametersNamed (u : Table) (d d' : Decl) : Type 0 where
  pub same : OtherwiseSame d d'
  pub name : d'.name ≡ d.name
  pub third : d'.third ≡ d.third
  pub count : length d'.tail ≡ length d.tail
  pub others : (k : ℕ) → k < length d.tail → (NeedsName (slice_index_or d.tail k []) → ⊥) → slice_index_or d'.tail k [] ≡ slice_index_or d.tail k []
  pub named : (k : ℕ) → k < length d.tail → NeedsName (slice_index_or d.tail k []) →
      (offset : ℕ) × (slice_index_or d'.tail k [] ≡ offset ∷ slice_index (slice_index_or d.tail k []) 1 ∷ []) × (string_from (text u) offset ≡ Some (codes "param" ++ decimal k))

-- a function of global linkage that is a memory builtin, or any where global functions are refused, becomes static
abbrev pub Builtin : List ℕ → Type 0
Builtin name = (name ≡ codes "memset") ⊎ ((name ≡ codes "memcpy") ⊎ ((name ≡ codes "memmove") ⊎ (name ≡ codes "memcmp")))

pub data MadeStatic (q : Request) (t : Table) (d : Decl) : Type 0 where
  builtin : (name : List ℕ) → low_of d.info ≡ 1 → string_from (text t) d.name ≡ Some name → Builtin name → MadeStatic q t d
  refused : low_of d.info ≡ 1 → q.grants feature.FuncGlobal ≡ false → MadeStatic q t d

pub record Linked (q : Request) (t : Table) (d d' : Decl) : Type 0 where
  pub static : MadeStatic q t d → Shows d' Func false d.name d.third [] [] × (low_of d'.info ≡ 0)
  pub other : (MadeStatic q t d → ⊥) → d' ≡ d

-- an Enum64 becomes a union of placeholders
pub record BecameUnion (t u : Table) (d d' : Decl) : Type 0 where
  pub placeholder : ℕ
  pub int : NewInt t u placeholder (codes "enum64_placeholder")
  pub shows : Shows d' Union false d.name d.third [] (map (λ variant. slice_index variant 0 ∷ placeholder ∷ 0 ∷ []) d.tail)

-- what holds where a feature is granted, and where it is refused
abbrev pub ByFeature : Bool → Type 0 → Type 0 → Type 0
ByFeature grants P Q = (grants ≡ true → P) × (grants ≡ false → Q)

-- what stands in the place of a declaration of a kind
abbrev pub Rule : BtfKind → Request → Table → Table → ℕ → Decl → Decl → Type 0
Rule Ptr q t u id d d' = OtherwiseSame d d' × (d'.name ≡ 0) × (d'.third ≡ d.third) × (d'.tail ≡ d.tail)
Rule Var q t u id d d' = ByFeature (q.grants feature.DataSec) (d' ≡ d) (OneByteInt d' d.name)
Rule DataSec q t u id d d' = ByFeature (q.grants feature.DataSec) (Mended q t u d d') (BecameStruct t u id d d')
Rule FuncProto q t u id d d' = ByFeature (q.grants feature.Func) (ParametersNamed u d d') (Shows d' Enum false d.name 4 [] d.tail)
Rule Func q t u id d d' = ByFeature (q.grants feature.Func) (Linked q t d d') (Shows d' Typedef false d.name d.third [] [])
Rule Float q t u id d d' = ByFeature (q.grants feature.Float) (d' ≡ d) (Shows d' Struct false 0 d.third [] [])
Rule DeclTag q t u id d d' = ByFeature (q.grants feature.DeclTag) (d' ≡ d) (OneByteInt d' d.name)
Rule TypeTag q t u id d d' = ByFeature (q.grants feature.TypeTag) (d' ≡ d) (Shows d' Const false 0 d.third [] [])
Rule Enum q t u id d d' = ByFeature (q.grants feature.Enum64) (d' ≡ d) (Shows d' Enum false d.name d.third [] d.tail)
Rule Enum64 q t u id d d' = ByFeature (q.grants feature.Enum64) (d' ≡ d) (BecameUnion t u d d')
Rule Unknown q t u id d d' = d' ≡ d
Rule Int q t u id d d' = d' ≡ d
Rule Array q t u id d d' = d' ≡ d
Rule Struct q t u id d d' = d' ≡ d
Rule Union q t u id d d' = d' ≡ d
Rule Fwd q t u id d d' = d' ≡ d
Rule Typedef q t u id d d' = d' ≡ d
Rule Volatile q t u id d d' = d' ≡ d
Rule Const q t u id d d' = d' ≡ d
Rule Restrict q t u id d d' = d' ≡ d

-- The whole: every old id has the stand-in that its rule says; the old strings stay, and new ones follow them; there are as
-- many new declarations as the answer says, a placeholder and a filler pair at most.
pub record Rewritten (q : Request) (t u : Table) (n : Tallies) : Type 0 where
  pub rules : (id : ℕ) → id < length t.decls → Rule (decl_kind (decl_at t.decls id)) q t u id (decl_at t.decls id) (decl_at u.decls id)
  pub strings_stay : take t.strings (text u) ≡ text t
  pub strings_added : u.strings ≡ t.strings + n.string_bytes
  pub decls_made : length u.decls ≡ length t.decls + (n.placeholders + 2 * n.fillers)
  pub one_placeholder : n.placeholders ≤ 1
  pub one_filler : n.fillers ≤ 1
