-- Lists of calls on a table: adding, asking and encoding, in any order and number, accepted or refused.
use Rattle.std.specs.Prelude.{◌≡◌, ℕ, ◌+◌, ◌*◌, ◌^◌, ◌<◌, Bool, true, List, [], ◌∷◌, length, None}
use Rattle.std.specs.List.{AllByRecursion}
use Rattle.order.specs.Order.{Order}
use Rattle.layout.specs.Kinds.{kind_at, extra_words, element_words, pointer_bytes}
use Rattle.layout.specs.Refusals.{Answer, accepted, refused}
use Rattle.layout.specs.declared.declaration.Declaration.{Declaration}
use Rattle.layout.specs.declared.head.BtfType.{BtfType}
use Rattle.layout.specs.declared.kind.BtfKind.{BtfKind}
use Rattle.layout.specs.declared.pointer.PointerWidth.{PointerWidth}
use Rattle.elements.specs.declared.BtfElement.{BtfElement}
use Rattle.meaning.specs.Table.{Table, text}
use Rattle.meaning.specs.Adding.{add_string, add_type}
use Rattle.meaning.specs.Questions.{asked_of, string_at, type_by_id, element_at, type_name, find_from, resolve_type, type_size}

-- a number of 32 bits
abbrev pub Word : ℕ → Type 0
Word n = n < 2 ^ 32

-- a declaration as code can hold one: its fields are words
pub record Given : Type 0 where
  pub declaration : Declaration
  pub name_fits : Word declaration.name_offset
  pub third_fits : Word declaration.size_or_type
  pub extra_fits : AllByRecursion Word declaration.extra

-- elements of any type that keeps the law of element types: all have equally many words, at least one, and as many as each kind that the type serves asks for
pub record Elements : Type 0 where
  pub width : ℕ
  pub serving : BtfKind → Bool
  pub wide : 0 < width
  pub suits : (k : BtfKind) → serving k ≡ true → element_words k ≡ width
  pub items : List (List ℕ)
  pub counted : AllByRecursion (λ ws. length ws ≡ width) items
  pub items_fit : AllByRecursion (AllByRecursion Word) items

pub data Question : Type 0 where
  string_of : ℕ → Question
  head_of : ℕ → Question
  element_of : ℕ → ℕ → Question
  name_of : ℕ → Question
  id_of : List ℕ → BtfKind → Question
  end_of : ℕ → Question
  size_of : ℕ → PointerWidth → Question

pub data Reply : Type 0 where
  bytes : Answer (List ℕ) → Reply
  head : Answer BtfType → Reply
  element : Answer BtfElement → Reply
  id : Answer ℕ → Reply
  walked : Answer (ℕ × ℕ) → Reply

abbrev pub ask : Table → Question → Reply
ask t (string_of offset) = bytes (asked_of t (string_at (text t) None offset))
ask t (head_of n) = head (asked_of t (type_by_id t.decls n))
ask t (element_of n index) = element (asked_of t (element_at t.decls n index))
ask t (name_of n) = bytes (asked_of t (type_name t.decls (text t) n))
ask t (id_of name kind) = id (asked_of t (find_from t.decls (text t) name kind 0))
ask t (end_of n) = walked (asked_of t (resolve_type t.decls n))
ask t (size_of n width) = walked (asked_of t (type_size (pointer_bytes width) t.decls n))

pub data Call : Type 0 where
  adds_string : List ℕ → Call
  adds_type : Given → Elements → Call
  asks : Question → Call
  encodes : Order → List ℕ → Call

-- what a call leaves
abbrev pub step : Table → Call → Table
step t (adds_string name) = (add_string t name).later
step t (adds_type g es) = (add_type t g.declaration es.serving es.items).later
step t (asks q) = t
step t (encodes o buffer) = t

abbrev pub run : Table → List Call → Table
run t [] = t
run t (c ∷ cs) = run (step t c) cs

-- the published length of a declaration of a kind with so many elements
abbrev pub published : BtfKind → ℕ → ℕ
published kind count = 12 + 4 * extra_words kind + 4 * element_words kind * count

-- the published length of what a call added, by its answer
abbrev pub if_accepted : Answer ℕ → ℕ → ℕ
if_accepted (accepted answered) n = n
if_accepted (refused r) n = 0

abbrev pub added_by : Table → Call → ℕ
added_by t (adds_type g es) = if_accepted (add_type t g.declaration es.serving es.items).answer (published (kind_at g.declaration.kind) (length es.items))
added_by t (adds_string name) = 0
added_by t (asks q) = 0
added_by t (encodes o buffer) = 0

abbrev pub added : Table → List Call → ℕ
added t [] = 0
added t (c ∷ cs) = added_by t c + added (step t c) cs
