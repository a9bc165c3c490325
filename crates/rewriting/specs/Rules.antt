-- What each rule makes of a declaration. The rules act in rising id order, each on what lower ids have become; new
-- declarations and strings go behind the old ones, in the order in which they are first needed.
use Rattle.std.specs.Prelude.{ℕ, ◌+◌, ◌*◌, max, Bool, false, cond, not, ◌&&◌, ◌||◌, List, [], ◌∷◌, ◌++◌, map, length, Some, None, codes, decimal, Option, ◌==◌, nat_lt, slice_index}
use Rattle.std.specs.Str.{bytes_eq}
use Rattle.layout.specs.Info.{low_of, flag_of}
use Rattle.layout.specs.Heads.{declared, head_kept, int_data}
use Rattle.layout.specs.declared.kind.BtfKind.{BtfKind}
use Rattle.layout.specs.declared.kind.BtfKind.TheVariants.{Unknown, Int, Ptr, Array, Struct, Union, Enum, Fwd, Typedef, Volatile, Const, Restrict, Func, FuncProto, Var, DataSec, Float, DeclTag, TypeTag, Enum64}
use Rattle.features.specs.declared.BtfFeature.TheVariants as feature
use Rattle.meaning.specs.Table.{Decl}
use Rattle.meaning.specs.Adding.{decl_with}
use Rattle.meaning.specs.Questions.{decl_kind, decl_at, string_from}
use Rattle.rewriting.specs.Requests.{Job, granted, section_number, symbol_number, or_zero}

-- A rewriting as far as it has come: what the lower ids have become, the new declarations and string bytes, the ids of
-- the placeholder and of the filler's Var once they are made, and how many sections were filled.
pub record State : Type 0 where
  pub done : List Decl
  pub made : List Decl
  pub added : List ℕ
  pub placeholder : Option ℕ
  pub filler : Option ℕ
  pub filled : ℕ

abbrev pub begun : State
begun = record { done = []; made = []; added = []; placeholder = None; filler = None; filled = 0 }

-- the offset of a string that is added next, and the id of a declaration that is
abbrev pub next_offset : Job → State → ℕ
next_offset j s = length j.bytes + length s.added

abbrev pub next_id : Job → State → ℕ
next_id j s = length j.decls + length s.made

abbrev pub with_string : State → List ℕ → State
with_string s name = record {
  done = s.done;
  made = s.made;
  added = s.added ++ (name ++ 0 ∷ []);
  placeholder = s.placeholder;
  filler = s.filler;
  filled = s.filled;
}

abbrev pub with_decl : State → Decl → State
with_decl s d = record {
  done = s.done;
  made = s.made ++ d ∷ [];
  added = s.added;
  placeholder = s.placeholder;
  filler = s.filler;
  filled = s.filled;
}

-- a declaration in its place
abbrev pub stands : State → Decl → State
stands s d = record {
  done = s.done ++ d ∷ [];
  made = s.made;
  added = s.added;
  placeholder = s.placeholder;
  filler = s.filler;
  filled = s.filled;
}

-- a declaration without the flag, as adding would keep it
abbrev pub kept : ℕ → BtfKind → ℕ → ℕ → ℕ → List (List ℕ) → Decl
kept name kind linkage third data-word tail =
    decl_with (head_kept (declared name kind false linkage third (data-word ∷ 0 ∷ 0 ∷ [])) kind (length tail)) tail

-- an Int of one byte, encoding 0
abbrev pub one_byte_int : ℕ → Decl
one_byte_int name = kept name Int 0 1 (int_data 0 0 1) []

-- The placeholder for members of what was an Enum64: one a rewriting.
abbrev pub placeholder_name : List ℕ
placeholder_name = codes "enum64_placeholder"

abbrev pub id_or : Option ℕ → ℕ → ℕ
id_or (Some id) next = id
id_or None next = next

abbrev pub placeholder_id : Job → State → ℕ
placeholder_id j s = id_or s.placeholder (next_id j s)

abbrev pub with_placeholder : Job → State → Option ℕ → State
with_placeholder j s (Some id) = s
with_placeholder j s None = record {
  done = s.done;
  made = s.made ++ one_byte_int (next_offset j s) ∷ [];
  added = s.added ++ (placeholder_name ++ 0 ∷ []);
  placeholder = Some (next_id j s);
  filler = s.filler;
  filled = s.filled;
}

-- The filler for sections without entries: an Int of one byte and a static Var of it, one pair a rewriting.
abbrev pub filler_type_name : List ℕ
filler_type_name = codes "__aya_datasec_filler_type"

abbrev pub filler_name : List ℕ
filler_name = codes "__aya_datasec_filler"

abbrev pub filler_id : Job → State → ℕ
filler_id j s = id_or s.filler (next_id j s + 1)

abbrev pub with_filler : Job → State → Option ℕ → State
with_filler j s (Some id) = s
with_filler j s None =
    let named = with_string s filler_type_name in
    record {
      done = s.done;
      made = s.made ++ one_byte_int (next_offset j s) ∷ kept (next_offset j named) Var 0 (next_id j s) 0 [] ∷ [];
      added = named.added ++ (filler_name ++ 0 ∷ []);
      placeholder = s.placeholder;
      filler = Some (next_id j s + 1);
      filled = s.filled;
    }

abbrev pub counts_filled : State → State
counts_filled s = record {
  done = s.done;
  made = s.made;
  added = s.added;
  placeholder = s.placeholder;
  filler = s.filler;
  filled = s.filled + 1;
}

-- Names. One that a mapping of its bytes changes is added anew; the old one stays in the strings.
abbrev pub or_empty : Option (List ℕ) → List ℕ
or_empty (Some name) = name
or_empty None = []

abbrev pub name_at : Job → ℕ → List ℕ
name_at j offset = or_empty (string_from j.bytes offset)

abbrev pub changes : Job → (ℕ → ℕ) → ℕ → Bool
changes j f offset = not (bytes_eq (map f (name_at j offset)) (name_at j offset))

abbrev pub renamed : Job → State → (ℕ → ℕ) → ℕ → ℕ
renamed j s f offset = cond (changes j f offset) (next_offset j s) offset

abbrev pub with_renamed : Job → State → (ℕ → ℕ) → ℕ → State
with_renamed j s f offset = cond (changes j f offset) (with_string s (map f (name_at j offset))) s

-- '.' becomes '_'
abbrev pub underscored : ℕ → ℕ
underscored b = cond (b == 46) 95 b

-- '/' becomes '.'
abbrev pub dotted : ℕ → ℕ
dotted b = cond (b == 47) 46 b

-- An entry of a section: id, offset, size.
abbrev pub entry_id : List ℕ → ℕ
entry_id ws = slice_index ws 0

abbrev pub entry_offset : List ℕ → ℕ
entry_offset ws = slice_index ws 1

abbrev pub entry_size : List ℕ → ℕ
entry_size ws = slice_index ws 2

abbrev pub entry_end : List ℕ → ℕ
entry_end ws = entry_offset ws + max (entry_size ws) 1

-- Sections refused: a section becomes a struct. A member's name is the one that its entry's id has at this moment.
abbrev pub at_this_moment : Job → State → ℕ → Decl
at_this_moment j s id = cond (nat_lt id (length s.done)) (decl_at s.done id) (decl_at j.decls id)

abbrev pub as_member : Job → State → List ℕ → List ℕ
as_member j s ws = (at_this_moment j s (entry_id ws)).name ∷ entry_id ws ∷ entry_offset ws * 8 ∷ []

-- the greatest of the section's size and where its entries end
abbrev pub spanned : ℕ → List (List ℕ) → ℕ
spanned size [] = size
spanned size (ws ∷ rest) = spanned (max size (entry_end ws)) rest

abbrev pub as_struct : Job → State → Decl → Decl
as_struct j s d = kept (renamed j s underscored d.name) Struct 0 (spanned d.third d.tail) 0 (map (as_member j s) d.tail)

-- Sections granted: a section's size is its own, or its row's where it has none.
abbrev pub section_size : Job → Decl → ℕ
section_size j d = cond (nat_lt 0 d.third) d.third (or_zero (section_number j (name_at j d.name)))

-- whether a section gets an entry: it has none, and has no size, or sections without entries are refused
abbrev pub fills : Job → Decl → Bool
fills j d = length d.tail == 0 && (section_size j d == 0 || not (granted j feature.DataSecZero))

-- an entry of a section without a size of its own: its offset becomes its symbol's, unless the Var is static
abbrev pub var_linkage : Decl → ℕ
var_linkage d = slice_index d.extra 0

abbrev pub mended_entry : Job → List ℕ → List ℕ
mended_entry j ws =
    let var = decl_at j.decls (entry_id ws) in
    cond (var_linkage var == 0) ws (entry_id ws ∷ or_zero (symbol_number j (name_at j var.name)) ∷ entry_size ws ∷ [])

abbrev pub filled_section : Job → State → Decl → Decl
filled_section j s d =
    kept (renamed j s dotted d.name) DataSec 0 (max (section_size j d) 1) 0 ((filler_id j s ∷ 0 ∷ max (section_size j d) 1 ∷ []) ∷ [])

abbrev pub mended_section : Job → State → Decl → Decl
mended_section j s d = record {
  name = renamed j s dotted d.name;
  info = d.info;
  third = section_size j d;
  extra = d.extra;
  tail = cond (nat_lt 0 d.third) d.tail (map (mended_entry j) d.tail);
}

-- Functions granted: parameters without a name, of any type but void, get "param" and their index.
abbrev pub param_name : ℕ → List ℕ
param_name index = codes "param" ++ decimal index

abbrev pub lacks_name : List ℕ → Bool
lacks_name ws = slice_index ws 0 == 0 && not (slice_index ws 1 == 0)

abbrev pub with_param : State → ℕ → List ℕ → State
with_param s index ws = cond (lacks_name ws) (with_string s (param_name index)) s

abbrev pub with_params : State → ℕ → List (List ℕ) → State
with_params s index [] = s
with_params s index (ws ∷ rest) = with_params (with_param s index ws) (index + 1) rest

abbrev pub named_param : Job → State → List ℕ → List ℕ
named_param j s ws = cond (lacks_name ws) (next_offset j s ∷ slice_index ws 1 ∷ []) ws

abbrev pub named_params : Job → State → ℕ → List (List ℕ) → List (List ℕ)
named_params j s index [] = []
named_params j s index (ws ∷ rest) = named_param j s ws ∷ named_params j (with_param s index ws) (index + 1) rest

abbrev pub named_proto : Job → State → Decl → Decl
named_proto j s d = record { name = d.name; info = d.info; third = d.third; extra = d.extra; tail = named_params j s 0 d.tail }

-- memory builtins become static, and so does every global Func where those are refused
abbrev pub is_builtin : List ℕ → Bool
is_builtin name =
    bytes_eq name (codes "memset") || bytes_eq name (codes "memcpy") || bytes_eq name (codes "memmove") || bytes_eq name (codes "memcmp")

abbrev pub becomes_static : Job → Decl → Bool
becomes_static j d = low_of d.info == 1 && (is_builtin (name_at j d.name) || not (granted j feature.FuncGlobal))

abbrev pub linked_func : Job → Decl → Decl
linked_func j d = cond (becomes_static j d) (kept d.name Func 0 d.third 0 []) d

-- a pointer has no name
abbrev pub nameless : Decl → Decl
nameless d = record { name = 0; info = d.info; third = d.third; extra = d.extra; tail = d.tail }

-- an Enum loses its flag
abbrev pub unsigned : Decl → Decl
unsigned d = cond (flag_of d.info) (kept d.name Enum 0 d.third 0 d.tail) d

-- an Enum64 becomes a Union of placeholders
abbrev pub as_union : Job → State → Decl → Decl
as_union j s d = kept d.name Union 0 d.third 0 (map (λ ws. slice_index ws 0 ∷ placeholder_id j s ∷ 0 ∷ []) d.tail)

-- What stands in the place of a declaration of a kind.
abbrev pub stand_in : BtfKind → Job → State → Decl → Decl
stand_in Ptr j s d = nameless d
stand_in Var j s d = cond (granted j feature.DataSec) d (one_byte_int d.name)
stand_in DataSec j s d = cond (granted j feature.DataSec) (cond (fills j d) (filled_section j s d) (mended_section j s d)) (as_struct j s d)
stand_in FuncProto j s d = cond (granted j feature.Func) (named_proto j s d) (kept d.name Enum 0 4 0 d.tail)
stand_in Func j s d = cond (granted j feature.Func) (linked_func j d) (kept d.name Typedef 0 d.third 0 [])
stand_in Float j s d = cond (granted j feature.Float) d (kept 0 Struct 0 d.third 0 [])
stand_in DeclTag j s d = cond (granted j feature.DeclTag) d (one_byte_int d.name)
stand_in TypeTag j s d = cond (granted j feature.TypeTag) d (kept 0 Const 0 d.third 0 [])
stand_in Enum j s d = cond (granted j feature.Enum64) d (unsigned d)
stand_in Enum64 j s d = cond (granted j feature.Enum64) d (as_union j s d)
stand_in Unknown j s d = d
stand_in Int j s d = d
stand_in Array j s d = d
stand_in Struct j s d = d
stand_in Union j s d = d
stand_in Fwd j s d = d
stand_in Typedef j s d = d
stand_in Volatile j s d = d
stand_in Const j s d = d
stand_in Restrict j s d = d

-- What is new behind the others, by that.
abbrev pub section_news : Job → State → Decl → State
section_news j s d =
    let named = with_renamed j s dotted d.name in
    cond (fills j d) (counts_filled (with_filler j named named.filler)) named

abbrev pub news : BtfKind → Job → State → Decl → State
news DataSec j s d = cond (granted j feature.DataSec) (section_news j s d) (with_renamed j s underscored d.name)
news FuncProto j s d = cond (granted j feature.Func) (with_params s 0 d.tail) s
news Enum64 j s d = cond (granted j feature.Enum64) s (with_placeholder j s s.placeholder)
news Unknown j s d = s
news Int j s d = s
news Ptr j s d = s
news Array j s d = s
news Struct j s d = s
news Union j s d = s
news Enum j s d = s
news Fwd j s d = s
news Typedef j s d = s
news Volatile j s d = s
news Const j s d = s
news Restrict j s d = s
news Func j s d = s
news Var j s d = s
news Float j s d = s
news DeclTag j s d = s
news TypeTag j s d = s

-- The turn of a declaration.
abbrev pub turn : Job → State → Decl → State
turn j s d = stands (news (decl_kind d) j s d) (stand_in (decl_kind d) j s d)

abbrev pub turns : Job → State → List Decl → State
turns j s [] = s
turns j s (d ∷ ds) = turns j (turn j s d) ds
