-- Adding to a table.
use Rattle.std.specs.Prelude.{ℕ, ◌+◌, min, Bool, cond, not, ◌&&◌, ◌||◌, List, [], ◌∷◌, ◌++◌, length, take, drop, Some, None, Option, ◌==◌, nat_le, nat_lt}
use Rattle.std.specs.List.{prefix_len}
use Rattle.layout.specs.Kinds.{kind_at, kind_number, takes_flag, has_linkage}
use Rattle.layout.specs.Heads.{head_kept}
use Rattle.layout.specs.Refusals.{Refusal, refusal, area_number}
use Rattle.layout.specs.declared.kind.BtfKind.{BtfKind}
use Rattle.layout.specs.declared.declaration.Declaration.{Declaration}
use Rattle.layout.specs.declared.head.BtfType.{BtfType}
use Rattle.layout.specs.declared.error.Area.TheVariants.{Declarations, Elements, Strings}
use Rattle.meaning.specs.Table.{Decl, Table, Outcome, holds, refuses, accepts, no_table, most_decls, most_elements, most_strings}

-- a byte of a name: any but zero
abbrev pub named : ℕ → Bool
named b = not (b == 0)

-- `new` in place of what stood at `at` and after
abbrev pub over : {X : Type 0} → ℕ → List X → List X → List X
over at new old = take at old ++ (new ++ drop (at + length new) old)

-- refusal 16 at an area
abbrev pub no_room : ℕ → Refusal
no_room area = refusal 16 None None (Some area)

-- the string area after a name and its zero byte are added
abbrev pub with_string : Table → List ℕ → Table
with_string t name = record {
  decls = t.decls;
  area = over t.strings (name ++ 0 ∷ []) t.area;
  strings = t.strings + (length name + 1);
  elements = t.elements;
  decl_room = t.decl_room;
  element_room = t.element_room;
}

-- Adding a name answers the offset where it stands.
abbrev pub add_string : Table → List ℕ → Outcome ℕ
add_string t name =
    cond (not (holds t)) (refuses t no_table)
    (cond (nat_lt (prefix_len named name) (length name)) (refuses t (refusal 5 None None (Some (prefix_len named name))))
    (cond (nat_lt (min (length t.area) most_strings) (t.strings + (length name + 1))) (refuses t (no_room (area_number Strings)))
    (accepts t.strings (with_string t name))))

-- a head with its elements
abbrev pub decl_with : BtfType → List (List ℕ) → Decl
decl_with h tail = record { name = h.name_offset; info = h.info; third = h.size_or_type; extra = h.extra; tail = tail }

abbrev pub with_type : Table → Declaration → List (List ℕ) → Table
with_type t d tail = record {
  decls = t.decls ++ decl_with (head_kept d (kind_at d.kind) (length tail)) tail ∷ [];
  area = t.area;
  strings = t.strings;
  elements = t.elements + length tail;
  decl_room = t.decl_room;
  element_room = t.element_room;
}

-- a fault that comes first, else what follows
abbrev pub unless : {A : Type 0} → Option Refusal → Table → Outcome A → Outcome A
unless (Some r) t o = refuses t r
unless None t o = o

-- what is refused of a declaration by itself, with `count` elements of a type that serves some kinds
abbrev pub declaration_fault : Declaration → (BtfKind → Bool) → ℕ → Option Refusal
declaration_fault d serving count =
    let kind = kind_at d.kind in
    cond (kind_number kind == 0 || (nat_lt 0 count && not (serving kind))) (Some (refusal 2 None None (Some d.kind)))
    (cond (d.flag && not (takes_flag kind)) (Some (refusal 3 None None (Some 1)))
    (cond (has_linkage kind && nat_lt 3 d.linkage) (Some (refusal 3 None None (Some d.linkage)))
    (cond (nat_lt 65535 count) (Some (refusal 4 None None (Some count)))
    None)))

-- what is refused for want of room
abbrev pub room_fault : Table → ℕ → Option Refusal
room_fault t count =
    cond (nat_le (min t.decl_room most_decls) (length t.decls)) (Some (no_room (area_number Declarations)))
    (cond (nat_lt (min t.element_room most_elements) (t.elements + count)) (Some (no_room (area_number Elements)))
    None)

-- Adding a declaration answers its id. Its elements come as their words, of a type that serves some kinds.
abbrev pub add_type : Table → Declaration → (BtfKind → Bool) → List (List ℕ) → Outcome ℕ
add_type t d serving tail =
    cond (not (holds t)) (refuses t no_table)
    (unless (declaration_fault d serving (length tail)) t
    (unless (room_fault t (length tail)) t
    (accepts (length t.decls) (with_type t d tail))))
