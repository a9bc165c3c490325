-- The table that a `Btf` and a string area mean, and what adding leaves in the areas.
use Rattle.std.specs.Prelude.{◌≡◌, ℕ, ◌+◌, List, map, length, take, Result, slice_set}
use Rattle.layout.specs.Kinds.{kind_at}
use Rattle.layout.specs.Heads.{head_kept}
use Rattle.layout.specs.Refusals.{told}
use Rattle.layout.specs.declared.declaration.Declaration.{Declaration}
use Rattle.layout.specs.declared.head.BtfType.{BtfType}
use Rattle.layout.specs.declared.error.BtfError.{BtfError}
use Rattle.elements.specs.declared.Element.{Element}
use Rattle.elements.specs.Packing.{packed}
use Rattle.meaning.specs.Table.{Table, Outcome}
use Rattle.meaning.specs.Adding.{over}
use Rattle.meaning.specs.File.{Written}
use Rattle.rows.specs.declared.row.TypeRow.{TypeRow}
use Rattle.rows.specs.declared.view.View.{View}
use Rattle.rows.specs.Rows.{decl_of, row_of}
use Rattle.table.specs.declared.btf.Btf.{Btf}

abbrev pub used_rows : Btf → List TypeRow
used_rows s = take s.type_count s.types.now

abbrev pub table_of : Btf → List ℕ → Table
table_of s area = record {
  decls = map (decl_of s.elements.now) (used_rows s);
  area = area;
  strings = s.string_len;
  elements = s.element_count;
  decl_room = length s.types.now;
  element_room = length s.elements.now;
}

-- what stands in a view
pub record Seen : Type 0 where
  pub rows : List TypeRow
  pub elements : List Element
  pub strings : List ℕ

abbrev pub seen : View → Seen
seen view = record { rows = view.rows.now; elements = view.elements.now; strings = view.strings.now }

-- the parts of the areas that questions are asked of
abbrev pub in_use : Btf → List ℕ → Seen
in_use s area = record { rows = used_rows s; elements = s.elements.now; strings = take s.string_len area }

-- what an adding answered, and the table that it left
abbrev pub outcome : Result ℕ BtfError → Btf → List ℕ → Outcome ℕ
outcome r s area = record { answer = told (λ n. n) r; later = table_of s area }

-- a declaration with its elements, put behind the others
pub record Put (s t : Btf) (head : BtfType) (new : List Element) : Type 0 where
  pub types : t.types.now ≡ slice_set s.types.now s.type_count (row_of head s.element_count)
  pub elements : t.elements.now ≡ over s.element_count new s.elements.now
  pub type_count : t.type_count ≡ s.type_count + 1
  pub element_count : t.element_count ≡ s.element_count + length new
  pub string_len : t.string_len ≡ s.string_len

-- the declaration area with one row more, the rows behind it as they were
abbrev pub with_row : Btf → Declaration → ℕ → List TypeRow
with_row s d count = slice_set s.types.now s.type_count (row_of (head_kept d (kind_at d.kind) count) s.element_count)

-- the element area with the elements of a tail, given by their words; those behind them are as they were
abbrev pub with_elements : Btf → List (List ℕ) → List Element
with_elements s tail = over s.element_count (map packed tail) s.elements.now

-- what an encoding answered, and the buffer that it left
abbrev pub written : Result ℕ BtfError → List ℕ → Written
written r buffer = record { answer = told (λ n. n) r; buffer = buffer }
