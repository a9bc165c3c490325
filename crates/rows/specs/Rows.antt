-- What the rows of the two lent areas mean.
use Rattle.std.specs.Prelude.{ℕ, cond, List, [], ◌∷◌, map, length, take, drop, Option, nat_lt, slice_index_or}
use Rattle.layout.specs.Info.{kind_of, elements_of}
use Rattle.layout.specs.Kinds.{element_words}
use Rattle.layout.specs.declared.head.BtfType.{BtfType}
use Rattle.elements.specs.declared.Element.{Element}
use Rattle.layout.specs.Refusals.{Answer, accepted, refused}
use Rattle.meaning.specs.Table.{Decl}
use Rattle.meaning.specs.Questions.{unknown}
use Rattle.rows.specs.declared.row.TypeRow.{TypeRow}

-- the words of a kept element that a declaration with this info word has
abbrev pub kept_words : ℕ → Element → List ℕ
kept_words info e = take (element_words (kind_of info)) e.words

-- a row's elements stand together, from its first
abbrev pub row_tail : List Element → TypeRow → List (List ℕ)
row_tail es row = map (kept_words row.head.info) (take (elements_of row.head.info) (drop row.first es))

abbrev pub decl_of : List Element → TypeRow → Decl
decl_of es row = record {
  name = row.head.name_offset;
  info = row.head.info;
  third = row.head.size_or_type;
  extra = row.head.extra;
  tail = row_tail es row;
}

-- the declarations of rows
abbrev pub decls_of : List Element → List TypeRow → List Decl
decls_of es rows = map (decl_of es) rows

-- the words of a head with so many extra words
abbrev pub head_words : BtfType → ℕ → List ℕ
head_words h extra = h.name_offset ∷ h.info ∷ h.size_or_type ∷ take extra h.extra

abbrev pub row_of : BtfType → ℕ → TypeRow
row_of head first = record { head = head; first = first }

abbrev pub void_row : TypeRow
void_row = row_of (record { name_offset = 0; info = 0; size_or_type = 0; extra = 0 ∷ 0 ∷ 0 ∷ [] }) 0

-- the row of an id, or refusal 7
abbrev pub row_at : List TypeRow → Option ℕ → ℕ → Answer TypeRow
row_at rows holder id = cond (nat_lt id (length rows)) (accepted (slice_index_or rows id void_row)) (refused (unknown holder id))
