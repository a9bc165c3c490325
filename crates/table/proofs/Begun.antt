-- A new table.
use Rattle.std.proofs.Common.{◌≡◌, ℕ, ◌<◌, List, [], ◌∷◌, map, length, take, set, sum_by, sym, ap, ◌∙◌, arith}
use Rattle.std.specs.List.{All}
use Rattle.std.proofs.lemmas.List.{take_more_set}
use Rattle.std.proofs.lemmas.List.Elements.{All-cons, All-nil, All-same}
use Rattle.std.proofs.lemmas.Grind.{common_steps}
use Rattle.elements.specs.declared.Element.{Element}
use Rattle.meaning.specs.Table.{Table, made}
use Rattle.rows.specs.Rows.{decl_of, void_row}
use Rattle.rows.specs.declared.row.TypeRow.{TypeRow}
use Rattle.table.specs.Placed.{Placed, row_length}

module _ (types : List TypeRow) (row : TypeRow) (is : row ≡ void_row) (some : 0 < length types) where
  one_row : take 1 (set types 0 row) ≡ void_row ∷ []
  one_row = take_more_set types 0 row some ∙ ap (λ r. r ∷ []) is

  pub placed_begun : All (Placed 0) (take 1 (set types 0 row))
  placed_begun = All-same (Placed 0) _ _ one_row (All-cons (Placed 0) void_row [] (omega arith) (All-nil (Placed 0)))

  pub counted_begun : 0 ≡ sum_by row_length (take 1 (set types 0 row))
  counted_begun = sym (ap (sum_by row_length) one_row)

  pub table_begun : (es : List Element) (old : List ℕ) → 0 < length old →
      ◌≡◌ {A = Table} (record { decls = map (decl_of es) (take 1 (set types 0 row)); area = set old 0 0; strings = 1; elements = 0; decl_room = length (set types 0 row); element_room = length es })
      (made (length types) (length es) old)
  table_begun es old some_bytes = grind (arith, common_steps, one_row)
