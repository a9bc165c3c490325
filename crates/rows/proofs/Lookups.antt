-- Rows that are looked up by id.
use Rattle.std.proofs.Common.{◌≡◌, ℕ, ◌<◌, ◌≤◌, Bool, true, false, cond, ltb, List, length, get_or, Option, sym, refl, ap, ◌∙◌}
use lib.ListN.{length-map}
use Rattle.std.proofs.lemmas.List.{get_or-map}
use Rattle.std.proofs.lemmas.Bool.{ltb-true, ltb-false}
use Rattle.layout.specs.Refusals.{Refusal, accepted, refused}
use Rattle.elements.specs.declared.Element.{Element}
use Rattle.meaning.specs.Table.{void}
use Rattle.meaning.specs.Questions.{decl_at, unknown}
use Rattle.rows.specs.declared.row.TypeRow.{TypeRow}
use Rattle.rows.specs.Rows.{decl_of, decls_of, row_at, void_row}

pub decl_found : (rows : List TypeRow) (es : List Element) (id : ℕ) (d : TypeRow) → id < length rows → decl_at (decls_of es rows) id ≡ decl_of es (get_or rows id d)
decl_found rows es id d h = get_or-map (decl_of es) rows id d void h

row_there : (b : Bool) (x row : TypeRow) (r : Refusal) → accepted row ≡ cond b (accepted x) (refused r) → (b ≡ true) × (row ≡ x)
row_there true x row r e = (refl, cc)
row_there false x row r e = cc

row_gone : (b : Bool) (x : TypeRow) (q r : Refusal) → refused q ≡ cond b (accepted x) (refused r) → (b ≡ false) × (q ≡ r)
row_gone true x q r e = cc
row_gone false x q r e = (refl, cc)

-- an id whose row was found has that row's declaration, and one that has no row has none
module _ (rows : List TypeRow) (es : List Element) (holder : Option ℕ) (id : ℕ) where
  pub row_found : (row : TypeRow) → accepted row ≡ row_at rows holder id → (id < length (decls_of es rows)) × (decl_at (decls_of es rows) id ≡ decl_of es row)
  row_found row e =
      let found = row_there (ltb id (length rows)) (get_or rows id void_row) row (unknown holder id) e in
      let h : id < length rows = ltb-true id (length rows) found.0 in
      (simp length-map h, decl_found rows es id void_row h ∙ ap (decl_of es) (sym found.1))

  pub row_missing : (q : Refusal) → refused q ≡ row_at rows holder id → (length (decls_of es rows) ≤ id) × (q ≡ unknown holder id)
  row_missing q e =
      let gone = row_gone (ltb id (length rows)) (get_or rows id void_row) q (unknown holder id) e in
      let h : length rows ≤ id = ltb-false id (length rows) gone.0 in
      (simp length-map h, gone.1)
