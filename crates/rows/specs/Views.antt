-- What a view means.
use Rattle.std.specs.Prelude.{List, take}
use Rattle.meaning.specs.Table.{Decl, most_decls}
use Rattle.rows.specs.declared.view.View.{View}
use Rattle.rows.specs.Rows.{decls_of}

-- the declarations that are asked
abbrev pub decls : View → List Decl
decls view = decls_of view.elements.now view.rows.now

-- as many as a table may have
abbrev pub few_decls : View → List Decl
few_decls view = decls_of view.elements.now (take most_decls view.rows.now)
