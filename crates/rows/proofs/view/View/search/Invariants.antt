use Rattle.meaning.specs.Questions.{find_from}
use Rattle.rows.specs.Rows.{decls_of}
use Rattle.elements.specs.declared.Element.{Element}
use Rattle.std.proofs.Common.{List}
use Rattle.rows.proofs.Finds.{Searched}
use Rattle.rows.proofs.view.View.search.Given as goal

abbrev pub invariant-loop-at : goal.invariant-loop-at
invariant-loop-at l = (es : List Element) → Searched l.self.rows.now es l.self.strings.now l.name l.kind (find_from (decls_of es l.self.rows.now) l.self.strings.now l.name l.kind 0) l.at
