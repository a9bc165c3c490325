use Rattle.std.proofs.Common.{List, None}
use Rattle.meaning.specs.Questions.{walk}
use Rattle.rows.specs.Rows.{decls_of}
use Rattle.elements.specs.declared.Element.{Element}
use Rattle.rows.proofs.Paths.{Walked}
use Rattle.rows.proofs.view.View.walk.Given as goal

abbrev pub invariant-loop-links : goal.invariant-loop-links
invariant-loop-links g l =
    (es : List Element) →
    Walked (g.W.Walk.look l.kind) l.self.rows.now es l.id (walk (g.W.Walk.look l.kind) 32 (decls_of es l.self.rows.now) l.id None l.fn.start l.id 0) l.holder l.carried l.at l.links
