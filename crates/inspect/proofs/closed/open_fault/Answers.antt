use Rattle.std.proofs.Common.{length, sym, ap, ◌∙◌}
use lib.ListN.{length-map}
use Rattle.rows.specs.Rows.{decl_of}
use Rattle.rows.specs.Views.{decls}
use Rattle.rewriting.specs.Closed.{open_from, open_fault}
use Rattle.inspect.proofs.Faults.{first_open}
use Rattle.inspect.proofs.Limits.{limited_asked}
use Rattle.inspect.proofs.closed.open_fault.Goals as goal

pub returns : goal.returns
returns c =
    let v = c.limited-view.result in
    c.check_each.ensures ∙
    first_open v.strings.now (length v.rows.now) v.elements.now 0 v.rows.now ∙
    ap (λ n. open_from v.strings.now n 0 (decls v)) (sym (length-map v.rows.now (decl_of v.elements.now))) ∙
    limited_asked open_fault c.args.view.now v c.limited-view.ensures.rows c.limited-view.ensures.elements c.limited-view.ensures.strings
