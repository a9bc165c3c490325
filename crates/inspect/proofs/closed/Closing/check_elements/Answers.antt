use Rattle.std.proofs.Common.{length, take, drop, ◌∙◌}
use Rattle.layout.specs.Info.{kind_of, elements_of}
use Rattle.rewriting.specs.Closed.{element_refers}
use Rattle.inspect.proofs.Faults.{first_element}
use Rattle.inspect.proofs.closed.Closing.check_elements.Goals as goal

pub returns : goal.returns
returns c =
    let v = c.args.self.now.view in
    let row = c.args.row.now in
    rw (c.kind.ensures, c.tail.ensures) at c.check_each.ensures ∙
    first_element v.strings.now (length v.rows.now) c.args.id (element_refers (kind_of row.head.info)) row.head.info 0 (take (elements_of row.head.info) (drop row.first v.elements.now))
