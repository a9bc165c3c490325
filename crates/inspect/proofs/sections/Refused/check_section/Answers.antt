use Rattle.std.proofs.Common.{take, drop, ◌∙◌}
use Rattle.layout.specs.Info.{elements_of}
use Rattle.rewriting.specs.Sections.{member_fault}
use Rattle.inspect.proofs.Faults.{first_entry}
use Rattle.inspect.proofs.sections.Refused.check_section.Goals as goal

pub returns : goal.returns
returns c =
    let row = c.args.row.now in
    rw c.tail.ensures at c.check_each.ensures ∙
    first_entry (member_fault c.args.section) row.head.info c.requires (take (elements_of row.head.info) (drop row.first c.args.self.now.view.now.elements.now))
