use Rattle.std.proofs.Common.{take, drop, ◌∙◌}
use Rattle.layout.specs.Info.{elements_of}
use Rattle.rows.specs.Rows.{decl_of}
use Rattle.rewriting.specs.Sections.{entry_fault}
use Rattle.inspect.specs.Sourced.{sources_job}
use Rattle.inspect.proofs.Faults.{first_entry, granted_rest}
use Rattle.inspect.proofs.sections.Granted.check_section.Goals as goal

pub returns : goal.returns
returns c =
    let es = c.args.self.now.sources.view.now.elements.now in
    let j = sources_job c.args.self.now.sources in
    let row = c.args.row.now in
    rw c.tail.ensures at c.check_each.ensures ∙
    first_entry (entry_fault j c.args.section) row.head.info c.requires (take (elements_of row.head.info) (drop row.first es)) ∙
    granted_rest j c.args.section (decl_of es row) c.if-row-gt0.false c.in_ok-check_size.ensures
