use Rattle.std.proofs.Common.{true, false, sym, ◌∙◌}
use Rattle.inspect.proofs.Faults.{first_section}
use Rattle.inspect.proofs.Limits.{limited_sections}
use Rattle.inspect.proofs.sections.sections_fault.Goals as goal

pub returns-then-granted : goal.returns-then-granted
returns-then-granted c grants same =
    let v = c.limited-view.result in
    c.check_each.ensures ∙
    first_section v c.args.lists.now (λ _. true) grants (sym c.if-granted.true ∙ same) v.elements.now 0 v.rows.now ∙
    limited_sections c.args.view.now v c.args.lists.now grants c.limited-view.ensures.rows c.limited-view.ensures.elements c.limited-view.ensures.strings

pub returns-else-granted : goal.returns-else-granted
returns-else-granted c grants same =
    let v = c.limited-view.result in
    c.check_each-else-granted.ensures ∙
    first_section v c.args.lists.now (λ _. false) grants (sym c.if-granted.false ∙ same) v.elements.now 0 v.rows.now ∙
    limited_sections c.args.view.now v c.args.lists.now grants c.limited-view.ensures.rows c.limited-view.ensures.elements c.limited-view.ensures.strings
