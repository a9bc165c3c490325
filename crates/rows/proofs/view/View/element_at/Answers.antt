use Rattle.rows.proofs.view.View.element_at.Goals as goal
use Rattle.std.proofs.Common.{None, arith}
use Rattle.std.proofs.lemmas.Grind.{common_steps}
use Rattle.rows.proofs.Lookups.{row_found}

pub returns : goal.returns
returns c =
    let found = row_found c.args.self.now.rows.now c.args.self.now.elements.now None c.args.id c.in_ok-row.row.now c.in_ok-row.ensures in
    grind (arith, common_steps)
