use Rattle.rows.proofs.Paths.{path_over, path_missing, path_stuck, path_ends, path_onward}
use Rattle.rows.proofs.Passed.{passed_on}
use Rattle.rows.proofs.view.View.walk.Goals as goal

pub returns-in_err-row-clause-answer : goal.returns-in_err-row-clause-answer
returns-in_err-row-clause-answer g c es =
    passed_on _ c.from_residual.result _ c.from_residual.ensures.1 (path_missing (c.loop-links.invariant es) c.loop-links-test.true _ c.in_err-row.ensures)

pub returns-in_err-next-clause-answer : goal.returns-in_err-next-clause-answer
returns-in_err-next-clause-answer g c es =
    passed_on _ c.from_residual-in_err-next.result _ c.from_residual-in_err-next.ensures.1 (path_stuck (c.loop-links.invariant es) c.loop-links-test.true _ c.in_ok-row.ensures _ (c.in_err-next.ensures es))

pub returns-in-Ends-clause-answer : goal.returns-in-Ends-clause-answer
returns-in-Ends-clause-answer g c es =
    path_ends (c.loop-links.invariant es) c.loop-links-test.true _ c.in_ok-row.ensures _ (rw c.in-Ends.is at c.in_ok-next.ensures es)

pub loop-links-preserved : goal.loop-links-preserved
loop-links-preserved g c es =
    path_onward (c.loop-links.invariant es) c.loop-links-test.true _ c.in_ok-row.ensures _ _ (rw c.in-Onward.is at c.in_ok-next.ensures es)

pub returns-clause-answer : goal.returns-clause-answer
returns-clause-answer g c es = path_over (c.loop-links.invariant es) c.loop-links-test.false
