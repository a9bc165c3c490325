use Rattle.rows.proofs.Finds.{find_stops, find_ends, find_onward}
use Rattle.rows.proofs.Passed.{passed_on}
use Rattle.rows.proofs.view.View.search.Goals as goal

pub returns-in_err-is_named : goal.returns-in_err-is_named
returns-in_err-is_named c es =
    passed_on _ c.from_residual.result _ c.from_residual.ensures.1 (find_stops (c.loop-at.invariant es) c.loop-at-test.true _ (c.in_err-is_named.ensures es))

pub returns-then-branch : goal.returns-then-branch
returns-then-branch c es = find_ends (c.loop-at.invariant es) c.loop-at-test.true (rw c.if-branch.true at (c.in_ok-is_named.ensures es))

pub loop-at-preserved : goal.loop-at-preserved
loop-at-preserved c es = find_onward (c.loop-at.invariant es) c.loop-at-test.true (rw c.if-branch.false at (c.in_ok-is_named.ensures es))
