use Rattle.std.proofs.Common.{◌≡◌, drop}
use Rattle.inspect.specs.Faults.{first_fault}
use Rattle.inspect.proofs.each.check_each.Given as goal

abbrev pub invariant-loop-at : goal.invariant-loop-at
invariant-loop-at g l = first_fault (g.C.Check.fault l.check) 0 l.items ≡ first_fault (g.C.Check.fault l.check) l.at (drop l.at l.items)
