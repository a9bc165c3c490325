use Rattle.std.proofs.Common.{◌≡◌, map, take}
use Rattle.elements.specs.Packing.{packed}
use Rattle.meaning.specs.Adding.{over}
use Rattle.table.proofs.placing.put_tail.Given as goal

abbrev pub invariant-loop-i : goal.invariant-loop-i
invariant-loop-i g l = l.area ≡ over l.at (map packed (map g.E.ElementType.meaning (take l.i l.tail))) l.initial.area
