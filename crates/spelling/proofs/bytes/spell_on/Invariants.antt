use Rattle.std.proofs.Common.{◌≡◌, map, take, drop}
use Rattle.meaning.specs.Adding.{over}
use Rattle.spelling.proofs.bytes.spell_on.Given as goal

abbrev pub invariant-loop-i : goal.invariant-loop-i
invariant-loop-i g l = l.area ≡ over l.at (map g.S.Spelling.spells (take l.i (take l.count (drop l.from l.initial.area)))) l.initial.area
