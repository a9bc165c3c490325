use Rattle.std.proofs.Common.{◌≡◌, ◌+◌, ◌*◌, take}
use Rattle.std.specs.List.{flat_map}
use Rattle.meaning.specs.File.{coded}
use Rattle.table.specs.Writing.{Wrote, kept}
use Rattle.table.proofs.writer.Writer.tail.Given as goal

abbrev pub invariant-loop-element : goal.invariant-loop-element
invariant-loop-element g l = record {
  bytes : Wrote l.initial.self (coded g.O.ByteOrder.order (flat_map (kept l.width) (take l.element-index l.tail))) l.self;
  end : l.self.at ≡ l.initial.self.at + 4 * (l.width * l.element-index);
}
