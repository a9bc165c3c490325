use Rattle.std.proofs.Common.{◌≡◌, ◌+◌, map, take, sum_by}
use Rattle.meaning.specs.File.{type_part}
use Rattle.rows.specs.Rows.{decl_of}
use Rattle.table.specs.Placed.{row_length}
use Rattle.table.specs.Writing.{Wrote}
use Rattle.table.proofs.writer.Writer.rows.Given as goal

abbrev pub invariant-loop-row : goal.invariant-loop-row
invariant-loop-row g l = record {
  bytes : Wrote l.initial.self (type_part g.O.ByteOrder.order (map (decl_of l.view.elements.now) (take l.row-index l.view.rows.now))) l.self;
  end : l.self.at ≡ l.initial.self.at + sum_by row_length (take l.row-index l.view.rows.now);
}
