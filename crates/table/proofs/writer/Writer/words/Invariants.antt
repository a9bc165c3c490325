use Rattle.std.proofs.Common.{◌≡◌, ◌+◌, ◌*◌, take}
use Rattle.meaning.specs.File.{coded}
use Rattle.table.specs.Writing.{Wrote}
use Rattle.table.proofs.writer.Writer.words.Given as goal

abbrev pub invariant-loop-word : goal.invariant-loop-word
invariant-loop-word g l = record {
  bytes : Wrote l.initial.self (coded g.O.ByteOrder.order (take l.word-index l.words)) l.self;
  end : l.self.at ≡ l.initial.self.at + 4 * l.word-index;
}
