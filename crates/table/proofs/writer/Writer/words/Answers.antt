use Rattle.std.proofs.Common.{get_or, subst, arith}
use Rattle.table.specs.Writing.{Wrote}
use Rattle.table.proofs.Writing.{wrote_more}
use Rattle.table.proofs.writer.Writer.words.Goals as goal

pub loop-word-preserved : goal.loop-word-preserved
loop-word-preserved g c =
    let o = g.O.ByteOrder.order in
    let i = c.loop-word.word-index in
    let four = o.word_length (get_or c.args.words.now i 0) in
    let wrote = subst (λ l. Wrote c.loop-word.self l c.bytes.new.self) c.word-bytes.ensures c.bytes.ensures in
    let at = wrote.at in
    record {
      bytes = wrote_more o.word c.args.words.now i 0 c.args.self.now c.loop-word.self c.bytes.new.self c.loop-word.invariant.bytes wrote c.loop-word-test.true (omega arith);
      end = omega arith;
    }
