use Rattle.std.proofs.Common.{length, [], arith}
use Rattle.elements.specs.declared.Element.{Element}
use Rattle.table.specs.Writing.{kept}
use Rattle.table.proofs.Writing.{wrote_words_more}
use Rattle.table.proofs.Writes.{words_more, elements_fit}
use Rattle.table.proofs.writer.Writer.tail.Goals as goal

abbrev blank : Element
blank = record { words = [] }

pub loop-element-preserved : goal.loop-element-preserved
loop-element-preserved g c =
    let i = c.loop-element.element-index in
    let width = c.args.width in
    let fit = elements_fit width i (length c.args.tail.now) c.loop-element-test.true in
    let more = words_more width i in
    record {
      bytes = wrote_words_more g.O.ByteOrder.order (kept width) c.args.tail.now i blank c.args.self.now c.loop-element.self c.element.new.self
          c.loop-element.invariant.bytes c.element.ensures.bytes c.loop-element-test.true (omega arith);
      end = omega arith;
    }
