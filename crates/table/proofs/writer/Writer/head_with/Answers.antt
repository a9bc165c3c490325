use Rattle.std.proofs.Common.{sym, arith}
use Rattle.std.specs.List.{flat_map}
use Rattle.std.proofs.lemmas.Grind.{flat_map-append}
use Rattle.meaning.specs.File.{coded}
use Rattle.rows.specs.Rows.{head_words}
use Rattle.table.specs.Writing.{kept}
use Rattle.table.proofs.Writing.{wrote_on, wrote_as}
use Rattle.table.proofs.writer.Writer.head_with.Goals as goal

pub returns-clause-bytes : goal.returns-clause-bytes
returns-clause-bytes g c =
    let o = g.O.ByteOrder.order in
    let head = head_words c.args.head.now 0 in
    let tail = flat_map (kept c.args.width) c.args.tail.now in
    wrote_as (sym (flat_map-append o.word head tail))
    (wrote_on c.args.self.now c.head.new.self c.tail.new.self (coded o head) (coded o tail) c.head.ensures.bytes c.tail.ensures.bytes (omega arith))
