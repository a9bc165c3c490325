use Rattle.std.proofs.Common.{ap, arith}
use Rattle.std.proofs.lemmas.Grind.{common_steps}
use Rattle.meaning.specs.File.{coded}
use Rattle.table.proofs.Writes.{tail_row}
use Rattle.table.proofs.Writing.{wrote_as}
use Rattle.table.proofs.writer.Writer.row.Goals as goal

pub returns-in-Enum-clause-bytes : goal.returns-in-Enum-clause-bytes
returns-in-Enum-clause-bytes g c =
    let tail = c.tail in
    let words = tail_row c.args.row.now c.args.view.now.elements.now 2 tail.result.now (grind (arith, common_steps)) (grind (arith, common_steps)) (grind (arith, common_steps)) tail.ensures in
    wrote_as (ap (coded g.O.ByteOrder.order) words) c.head_with.ensures.bytes

pub returns-in-Struct-clause-bytes : goal.returns-in-Struct-clause-bytes
returns-in-Struct-clause-bytes g c =
    let tail = c.tail-in-Struct in
    let words = tail_row c.args.row.now c.args.view.now.elements.now 3 tail.result.now (grind (arith, common_steps)) (grind (arith, common_steps)) (grind (arith, common_steps)) tail.ensures in
    wrote_as (ap (coded g.O.ByteOrder.order) words) c.head_with-in-Struct.ensures.bytes
