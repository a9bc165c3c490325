use Rattle.std.proofs.Common.{◌∷◌, [], arith}
use Rattle.meaning.specs.File.{coded}
use Rattle.meaning.proofs.Files.{length_coded}
use Rattle.table.proofs.Writing.{wrote_on, wrote_as}
use Rattle.table.proofs.writer.Writer.header.Goals as goal

pub returns : goal.returns
returns g c =
    let o = g.O.ByteOrder.order in
    let words = 24 ∷ 0 ∷ c.args.types ∷ c.args.types ∷ c.args.strings ∷ [] in
    let magic = wrote_as c.half-magic.ensures c.bytes.ensures in
    let a = magic.at in
    let b = c.bytes-2.ensures.at in
    let d = c.words.ensures.at in
    let half = o.half_length 0xeb9f in
    let long = length_coded o words in
    let marks = wrote_on c.bytes.new.self c.bytes-2.new.self c.words.new.self (1 ∷ 0 ∷ []) (coded o words) c.bytes-2.ensures c.words.ensures (omega (arith, magic.long)) in
    wrote_on c.args.self.now c.bytes.new.self c.words.new.self (o.half 0xeb9f) (1 ∷ 0 ∷ coded o words) magic marks (omega arith)
