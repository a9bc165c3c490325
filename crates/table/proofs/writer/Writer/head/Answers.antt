use Rattle.std.proofs.Common.{◌≡◌, ◌+◌, ◌-◌, ◌∷◌, [], length, get_or, take, ap, ◌∙◌, arith, length-take, rules}
use Rattle.meaning.specs.File.{coded}
use Rattle.meaning.proofs.Files.{length_coded}
use Rattle.rows.specs.Rows.{head_words}
use Rattle.table.specs.Writing.{Wrote}
use Rattle.table.proofs.Writes.{three_items, take_three}
use Rattle.table.proofs.Writing.{wrote_as}
use Rattle.table.proofs.writer.Writer.head.Goals as goal

pub returns : goal.returns
returns g c =
    let h = c.args.head.now in
    let extra = c.args.extra in
    let three : length h.extra ≡ 3 = search rules in
    let read = h.name_offset ∷ h.info ∷ h.size_or_type ∷ get_or h.extra 0 0 ∷ get_or h.extra 1 0 ∷ get_or h.extra 2 0 ∷ [] in
    let front : take (3 + extra - 0) read ≡ head_words h extra =
    ap (λ n. take n read) (omega arith) ∙
    ap (λ ws. take (3 + extra) (h.name_offset ∷ h.info ∷ h.size_or_type ∷ ws)) (three_items h.extra three) ∙
    take_three h.name_offset h.info h.size_or_type extra h.extra in
    let bytes : Wrote c.args.self.now (coded g.O.ByteOrder.order (head_words h extra)) c.words.new.self = wrote_as (ap (coded g.O.ByteOrder.order) front) c.words.ensures in
    let at = bytes.at in
    record { bytes = bytes; end = omega (arith, length_coded g.O.ByteOrder.order (head_words h extra), length-take extra h.extra) }
