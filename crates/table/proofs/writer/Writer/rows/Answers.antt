use Rattle.std.proofs.Common.{◌+◌, [], take, ap, sym, arith}
use Rattle.std.proofs.lemmas.List.Folds.{flat_map-map}
use Rattle.std.proofs.lemmas.List.Sums.{sum_by_more, sum_by-take-le}
use Rattle.meaning.specs.File.{coded, decl_words}
use Rattle.rows.specs.Rows.{decl_of}
use Rattle.rows.specs.declared.row.TypeRow.{TypeRow}
use Rattle.table.specs.Placed.{row_length}
use Rattle.table.proofs.Writing.{wrote_words_more, wrote_as}
use Rattle.table.proofs.writer.Writer.rows.Goals as goal

abbrev blank : TypeRow
blank = record { head = record { name_offset = 0; info = 0; size_or_type = 0; extra = [] }; first = 0 }

pub row-requires-clause-room : goal.row-requires-clause-room
row-requires-clause-room g c =
    let rows = c.args.view.now.rows.now in
    omega (arith, sum_by_more row_length rows c.loop-row.row-index blank c.loop-row-test.true, sum_by-take-le row_length rows (c.loop-row.row-index + 1))

pub loop-row-preserved : goal.loop-row-preserved
loop-row-preserved g c =
    let o = g.O.ByteOrder.order in
    let i = c.loop-row.row-index in
    let rows = c.args.view.now.rows.now in
    let row = decl_of c.args.view.now.elements.now in
    let more = sum_by_more row_length rows i blank c.loop-row-test.true in
    let fit = sum_by-take-le row_length rows (i + 1) in
    record {
      bytes = wrote_as (ap (coded o) (sym (flat_map-map decl_words row (take (i + 1) rows))))
          (wrote_words_more o (λ r. decl_words (row r)) rows i blank c.args.self.now c.loop-row.self c.row.new.self
          (wrote_as (ap (coded o) (flat_map-map decl_words row (take i rows))) c.loop-row.invariant.bytes) c.row.ensures.bytes c.loop-row-test.true (omega arith));
      end = omega arith;
    }
