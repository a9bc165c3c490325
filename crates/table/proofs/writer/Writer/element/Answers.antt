use Rattle.std.proofs.Common.{arith, length-take}
use Rattle.meaning.proofs.Files.{length_coded}
use Rattle.table.proofs.writer.Writer.element.Goals as goal

pub returns-clause-end : goal.returns-clause-end
returns-clause-end g c =
    let at = simp (length_coded, length-take) at c.words-2.ensures.at in
    omega arith
