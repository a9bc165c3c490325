use Rattle.std.proofs.Common.{arith}
use Rattle.std.proofs.lemmas.Grind.{common_steps}
use Rattle.std.proofs.lemmas.List.Sums.{prefix_len-le-length}
use Rattle.meaning.specs.Adding.{named}
use Rattle.rows.proofs.text.name_length.Goals as goal

pub returns : goal.returns
returns c = let h = prefix_len-le-length named c.args.bytes.now in grind (arith, common_steps)
