use Rattle.std.proofs.Common.{arith}
use Rattle.layout.proofs.Words.{info_built}
use Rattle.layout.proofs.head.info_word.Goals as goal

pub returns : goal.returns
returns c = info_built c.args.kind c.args.flag c.args.low c.from.result c.from.ensures (omega arith)
