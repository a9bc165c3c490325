use Rattle.std.proofs.lemmas.Nat.{and_mask}
use Rattle.layout.proofs.head.BtfType.vlen.Goals as goal

pub returns : goal.returns
returns c = and_mask c.args.self.now.info 16
