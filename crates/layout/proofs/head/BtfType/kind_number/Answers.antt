use Rattle.std.proofs.Common.{◌/◌, ◌^◌}
use Rattle.std.proofs.lemmas.Nat.{and_mask}
use Rattle.layout.proofs.head.BtfType.kind_number.Goals as goal

pub returns : goal.returns
returns c = and_mask (c.args.self.now.info / 2 ^ 24) 5
