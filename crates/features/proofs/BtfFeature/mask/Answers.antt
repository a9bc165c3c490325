use Rattle.std.proofs.Common.{rules}
use Rattle.features.proofs.Bits.{reads_bit, sets_bit, adds_bit}
use Rattle.features.proofs.BtfFeature.mask.Goals as goal

pub returns : goal.returns
returns c = search (rules, reads_bit, sets_bit, adds_bit)
