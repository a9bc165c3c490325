use Rattle.std.proofs.Common.{◌∙◌}
use Rattle.features.proofs.Named.{compared}
use Rattle.features.proofs.BtfFeature.is.Goals as goal

pub returns : goal.returns
returns c = c.eq.ensures ∙ compared c.args.self c.args.feature
