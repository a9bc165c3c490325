use Rattle.std.proofs.Common.{refl}
use Rattle.features.proofs.Named.{walk}
use Rattle.features.proofs.RefusedFeaturesFeatureSource.is_supported.Goals as goal

pub loop-refused-init : goal.loop-refused-init
loop-refused-init c = (walk _ _, refl)
