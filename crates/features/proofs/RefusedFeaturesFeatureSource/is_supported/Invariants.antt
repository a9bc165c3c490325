use Rattle.std.proofs.Common.{◌≡◌, drop}
use Rattle.features.specs.Features.{names}
use Rattle.features.proofs.Named.{Walk}
use Rattle.features.proofs.RefusedFeaturesFeatureSource.is_supported.Given as goal

-- the list names the feature where what is left of it does; `Walk` is what a turn needs to know
abbrev pub invariant-loop-refused : goal.invariant-loop-refused
invariant-loop-refused l =
    Walk l.refused-items l.feature ×
    (names l.refused-items l.feature ≡ names (drop l.refused-index l.refused-items) l.feature)
