-- The worked examples compute to what they should be.
use Rattle.std.proofs.Common.{refl}
use Rattle.meaning.specs.Questions.{walk}
use Rattle.promises.specs.Kinds.{reads}
use Rattle.promises.specs.Examples.{ExamplesHold}
use Rattle.promises.specs.Rewritings.{RewritingsHold}

pub examples_hold : ExamplesHold
unfolding walk
examples_hold = (refl, (refl, (refl, (refl, (refl, (refl, (refl, (refl, (refl, (refl, (refl, tt)))))))))))

pub rewritings_hold : RewritingsHold
unfolding walk reads
rewritings_hold = (refl, (refl, (refl, (refl, (refl, (refl, (refl, (refl, (refl, (refl, (refl, (refl, (refl, (refl, (refl, (refl, (refl, (refl, (refl, (refl, (refl, (refl, (refl, (refl, (refl, (refl, (refl, (refl, (refl, (refl, (refl, tt)))))))))))))))))))))))))))))))
