use Rattle.std.proofs.Common.{refl}
use Rattle.words.specs.Bit.{bit, word}
use Rattle.algebra.specs.Vector.{joined}
use Rattle.figures.proofs.Pairs.{pairs_walk}
use Rattle.figures.proofs.hold.Goals as goal

pub returns : goal.returns
unfolding joined word bit
returns c = record { count = refl; figures = record { computed = refl; walk = pairs_walk } }
