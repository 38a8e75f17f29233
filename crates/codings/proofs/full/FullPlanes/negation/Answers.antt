use Rattle.codings.specs.TwoPlanesLemmas.{negation_digits}
use Rattle.codings.proofs.full.FullPlanes.negation.Goals as goal

pub returns : goal.returns
returns c = let v = c.args.self in negation_digits 64 v.v1 v.v2 v.full
