use Rattle.codings.specs.TwoPlanesLemmas.{sum_digits, sum_full}
use Rattle.codings.proofs.full.FullPlanes.sum.Goals as goal

pub invariant_of-result : goal.invariant_of-result
invariant_of-result c =
    let v = c.args.self in let w = c.args.other in record { full = sum_full 64 v.v1 v.v2 w.v1 w.v2 v.full w.full }

pub returns : goal.returns
returns c = let v = c.args.self in let w = c.args.other in sum_digits 64 v.v1 v.v2 w.v1 w.v2 v.full w.full
