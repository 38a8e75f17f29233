use Rattle.codings.specs.TwoPlanesLemmas.{product_digits, product_full}
use Rattle.codings.proofs.full.FullPlanes.product.Goals as goal

pub invariant_of-result : goal.invariant_of-result
invariant_of-result c =
    let v = c.args.self in let w = c.args.other in record { full = product_full 64 v.v1 v.v2 w.v1 w.v2 v.full w.full }

pub returns : goal.returns
returns c = let v = c.args.self in let w = c.args.other in product_digits 64 v.v1 v.v2 w.v1 w.v2 v.full w.full
