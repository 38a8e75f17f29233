use Rattle.std.proofs.Common.{ap₂, rules}
use Rattle.codings.specs.TwoPlanesLemmas.{full_spelled1, full_spelled2}
use Rattle.codings.proofs.full.FullPlanes.stored.Goals as goal

pub returns-clause-stored : goal.returns-clause-stored
returns-clause-stored c =
    let v = c.args.self in
    ap₂ (λ a b. record { first = a; second = b })
    (full_spelled1 64 v.v1 v.v2 v.full (search rules))
    (full_spelled2 64 v.v1 v.v2 (search rules))
