use Rattle.std.proofs.Common.{◌∙◌}
use Rattle.codings.specs.TwoPlanesLemmas.{zero_digits, zero_full}
use Rattle.codings.proofs.planes.PlanesCoding.zero.Goals as goal

pub invariant_of-stored : goal.invariant_of-stored
invariant_of-stored c = record { full = zero_full 64 }

pub returns-clause-digits : goal.returns-clause-digits
returns-clause-digits c = λ k. c.stored.ensures.digits k ∙ zero_digits 64 k
