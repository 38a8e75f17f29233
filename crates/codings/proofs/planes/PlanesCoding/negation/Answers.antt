use Rattle.std.proofs.Common.{ap, ◌∙◌}
use Rattle.algebra.specs.Modulo.{f3}
use Rattle.codings.proofs.planes.PlanesCoding.negation.Goals as goal

pub returns-clause-digits : goal.returns-clause-digits
returns-clause-digits c = λ k. c.stored.ensures.digits k ∙ c.negation.ensures k ∙ ap f3.neg (c.full.ensures k)
