use Rattle.std.proofs.Common.{ap, ◌∙◌, ap₂}
use Rattle.algebra.specs.Modulo.{f3}
use Rattle.codings.proofs.singles.SingleCoding.difference.Goals as goal

pub returns-clause-digits : goal.returns-clause-digits
returns-clause-digits c = λ k.
    c.stored.ensures.digits k ∙ c.sum.ensures k ∙ ap₂ f3.add (c.full.ensures k) (c.negation.ensures k ∙ ap f3.neg (c.full-2.ensures k))
