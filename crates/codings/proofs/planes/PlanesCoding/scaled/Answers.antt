use Rattle.std.proofs.Common.{◌∙◌, arith}
use Rattle.algebra.proofs.Ternary.{by_zero, by_one, by_two}
use Rattle.codings.specs.Plane.{meant_by}
use Rattle.codings.proofs.planes.PlanesCoding.scaled.Goals as goal

pub returns-in-0 : goal.returns-in-0
returns-in-0 c = (
  omega arith,
  λ k. c.zero.ensures.digits k ∙ by_zero c.in-0.is (meant_by c.args.self k),
  c.zero.ensures.stored,
)

pub returns-in-1 : goal.returns-in-1
returns-in-1 c = (
  omega arith,
  λ k. c.stored.ensures.digits k ∙ c.full.ensures k ∙ by_one c.in-1.is (meant_by c.args.self k),
  c.stored.ensures.stored,
)

pub returns-in-2 : goal.returns-in-2
returns-in-2 c = (
  omega arith,
  λ k. c.negation.ensures.digits k ∙ by_two c.in-2.is (meant_by c.args.self k),
  c.negation.ensures.stored,
)
