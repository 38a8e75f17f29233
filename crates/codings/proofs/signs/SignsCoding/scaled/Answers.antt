use Rattle.std.proofs.Common.{◌∙◌, arith}
use Rattle.algebra.proofs.Ternary.{by_zero, by_two}
use Rattle.codings.specs.Sign.{meant_by}
use Rattle.codings.proofs.signs.SignsCoding.scaled.Goals as goal

pub returns-in-0 : goal.returns-in-0
returns-in-0 c = (
  omega arith,
  λ k. c.zero.ensures.digits k ∙ by_zero c.in-0.is (meant_by c.args.self k),
  tt,
)

pub returns-in-2 : goal.returns-in-2
returns-in-2 c = (
  omega arith,
  λ k. c.negation.ensures.digits k ∙ by_two c.in-2.is (meant_by c.args.self k),
  tt,
)
