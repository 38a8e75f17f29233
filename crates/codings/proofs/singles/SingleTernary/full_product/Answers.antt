use Rattle.std.proofs.Common.{ap, ◌∙◌, inl, inr, arith}
use mathlib.Core.Path.{fun_ext}
use Rattle.algebra.specs.Field.{value}
use Rattle.algebra.specs.Modulo.{f3}
use Rattle.algebra.specs.Vector.{product}
use Rattle.codings.proofs.Cases.{either_way}
use Rattle.codings.proofs.singles.SingleTernary.full_product.Goals as goal

pub returns : goal.returns
returns c =
    either_way c.full_product.result
    (λ d h. (
      c.in_ok-check_length.ensures,
      h.1 ∙ ap (λ v. value (product f3 c.args.n v)) (fun_ext c.from.ensures),
    ))
    (λ e h. absurd (elim h.1 [ inl z ↦ omega (arith, z, c.in_ok-check_length.ensures.some) | inr l ↦ omega (arith, l, c.in_ok-check_length.ensures.most) ]))
    c.full_product.ensures
