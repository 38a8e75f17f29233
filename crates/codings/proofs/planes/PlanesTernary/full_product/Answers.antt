use Rattle.std.proofs.Common.{◌+◌, ◌%◌, sym, ap, ◌∙◌, arith, rules}
use mathlib.Core.Path.{fun_ext}
use Rattle.algebra.specs.Field.{value}
use Rattle.algebra.specs.Modulo.{f3}
use Rattle.algebra.specs.Vector.{product}
use Rattle.codings.specs.TwoPlanesLemmas.{FullWords}
use Rattle.codings.proofs.Within.{Low, product_has_zero, product_no_zero}
use Rattle.codings.proofs.planes.PlanesTernary.full_product.Goals as goal

pub returns-then-v-low-ne0 : goal.returns-then-v-low-ne0
returns-then-v-low-ne0 c =
    let v : FullWords 64 c.full-v.result.v1 c.full-v.result.v2 = record { full = c.full-v.result.full; fits1 = search rules; fits2 = search rules } in
    let low : Low 64 c.args.n c.below-low.result = record { most = c.in_ok-check_length.ensures.most; fits = c.below-low.type_inv; bits = c.below-low.ensures } in (
      c.in_ok-check_length.ensures,
      sym (product_has_zero low v (omega (arith, c.if-v-low-ne0.true)))
          ∙ ap (λ x. value (product f3 c.args.n x)) (fun_ext c.full-v.ensures),
    )

pub returns : goal.returns
returns c =
    let v : FullWords 64 c.full-v.result.v1 c.full-v.result.v2 = record { full = c.full-v.result.full; fits1 = search rules; fits2 = search rules } in
    let low : Low 64 c.args.n c.below-low.result = record { most = c.in_ok-check_length.ensures.most; fits = c.below-low.type_inv; bits = c.below-low.ensures } in (
      c.in_ok-check_length.ensures,
      ap (λ x. 1 + x % 2) c.count-twos.ensures.value
          ∙ sym (product_no_zero low v c.if-v-low-ne0.false)
          ∙ ap (λ x. value (product f3 c.args.n x)) (fun_ext c.full-v.ensures),
    )
