use Rattle.std.proofs.Common.{◌+◌, ◌%◌, sym, ap, ◌∙◌, arith, rules}
use Rattle.codings.proofs.Within.{Low}
use Rattle.codings.proofs.SignPlanes.{product_has_zero, product_no_zero}
use Rattle.codings.proofs.signs.SignsTernary.full_product.Goals as goal

pub returns-then-self-low-ne0 : goal.returns-then-self-low-ne0
returns-then-self-low-ne0 c =
    let x = c.args.self in
    let low = c.below-low in
    let below : Low 64 c.args.n low.result = record { most = c.in_ok-check_length.ensures.most; fits = low.type_inv; bits = low.ensures } in (
      c.in_ok-check_length.ensures,
      sym (product_has_zero 64 x.magnitude x.sign (search rules) (search rules) below (omega (arith, c.if-self-low-ne0.true))),
    )

pub returns : goal.returns
returns c =
    let x = c.args.self in
    let low = c.below-low in
    let below : Low 64 c.args.n low.result = record { most = c.in_ok-check_length.ensures.most; fits = low.type_inv; bits = low.ensures } in (
      c.in_ok-check_length.ensures,
      ap (λ x. 1 + x % 2) c.count-twos.ensures.value
          ∙ sym (product_no_zero 64 x.magnitude x.sign (search rules) (search rules) below c.if-self-low-ne0.false),
    )
