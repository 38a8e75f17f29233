use Rattle.std.proofs.Common.{refl, inr, arith, rules}
use Rattle.codings.proofs.Within.{Low}
use Rattle.codings.proofs.SignPlanes.{long_is, not_long, last_is, next_is}
use Rattle.codings.proofs.signs.SignsTernary.next.Goals as goal

pub returns-then-self-low-ne0 : goal.returns-then-self-low-ne0
returns-then-self-low-ne0 c =
    let x = c.args.self in
    let low = c.below-low in
    let below : Low 64 c.args.n low.result = record { most = c.in_ok-check_length.ensures.most; fits = low.type_inv; bits = low.ensures } in
    inr (
      refl,
      c.in_ok-check_length.ensures,
      not_long 64 x.magnitude x.sign (search rules) (search rules) below (omega (arith, c.if-self-low-ne0.true)),
    )

pub returns-then-twos-low-eq0 : goal.returns-then-twos-low-eq0
returns-then-twos-low-eq0 c =
    let x = c.args.self in
    let low = c.below-low in
    let below : Low 64 c.args.n low.result = record { most = c.in_ok-check_length.ensures.most; fits = low.type_inv; bits = low.ensures } in (
      c.in_ok-check_length.ensures,
      long_is 64 x.magnitude x.sign (search rules) (search rules) below c.if-self-low-ne0.false,
      last_is 64 x.magnitude x.sign (search rules) (search rules) below c.if-twos-low-eq0.true,
    )

pub returns : goal.returns
returns c =
    let x = c.args.self in
    let low = c.below-low in
    let below : Low 64 c.args.n low.result = record { most = c.in_ok-check_length.ensures.most; fits = low.type_inv; bits = low.ensures } in (
      c.in_ok-check_length.ensures,
      long_is 64 x.magnitude x.sign (search rules) (search rules) below c.if-self-low-ne0.false,
      (
        next_is 64 x.magnitude x.sign (search rules) (search rules) below (omega (arith, c.if-twos-low-eq0.false)),
        tt,
      ),
    )
