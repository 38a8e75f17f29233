use Rattle.std.proofs.Common.{sym, refl, subst, inr, arith, rules}
use mathlib.Core.Path.{fun_ext}
use Rattle.algebra.specs.Modulo.{f3}
use Rattle.algebra.specs.Vector.{Long}
use Rattle.algebra.specs.Successor.{Next, Last}
use Rattle.codings.specs.TwoPlanes.{digits}
use Rattle.codings.specs.Plane.{meant_by}
use Rattle.codings.specs.TwoPlanesLemmas.{FullWords}
use Rattle.codings.proofs.Within.{Low, long_is, not_long, last_is, next_full, next_is}
use Rattle.codings.proofs.planes.PlanesTernary.next.Goals as goal

pub returns-then-v-low-ne0 : goal.returns-then-v-low-ne0
returns-then-v-low-ne0 c =
    let v : FullWords 64 c.full-v.result.v1 c.full-v.result.v2 = record { full = c.full-v.result.full; fits1 = search rules; fits2 = search rules } in
    let low : Low 64 c.args.n c.below-low.result = record { most = c.in_ok-check_length.ensures.most; fits = c.below-low.type_inv; bits = c.below-low.ensures } in
    let same = fun_ext c.full-v.ensures in
    inr (
      refl,
      c.in_ok-check_length.ensures,
      λ long. not_long low v (omega (arith, c.if-v-low-ne0.true)) (subst (Long f3 c.args.n) (sym same) long),
    )

pub returns-then-v-low-eq0 : goal.returns-then-v-low-eq0
returns-then-v-low-eq0 c =
    let v : FullWords 64 c.full-v.result.v1 c.full-v.result.v2 = record { full = c.full-v.result.full; fits1 = search rules; fits2 = search rules } in
    let low : Low 64 c.args.n c.below-low.result = record { most = c.in_ok-check_length.ensures.most; fits = c.below-low.type_inv; bits = c.below-low.ensures } in
    let same = fun_ext c.full-v.ensures in (
      c.in_ok-check_length.ensures,
      subst (Long f3 c.args.n) same (long_is low v c.if-v-low-ne0.false),
      subst (Last f3 c.args.n) same (last_is low v c.if-v-low-eq0.true),
    )

pub invariant_of-next : goal.invariant_of-next
invariant_of-next c =
    let v : FullWords 64 c.full-v.result.v1 c.full-v.result.v2 = record { full = c.full-v.result.full; fits1 = search rules; fits2 = search rules } in
    let low : Low 64 c.args.n c.below-low.result = record { most = c.in_ok-check_length.ensures.most; fits = c.below-low.type_inv; bits = c.below-low.ensures } in
    record { full = next_full low v }

pub returns : goal.returns
returns c =
    let v : FullWords 64 c.full-v.result.v1 c.full-v.result.v2 = record { full = c.full-v.result.full; fits1 = search rules; fits2 = search rules } in
    let low : Low 64 c.args.n c.below-low.result = record { most = c.in_ok-check_length.ensures.most; fits = c.below-low.type_inv; bits = c.below-low.ensures } in
    let same = fun_ext c.full-v.ensures in
    let next = next_is low v (omega (arith, c.if-v-low-eq0.false)) in
    let d = next.0 in
    let there = subst (Next f3 c.args.n (digits 64 c.full-v.result.v1 c.full-v.result.v2) d) (sym (fun_ext c.stored.ensures.digits)) next.1 in (
      c.in_ok-check_length.ensures,
      subst (Long f3 c.args.n) same (long_is low v c.if-v-low-ne0.false),
      (
        (d, subst (λ x. Next f3 c.args.n x d (meant_by c.stored.result)) same there),
        c.stored.ensures.stored,
      ),
    )
