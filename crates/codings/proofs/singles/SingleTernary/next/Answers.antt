use Rattle.std.proofs.Common.{ℕ, sym, subst, arith}
use mathlib.Core.Path.{fun_ext}
use Rattle.std.proofs.lemmas.Option.{MatchOption-at_some}
use Rattle.algebra.specs.Modulo.{f3}
use Rattle.algebra.specs.Vector.{Long}
use Rattle.algebra.specs.Successor.{Next}
use Rattle.algebra.proofs.Order.{long_next}
use Rattle.codings.specs.declared.planes.Planes.{Planes}
use Rattle.codings.specs.Plane.{meant_by as meant_by_planes}
use Rattle.codings.specs.Single.{meant_by}
use Rattle.codings.proofs.singles.SingleTernary.next.Goals as goal

-- the widened successor comes after the widened vector
abbrev Follows : ℕ → Planes → Planes → Type 0
Follows n x y = (d : ℕ) × Next f3 n (meant_by_planes x) d (meant_by_planes y)

pub returns-in-Some : goal.returns-in-Some
returns-in-Some c =
    let n = c.args.n in
    let e = c.in_ok-next.ensures in
    let step : Follows n c.from.result c.in-Some.next = (MatchOption-at_some _ _ c.in-Some.next c.in-Some.is e.2).0 in
    let d = step.0 in
    let range = c.in_ok-check_length.ensures in
    let fits : Long f3 32 (meant_by_planes c.in-Some.next) = λ k h. long_next f3 e.1 step.1 k (omega (arith, range.most)) in
    let here = fun_ext c.from.ensures in
    let there = sym (fun_ext (c.narrow.ensures.digits fits)) in (
      range,
      subst (Long f3 n) here e.1,
      (
        (d, subst (λ v. Next f3 n v d (meant_by c.narrow.result)) here (subst (Next f3 n _ d) there step.1)),
        c.narrow.ensures.stored,
      ),
    )
