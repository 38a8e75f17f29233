-- Each vector adds itself to those that have the length, or is the one that has not.
use Rattle.std.proofs.Common.{refl, subst}
use Rattle.std.specs.List.{AllByRecursion}
use Rattle.std.proofs.lemmas.List.Elements.{at_read}
use Rattle.std.proofs.ByRecursion.{All-more}
use Rattle.std.proofs.lemmas.List.{take_all}
use Rattle.std.proofs.lemmas.Bool.{false≢true}
use Rattle.algebra.specs.Vector.{Long}
use Rattle.coding.proofs.lengths.all_long.Goals as goal

pub returns-then-not-is_long : goal.returns-then-not-is_long
returns-then-not-is_long g c = (
  c.loop-vector.vector-index,
  c.loop-vector-test.true,
  at_read c.args.vectors.now (λ x. Long g.C.Coding.field c.args.n (g.C.Coding.meant x) → ⊥) c.loop-vector.vector-index c.vector-item.result c.loop-vector-test.true c.vector-item.is
      (λ long. false≢true (c.if-not-is_long.ensures.1 long)),
)

pub loop-vector-preserved : goal.loop-vector-preserved
loop-vector-preserved g c =
    let P = λ (x : g.row.C.Denot). Long g.C.Coding.field c.args.n (g.C.Coding.meant x) in
    All-more P c.args.vectors.now c.loop-vector.vector-index c.vector-item.result c.loop-vector-test.true c.loop-vector.invariant
    (subst P c.vector-item.is (c.if-not-is_long.ensures.0 refl))

pub returns : goal.returns
returns g c =
    subst (AllByRecursion (λ x. Long g.C.Coding.field c.args.n (g.C.Coding.meant x))) (take_all c.loop-vector.vector-index c.args.vectors.now c.loop-vector-test.false) c.loop-vector.invariant
