use Rattle.std.proofs.Common.{◌+◌, ◌∙◌, ap₂, add-zero, lit≤}
use mathlib.Core.Path.{fun_ext}
use Rattle.algebra.specs.Modulo.{f3}
use Rattle.algebra.specs.Vector.{differing, distance}
use Rattle.algebra.proofs.Joined.{joined_fewer}
use Rattle.codings.specs.TwoPlanesLemmas.{digits_out}
use Rattle.codings.proofs.singles.SingleCoding.distance.Goals as goal

pub returns : goal.returns
returns c =
    c.distance.ensures
    ∙ ap₂ (distance f3 64) (fun_ext c.from.ensures) (fun_ext c.from-2.ensures)
    ∙ joined_fewer ◌+◌ 0 0 add-zero 32 64 (lit≤ tt) _ (λ k h. ap₂ differing (digits_out 32 _ _ k h) (digits_out 32 _ _ k h))
