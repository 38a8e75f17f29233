use Rattle.std.proofs.Common.{◌+◌, ap, ◌∙◌, add-zero, lit≤}
use mathlib.Core.Path.{fun_ext}
use Rattle.algebra.specs.Modulo.{f3}
use Rattle.algebra.specs.Vector.{differing, weight}
use Rattle.algebra.proofs.Joined.{joined_fewer}
use Rattle.codings.specs.TwoPlanesLemmas.{digits_out}
use Rattle.codings.proofs.singles.SingleCoding.weight.Goals as goal

pub returns : goal.returns
returns c =
    c.weight.ensures
    ∙ ap (weight f3 64) (fun_ext c.from.ensures)
    ∙ joined_fewer ◌+◌ 0 0 add-zero 32 64 (lit≤ tt) _ (λ k h. ap (λ d. differing d f3.nil) (digits_out 32 _ _ k h))
