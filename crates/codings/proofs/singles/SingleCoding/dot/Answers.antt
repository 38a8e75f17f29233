use Rattle.std.proofs.Common.{refl, ap, ◌∙◌, ap₂, lit≤}
use mathlib.Core.Path.{fun_ext}
use Rattle.algebra.specs.Field.{value}
use Rattle.algebra.specs.Modulo.{f3}
use Rattle.algebra.specs.Vector.{dot}
use Rattle.algebra.proofs.Digits.{same_digit}
use Rattle.algebra.proofs.Joined.{joined_fewer}
use Rattle.codings.specs.TwoPlanesLemmas.{digits_out}
use Rattle.codings.proofs.singles.SingleCoding.dot.Goals as goal

pub returns : goal.returns
returns c =
    c.dot.ensures
    ∙ ap value (
    ap₂ (dot f3 64) (fun_ext c.from.ensures) (fun_ext c.from-2.ensures)
    ∙ joined_fewer f3.add f3.nil f3.nil (λ x. f3.add_comm x f3.nil ∙ f3.nil-add x) 32 64 (lit≤ tt) _
    (λ k h. ap₂ f3.mul (digits_out 32 _ _ k h) (digits_out 32 _ _ k h) ∙ same_digit _ _ refl))
