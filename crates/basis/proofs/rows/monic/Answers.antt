-- A digit has its inverse, which is a digit too, so the vector is scaled by it.
use Rattle.std.proofs.Common.{◌≡◌, ℕ, ◌<◌, ◌≤◌, Ok, Err, Result, ap, ◌∙◌, arith, MatchResult}
use Rattle.std.specs.Result.{result_unwrap_or}
use Rattle.algebra.specs.Field.{Digit, value, of}
use Rattle.coding.specs.Refusals.{number_of}
use Rattle.coding.specs.declared.refusals.Refusal.{Refusal}
use Rattle.basis.proofs.Leading.{inverse_is}
use Rattle.basis.proofs.rows.monic.Goals as goal

-- of a digit no inverse is refused
answered : (size digit inverse : ℕ) (r : Result ℕ Refusal) → digit < size
    → MatchResult r (λ i. (digit < size) × (i ≡ inverse)) (λ e. (number_of e ≡ 10) × (size ≤ digit)) → result_unwrap_or r 0 ≡ inverse
answered size digit inverse (Ok i) small h = h.1
answered size digit inverse (Err e) small h = absurd (omega (arith, h.1))

pub returns-clause-digits : goal.returns-clause-digits
returns-clause-digits g c small k =
    let F = g.C.Coding.field in
    let inverse : Digit F.size = F.inv (of F c.args.digit) in
    let is : c.unwrap_or.result ≡ value inverse = c.unwrap_or.ensures ∙ answered F.size c.args.digit (value inverse) c.inverse.result small c.inverse.ensures in
    c.multiple.ensures.digits (omega (arith, inverse.1, is)) k ∙ ap (λ a. F.mul a (g.C.Coding.meant c.args.vector k)) (inverse_is F c.args.digit c.unwrap_or.result is)
