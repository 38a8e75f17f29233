use Rattle.std.proofs.Common.{◌∙◌, ap₂}
use Rattle.algebra.specs.Field.{minus}
use Rattle.algebra.specs.Modulo.{f3}
use Rattle.codings.proofs.OneWord.{shared_sum_word, shared_difference_word}
use Rattle.codings.proofs.singles.SingleCoding.sum_and_difference.Goals as goal

pub invariant_of-sum : goal.invariant_of-sum
invariant_of-sum c =
    let sum = shared_sum_word _ _ c.full-v.result.full c.full-w.result.full _ _ c.swapped.ensures c.swapped-2.ensures in
    record { full = sum.full }

pub invariant_of-difference : goal.invariant_of-difference
invariant_of-difference c =
    let difference = shared_difference_word _ _ c.full-v.result.full c.full-w.result.full _ _ c.swapped.ensures c.swapped-2.ensures _ c.swapped-3.ensures in
    record { full = difference.full }

pub returns-clause-sums : goal.returns-clause-sums
returns-clause-sums c =
    let sum = shared_sum_word _ _ c.full-v.result.full c.full-w.result.full _ _ c.swapped.ensures c.swapped-2.ensures in
    λ k. c.stored.ensures.digits k ∙ sum.meaning k ∙ ap₂ f3.add (c.full-v.ensures k) (c.full-w.ensures k)

pub returns-clause-differences : goal.returns-clause-differences
returns-clause-differences c =
    let difference = shared_difference_word _ _ c.full-v.result.full c.full-w.result.full _ _ c.swapped.ensures c.swapped-2.ensures _ c.swapped-3.ensures in
    λ k. c.stored-2.ensures.digits k ∙ difference.meaning k ∙ ap₂ (minus f3) (c.full-v.ensures k) (c.full-w.ensures k)
