-- Any value line goes on from the digits read so far.
use Rattle.std.proofs.Common.{◌≡◌, subst, arith}
use Rattle.std.proofs.lemmas.List.{take_rest}
use Rattle.std.proofs.lemmas.Bool.{false≢true}
use Rattle.sheet.proofs.Digits.{Spelt, spelt_none, spelt_more, digit_due, last_due, begins}
use Rattle.sheet.proofs.sheets.begins_with_values.Goals as goal

pub loop-init : goal.loop-init
loop-init c = spelt_none c.args.text.now

pub returns-then-not-begins_with_digit : goal.returns-then-not-begins_with_digit
returns-then-not-begins_with_digit c = (
  λ e. absurd (false≢true e),
  λ b. c.if-not-begins_with_digit.ensures.1 (digit_due c.args.text.now c.loop.counter c.loop.rest.now c.args.names c.loop.invariant c.loop-test.true b),
)

pub loop-preserved : goal.loop-preserved
loop-preserved c =
    rw (take_rest c.loop.rest.now 2)
    (spelt_more c.args.text.now c.loop.counter c.loop.rest.now c.loop.invariant (c.begins_with_digit.ensures.0 c.if-not-begins_with_digit.false))

-- the loop ends at the last digit
at_last : (c : goal.After-begins_with_digit-2) → Spelt c.args.text.now c.args.names c.loop.rest.now
at_last c =
    let e : c.loop.counter ≡ c.args.names = omega (arith, c.loop.auto.counter-end, c.requires) in
    subst (λ n. Spelt c.args.text.now n c.loop.rest.now) e c.loop.invariant

pub returns : goal.returns
returns c = (
  λ e. begins c.args.text.now c.loop.rest.now c.args.names (at_last c) (c.begins_with_digit-2.ensures.0 e),
  λ b. c.begins_with_digit-2.ensures.1 (last_due c.args.text.now c.loop.rest.now c.args.names (at_last c) b),
)
