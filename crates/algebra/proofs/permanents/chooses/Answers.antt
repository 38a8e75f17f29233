-- The lowest bit of the shifted code is the bit, and from place 64 on a word has no bit set.
use Rattle.std.proofs.Common.{◌≡◌, ℕ, ◌/◌, ◌%◌, ◌^◌, ◌<◌, ◌≤◌, sym, ap, ◌∙◌, lt_of_lt_of_le, arith, pow_mono, rules}
use native.Mathlib.Nat.{div-eq_of_lt}
use lib.Bits.{bit_and}
use Rattle.std.proofs.lemmas.Nat.{and_mask}
use Rattle.std.proofs.lemmas.Bool.{eqb-true, eq-eqb, ltb-true}
use Rattle.algebra.specs.Gray.{bit}
use Rattle.algebra.proofs.permanents.chooses.Goals as goal

pub returns-then-j-lt64 : goal.returns-then-j-lt64
returns-then-j-lt64 c =
    let lowest : ℕ = bit_and (c.args.g / 2 ^ c.args.j) 1 in
    let is : lowest ≡ bit c.args.j c.args.g = and_mask (c.args.g / 2 ^ c.args.j) 1 in
    (λ t. sym is ∙ eqb-true lowest 1 t, λ e. eq-eqb lowest 1 (is ∙ e))

pub returns-else-j-lt64 : goal.returns-else-j-lt64
returns-else-j-lt64 c =
    let beyond : 64 ≤ c.args.j = c.if-j-lt64.false in
    let word : c.args.g < 2 ^ 64 = search rules in
    let none : bit c.args.j c.args.g ≡ 0 = ap (λ (q : ℕ). q % 2) (div-eq_of_lt (lt_of_lt_of_le word (pow_mono beyond))) in
    (λ t. absurd (omega (arith, ltb-true c.args.j 64 t)), λ e. absurd (omega arith))
