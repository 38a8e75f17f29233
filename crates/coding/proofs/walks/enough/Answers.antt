-- Divided by 3 once for each place, the rows leave 0 exactly where they are fewer than 3 ^ n.
use Rattle.std.proofs.Common.{◌≡◌, ℕ, ◌/◌, ◌^◌, ◌<◌, ◌≤◌, ltb, Decides, sym, ap, ◌∙◌, subst, one-mul, pow-suc, le-div_iff_mul-le, add-one, arith, lit<}
use native.Mathlib.Nat.{div-div-eq-div-mul, one-le-pow}
use Rattle.std.proofs.lemmas.Bool.{ltb-true, lt-ltb}
use Rattle.coding.proofs.walks.enough.Goals as goal

quotient_some : (m d : ℕ) → 0 < d → Decides (ltb 0 (m / d)) (d ≤ m)
quotient_some m d h = (
  λ t. rw one-mul at ((le-div_iff_mul-le {x = 1} h).0 (ltb-true 0 (m / d) t)),
  λ l. lt-ltb 0 (m / d) ((le-div_iff_mul-le {x = 1} h).1 (rw one-mul l)),
)

pub loop-preserved : goal.loop-preserved
loop-preserved c =
    ap (λ (m : ℕ). m / 3) c.loop.invariant
    ∙ div-div-eq-div-mul c.args.rows (3 ^ c.loop.counter) 3
    ∙ ap (λ (m : ℕ). c.args.rows / m) (rw (add-one, pow-suc))

pub returns : goal.returns
returns c =
    let all : c.args.n ≡ c.loop.counter = omega arith in
    let is : c.args.rows / 3 ^ c.args.n ≡ c.loop.left = ap (λ (k : ℕ). c.args.rows / 3 ^ k) all ∙ sym c.loop.invariant in
    subst (λ (m : ℕ). Decides (ltb 0 m) (3 ^ c.args.n ≤ c.args.rows)) is (quotient_some c.args.rows (3 ^ c.args.n) (one-le-pow c.args.n 3 (lit< tt)))
