-- The sum of the chosen rows at a column, mended where one row enters or leaves.
use Rattle.std.proofs.Common.{◌≡◌, ℕ, zero, suc, ◌+◌, ◌*◌, ◌%◌, ◌<◌, ◌≤◌, ◌≢◌, refl, ap, ◌∙◌, subst, ap₂, arith}
use native.Mathlib.Decide.{ℕ_discrete}
use Rattle.std.specs.List.{range_with_len}
use Rattle.algebra.specs.Permanent.{sum_over}
use Rattle.algebra.specs.Gray.{bit, chosen, Toggles}

-- two choices x and y of the numbers a that differ at t alone
module _ (x y a : ℕ → ℕ) (t : ℕ) (others : (j : ℕ) → j ≢ t → y j ≡ x j) where
  past : (k m : ℕ) → t < k → sum_over (λ j. y j * a j) (range_with_len k m) ≡ sum_over (λ j. x j * a j) (range_with_len k m)
  past k zero h = refl
  past k (suc m) h = ap₂ (λ p q. p * a k + q) (others k (omega arith)) (past (k + 1) m (omega arith))

  sums_differ : (k m : ℕ) → k ≤ t → t < k + m → sum_over (λ j. y j * a j) (range_with_len k m) + x t * a t ≡ sum_over (λ j. x j * a j) (range_with_len k m) + y t * a t
  sums_differ k zero h l = absurd (omega arith)
  sums_differ k (suc m) h l = elim (ℕ_discrete k t) [
    | yes e ↦ (
        let r : S ≡ R = past (k + 1) m (omega arith) in
        subst (λ u. y k * a k + S + x u * a u ≡ x k * a k + R + y u * a u) e (omega arith))
    | no d ↦ (
        let r : S + x t * a t ≡ R + y t * a t = sums_differ (k + 1) m (omega arith) (omega arith) in
        let q : y k * a k ≡ x k * a k = ap (λ p. p * a k) (others k d) in
        omega arith)
  ]
    where
      R : ℕ
      R = sum_over (λ j. x j * a j) (range_with_len (k + 1) m)

      S : ℕ
      S = sum_over (λ j. y j * a j) (range_with_len (k + 1) m)

module _ (A : ℕ → ℕ → ℕ) (n t g h c : ℕ) (within : t < n) (one : Toggles t g h) where
  mended : chosen A n h c + bit t g * A t c ≡ chosen A n g c + bit t h * A t c
  mended = sums_differ (λ j. bit j g) (λ j. bit j h) (λ j. A j c) t one.others 0 n (omega arith) (omega arith)

  -- mended, with the row's two bits known
  mended_by : (p q : ℕ) → bit t g ≡ p → bit t h ≡ q → chosen A n h c + p * A t c ≡ chosen A n g c + q * A t c
  mended_by p q e f = subst (λ b. chosen A n h c + b * A t c ≡ chosen A n g c + q * A t c) e (mended ∙ ap (λ b. chosen A n g c + b * A t c) f)

  pub enters : bit t g ≡ 0 → chosen A n h c % 3 ≡ (chosen A n g c % 3 + A t c) % 3
  enters e = plus (chosen A n h c) (chosen A n g c) (A t c) (mended_by 0 1 e (omega (arith, one.flips)))
    where
      plus : (x y a : ℕ) → x + 0 * a ≡ y + 1 * a → x % 3 ≡ (y % 3 + a) % 3
      plus x y a q = omega arith

  pub leaves : bit t g ≡ 1 → chosen A n h c % 3 ≡ (chosen A n g c % 3 + 2 * A t c) % 3
  leaves e = minus (chosen A n h c) (chosen A n g c) (A t c) (mended_by 1 0 e (omega (arith, one.flips)))
    where
      minus : (x y a : ℕ) → x + 1 * a ≡ y + 0 * a → x % 3 ≡ (y % 3 + 2 * a) % 3
      minus x y a q = omega arith
