-- The positions in shares: their sums add up to the sum of the whole.
use Rattle.std.proofs.Common.{◌≡◌, ℕ, zero, suc, ◌+◌, ◌-◌, ◌*◌, ◌%◌, ◌^◌, ◌≤◌, List, [], ◌∷◌, sym, refl, ap, ◌∙◌, ap₂, add-zero, add_assoc, suc-add, zero-add, zero-mul, arith}
use Rattle.std.specs.List.{range_with_len}
use Rattle.std.proofs.lemmas.Nat.{pow-add}
use Rattle.algebra.specs.Permanent.{sum_over}
use Rattle.algebra.specs.Gray.{share}

module _ (f : ℕ → ℕ) where
  -- one run of positions after another
  sum_run : (a m k : ℕ) → sum_over f (range_with_len a (m + k)) ≡ sum_over f (range_with_len a m) + sum_over f (range_with_len (a + m) k)
  sum_run a zero k = sym (zero-add _ ∙ ap₂ (λ x y. sum_over f (range_with_len x y)) (add-zero a) (sym (zero-add k)))
  sum_run a (suc m) k =
      ap (λ z. sum_over f (range_with_len a z)) (suc-add m k)
      ∙ ap (λ z. f a + z) (sum_run (a + 1) m k ∙ ap (λ x. sum_over f (range_with_len (a + 1) m) + sum_over f (range_with_len x k)) next)
      ∙ sym (add_assoc (f a) (sum_over f (range_with_len (a + 1) m)) (sum_over f (range_with_len (a + suc m) k)))
    where
      next : a + 1 + m ≡ a + suc m
      next = omega arith

  -- m runs of b positions each, from run k on
  sum_runs : (b k m : ℕ) → sum_over (λ j. sum_over f (range_with_len (j * b) b)) (range_with_len k m) ≡ sum_over f (range_with_len (k * b) (m * b))
  sum_runs b k zero = ap (λ z. sum_over f (range_with_len (k * b) z)) (sym (zero-mul b))
  sum_runs b k (suc m) =
      ap (λ z. sum_over f (range_with_len (k * b) b) + z) (sum_runs b (k + 1) m ∙ ap (λ x. sum_over f (range_with_len x (m * b))) next)
      ∙ sym (sum_run (k * b) b (m * b))
      ∙ ap (λ z. sum_over f (range_with_len (k * b) z)) more
    where
      next : (k + 1) * b ≡ k * b + b
      next = omega arith

      more : b + m * b ≡ suc m * b
      more = omega arith

  sum_shares : (n s : ℕ) → s ≤ n → sum_over (λ k. sum_over f (share n s k)) (range_with_len 0 (2 ^ s)) ≡ sum_over f (range_with_len 0 (2 ^ n))
  sum_shares n s h =
      sum_runs (2 ^ (n - s)) 0 (2 ^ s)
      ∙ ap₂ (λ x y. sum_over f (range_with_len x y)) (zero-mul (2 ^ (n - s))) (sym (pow-add 2 s (n - s)) ∙ ap (λ k. 2 ^ k) whole)
    where
      whole : s + (n - s) ≡ n
      whole = omega arith

sum_mod : (f : ℕ → ℕ) (ks : List ℕ) → sum_over (λ k. f k % 3) ks % 3 ≡ sum_over f ks % 3
sum_mod f [] = refl
sum_mod f (k ∷ ks) = let e : sum_over (λ k. f k % 3) ks % 3 ≡ sum_over f ks % 3 = sum_mod f ks in omega arith

pub shares : (f : ℕ → ℕ) (n s : ℕ) → s ≤ n → sum_over (λ k. sum_over f (share n s k) % 3) (range_with_len 0 (2 ^ s)) % 3 ≡ sum_over f (range_with_len 0 (2 ^ n)) % 3
shares f n s h = sum_mod (λ k. sum_over f (share n s k)) (range_with_len 0 (2 ^ s)) ∙ ap (λ z. z % 3) (sum_shares f n s h)
