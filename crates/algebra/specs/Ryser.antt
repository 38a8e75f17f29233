-- What permanents modulo 3 obey, for matrices of any size: Ryser's formula taken along the Gray code, in shares and step by step.
use Rattle.std.specs.Prelude.{◌≡◌, ℕ, ◌+◌, ◌*◌, ◌%◌, ◌^◌, ◌<◌, ◌≤◌, List}
use Rattle.std.specs.Int.Count.{count_trailing_zeros}
use Rattle.std.specs.List.{range_with_len}
use Rattle.algebra.specs.Space.{Each}
use Rattle.algebra.specs.Permanent.{sum_over, arrangements, permanent, often_among, EachOnce}
use Rattle.algebra.specs.Gray.{gray_code, bit, chosen, term, share, Toggles}

pub record PermanentLaws : Type 0 where
  -- each arrangement of the columns has each of them once
  pub arranged : (n : ℕ) → Each (EachOnce n) (arrangements (range_with_len 0 n))
  -- each list that has each column once is one of the arrangements, once
  pub complete : (n : ℕ) (p : List ℕ) → EachOnce n p → often_among p (arrangements (range_with_len 0 n)) ≡ 1
  -- Ryser's formula: the terms of all 2 ^ n positions add up to the permanent
  pub formula : (A : ℕ → ℕ → ℕ) (n : ℕ) → sum_over (term A n) (range_with_len 0 (2 ^ n)) % 3 ≡ permanent A n % 3
  -- the sums of the 2 ^ s shares, each taken modulo 3, add up to the sum of the whole
  pub shares : (f : ℕ → ℕ) (n s : ℕ) → s ≤ n
      → sum_over (λ k. sum_over f (share n s k) % 3) (range_with_len 0 (2 ^ s)) % 3 ≡ sum_over f (range_with_len 0 (2 ^ n)) % 3
  -- from a position to the next exactly one row enters or leaves: the one whose number is that of the trailing zeros of the new position, as a word of w bits
  pub toggled : (w n i : ℕ) → i + 1 < 2 ^ n → n ≤ w
      → (count_trailing_zeros w (i + 1) < n) × Toggles (count_trailing_zeros w (i + 1)) (gray_code i) (gray_code (i + 1))
  -- the running sum of a column: a row that enters is added to it
  pub enters : (A : ℕ → ℕ → ℕ) (n t g h c : ℕ) → t < n → Toggles t g h → bit t g ≡ 0
      → chosen A n h c % 3 ≡ (chosen A n g c % 3 + A t c) % 3
  -- and a row that leaves is subtracted, which is to add it twice
  pub leaves : (A : ℕ → ℕ → ℕ) (n t g h c : ℕ) → t < n → Toggles t g h → bit t g ≡ 1
      → chosen A n h c % 3 ≡ (chosen A n g c % 3 + 2 * A t c) % 3
