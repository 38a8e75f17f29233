-- The lowest set bit of a word: found by `trailing_zeros`, and turned over by subtracting one.
use Rattle.std.proofs.Common.{◌≡◌, ℕ, zero, suc, ◌-◌, ◌/◌, ◌%◌, ◌^◌, ◌<◌, true, false, eqb, sym, refl, ap, ◌∙◌, subst, suc-le-suc, le_of_suc-le-suc, not-suc-le-zero, mod-lt, zero-lt-suc, pow-suc, arith}
use lib.Count.{count_trailing_zeros, under}
use Rattle.std.proofs.lemmas.Bool.{eqb-true, eqb-false, eq-eqb, both_ways}
use Rattle.words.specs.Bit.{bit}
use Rattle.words.proofs.Operations.{two_pos}
use Rattle.words.proofs.Masks.{bit_zero}

-- t is the lowest place of a set bit in a word a of w bits
pub record Lowest (w a t : ℕ) : Type 0 where
  pub within : t < w
  pub here : bit t a ≡ true
  pub below : (k : ℕ) → k < t → bit k a ≡ false

pub trailing_bits : (w a : ℕ) → a < 2 ^ w → 0 < a → Lowest w a (count_trailing_zeros w a)
unfolding bit count_trailing_zeros
trailing_bits zero a h s = let z : ⊥ = omega arith in absurd z
trailing_bits (suc w) a h s =
    let p = pow-suc 2 w in
    by_lowest (λ r. trailing_bits w (a / 2) (omega (arith, p)) r) (a % 2) refl
  where
    unset : (k : ℕ) → a % 2 ≡ 0 → k < suc (count_trailing_zeros w (a / 2)) → Lowest w (a / 2) (count_trailing_zeros w (a / 2)) → bit k a ≡ false
    unset zero e l i = ap (λ (x : ℕ). eqb x 1) e
    unset (suc k) e l i = i.below k (le_of_suc-le-suc l)

    by_lowest : (0 < a / 2 → Lowest w (a / 2) (count_trailing_zeros w (a / 2))) → (d : ℕ) → a % 2 ≡ d → Lowest (suc w) a (under (a % 2) (count_trailing_zeros w (a / 2)))
    by_lowest rest zero e =
        let i = rest (omega (arith, s, e)) in
        subst (λ d. Lowest (suc w) a (under d (count_trailing_zeros w (a / 2)))) (sym e) (record {
          within = suc-le-suc i.within;
          here = i.here;
          below = λ k l. unset k e l i;
        })
    by_lowest rest (suc d) e =
        subst (λ d. Lowest (suc w) a (under d (count_trailing_zeros w (a / 2)))) (sym e) (record {
          within = zero-lt-suc w;
          here = eq-eqb (a % 2) 1 (omega (arith, e, mod-lt a two_pos));
          below = λ k l. absurd (not-suc-le-zero l);
        })

-- `a - 1` under the lowest set bit t of a: set below t, not set at t, and as it was above
pub record Less (a t : ℕ) : Type 0 where
  pub below : (k : ℕ) → k < t → bit k (a - 1) ≡ true
  pub here : bit t (a - 1) ≡ false
  pub above : (k : ℕ) → t < k → bit k (a - 1) ≡ bit k a

some_by_bit : (k a : ℕ) → bit k a ≡ true → 0 < a
some_by_bit k zero e = absurd (both_ways (bit k 0) (bit_zero k) e)
some_by_bit k (suc a) e = zero-lt-suc a

pub less_bits : (a t : ℕ) → bit t a ≡ true → ((k : ℕ) → k < t → bit k a ≡ false) → Less a t
unfolding bit
less_bits a zero h f =
    let o = eqb-true (a % 2) 1 h in
    let half : (a - 1) / 2 ≡ a / 2 = omega (arith, o) in
    let low : (a - 1) % 2 ≡ 0 = omega (arith, o) in
    record {
      below = λ k l. absurd (not-suc-le-zero l);
      here = ap (λ (x : ℕ). eqb x 1) low;
      above = λ k l. up half k l;
    }
  where
    up : (a - 1) / 2 ≡ a / 2 → (k : ℕ) → 0 < k → bit k (a - 1) ≡ bit k a
    up half zero l = absurd (not-suc-le-zero l)
    up half (suc k) l = ap (bit k) half
less_bits a (suc t) h f =
    let o = eqb-false (a % 2) 1 (f 0 (zero-lt-suc t)) in
    let s = some_by_bit t (a / 2) h in
    let half : (a - 1) / 2 ≡ a / 2 - 1 = omega (arith, o, s) in
    let low : (a - 1) % 2 ≡ 1 = omega (arith, o, s) in
    let i = less_bits (a / 2) t h (λ k l. f (suc k) (suc-le-suc l)) in
    record {
      below = λ k l. under_it half low i k l;
      here = ap (bit t) half ∙ i.here;
      above = λ k l. over half i k l;
    }
  where
    under_it : (a - 1) / 2 ≡ a / 2 - 1 → (a - 1) % 2 ≡ 1 → Less (a / 2) t → (k : ℕ) → k < suc t → bit k (a - 1) ≡ true
    under_it half low i zero l = ap (λ (x : ℕ). eqb x 1) low
    under_it half low i (suc k) l = ap (bit k) half ∙ i.below k (le_of_suc-le-suc l)

    over : (a - 1) / 2 ≡ a / 2 - 1 → Less (a / 2) t → (k : ℕ) → suc t < k → bit k (a - 1) ≡ bit k a
    over half i zero l = absurd (not-suc-le-zero l)
    over half i (suc k) l = ap (bit k) half ∙ i.above k (le_of_suc-le-suc l)
