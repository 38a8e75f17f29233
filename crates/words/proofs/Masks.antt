-- The bits of words that hold no other: none set, one set, all set below a place; and the bits that a mask leaves.
use Rattle.std.proofs.Common.{◌≡◌, ℕ, zero, suc, ◌-◌, ◌*◌, ◌/◌, ◌%◌, ◌^◌, ◌<◌, ◌≤◌, true, false, eqb, ltb, sym, refl, ap, ◌∙◌, inl, inr, not-suc-le-zero, pow-suc, arith, pow_pos}
use lib.Dec.{eqb-suc-zero, eqb-zero-suc, eqb-suc-suc}
use lib.Arith.{lt-one}
use lib.Bits.{and_mask}
use Rattle.std.proofs.lemmas.Nat.{one_shl}
use Rattle.std.proofs.lemmas.Bool.{lt-ltb, le-ltb, cases_lt, eqb-false}
use Rattle.words.specs.Bit.{bit}
use Rattle.words.proofs.Operations.{bit_and_lem}

pub bit_zero : (k : ℕ) → bit k 0 ≡ false
unfolding bit
bit_zero zero = refl
bit_zero (suc k) = bit_zero k

-- the word of w set bits
pub bit_ones : (w k : ℕ) → k < w → bit k (2 ^ w - 1) ≡ true
unfolding bit
bit_ones zero k h = absurd (not-suc-le-zero h)
bit_ones (suc w) zero h =
    let p = pow-suc 2 w in let q = pow_pos w in
    let e : (2 ^ suc w - 1) % 2 ≡ 1 = omega (arith, p, q) in
    ap (λ (x : ℕ). eqb x 1) e
bit_ones (suc w) (suc k) h =
    let p = pow-suc 2 w in let q = pow_pos w in
    let e : (2 ^ suc w - 1) / 2 ≡ 2 ^ w - 1 = omega (arith, p, q) in
    ap (bit k) e ∙ bit_ones w k (omega arith)

-- no bit at or beyond a number's length
pub bit_high : (w k a : ℕ) → a < 2 ^ w → w ≤ k → bit k a ≡ false
unfolding bit
bit_high zero k a h l = ap (bit k) (lt-one h) ∙ bit_zero k
bit_high (suc w) zero a h l = absurd (not-suc-le-zero l)
bit_high (suc w) (suc k) a h l = let p = pow-suc 2 w in bit_high w k (a / 2) (omega (arith, p)) (omega arith)

-- the word whose set bits are the places below n
pub bit_below : (n k : ℕ) → bit k (2 ^ n - 1) ≡ ltb k n
bit_below n k = elim (cases_lt k n) [
  | inl h ↦ bit_ones n k h ∙ sym (lt-ltb k n h)
  | inr h ↦ (let q = pow_pos n in bit_high n k (2 ^ n - 1) (omega (arith, q)) h ∙ sym (le-ltb k n h))
]

-- what is left of a number modulo 2 ^ n keeps its bits below n
pub bit_mod : (n k a : ℕ) → k < n → bit k (a % 2 ^ n) ≡ bit k a
bit_mod n k a h = ap (bit k) (sym (and_mask a n)) ∙ (let b = bit_and_lem k a (2 ^ n - 1) in let o = bit_ones n k h in grind arith)

bit_pow : (p k : ℕ) → bit k (2 ^ p) ≡ eqb k p
unfolding bit
bit_pow zero zero = refl
bit_pow zero (suc k) = bit_zero k ∙ sym (eqb-suc-zero k)
bit_pow (suc p) zero =
    let q = pow-suc 2 p in
    let e : 2 ^ suc p % 2 ≡ 0 = omega (arith, q) in
    ap (λ (x : ℕ). eqb x 1) e ∙ sym (eqb-zero-suc p)
bit_pow (suc p) (suc k) =
    let q = pow-suc 2 p in
    let e : 2 ^ suc p / 2 ≡ 2 ^ p = omega (arith, q) in
    ap (bit k) e ∙ bit_pow p k ∙ sym (eqb-suc-suc k p)

-- `1 << p` at a word of w bits
pub bit_single : (w p k : ℕ) → p < w → bit k ((1 * 2 ^ p) % 2 ^ w) ≡ eqb k p
bit_single w p k h = ap (bit k) (one_shl p w h) ∙ bit_pow p k

-- a number with no bit from place n on is below 2 ^ n
pub below_by_bits : (w n a : ℕ) → a < 2 ^ w → n ≤ w → ((k : ℕ) → k < w → n ≤ k → bit k a ≡ false) → a < 2 ^ n
unfolding bit
below_by_bits zero zero a h l f = h
below_by_bits zero (suc n) a h l f = absurd (not-suc-le-zero l)
below_by_bits (suc w) zero a h l f =
    let p = pow-suc 2 w in
    let i = below_by_bits w 0 (a / 2) (omega (arith, p)) (omega arith) (λ k m o. f (suc k) (omega arith) (omega arith)) in
    let e = eqb-false (a % 2) 1 (f 0 (omega arith) (omega arith)) in
    omega (arith, i, e)
below_by_bits (suc w) (suc n) a h l f =
    let p = pow-suc 2 w in let q = pow-suc 2 n in
    let i = below_by_bits w n (a / 2) (omega (arith, p)) (omega arith) (λ k m o. f (suc k) (omega arith) (omega arith)) in
    omega (arith, i, q)
