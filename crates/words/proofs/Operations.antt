-- The bit at a place of each operation on words: and, or, exclusive or, complement and the shift to the right.
use Rattle.std.proofs.Common.{◌≡◌, ℕ, zero, suc, ◌-◌, ◌/◌, ◌%◌, ◌^◌, ◌<◌, Bool, true, false, not, ◌&&◌, ◌||◌, eqb, sym, refl, ap, ◌∙◌, le_of_suc-le-suc, not-suc-le-zero, mod-lt, zero-lt-suc, pow-suc, div-one, one-add, arith, shr-shr}
use lib.Bits.{bit_and, bit_or, bit_xor, and_shr, or_shr, xor_shr, and_mod, or_mod, xor_mod, and_mask}
use Rattle.words.specs.Bit.{bit, differs}

pub two_pos : zero < 2
two_pos = zero-lt-suc 1

pub no_bit {ℓ} : {A : Type ℓ} {x : ℕ} → suc (suc x) < 2 → A
no_bit h = absurd (not-suc-le-zero (le_of_suc-le-suc (le_of_suc-le-suc h)))

-- an operation that commutes with the shift works bit by bit, as it does on the numbers 0 and 1
module _ (o : ℕ → ℕ → ℕ) (p : Bool → Bool → Bool)
    (neither : eqb (o 0 0) 1 ≡ p false false) (right : eqb (o 0 1) 1 ≡ p false true)
    (left : eqb (o 1 0) 1 ≡ p true false) (both : eqb (o 1 1) 1 ≡ p true true)
    (shr : (a b k : ℕ) → o a b / 2 ^ k ≡ o (a / 2 ^ k) (b / 2 ^ k))
    (rem : (a b k : ℕ) → o a b % 2 ^ k ≡ o (a % 2 ^ k) (b % 2 ^ k)) where
  lowest : (x y : ℕ) → x < 2 → y < 2 → eqb (o x y) 1 ≡ p (eqb x 1) (eqb y 1)
  lowest zero zero hx hy = neither
  lowest zero (suc zero) hx hy = right
  lowest (suc zero) zero hx hy = left
  lowest (suc zero) (suc zero) hx hy = both
  lowest zero (suc (suc y)) hx hy = no_bit hy
  lowest (suc zero) (suc (suc y)) hx hy = no_bit hy
  lowest (suc (suc x)) y hx hy = no_bit hx

  bit_by_bit : (k a b : ℕ) → bit k (o a b) ≡ p (bit k a) (bit k b)
  unfolding bit
  bit_by_bit zero a b = ap (λ (x : ℕ). eqb x 1) (rem a b 1) ∙ lowest (a % 2) (b % 2) (mod-lt a two_pos) (mod-lt b two_pos)
  bit_by_bit (suc k) a b = ap (bit k) (shr a b 1) ∙ bit_by_bit k (a / 2) (b / 2)

pub bit_and_lem : (k a b : ℕ) → bit k (bit_and a b) ≡ (bit k a && bit k b)
bit_and_lem = bit_by_bit bit_and ◌&&◌ refl refl refl refl and_shr and_mod

pub bit_or_lem : (k a b : ℕ) → bit k (bit_or a b) ≡ (bit k a || bit k b)
bit_or_lem = bit_by_bit bit_or ◌||◌ refl refl refl refl or_shr or_mod

pub bit_xor_lem : (k a b : ℕ) → bit k (bit_xor a b) ≡ differs (bit k a) (bit k b)
bit_xor_lem = bit_by_bit bit_xor differs refl refl refl refl xor_shr xor_mod

lowest_not : (x : ℕ) → x < 2 → eqb (1 - x) 1 ≡ not (eqb x 1)
lowest_not zero h = refl
lowest_not (suc zero) h = refl
lowest_not (suc (suc x)) h = no_bit h

-- `!a` at a word of w bits
pub bit_not : (w k a : ℕ) → a < 2 ^ w → k < w → bit k ((2 ^ w - 1) - a) ≡ not (bit k a)
unfolding bit
bit_not zero k a h l = absurd (not-suc-le-zero l)
bit_not (suc w) zero a h l =
    let p = pow-suc 2 w in
    let e : ((2 ^ suc w - 1) - a) % 2 ≡ 1 - a % 2 = omega (arith, p) in
    ap (λ (x : ℕ). eqb x 1) e ∙ lowest_not (a % 2) (mod-lt a two_pos)
bit_not (suc w) (suc k) a h l =
    let p = pow-suc 2 w in
    let e : ((2 ^ suc w - 1) - a) / 2 ≡ (2 ^ w - 1) - a / 2 = omega (arith, p) in
    ap (bit k) e ∙ bit_not w k (a / 2) (omega (arith, p)) (omega arith)

-- `(a >> k) & 1 == 1`
pub bit_by_shift : (k a : ℕ) → eqb (bit_and (a / 2 ^ k) 1) 1 ≡ bit k a
unfolding bit
bit_by_shift zero a = ap (λ (x : ℕ). eqb x 1) (ap (λ (x : ℕ). bit_and x 1) (div-one a) ∙ and_mask a 1)
bit_by_shift (suc k) a =
    ap (λ (x : ℕ). eqb (bit_and x 1) 1) (sym (shr-shr a 1 k ∙ ap (λ (x : ℕ). a / 2 ^ x) (one-add k)))
    ∙ bit_by_shift k (a / 2)
