-- The word operations on V1 and V2 in the halves of one word, over plain numbers: what each answer means.
use Rattle.std.proofs.Common.{◌≡◌, ℕ, ◌+◌, ◌-◌, ◌*◌, ◌%◌, ◌^◌, ◌<◌, not, ◌||◌, ap, ◌∙◌, ap₂, arith, lit≤}
use lib.Bits.{bit_and, bit_or, bit_xor, or_zero_r}
use Rattle.words.specs.Bit.{bit}
use Rattle.words.proofs.Operations.{bit_or_lem, bit_not}
use Rattle.words.proofs.Masks.{bit_mod}
use Rattle.algebra.specs.Field.{minus}
use Rattle.algebra.specs.Modulo.{f3}
use Rattle.algebra.specs.Vector.{Vector, Long}
use Rattle.codings.specs.TwoPlanes.{digits, Full}
use Rattle.codings.specs.Halves.{upper, lower, Halves}
use Rattle.codings.specs.Single.{in_halves, FullHalves, Means, spelled_word}
use Rattle.codings.specs.TwoPlanesLemmas.{full_spelled1, full_spelled2, read_digits, read_full, zero_digits, zero_full, negation_digits, negation_full}
use Rattle.codings.specs.TwoPlanesLemmas.{sum_digits, sum_full, product_digits, product_full, shared_sum_digits, shared_sum_full, shared_difference_digits, shared_difference_full}
use Rattle.codings.proofs.Widths.{same_below}
use Rattle.codings.proofs.Halves.{whole, shifted, halves_and, halves_or, halves_xor, turned, put_together, against}

means : {n a b : ℕ} {v : Vector f3} → Halves n a b → Full 32 a b → ((k : ℕ) → digits 32 a b k ≡ v k) → Means n v
means x full same = record {
  full = λ k h. ap₂ (λ a b. bit k a || bit k b) x.upper_is x.lower_is ∙ full k h;
  meaning = λ k. ap₂ (λ a b. digits 32 a b k) x.upper_is x.lower_is ∙ same k;
}

-- a word with full halves is the word that its digits are spelled by
pub full_spelled : (n : ℕ) → n < 2 ^ 64 → FullHalves n → n ≡ spelled_word (in_halves n)
full_spelled n fits full =
    let halves : n ≡ upper n * 2 ^ 32 + lower n = omega arith in
    halves
    ∙ ap₂ (λ a b. a * 2 ^ 32 + b)
    (full_spelled1 32 (upper n) (lower n) full (omega arith))
    (full_spelled2 32 (upper n) (lower n) (omega arith))

-- the word as it is read, `n | (!n << 32)`
module _ (n : ℕ) where
  abbrev as_read : ℕ
  as_read = bit_or n ((((2 ^ 64 - 1) - n) * 2 ^ 32) % 2 ^ 64)

  read_halves : n < 2 ^ 64 → Halves as_read (bit_or (upper n) ((2 ^ 32 - 1) - lower n)) (lower n)
  read_halves fits =
      let x = halves_or (whole n) (shifted ((2 ^ 64 - 1) - n)) in
      let turn : lower ((2 ^ 64 - 1) - n) ≡ (2 ^ 32 - 1) - lower n = omega arith in
      record { upper_is = x.upper_is ∙ ap (bit_or (upper n)) turn; lower_is = x.lower_is ∙ or_zero_r (lower n) }

  read_bit : (k : ℕ) → k < 32 → bit k (bit_or (upper n) ((2 ^ 32 - 1) - lower n)) ≡ (bit k (upper n) || not (bit k (lower n)))
  read_bit k h = bit_or_lem k (upper n) _ ∙ ap (λ b. bit k (upper n) || b) (bit_not 32 k (lower n) (omega arith) h)

  pub read_word : n < 2 ^ 64 → Means as_read (in_halves n)
  read_word fits = means (read_halves fits) (read_full 32 _ _ _ read_bit) (read_digits 32 _ _ _ read_bit)

-- the lower halves of two planes of 64 places, side by side
pub cut_full : (v1 v2 n : ℕ) → Full 64 v1 v2 → Halves n (lower v1) (lower v2) → FullHalves n
cut_full v1 v2 n full x k h =
    ap₂ (λ a b. bit k a || bit k b) x.upper_is x.lower_is ∙ ap₂ ◌||◌ (bit_mod 32 k v1 h) (bit_mod 32 k v2 h) ∙ full k (omega arith)

pub cut_digits : (v1 v2 n : ℕ) (v : Vector f3) → ((k : ℕ) → digits 64 v1 v2 k ≡ v k) → Long f3 32 v
    → Halves n (lower v1) (lower v2) → (k : ℕ) → in_halves n k ≡ v k
cut_digits v1 v2 n v same long x k =
    ap₂ (λ a b. digits 32 a b k) x.upper_is x.lower_is
    ∙ same_below 32 64 (lit≤ tt) (lower v1) (lower v2) v1 v2 (λ k h. bit_mod 32 k v1 h) (λ k h. bit_mod 32 k v2 h)
    (λ k h. same k ∙ long k h) k
    ∙ same k

pub zero_word : Means (2 ^ 64 - 1) (λ k. f3.nil)
zero_word = means (whole (2 ^ 64 - 1)) (zero_full 32) (zero_digits 32)

pub negation_word : (v s : ℕ) → Halves s (lower v) (upper v) → FullHalves v → Means s (λ k. f3.neg (in_halves v k))
negation_word v s sv fv = means sv (negation_full 32 _ _ fv) (negation_digits 32 _ _ fv)

module _ (v w : ℕ) (fv : FullHalves v) (fw : FullHalves w) where
  pub sum_word : (s r : ℕ) → Halves s (lower v) (upper v) → Halves r (lower (bit_xor v w)) (upper (bit_xor v w))
      → Means (bit_or r (bit_xor (bit_xor v w) s)) (λ k. f3.add (in_halves v k) (in_halves w k))
  sum_word s r sv rt =
      let t = halves_xor (whole v) (whole w) in
      means (halves_or (turned rt t) (halves_xor t sv)) (sum_full 32 _ _ _ _ fv fw) (sum_digits 32 _ _ _ _ fv fw)

  module _ (s r : ℕ) (sv : Halves s (lower v) (upper v)) (rw : Halves r (lower w) (upper w)) where
    pub product_word : (p q : ℕ) → Halves p (lower s) (lower s) → Halves q (lower v) (lower v)
        → Means (bit_and (bit_or p w) (bit_or q r)) (λ k. f3.mul (in_halves v k) (in_halves w k))
    product_word p q ps qv =
        means (halves_and (halves_or (put_together ps sv sv) (whole w)) (halves_or qv rw))
        (product_full 32 _ _ _ _ fv fw) (product_digits 32 _ _ _ _ fv fw)

    -- the words that the sum and the difference share
    abbrev t : ℕ
    t = bit_xor (bit_xor v s) w

    abbrev u : ℕ
    u = bit_xor (bit_xor w r) v

    t_halves : Halves t (bit_xor (bit_xor (upper v) (lower v)) (upper w)) (bit_xor (bit_xor (upper v) (lower v)) (lower w))
    t_halves = halves_xor (against sv (whole v)) (whole w)

    u_halves : Halves u (bit_xor (bit_xor (upper w) (lower w)) (upper v)) (bit_xor (bit_xor (upper w) (lower w)) (lower v))
    u_halves = halves_xor (against rw (whole w)) (whole v)

    pub shared_sum_word : Means (bit_or t u) (λ k. f3.add (in_halves v k) (in_halves w k))
    shared_sum_word =
        means (halves_or t_halves u_halves) (shared_sum_full 32 _ _ _ _ fv fw) (shared_sum_digits 32 _ _ _ _ fv fw)

    pub shared_difference_word : (x : ℕ) → Halves x (lower t) (upper t) → Means (bit_or x u) (λ k. minus f3 (in_halves v k) (in_halves w k))
    shared_difference_word x xt =
        means (halves_or (turned xt t_halves) u_halves) (shared_difference_full 32 _ _ _ _ fv fw) (shared_difference_digits 32 _ _ _ _ fv fw)
