-- A number is spelled by its bits.
use Rattle.std.proofs.Common.{◌≡◌, ℕ, zero, suc, ◌+◌, ◌*◌, ◌/◌, ◌%◌, ◌^◌, ◌<◌, Bool, eqb, refl, ap₂, suc-le-suc, mod-lt, zero-lt-suc, pow-suc, arith}
use lib.Arith.{lt-one}
use Rattle.words.specs.Bit.{bit, one, word}
use Rattle.words.proofs.Operations.{two_pos, no_bit}

pub one_lowest : (x : ℕ) → x < 2 → x ≡ one (eqb x 1)
one_lowest zero h = refl
one_lowest (suc zero) h = refl
one_lowest (suc (suc x)) h = no_bit h

-- two words are equal where their bits are
pub word_same : (w : ℕ) (p q : ℕ → Bool) → ((k : ℕ) → k < w → p k ≡ q k) → word w p ≡ word w q
unfolding word
word_same zero p q h = refl
word_same (suc w) p q h = ap₂ (λ b x. one b + 2 * x) (h 0 (zero-lt-suc w)) (word_same w (λ k. p (suc k)) (λ k. q (suc k)) (λ k l. h (suc k) (suc-le-suc l)))

pub word_bits : (w a : ℕ) → a < 2 ^ w → a ≡ word w (λ k. bit k a)
unfolding word bit
word_bits zero a h = lt-one h
word_bits (suc w) a h =
    let p = pow-suc 2 w in
    let i = word_bits w (a / 2) (omega (arith, p)) in
    let o = one_lowest (a % 2) (mod-lt a two_pos) in
    omega (arith, i, o)
