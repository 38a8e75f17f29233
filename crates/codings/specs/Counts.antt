-- Counts of ones are sums over the places of a word.
use Rattle.std.specs.Prelude.{◌≡◌, ℕ, zero, suc, ◌+◌, ◌/◌, ◌%◌, ◌^◌, ◌<◌}
use Rattle.std.proofs.Common.{sym, ap, ap₂, ◌∙◌, arith, pow-suc, mod-lt}
use Rattle.std.proofs.Math.Arith.{lt-one}
use Rattle.std.specs.Int.Count.{ones, ones_step}
use Rattle.words.specs.Bit.{bit, one}
use Rattle.words.proofs.Operations.{two_pos}
use Rattle.words.proofs.Spelled.{one_lowest}
use Rattle.algebra.specs.Vector.{joined, total}
use Rattle.algebra.proofs.Joined.{total_first}

pub ones_bits : (w a : ℕ) → a < 2 ^ w → ones a ≡ total w (λ k. one (bit k a))
unfolding bit joined ones
ones_bits zero a h = ap ones (lt-one h)
ones_bits (suc w) a h =
    let p = pow-suc 2 w in
    ones_step a ∙ ap₂ (λ (x y : ℕ). x + y) (one_lowest (a % 2) (mod-lt a two_pos)) (ones_bits w (a / 2) (omega (arith, p)))
    ∙ sym (total_first w (λ k. one (bit k a)))
