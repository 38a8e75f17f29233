-- The Gray code of a position from the code of its half: one digit more.
use Rattle.std.proofs.Common.{◌≡◌, ℕ, zero, suc, ◌+◌, ◌*◌, ◌/◌, ◌%◌, ◌<◌, refl, ap, ◌∙◌, ap₂, arith}
use lib.Bits.{bit_xor, xor_step, differ}
use Rattle.algebra.specs.Gray.{gray_code}

differ_is : (x y : ℕ) → x < 2 → y < 2 → differ x y ≡ (x + y) % 2
differ_is zero y h k = omega arith
differ_is (suc zero) zero h k = refl
differ_is (suc zero) (suc zero) h k = refl
differ_is (suc zero) (suc (suc y)) h k = absurd (omega arith)
differ_is (suc (suc x)) y h k = absurd (omega arith)

pub code_from : (i j d : ℕ) → i / 2 ≡ j → (i % 2 + j % 2) % 2 ≡ d → gray_code i ≡ gray_code j * 2 + d
code_from i j d half low =
    xor_step i (i / 2) ∙ ap₂ (λ q r. bit_xor q (q / 2) * 2 + r) half (differ_is (i % 2) (i / 2 % 2) (omega arith) (omega arith) ∙ ap (λ q. (i % 2 + q % 2) % 2) half ∙ low)
