-- The vectors of length 2 follow one another as listed: a step that raises the lower digit, and one that raises the upper.
use Rattle.std.proofs.Common.{◌≡◌, ℕ, zero, suc, ◌*◌, ◌%◌, ◌<◌, [], ◌∷◌, get_or, refl, ap, ◌∙◌, not-suc-le-zero, arith}
use Rattle.algebra.specs.Field.{value, of}
use Rattle.algebra.specs.Modulo.{f3}
use Rattle.algebra.specs.Successor.{Next, Last, Walk}
use Rattle.algebra.proofs.Digits.{same_digit, of_nil}
use Rattle.algebra.proofs.Order.{walk_is}
use Rattle.figures.specs.Table.{vector, pairs}

not_two : (a : ℕ) → a < 2 → of f3 a ≡ of f3 2 → ⊥
not_two a h e = omega (arith, ap value e)

lower : (a b : ℕ) → a < 2 → Next f3 2 (vector (a ∷ b ∷ [])) 0 (vector (suc a ∷ (2 * b) % 3 ∷ []))
lower a b h = record {
  within = omega arith;
  twos = λ k l. absurd (not-suc-le-zero l);
  room = not_two a h;
  cleared = λ k l. absurd (not-suc-le-zero l);
  raised = same_digit _ _ (omega arith);
  negated = negated;
}
  where
    negated : (k : ℕ) → 0 < k → vector (suc a ∷ (2 * b) % 3 ∷ []) k ≡ f3.neg (vector (a ∷ b ∷ []) k)
    negated zero l = absurd (not-suc-le-zero l)
    negated (suc zero) l = same_digit _ _ (omega arith)
    negated (suc (suc k)) l = same_digit _ _ refl

upper : (b : ℕ) → b < 2 → Next f3 2 (vector (2 ∷ b ∷ [])) 1 (vector (0 ∷ suc b ∷ []))
upper b h = record {
  within = omega arith;
  twos = twos;
  room = not_two b h;
  cleared = cleared;
  raised = same_digit _ _ (omega arith);
  negated = negated;
}
  where
    twos : (k : ℕ) → k < 1 → vector (2 ∷ b ∷ []) k ≡ of f3 2
    twos zero l = refl
    twos (suc k) l = absurd (omega arith)

    cleared : (k : ℕ) → k < 1 → vector (0 ∷ suc b ∷ []) k ≡ f3.nil
    cleared zero l = of_nil f3
    cleared (suc k) l = absurd (omega arith)

    negated : (k : ℕ) → 1 < k → vector (0 ∷ suc b ∷ []) k ≡ f3.neg (vector (2 ∷ b ∷ []) k)
    negated zero l = absurd (omega arith)
    negated (suc zero) l = absurd (omega arith)
    negated (suc (suc k)) l = same_digit _ _ refl

follows : (i : ℕ) → suc i < 9 → (d : ℕ) × Next f3 2 (vector (get_or pairs i [])) d (vector (get_or pairs (suc i) []))
follows zero h = (0, lower 0 0 (omega arith))
follows (suc zero) h = (0, lower 1 0 (omega arith))
follows (suc (suc zero)) h = (1, upper 0 (omega arith))
follows (suc (suc (suc zero))) h = (0, lower 0 1 (omega arith))
follows (suc (suc (suc (suc zero)))) h = (0, lower 1 2 (omega arith))
follows (suc (suc (suc (suc (suc zero))))) h = (1, upper 1 (omega arith))
follows (suc (suc (suc (suc (suc (suc zero)))))) h = (0, lower 0 2 (omega arith))
follows (suc (suc (suc (suc (suc (suc (suc zero))))))) h = (0, lower 1 1 (omega arith))
follows (suc (suc (suc (suc (suc (suc (suc (suc i)))))))) h = absurd (omega arith)

first : (k : ℕ) → vector (0 ∷ 0 ∷ []) k ≡ f3.nil
first zero = of_nil f3
first (suc zero) = of_nil f3
first (suc (suc k)) = of_nil f3

last : (i : ℕ) → suc i ≡ 9 → Last f3 2 (vector (get_or pairs i []))
last i e k h = let at : i ≡ 8 = omega arith in ap (λ j. vector (get_or pairs j []) k) at ∙ two k h
  where
    two : (k : ℕ) → k < 2 → vector (2 ∷ 2 ∷ []) k ≡ of f3 2
    two zero l = refl
    two (suc zero) l = refl
    two (suc (suc k)) l = absurd (omega arith)

pub pairs_walk : Walk f3 2 9 (λ i. vector (get_or pairs i []))
pairs_walk = walk_is f3 refl 2 9 (λ i. vector (get_or pairs i [])) (omega arith) first follows last
