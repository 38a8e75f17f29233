-- The values of digits modulo 3: of a sum, a difference and a product over places.
use Rattle.std.proofs.Common.{◌≡◌, ℕ, zero, suc, ◌+◌, ◌*◌, ◌%◌, ◌<◌, List, length, get_or, sym, refl, ap, ◌∙◌, subst, ap₂, mul_assoc, one-mul, zero-add, mul-one, arith}
use Rattle.std.specs.List.{range_with_len}
use Rattle.std.proofs.lemmas.List.{get_or-map}
use Rattle.algebra.specs.Field.{Field, Digit, value, minus}
use Rattle.algebra.specs.Modulo.{f3, mod_mul_mod, mul_mod_mod}
use Rattle.algebra.specs.Vector.{Vector, zeros, joined, product}
use Rattle.algebra.specs.Permanent.{product_over}
use Rattle.algebra.proofs.Over.{over_more}
use Rattle.coding.specs.declared.vectors.Coding.{Ghosts as Coding}
use Rattle.tally.specs.Matrix.{matrix}

module _ (F : Field) (three : F ≡ f3) where
  pub sum_value : (a b : Digit F.size) → value (F.add a b) ≡ (value a + value b) % 3
  sum_value = subst (λ K. (a b : Digit K.size) → value (K.add a b) ≡ (value a + value b) % 3) (sym three) (λ a b. refl)

  pub difference_value : (a b : Digit F.size) → value (minus F a b) ≡ (value a + 2 * value b) % 3
  difference_value = subst (λ K. (a b : Digit K.size) → value (minus K a b) ≡ (value a + 2 * value b) % 3) (sym three) (λ a b. let h : value b < 3 = b.1 in omega arith)

  times_value : (a b : Digit F.size) → value (F.mul a b) ≡ (value a * value b) % 3
  times_value = subst (λ K. (a b : Digit K.size) → value (K.mul a b) ≡ (value a * value b) % 3) (sym three) (λ a b. refl)

  -- a product of digits, from numbers that they are modulo 3
  pub product_value : (n : ℕ) (v : Vector F) (f : ℕ → ℕ) → ((c : ℕ) → c < n → value (v c) ≡ f c % 3) → value (product F n v) ≡ product_over f (range_with_len 0 n) % 3
  unfolding joined
  product_value zero v f h = F.one_value
  product_value (suc n) v f h =
      times_value (product F n v) (v n)
      ∙ ap₂ (λ p q. (p * q) % 3) (product_value n v f (λ c l. h c (omega arith))) (h n (omega arith))
      ∙ mod_mul_mod (product_over f (range_with_len 0 n)) (f n % 3) 3 ∙ mul_mod_mod (product_over f (range_with_len 0 n)) (f n) 3
      ∙ ap (λ p. p % 3) (ap (λ k. product_over f (range_with_len 0 n) * f k) (sym (zero-add n)) ∙ sym (over_more ◌*◌ 1 mul_assoc one-mul mul-one f 0 n))

-- the digits of a row that code reads are those of the matrix
pub row_value : {X : Type 0} (C : Coding X) (rows : List X) (i : ℕ) (x : X) → i < length rows → x ≡ get_or rows i x → (c : ℕ) → value (C.meant x c) ≡ matrix C rows i c
row_value C rows i x h e c = ap (λ y. value (C.meant y c)) e ∙ ap (λ f. value (f c)) (sym (get_or-map C.meant rows i x (zeros C.field) h))
