-- Ryser's formula modulo 3: the numbers taken to digits, where the terms of all positions add up to the permanent.
use Rattle.std.proofs.Common.{◌≡◌, ℕ, zero, suc, ◌+◌, ◌*◌, ◌/◌, ◌%◌, ◌^◌, List, [], ◌∷◌, map, length, get_or, sym, refl, ap, ◌∙◌, ap₂, div-one, arith}
use mathlib.Core.Path.{fun_ext}
use Rattle.std.specs.List.{range_with_len}
use Rattle.std.proofs.lemmas.Nat.{shr-shr}
use Rattle.std.proofs.lemmas.List.FromFn.{length-range_with_len, fill_by_all}
use Rattle.algebra.specs.Field.{Digit, value, of}
use Rattle.algebra.specs.Modulo.{f3}
use Rattle.algebra.specs.Permanent.{sum_over, product_over, arrangements, permanent}
use Rattle.algebra.specs.Gray.{gray_code, bit, chosen, sign, term}
use Rattle.algebra.proofs.Digits.{same_digit, of_nil, of_one}
use Rattle.algebra.proofs.Ternary.{of_add, of_mul, of_neg}
use Rattle.algebra.proofs.Ring.{assoc, nil_plus, plus_nil}
use Rattle.algebra.proofs.Each.{each_map}
use Rattle.algebra.proofs.Over.{over_each, over_image}
use Rattle.algebra.proofs.Sums.{sum, prod}
use Rattle.algebra.proofs.Expansion.{meets, per}
use Rattle.algebra.proofs.Polarization.{polarized}
use Rattle.algebra.proofs.Codes.{turned, gathered, term_of, over_codes}
use Rattle.algebra.proofs.Arrangements.{as_long}

of_sum : {X : Type 0} (f : X → ℕ) (xs : List X) → of f3 (sum_over f xs) ≡ sum f3 (λ x. of f3 (f x)) xs
of_sum f xs = over_image ◌+◌ 0 f3.add f3.nil (of f3) of_add (of_nil f3) f xs

of_product : {X : Type 0} (f : X → ℕ) (xs : List X) → of f3 (product_over f xs) ≡ prod f3 (λ x. of f3 (f x)) xs
of_product f xs = over_image ◌*◌ 1 f3.mul f3.one (of f3) of_mul (of_one f3) f xs

of_sign : (k : ℕ) → of f3 (sign k) ≡ turned f3 k
of_sign zero = same_digit _ _ refl
of_sign (suc k) = same_digit _ _ (turns (k % 2) (suc k % 2) (omega arith)) ∙ of_neg (sign k) ∙ ap f3.neg (of_sign k)
  where
    turns : (a b : ℕ) → a + b ≡ 1 → (1 + b) % 3 ≡ (2 * (1 + a)) % 3
    turns a b e = omega arith

module _ (A : ℕ → ℕ → ℕ) where
  abbrev entries : ℕ → ℕ → Digit 3
  entries r c = of f3 (A r c)

  -- the permanent
  meets_along : (f : ℕ → ℕ) (rs : List ℕ) → meets f3 entries rs (map f rs) ≡ prod f3 (λ i. entries i (f i)) rs
  meets_along f [] = refl
  meets_along f (r ∷ rs) = ap (f3.mul (entries r (f r))) (meets_along f rs)

  of_arrangement : (n : ℕ) (p : List ℕ) → length p ≡ length (range_with_len 0 n) → of f3 (product_over (λ i. A i (get_or p i 0)) (range_with_len 0 n)) ≡ meets f3 entries (range_with_len 0 n) p
  of_arrangement n p e =
      of_product (λ i. A i (get_or p i 0)) (range_with_len 0 n)
      ∙ sym (meets_along (λ i. get_or p i 0) (range_with_len 0 n))
      ∙ ap (meets f3 entries (range_with_len 0 n)) (sym (fill_by_all (λ i. get_or p i 0) p n 0 (e ∙ length-range_with_len 0 n) (λ k h. refl)))

  of_permanent : (n : ℕ) → of f3 (permanent A n) ≡ per f3 entries (range_with_len 0 n) (range_with_len 0 n)
  of_permanent n =
      of_sum (λ p. product_over (λ i. A i (get_or p i 0)) (range_with_len 0 n)) (arrangements (range_with_len 0 n))
      ∙ over_each f3.add f3.nil _ (meets f3 entries (range_with_len 0 n)) (arrangements (range_with_len 0 n))
      (each_map _ _ (arrangements (range_with_len 0 n)) (of_arrangement n) (as_long (range_with_len 0 n)))

  -- the sum of the rows that g chooses from row k on
  of_chosen_from : (g c k m : ℕ) (v : ℕ → Digit 3)
      → gathered f3 entries (range_with_len k m) (g / 2 ^ k) v c ≡ f3.add (v c) (of f3 (sum_over (λ j. bit j g * A j c) (range_with_len k m)))
  of_chosen_from g c k zero v = sym (plus_nil f3 (v c)) ∙ ap (f3.add (v c)) (sym (of_nil f3))
  of_chosen_from g c k (suc m) v =
      ap (λ q. gathered f3 entries (range_with_len (k + 1) m) q (λ d. f3.add (v d) (f3.mul (of f3 (bit k g)) (entries k d))) c) (shr-shr g k 1)
      ∙ of_chosen_from g c (k + 1) m (λ d. f3.add (v d) (f3.mul (of f3 (bit k g)) (entries k d)))
      ∙ assoc f3 (v c) (f3.mul (of f3 (bit k g)) (entries k c)) (of f3 rest)
      ∙ ap (f3.add (v c)) (ap (λ z. f3.add z (of f3 rest)) (sym (of_mul (bit k g) (A k c))) ∙ sym (of_add (bit k g * A k c) rest))
    where
      rest : ℕ
      rest = sum_over (λ j. bit j g * A j c) (range_with_len (k + 1) m)

  of_chosen : (n g c : ℕ) → of f3 (chosen A n g c) ≡ gathered f3 entries (range_with_len 0 n) g (λ d. f3.nil) c
  of_chosen n g c =
      sym (nil_plus f3 (of f3 (chosen A n g c))) ∙ sym (of_chosen_from g c 0 n (λ d. f3.nil))
      ∙ ap (λ q. gathered f3 entries (range_with_len 0 n) q (λ d. f3.nil) c) (div-one g)

  of_term : (n i : ℕ) → of f3 (term A n i) ≡ term_of f3 entries (range_with_len 0 n) n (range_with_len 0 n) (λ d. f3.nil) i
  of_term n i =
      of_mul (sign (n + i)) (product_over (chosen A n (gray_code i)) (range_with_len 0 n))
      ∙ ap₂ f3.mul (of_sign (n + i))
      (of_product (chosen A n (gray_code i)) (range_with_len 0 n) ∙ ap (λ f. prod f3 f (range_with_len 0 n)) (fun_ext (of_chosen n (gray_code i))))

  pub formula : (n : ℕ) → sum_over (term A n) (range_with_len 0 (2 ^ n)) % 3 ≡ permanent A n % 3
  formula n =
      ap value (of_sum (term A n) (range_with_len 0 (2 ^ n))
      ∙ ap (λ f. sum f3 f (range_with_len 0 (2 ^ n))) (fun_ext (of_term n))
      ∙ ap (λ k. sum f3 (term_of f3 entries all k all (λ d. f3.nil)) (range_with_len 0 (2 ^ k))) (sym (length-range_with_len 0 n))
      ∙ over_codes f3 entries all all (λ d. f3.nil)
      ∙ polarized f3 entries all all (λ d. f3.nil) refl
      ∙ sym (of_permanent n))
    where
      all : List ℕ
      all = range_with_len 0 n
