-- The Gray codes of all positions choose each set of rows once, with the sign that tells how many rows are left out.
use Rattle.std.proofs.Common.{◌≡◌, ℕ, zero, suc, ◌+◌, ◌*◌, ◌/◌, ◌%◌, ◌^◌, ◌<◌, List, [], ◌∷◌, length, sym, refl, ap, ◌∙◌, ap₂, pow-suc, arith}
use mathlib.Core.Path.{fun_ext}
use Rattle.std.specs.List.{range_with_len}
use Rattle.algebra.specs.Field.{Field, Digit, of}
use Rattle.algebra.specs.Gray.{gray_code}
use Rattle.algebra.proofs.Digits.{of_nil, of_one, neg_neg}
use Rattle.algebra.proofs.Ring.{ring, comm, plus_nil, one_times, nil_times, neg_times, neg_one_times}
use Rattle.algebra.proofs.Sums.{sum, prod, sum_add, sum_mul}
use Rattle.algebra.proofs.Polarization.{differenced}
use Rattle.algebra.proofs.CodeDigits.{code_from}

module _ (F : Field) where
  open F use {nil, one, add, mul, neg}

  -- 1, negated k times
  abbrev pub turned : ℕ → Digit F.size
  turned zero = one
  turned (suc k) = neg (turned k)

  turned_twice : (m k : ℕ) → turned (m * 2 + k) ≡ turned k
  turned_twice zero k = ap turned none
    where
      none : 0 * 2 + k ≡ k
      none = omega arith
  turned_twice (suc m) k = ap turned two ∙ neg_neg F (turned (m * 2 + k)) ∙ turned_twice m k
    where
      two : suc m * 2 + k ≡ suc (suc (m * 2 + k))
      two = omega arith

  -- only the parity matters
  turned_same : (a b : ℕ) → a % 2 ≡ b % 2 → turned a ≡ turned b
  turned_same a b e = ap turned in_twos ∙ turned_twice (a / 2) (b % 2) ∙ sym (turned_twice (b / 2) (b % 2)) ∙ ap turned back
    where
      in_twos : a ≡ a / 2 * 2 + b % 2
      in_twos = omega arith

      back : b / 2 * 2 + b % 2 ≡ b
      back = omega arith

  sum_in_pairs : (f : ℕ → Digit F.size) (a m : ℕ) → sum F f (range_with_len (a * 2) (m * 2)) ≡ sum F (λ j. add (f (j * 2)) (f (j * 2 + 1))) (range_with_len a m)
  sum_in_pairs f a zero = refl
  sum_in_pairs f a (suc m) =
      ap (λ k. sum F f (range_with_len (a * 2) k)) two_more
      ∙ ap (λ k. add (f (a * 2)) (add (f (a * 2 + 1)) (sum F f (range_with_len k (m * 2))))) next
      ∙ ap (λ z. add (f (a * 2)) (add (f (a * 2 + 1)) z)) (sum_in_pairs f (a + 1) m)
      ∙ simp ring
    where
      two_more : suc m * 2 ≡ suc (suc (m * 2))
      two_more = omega arith

      next : a * 2 + 1 + 1 ≡ (a + 1) * 2
      next = omega arith

  -- the positions 2 j and 2 j + 1 have the code of j with a 1 and with a 0 as lowest digit, in an order that turns with j
  pair : (h : ℕ → Digit F.size) (n j : ℕ)
      → add (mul (turned (suc n + j * 2)) (h (gray_code (j * 2)))) (mul (turned (suc n + (j * 2 + 1))) (h (gray_code (j * 2 + 1))))
      ≡ add (mul (turned (n + j)) (h (gray_code j * 2 + 1))) (neg (mul (turned (n + j)) (h (gray_code j * 2 + 0))))
  pair h n j = by_parity (j % 2) (omega arith) refl
    where
      by_parity : (d : ℕ) → d < 2 → j % 2 ≡ d
          → add (mul (turned (suc n + j * 2)) (h (gray_code (j * 2)))) (mul (turned (suc n + (j * 2 + 1))) (h (gray_code (j * 2 + 1))))
          ≡ add (mul (turned (n + j)) (h (gray_code j * 2 + 1))) (neg (mul (turned (n + j)) (h (gray_code j * 2 + 0))))
      by_parity zero l e =
          ap₂ add
          (ap₂ mul (turned_same (suc n + j * 2) (suc (n + j)) (omega arith)) (ap h (code_from (j * 2) j 0 (omega arith) (omega arith))) ∙ neg_times F _ _)
          (ap₂ mul (turned_same (suc n + (j * 2 + 1)) (n + j) (omega arith)) (ap h (code_from (j * 2 + 1) j 1 (omega arith) (omega arith))))
          ∙ comm F _ _
      by_parity (suc zero) l e =
          ap₂ add
          (ap₂ mul (turned_same (suc n + j * 2) (n + j) (omega arith)) (ap h (code_from (j * 2) j 1 (omega arith) (omega arith))))
          (ap₂ mul (turned_same (suc n + (j * 2 + 1)) (suc (n + j)) (omega arith)) (ap h (code_from (j * 2 + 1) j 0 (omega arith) (omega arith))) ∙ neg_times F _ _)
      by_parity (suc (suc d)) l e = absurd (omega arith)

  module _ {X Y : Type 0} (A : X → Y → Digit F.size) where
    -- v with the sum of the rows whose bits are set in g, the lowest bit first
    abbrev pub gathered : List X → ℕ → (Y → Digit F.size) → Y → Digit F.size
    gathered [] g v = v
    gathered (r ∷ rs) g v = gathered rs (g / 2) (λ c. add (v c) (mul (of F (g % 2)) (A r c)))

    row_in : (r : X) (rs : List X) (v : Y → Digit F.size) (g : ℕ) → gathered (r ∷ rs) (g * 2 + 1) v ≡ gathered rs g (λ c. add (v c) (A r c))
    row_in r rs v g =
        ap₂ (λ q b. gathered rs q (λ c. add (v c) (mul (of F b) (A r c)))) half low
        ∙ ap (gathered rs g) (fun_ext (λ c. ap (add (v c)) (ap (λ b. mul b (A r c)) (of_one F) ∙ one_times F (A r c))))
      where
        half : (g * 2 + 1) / 2 ≡ g
        half = omega arith

        low : (g * 2 + 1) % 2 ≡ 1
        low = omega arith

    row_out : (r : X) (rs : List X) (v : Y → Digit F.size) (g : ℕ) → gathered (r ∷ rs) (g * 2 + 0) v ≡ gathered rs g v
    row_out r rs v g =
        ap₂ (λ q b. gathered rs q (λ c. add (v c) (mul (of F b) (A r c)))) half low
        ∙ ap (gathered rs g) (fun_ext (λ c. ap (add (v c)) (ap (λ b. mul b (A r c)) (of_nil F) ∙ nil_times F (A r c)) ∙ plus_nil F (v c)))
      where
        half : (g * 2 + 0) / 2 ≡ g
        half = omega arith

        low : (g * 2 + 0) % 2 ≡ 0
        low = omega arith

    -- the term of the position i among n rows
    abbrev pub term_of : List Y → ℕ → List X → (Y → Digit F.size) → ℕ → Digit F.size
    term_of cs n rs v i = mul (turned (n + i)) (prod F (gathered rs (gray_code i) v) cs)

    pub over_codes : (cs : List Y) (rs : List X) (v : Y → Digit F.size) → sum F (term_of cs (length rs) rs v) (range_with_len 0 (2 ^ length rs)) ≡ differenced F A rs cs v
    over_codes cs [] v = plus_nil F _ ∙ one_times F (prod F v cs)
    over_codes cs (r ∷ rs) v =
        ap (λ k. sum F (term_of cs (suc n) (r ∷ rs) v) (range_with_len 0 k)) (pow-suc 2 n)
        ∙ sum_in_pairs (term_of cs (suc n) (r ∷ rs) v) 0 (2 ^ n)
        ∙ ap (λ f. sum F f (range_with_len 0 (2 ^ n))) (fun_ext each_pair)
        ∙ sum_add F (term_of cs n rs (λ c. add (v c) (A r c))) (λ j. mul (neg one) (term_of cs n rs v j)) (range_with_len 0 (2 ^ n))
        ∙ ap₂ add (over_codes cs rs (λ c. add (v c) (A r c)))
        (sum_mul F (neg one) (term_of cs n rs v) (range_with_len 0 (2 ^ n)) ∙ ap (mul (neg one)) (over_codes cs rs v) ∙ neg_one_times F (differenced F A rs cs v))
      where
        n : ℕ
        n = length rs

        each_pair : (j : ℕ) → add (term_of cs (suc n) (r ∷ rs) v (j * 2)) (term_of cs (suc n) (r ∷ rs) v (j * 2 + 1)) ≡ add (term_of cs n rs (λ c. add (v c) (A r c)) j) (mul (neg one) (term_of cs n rs v j))
        each_pair j =
            pair (λ g. prod F (gathered (r ∷ rs) g v) cs) n j
            ∙ ap₂ (λ p q. add (mul (turned (n + j)) (prod F p cs)) (neg (mul (turned (n + j)) (prod F q cs)))) (row_in r rs v (gray_code j)) (row_out r rs v (gray_code j))
            ∙ ap (add _) (sym (neg_one_times F _))
