-- A sign vector has two full planes with the same digits, so what is proved of two planes holds of it.
use Rattle.std.proofs.Common.{◌≡◌, ℕ, ◌+◌, ◌-◌, ◌%◌, ◌^◌, ◌<◌, Bool, cond, not, ◌&&◌, sym, ap, ◌∙◌, subst, arith}
use mathlib.Core.Path.{fun_ext}
use lib.Bits.{bit_and, bit_or, bit_xor, and_lt, xor_lt}
use lib.Count.{ones, count_trailing_zeros}
use lib.Pow.{ones_sub-lt}
use Rattle.std.proofs.lemmas.Nat.{and_le_l}
use Rattle.words.specs.Bit.{bit, one}
use Rattle.words.proofs.Operations.{bit_and_lem, bit_or_lem, bit_xor_lem, bit_not}
use Rattle.words.proofs.Lowest.{Lowest, trailing_bits}
use Rattle.words.proofs.Spelled.{word_same, word_bits}
use Rattle.algebra.specs.Field.{value}
use Rattle.algebra.specs.Modulo.{f3}
use Rattle.algebra.specs.Vector.{Vector, joined, weight, product, Long, Leads}
use Rattle.algebra.specs.Successor.{Next, Last}
use Rattle.algebra.proofs.Joined.{joined_same}
use Rattle.codings.specs.TwoPlanes.{digits as plane_digits}
use Rattle.codings.specs.SignWords.{digits}
use Rattle.codings.specs.Places.{laid_same}
use Rattle.codings.specs.TwoPlanesLemmas.{FullWords}
use Rattle.codings.specs.TwoPlanesLemmas as planes
use Rattle.codings.proofs.Within.{Low}
use Rattle.codings.proofs.Within as within

-- the words of the places whose digit is 1, and 2
abbrev ones_of : (w m s : ℕ) → ℕ
ones_of w m s = bit_and m ((2 ^ w - 1) - s)

abbrev twos_of : (m s : ℕ) → ℕ
twos_of m s = bit_and m s

module _ (w m s : ℕ) (fits_m : m < 2 ^ w) (fits_s : s < 2 ^ w) where
  -- V1 is set wherever the digit is not 1, and V2 wherever it is not 2
  abbrev v1 : ℕ
  v1 = (2 ^ w - 1) - ones_of w m s

  abbrev v2 : ℕ
  v2 = (2 ^ w - 1) - twos_of m s

  fits1 : v1 < 2 ^ w
  fits1 = ones_sub-lt w (ones_of w m s)

  fits2 : v2 < 2 ^ w
  fits2 = ones_sub-lt w (twos_of m s)

  ones_fits : ones_of w m s < 2 ^ w
  ones_fits = and_lt w m _ fits_m (ones_sub-lt w s)

  twos_fits : twos_of m s < 2 ^ w
  twos_fits = and_lt w m s fits_m fits_s

  bit1 : (k : ℕ) → k < w → bit k v1 ≡ not (bit k m && not (bit k s))
  bit1 k h =
      bit_not w k (ones_of w m s) ones_fits h
      ∙ ap not (bit_and_lem k m _ ∙ ap (λ b. bit k m && b) (bit_not w k s fits_s h))

  bit2 : (k : ℕ) → k < w → bit k v2 ≡ not (bit k m && bit k s)
  bit2 k h = bit_not w k (twos_of m s) twos_fits h ∙ ap not (bit_and_lem k m s)

  in_planes : FullWords w v1 v2
  in_planes = record { full = λ k h. let a = bit1 k h in let b = bit2 k h in grind arith; fits1 = fits1; fits2 = fits2 }

  same_digits : (k : ℕ) → plane_digits w v1 v2 k ≡ digits w m s k
  same_digits = laid_same w _ _ (λ k h. let a = bit1 k h in let b = bit2 k h in grind arith)

  same_some : bit_xor v1 v2 ≡ m
  same_some =
      word_bits w _ (xor_lt w v1 v2 fits1 fits2)
      ∙ word_same w _ _ (λ k h. let a = bit1 k h in let b = bit2 k h in let x = bit_xor_lem k v1 v2 in grind arith)
      ∙ sym (word_bits w m fits_m)

  same_twos : (2 ^ w - 1) - v2 ≡ twos_of m s
  same_twos = omega (arith, twos_fits)

  -- what holds of the planes' non-zero places, twos and digits
  by_planes : (P : ℕ → ℕ → Vector f3 → Type 0)
      → P (bit_xor v1 v2) ((2 ^ w - 1) - v2) (plane_digits w v1 v2) → P m (twos_of m s) (digits w m s)
  by_planes P p =
      subst (P m (twos_of m s)) (fun_ext same_digits)
      (subst (λ twos. P m twos (plane_digits w v1 v2)) same_twos
      (subst (λ some. P some ((2 ^ w - 1) - v2) (plane_digits w v1 v2)) same_some p))

  pub weight_ones : ones m ≡ weight f3 w (digits w m s)
  weight_ones = by_planes (λ some twos v. ones some ≡ weight f3 w v)
      (planes.weight_ones in_planes)

  pub sum_ones : (ones m + ones (twos_of m s)) % 3 ≡ value (joined f3.add f3.nil w (digits w m s))
  sum_ones = by_planes (λ some twos v. (ones some + ones twos) % 3 ≡ value (joined f3.add f3.nil w v))
      (planes.sum_ones in_planes)

  pub lead_none : m ≡ 0 → (k : ℕ) → digits w m s k ≡ f3.nil
  lead_none = by_planes (λ some twos v. some ≡ 0 → (k : ℕ) → v k ≡ f3.nil)
      (planes.lead_none in_planes)

  -- the sign tells the digit
  pub lead_some : 0 < m → (told : Bool) → bit (count_trailing_zeros w m) s ≡ told
      → Leads f3 (digits w m s) (count_trailing_zeros w m) (cond told 2 1)
  lead_some e told tells =
      let t = count_trailing_zeros w m in
      let l = trailing_bits w m fits_m e in
      let here = l.here in
      let b = bit2 t l.within in
      let d : cond (bit t v2) 1 2 ≡ cond told 2 1 = grind arith in
      subst (Leads f3 (digits w m s) t) d (
      by_planes (λ some twos v. (t : ℕ) → Lowest w some t → Leads f3 v t (cond (bit t v2) 1 2))
      (planes.lead_some in_planes) t l)

  -- the successor: one more than the twos, with the ones; and the ones
  next_digits : 0 < v2 → (k : ℕ)
      → digits w (bit_or (ones_of w m s) (twos_of m s + 1)) (ones_of w m s) k
      ≡ plane_digits w (bit_or (v2 - 1) ((2 ^ w - 1) - v1)) v1 k
  next_digits e = laid_same w _ _ (λ k h.
      let a = bit_not w k (ones_of w m s) ones_fits h in
      let b = bit_not w k v1 fits1 h in
      let l = more_bit k h in
      simp bit_or_lem (grind arith))
    where
      more_bit : (k : ℕ) → k < w → bit k (twos_of m s + 1) ≡ not (bit k (v2 - 1))
      more_bit k h =
          let fits : v2 - 1 < 2 ^ w = omega (arith, fits2) in
          let less : twos_of m s + 1 ≡ (2 ^ w - 1) - (v2 - 1) = omega (arith, e) in
          ap (bit k) less ∙ bit_not w k (v2 - 1) fits h

  module _ {n low : ℕ} (below : Low w n low) where
    pub long_is : bit_and m ((2 ^ w - 1) - low) ≡ 0 → Long f3 n (digits w m s)
    long_is = by_planes (λ some twos v. bit_and some ((2 ^ w - 1) - low) ≡ 0 → Long f3 n v)
        (within.long_is below in_planes)

    pub not_long : 0 < bit_and m ((2 ^ w - 1) - low) → Long f3 n (digits w m s) → ⊥
    not_long = by_planes (λ some twos v. 0 < bit_and some ((2 ^ w - 1) - low) → Long f3 n v → ⊥)
        (within.not_long below in_planes)

    pub last_is : bit_and ((2 ^ w - 1) - twos_of m s) low ≡ 0 → Last f3 n (digits w m s)
    last_is e = by_planes (λ some twos v. Last f3 n v)
        (within.last_is below in_planes e)

    pub next_is : 0 < bit_and ((2 ^ w - 1) - twos_of m s) low
        → (d : ℕ) × Next f3 n (digits w m s) d (digits w (bit_or (ones_of w m s) (twos_of m s + 1)) (ones_of w m s))
    next_is e =
        let some : 0 < v2 = omega (arith, and_le_l v2 low) in
        by_planes (λ _ _ v. (d : ℕ) × Next f3 n v d (digits w (bit_or (ones_of w m s) (twos_of m s + 1)) (ones_of w m s)))
        (subst (λ u. (d : ℕ) × Next f3 n (plane_digits w v1 v2) d u) (sym (fun_ext (next_digits some)))
        (within.next_is below in_planes e))

    pub product_has_zero : 0 < bit_and ((2 ^ w - 1) - m) low → value (product f3 n (digits w m s)) ≡ 0
    product_has_zero = by_planes (λ some twos v. 0 < bit_and ((2 ^ w - 1) - some) low → value (product f3 n v) ≡ 0)
        (within.product_has_zero below in_planes)

    -- where no digit below n is 0, no bit of the sign is loose there
    pub product_no_zero : bit_and ((2 ^ w - 1) - m) low ≡ 0
        → value (product f3 n (digits w m s)) ≡ 1 + ones (bit_and s low) % 2
    product_no_zero e =
        by_planes (λ some twos v. bit_and ((2 ^ w - 1) - some) low ≡ 0 → value (product f3 n v) ≡ 1 + ones (bit_and twos low) % 2)
        (within.product_no_zero below in_planes) e
        ∙ ap (λ (x : ℕ). 1 + x % 2) (
        within.ones_within below (twos_of m s) twos_fits
        ∙ joined_same ◌+◌ 0 n _ _ two
        ∙ sym (within.ones_within below s fits_s))
      where
        two : (k : ℕ) → k < n → one (bit k (twos_of m s)) ≡ one (bit k s)
        two k l =
            let z = within.none_within below ((2 ^ w - 1) - m) e k l in
            let o = bit_not w k m fits_m (omega (arith, below.most)) in
            let b = bit_and_lem k m s in
            grind arith
