-- From a position to the next one bit of the Gray code changes: the one at the trailing zeros of the new position.
use Rattle.std.proofs.Common.{◌≡◌, ℕ, zero, suc, ◌+◌, ◌*◌, ◌/◌, ◌%◌, ◌^◌, ◌<◌, ◌≤◌, ◌≢◌, sym, refl, ap, ◌∙◌, subst, ap₂, subst₂, suc-le-suc, lt_of_lt_of_le, div-one, one-add, arith, pow_mono}
use native.Mathlib.Decide.{ℕ_discrete}
use lib.Count.{count_trailing_zeros, under}
use Rattle.std.proofs.lemmas.Nat.{shr-shr}
use Rattle.algebra.specs.Gray.{gray_code, bit, Toggles}
use Rattle.algebra.proofs.CodeDigits.{code_from}

-- the bits of a number from those of its half
bit_lowest : (g : ℕ) → bit 0 g ≡ g % 2
bit_lowest g = ap (λ q. q % 2) (div-one g)

bit_higher : (j g : ℕ) → bit (suc j) g ≡ bit j (g / 2)
bit_higher j g = ap (λ k. g / 2 ^ k % 2) (sym (one-add j)) ∙ ap (λ q. q % 2) (sym (shr-shr g 1 j))

toggles_lowest : (g h : ℕ) → h / 2 ≡ g / 2 → g % 2 + h % 2 ≡ 1 → Toggles 0 g h
toggles_lowest g h e f = record { others = kept; flips = ap₂ ◌+◌ (bit_lowest g) (bit_lowest h) ∙ f }
  where
    kept : (j : ℕ) → j ≢ 0 → bit j h ≡ bit j g
    kept zero d = absurd (d refl)
    kept (suc j) d = bit_higher j h ∙ ap (bit j) e ∙ sym (bit_higher j g)

toggles_higher : (t g h : ℕ) → h % 2 ≡ g % 2 → Toggles t (g / 2) (h / 2) → Toggles (suc t) g h
toggles_higher t g h e T = record { others = kept; flips = ap₂ ◌+◌ (bit_higher t g) (bit_higher t h) ∙ T.flips }
  where
    kept : (j : ℕ) → j ≢ suc t → bit j h ≡ bit j g
    kept zero d = bit_lowest h ∙ e ∙ sym (bit_lowest g)
    kept (suc j) d = bit_higher j h ∙ T.others j (λ p. d (ap suc p)) ∙ sym (bit_higher j g)

-- the code's half and its lowest digit
code_half : (i : ℕ) → gray_code i / 2 ≡ gray_code (i / 2)
code_half i = let e : gray_code i ≡ gray_code (i / 2) * 2 + (i + i / 2) % 2 = code_from i (i / 2) ((i + i / 2) % 2) refl (omega arith) in omega arith

code_low : (i : ℕ) → gray_code i % 2 ≡ (i + i / 2) % 2
code_low i = let e : gray_code i ≡ gray_code (i / 2) * 2 + (i + i / 2) % 2 = code_from i (i / 2) ((i + i / 2) % 2) refl (omega arith) in omega arith

-- a step up from an even position changes the lowest bit, and from an odd one what the halves change
abbrev Step : ℕ → ℕ → Type 0
Step n i = (count_trailing_zeros n (i + 1) < n) × Toggles (count_trailing_zeros n (i + 1)) (gray_code i) (gray_code (i + 1))

step : (n i : ℕ) → i + 1 < 2 ^ n → Step n i
unfolding count_trailing_zeros
step zero i h = absurd (omega arith)
step (suc n) i h = by_parity (i % 2) (omega arith) refl (step n (i / 2))
  where
    At : ℕ → Type 0
    At t = (t < suc n) × Toggles t (gray_code i) (gray_code (i + 1))

    by_parity : (d : ℕ) → d < 2 → i % 2 ≡ d → (i / 2 + 1 < 2 ^ n → Step n (i / 2)) → At (count_trailing_zeros (suc n) (i + 1))
    by_parity zero l e ih =
        subst At (ap (λ d. under d (count_trailing_zeros n ((i + 1) / 2))) (sym odd)) (
          omega arith,
          toggles_lowest (gray_code i) (gray_code (i + 1)) (code_half (i + 1) ∙ ap gray_code half ∙ sym (code_half i))
              (ap₂ ◌+◌ (code_low i) (code_low (i + 1)) ∙ one_odd (i + i / 2) (i + 1 + (i + 1) / 2) (omega (arith, half))),
        )
      where
        odd : (i + 1) % 2 ≡ 1
        odd = omega arith

        half : (i + 1) / 2 ≡ i / 2
        half = omega arith

        one_odd : (a b : ℕ) → b ≡ a + 1 → a % 2 + b % 2 ≡ 1
        one_odd a b e = omega arith
    by_parity (suc zero) l e ih =
        subst At (ap₂ (λ d q. under d (count_trailing_zeros n q)) (sym even) (sym half)) (
          suc-le-suc below.0,
          toggles_higher (count_trailing_zeros n (i / 2 + 1)) (gray_code i) (gray_code (i + 1))
              (code_low (i + 1) ∙ both_alike (i + i / 2) (i + 1 + (i + 1) / 2) (omega (arith, half)) ∙ sym (code_low i))
              (subst₂ (Toggles (count_trailing_zeros n (i / 2 + 1))) (sym (code_half i)) (sym (code_half (i + 1) ∙ ap gray_code half)) below.1),
        )
      where
        even : (i + 1) % 2 ≡ 0
        even = omega arith

        half : (i + 1) / 2 ≡ i / 2 + 1
        half = omega arith

        both_alike : (a b : ℕ) → b ≡ a + 2 → b % 2 ≡ a % 2
        both_alike a b e = omega arith

        below : Step n (i / 2)
        below = ih (omega arith)
    by_parity (suc (suc d)) l e ih = absurd (omega arith)

-- one row alone is toggled, so it does not matter up to which width zeros are counted
only_one : (t u g h : ℕ) → Toggles t g h → Toggles u g h → t ≡ u
only_one t u g h T U = elim (ℕ_discrete t u) [
  | yes e ↦ e
  | no d ↦ (let e : bit t h ≡ bit t g = U.others t d in absurd (omega (arith, T.flips)))
]

pub toggled : (w n i : ℕ) → i + 1 < 2 ^ n → n ≤ w → (count_trailing_zeros w (i + 1) < n) × Toggles (count_trailing_zeros w (i + 1)) (gray_code i) (gray_code (i + 1))
toggled w n i h l = (subst (λ t. t < n) (only_one _ _ (gray_code i) (gray_code (i + 1)) narrow.1 wide.1) narrow.0, wide.1)
  where
    narrow : Step n i
    narrow = step n i h

    wide : Step w i
    wide = step w i (lt_of_lt_of_le h (pow_mono l))
