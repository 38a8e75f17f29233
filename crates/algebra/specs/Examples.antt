-- Worked examples: one step of the successor order, and small permanents.
use Rattle.std.specs.Prelude.{◌≡◌, ℕ, zero, suc, ◌%◌, ◌^◌, ◌<◌, ◌≢◌, List, [], ◌∷◌, slice_index, slice_index_or, refl}
use Rattle.std.proofs.Common.{ap, arith}
use native.Mathlib.Fin
use Rattle.std.specs.List.{range_with_len}
use Rattle.algebra.specs.Field.{Digit, value, of}
use Rattle.algebra.specs.Modulo.{f3}
use Rattle.algebra.specs.Vector.{Vector}
use Rattle.algebra.specs.Successor.{Next}
use Rattle.algebra.specs.Permanent.{sum_over, arrangements, permanent}
use Rattle.algebra.specs.Gray.{gray_code, term}

-- within 3 places 012 follows 201, the lowest digit first
abbrev three : ℕ → ℕ → ℕ → Vector f3
three a b c zero = of f3 a
three a b c (suc zero) = of f3 b
three a b c (suc (suc zero)) = of f3 c
three a b c (suc (suc (suc k))) = f3.nil

digit : (a b : Digit 3) → value a ≡ value b → a ≡ b
digit a b e = Fin.val_path {n = 3} {i = a} {j = b} e

twos : (k : ℕ) → k < 1 → three 2 0 1 k ≡ of f3 2
twos zero h = refl
twos (suc k) h = absurd (omega arith)

cleared : (k : ℕ) → k < 1 → three 0 1 2 k ≡ f3.nil
cleared zero h = digit _ _ refl
cleared (suc k) h = absurd (omega arith)

negated : (k : ℕ) → 1 < k → three 0 1 2 k ≡ f3.neg (three 2 0 1 k)
negated zero h = absurd (omega arith)
negated (suc zero) h = absurd (omega arith)
negated (suc (suc zero)) h = digit _ _ refl
negated (suc (suc (suc k))) h = digit _ _ refl

room : three 2 0 1 1 ≢ of f3 2
room e = let z : ◌≡◌ {A = ℕ} 0 2 = ap value e in omega arith

step : Next f3 3 (three 2 0 1) 1 (three 0 1 2)
step = record { within = omega arith; twos = twos; room = room; cleared = cleared; raised = refl; negated = negated }

-- the matrix with the listed rows
abbrev entries : List (List ℕ) → ℕ → ℕ → ℕ
entries rows r c = slice_index (slice_index_or rows r []) c

-- the rows 110, 011 and 101: two of the six arrangements of the columns meet no 0
abbrev circle : ℕ → ℕ → ℕ
circle = entries ((1 ∷ 1 ∷ 0 ∷ []) ∷ (0 ∷ 1 ∷ 1 ∷ []) ∷ (1 ∷ 0 ∷ 1 ∷ []) ∷ [])

orders : arrangements (range_with_len 0 3)
    ≡ (0 ∷ 1 ∷ 2 ∷ []) ∷ (1 ∷ 0 ∷ 2 ∷ []) ∷ (1 ∷ 2 ∷ 0 ∷ []) ∷ (0 ∷ 2 ∷ 1 ∷ []) ∷ (2 ∷ 0 ∷ 1 ∷ []) ∷ (2 ∷ 1 ∷ 0 ∷ []) ∷ []
orders = refl

circle_has_two : permanent circle 3 ≡ 2
circle_has_two = refl

-- the same by Ryser's formula
circle_by_terms : sum_over (term circle 3) (range_with_len 0 (2 ^ 3)) % 3 ≡ 2
circle_by_terms = refl

-- the matrix with the one entry 1
single_has_one : permanent (entries ((1 ∷ []) ∷ [])) 1 ≡ 1
single_has_one = refl

six_is_coded_five : gray_code 6 ≡ 5
six_is_coded_five = refl
