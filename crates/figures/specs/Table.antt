-- The worked figures as one table: on the left what the definitions of the contracts give, on the right the figure.
use Rattle.std.specs.Prelude.{◌≡◌, ℕ, List, [], ◌∷◌, map, length, slice_index, slice_index_or}
use Rattle.algebra.specs.Field.{value, of, minus}
use Rattle.algebra.specs.Modulo.{f3}
use Rattle.algebra.specs.Vector.{Vector, distance, dot}
use Rattle.algebra.specs.Successor.{Walk}
use Rattle.codings.specs.TwoPlanes.{spelled1, spelled2}
use Rattle.codings.specs.SignWords.{magnitude_of, sign_of, digits as sign_digits}
use Rattle.codings.specs.Single.{spelled_word}

-- the vector with the listed digits, place 0 first, and 0 at the places after them
abbrev pub vector : List ℕ → Vector f3
vector ds k = of f3 (slice_index ds k)

-- the first digits of a vector
abbrev pub three : Vector f3 → List ℕ
three v = value (v 0) ∷ value (v 1) ∷ value (v 2) ∷ []

abbrev pub four : Vector f3 → List ℕ
four v = value (v 0) ∷ value (v 1) ∷ value (v 2) ∷ value (v 3) ∷ []

abbrev pub everywhere : ℕ → Vector f3
everywhere d k = of f3 d

pub record Figure : Type 0 where
  pub given : List ℕ
  pub stated : List ℕ

abbrev pub figures : List Figure
figures =
    -- (0,1,2) and (1,1,1): their sum, their difference and their distance
    record { given = three (λ k. f3.add (vector (0 ∷ 1 ∷ 2 ∷ []) k) (vector (1 ∷ 1 ∷ 1 ∷ []) k)); stated = 1 ∷ 2 ∷ 0 ∷ [] }
    ∷ record { given = three (λ k. minus f3 (vector (0 ∷ 1 ∷ 2 ∷ []) k) (vector (1 ∷ 1 ∷ 1 ∷ []) k)); stated = 2 ∷ 0 ∷ 1 ∷ [] }
    ∷ record { given = distance f3 64 (vector (0 ∷ 1 ∷ 2 ∷ [])) (vector (1 ∷ 1 ∷ 1 ∷ [])) ∷ []; stated = 2 ∷ [] }
    -- the planes of (1,2,0)
    ∷ record { given = spelled1 64 (vector (1 ∷ 2 ∷ 0 ∷ [])) ∷ spelled2 64 (vector (1 ∷ 2 ∷ 0 ∷ [])) ∷ []; stated = 0xfffffffffffffffe ∷ 0xfffffffffffffffd ∷ [] }
    -- the single word of (1,2,0)
    ∷ record { given = spelled_word (vector (1 ∷ 2 ∷ 0 ∷ [])) ∷ []; stated = 0xfffffffefffffffd ∷ [] }
    -- the magnitude and sign of (1,1,0,2), and the digits of magnitude B with sign 8 and with sign C
    ∷ record { given = magnitude_of 64 (vector (1 ∷ 1 ∷ 0 ∷ 2 ∷ [])) ∷ sign_of 64 (vector (1 ∷ 1 ∷ 0 ∷ 2 ∷ [])) ∷ []; stated = 0xb ∷ 0x8 ∷ [] }
    ∷ record { given = four (sign_digits 64 0xb 0x8); stated = 1 ∷ 1 ∷ 0 ∷ 2 ∷ [] }
    ∷ record { given = four (sign_digits 64 0xb 0xc); stated = 1 ∷ 1 ∷ 0 ∷ 2 ∷ [] }
    -- sixty-four ones and sixty-four twos
    ∷ record { given = value (dot f3 64 (everywhere 1) (everywhere 2)) ∷ []; stated = 2 ∷ [] }
    ∷ []

-- the vectors of length 2 in the successor order
abbrev pub pairs : List (List ℕ)
pairs =
    (0 ∷ 0 ∷ []) ∷ (1 ∷ 0 ∷ []) ∷ (2 ∷ 0 ∷ [])
    ∷ (0 ∷ 1 ∷ []) ∷ (1 ∷ 2 ∷ []) ∷ (2 ∷ 1 ∷ [])
    ∷ (0 ∷ 2 ∷ []) ∷ (1 ∷ 1 ∷ []) ∷ (2 ∷ 2 ∷ []) ∷ []

-- every figure of the table is as stated, and the pairs are the walk within 2 places
pub record Hold : Type 0 where
  pub computed : map (λ f. f.given) figures ≡ map (λ f. f.stated) figures
  pub walk : Walk f3 2 (length pairs) (λ i. vector (slice_index_or pairs i []))
