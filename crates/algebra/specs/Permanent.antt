-- Sums and products over a list, the arrangements of a list, and the permanent of a matrix of numbers, given by row and then column.
use Rattle.std.specs.Prelude.{◌≡◌, ℕ, ◌+◌, ◌*◌, ◌<◌, ◌≤◌, cond, List, [], ◌∷◌, map, ◌==◌, slice_index}
use Rattle.std.specs.List.{range_with_len, flat_map}

-- f at each member of a list, joined by `op`, with `last` after them
abbrev pub over : {X Y : Type 0} → (Y → Y → Y) → Y → (X → Y) → List X → Y
over op last f [] = last
over op last f (x ∷ xs) = op (f x) (over op last f xs)

abbrev pub sum_over : {X : Type 0} → (X → ℕ) → List X → ℕ
sum_over f xs = over ◌+◌ 0 f xs

abbrev pub product_over : {X : Type 0} → (X → ℕ) → List X → ℕ
product_over f xs = over ◌*◌ 1 f xs

-- the list with x put in at each of its places in turn
abbrev pub insertions : {X : Type 0} → X → List X → List (List X)
insertions x [] = (x ∷ []) ∷ []
insertions x (y ∷ ys) = (x ∷ y ∷ ys) ∷ map (λ zs. y ∷ zs) (insertions x ys)

abbrev pub arrangements : {X : Type 0} → List X → List (List X)
arrangements [] = [] ∷ []
arrangements (x ∷ xs) = flat_map (insertions x) (arrangements xs)

-- the sum, over all arrangements p of the columns 0 to n - 1, of the product over the rows i of the entry of row i at column p i
abbrev pub permanent : (ℕ → ℕ → ℕ) → ℕ → ℕ
permanent A n = sum_over (λ p. product_over (λ i. A i (slice_index p i)) (range_with_len 0 n)) (arrangements (range_with_len 0 n))

-- 1 where two columns are the same, and else 0; the same of two lists of columns
abbrev pub same : ℕ → ℕ → ℕ
same c d = cond (c == d) 1 0

abbrev pub alike : List ℕ → List ℕ → ℕ
alike [] [] = 1
alike [] (d ∷ q) = 0
alike (c ∷ p) [] = 0
alike (c ∷ p) (d ∷ q) = same c d * alike p q

-- how often a column stands in a list, and how often a list stands among lists
abbrev pub often : ℕ → List ℕ → ℕ
often c p = sum_over (same c) p

abbrev pub often_among : List ℕ → List (List ℕ) → ℕ
often_among p ps = sum_over (alike p) ps

-- the list has each column below n once, and nothing else
pub record EachOnce (n : ℕ) (p : List ℕ) : Type 0 where
  pub below : (c : ℕ) → c < n → often c p ≡ 1
  pub beyond : (c : ℕ) → n ≤ c → often c p ≡ 0
