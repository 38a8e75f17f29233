-- The matrix that stored rows mean, the digits of its shares, and the running sum of rows.
use Rattle.std.specs.Prelude.{◌≡◌, ℕ, ◌%◌, ◌<◌, List}
use Rattle.algebra.specs.Field.{value}
use Rattle.algebra.specs.Vector.{Vector}
use Rattle.algebra.specs.Permanent.{sum_over}
use Rattle.algebra.specs.Gray.{chosen, term, share}
use Rattle.coding.specs.declared.vectors.Coding.{Ghosts as Coding}
use Rattle.coding.specs.Walks.{meaning}

-- the digit of row i at column j
abbrev pub matrix : {X : Type 0} (C : Coding X) → List X → ℕ → ℕ → ℕ
matrix C rows i j = value (meaning C rows i j)

-- the digit of share k of 2 ^ s shares: the sum of the terms at its positions, modulo 3
abbrev pub share_digit : (ℕ → ℕ → ℕ) → (n s k : ℕ) → ℕ
share_digit A n s k = sum_over (term A n) (share n s k) % 3

-- v is, within n columns, the sum of those of the n rows that the code g chooses
abbrev pub Sums : {X : Type 0} (C : Coding X) → List X → (n g : ℕ) → Vector C.field → Type 0
Sums C rows n g v = (c : ℕ) → c < n → value (v c) ≡ chosen (matrix C rows) n g c % 3
