-- What two whole runs of calls, and one run with two vectors after it, come to.
use Rattle.std.specs.Prelude.{◌≡◌, ℕ, ◌<◌, ◌≤◌, true, ◌⊎◌, ◌↔◌, List, length, take, drop, Decides}
use Rattle.algebra.specs.Vector.{Vector, Long}
use Rattle.algebra.specs.Space.{less, Comb}
use Rattle.coding.specs.declared.vectors.Coding.{Ghosts as Coding}
use Rattle.coding.specs.Lengths.{InRange}
use Rattle.coding.specs.Refusals.{number_of}
use Rattle.coding.specs.declared.refusals.Refusal.{Refusal}
use Rattle.basis.specs.declared.calls.Call.{Call}
use Rattle.basis.specs.declared.runs.Compared.{Compared}
use Rattle.basis.specs.Answers.{NotMade, Remains, WroteDual, check_digits_of}
use Rattle.basis.specs.Calls.{accepted}
use Rattle.basis.specs.Form.{Rows, meant_rows}

module _ {X : Type 0} (C : Coding X) (n : ℕ) where
  -- the rows hold the normal form of the accepted vectors, and neither rows nor scratch beyond the first n have changed
  pub record Ran (calls : List (Call X)) (old_rows rows old_scratch scratch : List X) : Type 0 where
    pub rank : ℕ
    pub stands : Rows C n rank rows (accepted C n calls)
    pub beyond : drop n rows ≡ drop n old_rows
    pub scratch_beyond : drop n scratch ≡ drop n old_scratch

  -- the first bytes are the check digits of a vector, and later ones are as they were
  pub record Checked (rows : List X) (v : Vector C.field) (old new : List ℕ) : Type 0 where
    pub digits : take (length rows) new ≡ check_digits_of C rows v
    pub rest : drop (length rows) new ≡ drop (length rows) old

  -- the dual in the scratch, the check digits of u and v against it, and what the rows leave of both
  pub record Comparison (rank : ℕ) (rows : List X) (vs : List (Vector C.field)) (u v : Vector C.field) (old_scratch scratch : List X) (old_first first old_second second : List ℕ) (answer : Compared) : Type 0 where
    pub count : ℕ
    pub dual : WroteDual C n rank vs old_scratch scratch count
    pub first_checked : Checked (take count scratch) u old_first first
    pub second_checked : Checked (take count scratch) v old_second second
    pub checks : Decides answer.check_digits (check_digits_of C (take count scratch) u ≡ check_digits_of C (take count scratch) v)
    pub left : Vector C.field
    pub left_remains : Remains C.field n (meant_rows C (take rank rows)) vs u left
    pub right : Vector C.field
    pub right_remains : Remains C.field n (meant_rows C (take rank rows)) vs v right
    pub remainders : Decides answer.remainders ((k : ℕ) → left k ≡ right k)
    -- check digits, remainders and cosets agree
    pub agree : (answer.check_digits ≡ true) ↔ (answer.remainders ≡ true)
    pub coset : (answer.remainders ≡ true) ↔ Comb C.field vs (less C.field u v)

  -- a run, and then the comparison; `middle` is the scratch between the two
  pub record Cosets (calls : List (Call X)) (u v : Vector C.field) (old_rows rows old_scratch scratch : List X) (old_first first old_second second : List ℕ) (answer : Compared) : Type 0 where
    pub middle : List X
    pub run : Ran calls old_rows rows old_scratch middle
    pub compared : Comparison run.rank rows (accepted C n calls) u v middle scratch old_first first old_second second answer

-- why such a comparison is refused: the making, then fewer than n scratch rows or bytes, then a vector that has not length n
abbrev pub CosetsRefused : {X : Type 0} (C : Coding X) (n rows scratch first second : ℕ) (u v : Vector C.field) → Refusal → Type 0
CosetsRefused C n rows scratch first second u v e =
    NotMade C.width n rows e
    ⊎ ((InRange C.width n × (n ≤ rows))
    × (((number_of e ≡ 8) × ((scratch < n) ⊎ ((first < n) ⊎ (second < n))))
    ⊎ ((number_of e ≡ 11) × (n ≤ scratch) × (n ≤ first) × (n ≤ second) × (Long C.field n u × Long C.field n v → ⊥))))
