-- What the calls of a basis answer, and when they refuse.
use Rattle.std.specs.Prelude.{◌≡◌, ℕ, ◌+◌, ◌<◌, ◌≤◌, ◌⊎◌, List, map, length, take, drop, codes}
use Rattle.std.specs.List.{AllWithin}
use Rattle.algebra.specs.Field.{Field, value}
use Rattle.algebra.specs.Vector.{Vector, Long, dot}
use Rattle.algebra.specs.Space.{less, Comb}
use Rattle.algebra.specs.NormalForm.{Row, Clear}
use Rattle.algebra.specs.Dual.{DualForm}
use Rattle.coding.specs.declared.vectors.Coding.{Ghosts as Coding}
use Rattle.coding.specs.Lengths.{InRange, OutOfRange}
use Rattle.coding.specs.Refusals.{number_of}
use Rattle.coding.specs.declared.refusals.Refusal.{Refusal}
use Rattle.basis.specs.Form.{meant_rows}
use Rattle.basis.specs.declared.taken.Taken.{Taken}
use Rattle.basis.specs.Words.{word_of}

-- why no basis of length n is made over so many rows
abbrev pub NotMade : (width n rows : ℕ) → Refusal → Type 0
NotMade width n rows e = ((number_of e ≡ 6) × OutOfRange width n) ⊎ ((number_of e ≡ 8) × InRange width n × (rows < n))

-- refused as not of length n
abbrev pub Beyond : (F : Field) → ℕ → Vector F → Refusal → Type 0
Beyond F n v e = (number_of e ≡ 11) × (Long F n v → ⊥)

-- known is a combination of vs, and grown is any other vector
abbrev pub Tells : (F : Field) → List (Vector F) → Vector F → Taken → Type 0
Tells F vs v t = ((word_of t ≡ codes "known") × Comb F vs v) ⊎ ((word_of t ≡ codes "grown") × (Comb F vs v → ⊥))

-- what is left of v: it differs from v by a combination of vs and holds 0 at every lead of the rows
pub record Remains (F : Field) (n : ℕ) (rows : List (Row F)) (vs : List (Vector F)) (v r : Vector F) : Type 0 where
  pub long : Long F n r
  pub differs : Comb F vs (less F v r)
  pub clear : Clear F rows r

-- the first `count` rows written are the normal form of the dual, stored as answers are, and later rows are as they were
pub record WroteDual {X : Type 0} (C : Coding X) (n rank : ℕ) (vs : List (Vector C.field)) (old new : List X) (count : ℕ) : Type 0 where
  pub number : count + rank ≡ n
  pub room : count ≤ length new
  pub form : DualForm C.field n (meant_rows C (take count new)) vs
  pub stored : AllWithin C.canonical new 0 count
  pub rest : drop count new ≡ drop count old

-- the values of the dot products of a vector with the rows, in their order
abbrev pub check_digits_of : {X : Type 0} (C : Coding X) → List X → Vector C.field → List ℕ
check_digits_of C rows v = map (λ x. value (dot C.field C.width (C.meant x) v)) rows
