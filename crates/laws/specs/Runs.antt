-- The three laws over whole runs of calls, as one statement for any two ternary codings.
use Rattle.std.specs.Prelude.{◌≡◌, List, ◌↔◌, ℕ, ◌%◌, get_or, take, None}
use Rattle.algebra.specs.Vector.{Vector, Long}
use Rattle.algebra.specs.Space.{less, Comb}
use Rattle.algebra.specs.Dual.{DualForm}
use Rattle.algebra.specs.Permanent.{permanent}
use Rattle.coding.specs.declared.vectors.Coding.{Ghosts as Coding}
use Rattle.basis.specs.Form.{meant_rows}
use Rattle.basis.specs.declared.calls.Call.{Call}
use Rattle.basis.specs.Agree.{SameDigits, SameSpans}
use Rattle.basis.specs.Answers.{Remains, check_digits_of}
use Rattle.basis.specs.Calls.{accepted}
use Rattle.basis.specs.Runs.{Ran}
use Rattle.tally.specs.declared.calls.Call.{Call as TallyCall}
use Rattle.tally.specs.declared.tallies.Tally.{Tally}
use Rattle.tally.specs.Booking.{is_booked, total_of, AllBooked}
use Rattle.tally.specs.Calls.{booked_by}
use Rattle.tally.specs.Matrix.{matrix}
use Rattle.tally.specs.Stands.{Stands}

-- two bases of one length, after any two runs of calls, hold equal rows exactly when their accepted vectors have the same combinations
abbrev pub EqualRows : {X Y : Type 0} → Coding X → Coding Y → Type 0
EqualRows {X} {Y} C D =
    (n : ℕ) (calls : List (Call X)) (others : List (Call Y)) (a b c d : List X) (e f g h : List Y)
    → Ran C n calls a b c d → Ran D n others e f g h
    → SameDigits C D n b f ↔ SameSpans C.field D.field (accepted C n calls) (accepted D n others)

-- after any run of calls, two vectors have equal check digits against the dual, and leave equal remainders, exactly when their difference is a combination of the accepted vectors
pub record Cosets {X : Type 0} (C : Coding X) : Type 0 where
  pub checks : (n : ℕ) (calls : List (Call X)) (a b c d : List X) → Ran C n calls a b c d
      → (dual : List X) → DualForm C.field n (meant_rows C dual) (accepted C n calls)
      → (x y : Vector C.field) → Long C.field n x → Long C.field n y
      → (check_digits_of C dual x ≡ check_digits_of C dual y) ↔ Comb C.field (accepted C n calls) (less C.field x y)
  pub remainders : (n : ℕ) (calls : List (Call X)) (a b c d : List X) (run : Ran C n calls a b c d)
      → (x y l r : Vector C.field) → Long C.field n x → Long C.field n y
      → Remains C.field n (meant_rows C (take run.rank b)) (accepted C n calls) x l → Remains C.field n (meant_rows C (take run.rank b)) (accepted C n calls) y r
      → ((k : ℕ) → l k ≡ r k) ↔ Comb C.field (accepted C n calls) (less C.field x y)

-- after any run of calls a table has every share booked exactly if the calls alone say so, and then its digits add up to the permanent
abbrev pub Results : {X : Type 0} → Coding X → Type 0
Results {X} C =
    (calls : List TallyCall) (t : Tally X C) → Stands t (booked_by t.sizes.splits calls)
    → (AllBooked t.sizes.splits (λ k. is_booked (get_or t.table.entries k None)) ↔ AllBooked t.sizes.splits (booked_by t.sizes.splits calls))
    × (AllBooked t.sizes.splits (booked_by t.sizes.splits calls) → total_of t.sizes.splits t.table.entries ≡ permanent (matrix C t.rows.now) t.sizes.size % 3)

-- the three together
pub record Together {X Y : Type 0} (C : Coding X) (D : Coding Y) : Type 0 where
  pub equal_rows : EqualRows C D
  pub cosets : Cosets C
  pub results : Results C
