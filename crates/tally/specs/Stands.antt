-- What a tally stands for, and what its calls leave alone.
use Rattle.std.specs.Prelude.{◌≡◌, ℕ, Bool, Ok, slice_index_or, None}
use Rattle.coding.specs.declared.vectors.Coding.{Ghosts as Coding}
use Rattle.tally.specs.declared.tallies.Tally.{Tally}
use Rattle.tally.specs.Booking.{is_booked}

-- it was made, and its table has booked what b says
pub record Stands {X : Type 0} {C : Coding X} (t : Tally X C) (b : ℕ → Bool) : Type 0 where
  pub live : t.making ≡ Ok tt
  pub marked : (k : ℕ) → is_booked (slice_index_or t.table.entries k None) ≡ b k

-- what no call changes: the numbers, how its making ended, the rows, and whose they are
pub record Kept {X : Type 0} {C : Coding X} (old new : Tally X C) : Type 0 where
  pub sizes : new.sizes ≡ old.sizes
  pub making : new.making ≡ old.making
  pub rows : new.rows.now ≡ old.rows.now
  pub lent : new.rows.ghost_name ≡ old.rows.ghost_name
