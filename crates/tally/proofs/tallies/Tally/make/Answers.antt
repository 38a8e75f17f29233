-- A new table is empty, and only the row after the matrix is written.
use Rattle.std.proofs.Common.{refl, ap, sym, ◌∙◌, length-set, arith}
use mathlib.Core.Path.{fun_ext}
use Rattle.std.proofs.lemmas.List.{get_or-set_same, get_or-set_other}
use Rattle.std.proofs.lemmas.Option.{none-some}
use Rattle.tally.specs.Booking.{is_booked}
use Rattle.tally.proofs.Entries.{nothing}
use Rattle.tally.proofs.tallies.Tally.make.Goals as goal

pub invariant_of-result-in-Err-clause-digits : goal.invariant_of-result-in-Err-clause-digits
invariant_of-result-in-Err-clause-digits g c k d held = absurd (none-some d (sym (nothing 64 k) ∙ held))

pub invariant_of-result-in-Err-clause-inside : goal.invariant_of-result-in-Err-clause-inside
invariant_of-result-in-Err-clause-inside g c k l = nothing 64 k

pub invariant_of-result-3-clause-spare : goal.invariant_of-result-3-clause-spare
invariant_of-result-3-clause-spare g c done made d = ap g.C.Coding.meant (get_or-set_same c.args.rows.now c.args.size c.zero.result d c.in_default.ensures.room) ∙ fun_ext c.zero.ensures.digits

pub invariant_of-result-3-clause-room : goal.invariant_of-result-3-clause-room
invariant_of-result-3-clause-room g c done made = omega (arith, length-set c.args.rows.now c.args.size c.zero.result, c.in_default.ensures.room)

pub invariant_of-result-3-clause-digits : goal.invariant_of-result-3-clause-digits
invariant_of-result-3-clause-digits g c k d held = absurd (none-some d (sym (nothing 64 k) ∙ held))

pub invariant_of-result-3-clause-inside : goal.invariant_of-result-3-clause-inside
invariant_of-result-3-clause-inside g c k l = nothing 64 k

pub returns-clause-made : goal.returns-clause-made
returns-clause-made g c = (
  record { live = refl; marked = λ k. ap is_booked (nothing 64 k) },
  refl,
  refl,
  c.in_default.ensures,
  λ k d other. get_or-set_other c.args.rows.now c.args.size k c.zero.result d other,
)
