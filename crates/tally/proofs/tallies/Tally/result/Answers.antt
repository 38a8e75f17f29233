-- The table tells which shares are booked, and its full sum is the permanent.
use Rattle.std.proofs.Common.{sym, arith}
use Rattle.tally.proofs.Entries.{first_told, result_stands}
use Rattle.tally.proofs.tallies.Tally.result.Goals as goal

pub returns-clause-answer : goal.returns-clause-answer
returns-clause-answer g c =
    simp (sym c.in_ok-made.ensures) (first_told c.args.self.now.sizes.splits c.args.self.now.table.entries c.share_count.ensures.number (omega (arith, c.share_count.ensures.most)) c.total.result c.total.ensures)

pub returns-clause-stands : goal.returns-clause-stands
returns-clause-stands g c b s =
    result_stands s c.total.result (first_told c.args.self.now.sizes.splits c.args.self.now.table.entries c.share_count.ensures.number (omega (arith, c.share_count.ensures.most)) c.total.result c.total.ensures)
