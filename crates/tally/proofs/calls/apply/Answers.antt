-- Each call by what the calls alone say of it.
use Rattle.tally.proofs.calls.apply.Goals as goal

pub returns-in-Work-clause-stands : goal.returns-in-Work-clause-stands
returns-in-Work-clause-stands g c b s = rw c.in-Work.is (c.work.ensures.stands b s)
