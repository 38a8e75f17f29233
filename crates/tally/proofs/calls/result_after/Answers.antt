-- The result after the run is that of the tally that the calls have left.
use Rattle.std.proofs.Common.{rules}
use Rattle.tally.proofs.Running.{ended}
use Rattle.tally.proofs.calls.result_after.Goals as goal

pub returns-clause-answer : goal.returns-clause-answer
returns-clause-answer g c =
    let answer = ended g.C.Coding c.args.rows.now c.args.size c.args.splits c.make-tally.result c.apply_all.new.tally c.args.calls.now
    c.make-tally.ensures.made c.apply_all.ensures.stands c.apply_all.ensures.kept c.result.result (λ e q. rw q at c.result.ensures.answer) c.result.ensures.stands in
    search rules
