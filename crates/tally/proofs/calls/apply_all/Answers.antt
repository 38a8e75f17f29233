-- One call more is run.
use Rattle.std.proofs.Common.{take_all}
use Rattle.tally.specs.declared.calls.Call.TheVariants.{Work}
use Rattle.tally.proofs.Running.{kept_on, run_more}
use Rattle.tally.proofs.calls.apply_all.Goals as goal

pub loop-i-preserved : goal.loop-i-preserved
loop-i-preserved g c = record {
  kept = kept_on c.loop-i.invariant.kept c.apply.ensures.kept;
  stands = λ b s. run_more c.args.calls.now c.loop-i.i (Work 0) b c.loop-i-test.true c.loop-i.invariant.kept (c.loop-i.invariant.stands b s) c.apply.ensures.stands;
}

pub returns-clause-stands : goal.returns-clause-stands
returns-clause-stands g c b s = rw (take_all c.loop-i.i c.args.calls.now c.loop-i-test.false) at (c.loop-i.invariant.stands b s)
