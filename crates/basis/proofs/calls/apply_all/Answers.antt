-- One call more is run.
use Rattle.std.proofs.Common.{◌≡◌, drop, fold, subst, take_all}
use Rattle.basis.specs.Stands.{Stands}
use Rattle.basis.specs.Calls.{after_call}
use Rattle.basis.proofs.Running.{kept_on, run_more}
use Rattle.basis.proofs.calls.apply_all.Goals as goal

pub loop-call-preserved : goal.loop-call-preserved
loop-call-preserved g c = (
  kept_on c.args.basis.now c.loop-call.basis c.apply.new.basis c.loop-call.invariant.0 c.apply.ensures.kept,
  λ vs s. run_more g.C.Coding c.args.basis.now c.loop-call.basis c.apply.new.basis c.args.calls.now c.loop-call.call-index c.call-item.result vs c.args.scratch.now c.loop-call.scratch c.apply.new.scratch
      c.loop-call-test.true c.call-item.is c.loop-call.invariant.0.long (c.loop-call.invariant.1 vs s) c.apply.ensures.stands,
)

pub returns-clause-stands : goal.returns-clause-stands
returns-clause-stands g c vs s = subst (λ calls. Stands g.C.Coding c.loop-call.basis (fold (after_call g.C.Coding c.args.basis.now.sizes.length) vs calls) × (drop c.args.basis.now.sizes.length c.loop-call.scratch ≡ drop c.args.basis.now.sizes.length c.args.scratch.now))
    (take_all c.loop-call.call-index c.args.calls.now c.loop-call-test.false) (c.loop-call.invariant.1 vs s)
