-- Each call by what the calls alone say of it.
use Rattle.std.proofs.Common.{sym, refl, subst}
use Rattle.basis.specs.Stands.{Stands}
use Rattle.basis.specs.Calls.{after_call}
use Rattle.basis.proofs.Running.{take_in_step, clear_step}
use Rattle.basis.proofs.calls.apply.Goals as goal

pub returns-in-TakeIn-clause-stands : goal.returns-in-TakeIn-clause-stands
returns-in-TakeIn-clause-stands g c vs s = (
  subst (λ call. Stands g.C.Coding c.take_in.new.self (after_call g.C.Coding c.args.basis.now.sizes.length vs call)) (sym c.in-TakeIn.is)
      (take_in_step g.C.Coding c.args.basis.now c.take_in.new.self c.in-TakeIn.vector c.take_in.result vs (g.met.C.Coding.beyond c.in-TakeIn.vector) c.take_in.ensures.answer c.take_in.ensures.refused (c.take_in.ensures.stands vs s) s),
  refl,
)

pub returns-in-Clear-clause-stands : goal.returns-in-Clear-clause-stands
returns-in-Clear-clause-stands g c vs s = (
  subst (λ call. Stands g.C.Coding c.clear.new.self (after_call g.C.Coding c.args.basis.now.sizes.length vs call)) (sym c.in-Clear.is)
      (clear_step g.C.Coding c.clear.new.self c.clear.result (c.clear.ensures.stands vs s)),
  refl,
)

pub returns-in-Dual-clause-stands : goal.returns-in-Dual-clause-stands
returns-in-Dual-clause-stands g c vs s = (
  subst (λ call. Stands g.C.Coding c.args.basis.now (after_call g.C.Coding c.args.basis.now.sizes.length vs call)) (sym c.in-Dual.is) s,
  c.dual_within.ensures vs s,
)
