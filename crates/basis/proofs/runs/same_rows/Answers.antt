-- A making that is refused leaves all, and rows of two codings agree exactly when their spans do.
use Rattle.basis.specs.Calls.{accepted}
use Rattle.basis.proofs.Agreeing.{first_agree, agreeing}
use Rattle.basis.proofs.runs.same_rows.Goals as goal

pub returns-clause-answer : goal.returns-clause-answer
returns-clause-answer g c = (
  first_agree g.C.Coding g.D.Coding c.args.n c.run.new.rows c.run-2.new.rows c.rows_agree.result c.rows_agree.ensures,
  λ one. agreeing g.C.Coding g.D.Coding one c.args.n c.run.ensures.rank c.run-2.ensures.rank c.run.new.rows c.run-2.new.rows
      (accepted g.C.Coding c.args.n c.args.calls.now) (accepted g.D.Coding c.args.n c.args.other_calls.now)
      c.run.ensures.stands c.run-2.ensures.stands,
)
