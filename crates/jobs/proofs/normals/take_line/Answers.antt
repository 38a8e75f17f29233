-- The vector read is that of the line, which has the basis's length, so it is taken in.
use Rattle.std.proofs.Common.{sym, ◌∙◌}
use Rattle.jobs.proofs.Lines.{line_taken, line_refused}
use Rattle.jobs.proofs.normals.take_line.Goals as goal

pub returns-in_err-at_end-clause-taken : goal.returns-in_err-at_end-clause-taken
returns-in_err-at_end-clause-taken g c wide within t =
    absurd (line_refused g.C.Coding c.args.sheet.now c.args.number within c.args.basis.now c.take_in.new.self t
    c.in_ok-vector.vector c.in_ok-vector.ensures.1 c.end.result c.take_in.result c.take_in.ensures.stands c.in_err-at_end.field-0.0 (sym c.at_end.ensures ∙ c.in_err-at_end.was) c.take_in.ensures.answer)

pub returns-clause-taken : goal.returns-clause-taken
returns-clause-taken g c wide within t =
    line_taken g.C.Coding c.args.sheet.now c.args.number within c.args.basis.now c.take_in.new.self t
    c.in_ok-vector.vector c.in_ok-vector.ensures.1 c.end.result c.take_in.result c.take_in.ensures.stands _ (sym c.at_end.ensures ∙ c.in_ok-at_end.was) c.take_in.ensures.kept
