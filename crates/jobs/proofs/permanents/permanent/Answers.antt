-- The lines read are the rows of the sheet's matrix, and nothing is refused once they are square and few.
use Rattle.std.proofs.Common.{◌≡◌, ◌≤◌, length, sym, ◌∙◌, arith}
use Rattle.codings.specs.Plane.{meant_by, Canonical}
use Rattle.jobs.proofs.Squares.{answered, never_refused}
use Rattle.jobs.proofs.permanents.permanent.Goals as goal

pub returns-in_err-digit : goal.returns-in_err-digit
returns-in_err-digit c =
    let o = c.in_ok-sheet.ensures in
    let most : c.in_ok-sheet.sheet.names ≤ 64 = omega (arith, o.describes.names_are, o.describes.sheet.names_rule.most) in
    let square : c.in_ok-sheet.sheet.lines ≡ c.names-size.result = omega (arith, c.lines-lines.ensures, c.if-lines-size.false) in
    absurd (never_refused 64 meant_by Canonical (omega arith) c.args.text.now c.in_ok-sheet.sheet o c.names-size.result c.names-size.ensures square (omega (arith, c.if-size-gt-MOST_ROWS.false))
    c.read_lines.new.rows c.read_lines.auto.rows (c.in_ok-read_lines.ensures most)
    (length c.args.text.now) c.work_all.result c.work_all.ensures c.in_err-digit.field-0.0 (sym c.at_end.ensures ∙ c.in_err-digit.was))

pub returns : goal.returns
returns c =
    let o = c.in_ok-sheet.ensures in
    let most : c.in_ok-sheet.sheet.names ≤ 64 = omega (arith, o.describes.names_are, o.describes.sheet.names_rule.most) in
    let square : c.in_ok-sheet.sheet.lines ≡ c.names-size.result = omega (arith, c.lines-lines.ensures, c.if-lines-size.false) in
    answered 64 meant_by Canonical (omega arith) c.args.text.now c.in_ok-sheet.sheet o c.names-size.result c.names-size.ensures square (omega (arith, c.if-size-gt-MOST_ROWS.false))
    c.read_lines.new.rows c.read_lines.auto.rows (c.in_ok-read_lines.ensures most)
    (length c.args.text.now) c.work_all.result c.work_all.ensures c.in_ok-digit.digit (sym c.at_end.ensures ∙ c.in_ok-digit.was)
