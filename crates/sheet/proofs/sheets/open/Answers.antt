-- Each layer hands on what it found; the lemmas on whole sheets join it.
use Rattle.std.proofs.Common.{take, sym, refl, inl}
use Rattle.std.proofs.lemmas.Option.{MatchOption-at_some}
use Rattle.std.proofs.lemmas.Result.{err_from_is_err_and}
use Rattle.sheet.specs.Format.{Parts}
use Rattle.sheet.specs.Reading.{Headed}
use Rattle.sheet.proofs.Places.{rows_are_read}
use Rattle.sheet.proofs.Wholes.{text_fault, bad_values, sheet, head_is, only}
use Rattle.sheet.proofs.sheets.open.Goals as goal

pub returns-in_err-judge : goal.returns-in_err-judge
returns-in_err-judge c =
    let p = err_from_is_err_and c.from_residual.result c.from_residual.ensures.1 in
    rw (p.1, p.2) (inl c.in_err-judge.ensures, text_fault c.args.text.now c.in_err-judge.field-0.0 c.in_err-judge.ensures)

pub returns-in_err-lines : goal.returns-in_err-lines
returns-in_err-lines c =
    let p = err_from_is_err_and c.from_residual-in_err-lines.result c.from_residual-in_err-lines.ensures.1 in
    let h = MatchOption-at_some _ (Headed c.args.text.now) c.in_ok-head.head c.in_ok-head.ensures.ok_part c.names_line.ensures in
    let j = c.in_ok-judge.ensures in
    rw (p.1, p.2) (bad_values c.args.text.now c.in_ok-head.head h c.in_err-lines.field-0.0 j.0 j.1 c.in_err-lines.ensures)

pub returns : goal.returns
returns c =
    let h = MatchOption-at_some _ (Headed c.args.text.now) c.in_ok-head.head c.in_ok-head.ensures.ok_part c.names_line.ensures in
    let l = c.in_ok-lines.ensures in
    let parts : Parts c.args.text.now (take c.in_ok-head.head.end c.args.text.now) c.in_ok-head.head.names c.in_ok-lines.lines h.names l.rows = record {
      sheet = sheet c.args.text.now c.in_ok-head.head h c.in_ok-lines.lines c.in_ok-judge.ensures.0 l;
      head_is = head_is c.args.text.now c.in_ok-head.head h;
      names_are = h.count;
      rows_are = sym l.many;
    } in
    record {
      text_is = refl;
      names = h.names;
      rows = l.rows;
      describes = parts;
      read = rows_are_read c.args.text.now _ c.in_ok-head.head.names c.in_ok-lines.lines h.names l.rows parts;
      only = only c.args.text.now c.in_ok-head.head h c.in_ok-lines.lines l;
    }
