-- Any names line goes on from the names walked so far: whatever stops the walk stops it too.
use Rattle.std.proofs.lemmas.Bool.{both_ways}
use Rattle.sheet.proofs.Headings.{walked_more, headed, none_without_name, none_with_repeat, none_beyond}
use Rattle.sheet.proofs.sheets.names_line.Goals as goal

pub returns-in_err-name : goal.returns-in_err-name
returns-in_err-name c =
    rw c.from_residual.ensures
    (none_without_name c.args.text.now c.loop-count.count c.loop-count.next c.loop-count.invariant c.in_err-name.ensures)

pub returns-then-is_among : goal.returns-then-is_among
returns-then-is_among c =
    let s = c.loop-count.invariant in
    none_with_repeat c.args.text.now c.loop-count.count c.loop-count.next s c.in_ok-name.name c.in_ok-name.ensures
    ((c.is_among.ensures s.names _ s.each s.many s.text_is).0 c.if-is_among.true)

pub returns-in-LineEnd : goal.returns-in-LineEnd
returns-in-LineEnd c =
    let s = c.loop-count.invariant in
    headed c.args.text.now c.loop-count.count c.loop-count.next s c.in_ok-name.name c.in_ok-name.ensures
    (λ k l e. both_ways c.is_among.result c.if-is_among.false ((c.is_among.ensures s.names _ s.each s.many s.text_is).1 (k, l, e)))
    c.loop-count-test.true c.in-LineEnd.is

pub loop-count-preserved : goal.loop-count-preserved
loop-count-preserved c =
    let s = c.loop-count.invariant in
    walked_more c.args.text.now c.loop-count.count c.loop-count.next s c.in_ok-name.name c.in_ok-name.ensures
    (λ k l e. both_ways c.is_among.result c.if-is_among.false ((c.is_among.ensures s.names _ s.each s.many s.text_is).1 (k, l, e)))
    c.in-Blank.is

pub returns : goal.returns
returns c = none_beyond c.args.text.now c.loop-count.count c.loop-count.next c.loop-count.invariant c.loop-count-test.false
