-- Each turn writes one digit and a blank; the last byte that is written makes the blanks' last a line feed.
use Rattle.std.proofs.Common.{arith}
use Rattle.algebra.specs.Field.{value}
use Rattle.sheet.proofs.Values.{figures_more, figures_all}
use Rattle.sheet.proofs.writes.write_row.Goals as goal

pub loop-k-preserved : goal.loop-k-preserved
loop-k-preserved g c =
    figures_more (λ k. value (g.C.Coding.meant c.args.row k)) c.args.output.now c.loop-k.k c.digit_at.result c.loop-k.output
    (omega (arith, c.requires.room, c.loop-k-test.true)) c.digit_at.ensures c.loop-k.invariant

pub returns : goal.returns
returns g c =
    figures_all (λ k. value (g.C.Coding.meant c.args.row k)) c.args.output.now c.args.names c.loop-k.k c.loop-k.output
    c.requires.some c.requires.room (omega arith) c.loop-k.invariant
