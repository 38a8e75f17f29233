-- Each turn takes one value line off what is left.
use Rattle.std.proofs.Common.{ap, refl, arith, length-append, add-mul, one-mul, ◌*◌, ◌<◌, ◌∙◌, min, length}
use Rattle.std.specs.Slice.Iter.{chunks_rest}
use Rattle.std.proofs.lemmas.Bool.{both_ways}
use Rattle.sheet.proofs.Digits.{begins_chunk, chunk_length, lined_chunk}
use Rattle.sheet.proofs.sheets.value_lines.Goals as goal

pub returns-then-not-begins_with_values : goal.returns-then-not-begins_with_values
returns-then-not-begins_with_values c =
    let s = c.in-Some.ensures.steps in
    let i = c.loop-line.invariant in
    let some : 0 < c.args.head.names = omega (arith, c.requires.rule.some, c.requires.count) in
    let size = s.1.1 ∙ ap (λ m. min m (length (chunks_rest c.loop-line.line-iterator))) i.0 in
    rw c.fault.ensures (record {
      number = refl;
      layer = refl;
      count = c.loop-line.lines;
      rest = chunks_rest c.loop-line.line-iterator;
      before = i.1;
      more = s.1.2;
      none = λ b. both_ways c.begins_with_values.result c.if-not-begins_with_values.true
          (c.begins_with_values.ensures.1 (begins_chunk c.args.head.names some _ _ _ s.1.0 size b));
      place = i.2;
    })

pub loop-line-preserved : goal.loop-line-preserved
loop-line-preserved c =
    let s = c.in-Some.ensures.steps in
    let i = c.loop-line.invariant in
    let some : 0 < c.args.head.names = omega (arith, c.requires.rule.some, c.requires.count) in
    let b = c.begins_with_values.ensures.0 c.if-not-begins_with_values.false in
    let size = s.1.1 ∙ ap (λ m. min m (length (chunks_rest c.loop-line.line-iterator))) i.0 in (
      s.0 ∙ i.0,
      lined_chunk c.args.head.names some _ _ _ s.1.0 size _ c.loop-line.lines i.1 b,
      omega (arith, i.2, chunk_length c.args.head.names some _ _ _ s.1.0 size b, ap length s.1.0, length-append c.in-Some.line.now (chunks_rest c.next.new.self), add-mul c.loop-line.lines 1 (2 * c.args.head.names), one-mul (2 * c.args.head.names)),
    )
