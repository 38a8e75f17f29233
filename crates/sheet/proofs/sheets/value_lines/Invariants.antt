-- The value lines before this turn are read, and what is left goes on after them.
use Rattle.std.proofs.Common.{◌≡◌, ◌+◌, ◌*◌, length, drop}
use Rattle.std.specs.Slice.Iter.{chunks_rest, chunks_size}
use Rattle.sheet.specs.Reading.{Lined}
use Rattle.sheet.proofs.sheets.value_lines.Given as goal

abbrev pub invariant-loop-line : goal.invariant-loop-line
invariant-loop-line l =
    (chunks_size l.line-iterator ≡ 2 * l.head.names)
    × Lined l.head.names (drop l.head.end l.text) l.lines (chunks_rest l.line-iterator)
    × (l.head.end + l.lines * (2 * l.head.names) + length (chunks_rest l.line-iterator) ≡ length l.text)
