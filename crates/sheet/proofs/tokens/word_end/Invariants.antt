-- Every byte so far is one of a word.
use Rattle.std.proofs.Common.{ℕ, ◌+◌, ◌<◌, ◌≤◌, get_or}
use Rattle.sheet.specs.Reading.{WordByte}
use Rattle.sheet.proofs.tokens.word_end.Given as goal

abbrev pub invariant-loop-length : goal.invariant-loop-length
invariant-loop-length l = (k : ℕ) → l.start ≤ k → k < l.start + l.length → WordByte (get_or l.text k 0)
