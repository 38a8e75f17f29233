-- No byte so far is foreign.
use Rattle.std.proofs.Common.{ℕ, ◌<◌, get_or}
use Rattle.sheet.specs.Faults.{Known}
use Rattle.sheet.proofs.texts.judge.Given as goal

abbrev pub invariant-loop-place : goal.invariant-loop-place
invariant-loop-place l = (k : ℕ) → k < l.place → Known (get_or l.text k 0)
