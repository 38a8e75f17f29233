-- The digits so far are written, and later bytes are as they were.
use Rattle.std.proofs.Common.{◌≡◌, take, drop}
use Rattle.basis.specs.Answers.{check_digits_of}
use Rattle.basis.proofs.checks.check_digits.Given as goal

abbrev pub invariant-loop-i : goal.invariant-loop-i
invariant-loop-i g l =
    (take l.i l.output ≡ check_digits_of g.C.Coding (take l.i l.rows) (g.C.Coding.meant l.vector))
    × (drop l.i l.output ≡ drop l.i l.initial.output)
