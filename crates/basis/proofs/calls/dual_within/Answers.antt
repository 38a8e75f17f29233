-- No row from the length on is written.
use Rattle.std.proofs.Common.{take, drop, ap, ◌∙◌, take-append-drop}
use Rattle.basis.proofs.Running.{dual_beyond, part_beyond}
use Rattle.basis.proofs.calls.dual_within.Goals as goal

pub returns : goal.returns
returns g c vs s =
    part_beyond c.args.basis.now.sizes.length (take c.min-room.result c.args.scratch.now) c.dual.new.output (drop c.min-room.result c.args.scratch.now) c.dual.auto.output
    (dual_beyond g.C.Coding c.args.basis.now.sizes.length c.args.basis.now.sizes.rank vs (take c.min-room.result c.args.scratch.now) c.dual.new.output c.dual.result (c.dual.ensures.stands vs s) c.dual.ensures.refused)
    ∙ ap (drop c.args.basis.now.sizes.length) (take-append-drop c.min-room.result c.args.scratch.now)
