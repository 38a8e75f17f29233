-- No share is missing after calls to work all of them.
use Rattle.std.proofs.Common.{◌≡◌}
use Rattle.std.specs.List.{HoldsAt}
use Rattle.algebra.specs.Vector.{zeros}
use Rattle.jobs.proofs.Squares.{all_worked}
use Rattle.jobs.proofs.permanents.work_all.Goals as goal

pub returns : goal.returns
returns g c m =
    all_worked g.C.Coding c.args.size c.args.rows.now m
    c.most_splits.result c.most_splits.ensures.0 c.most_splits.ensures.1 c.all_shares-calls.result c.all_shares-calls.ensures
    (HoldsAt (λ x. g.C.Coding.meant x ≡ zeros g.C.Coding.field) c.result_after.new.rows c.args.size) (c.result_after.new.rows ≡ c.args.rows.now) c.result_after.result c.result_after.ensures.answer
