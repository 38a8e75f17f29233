-- The last row turned to a place, and the row written over it.
use Rattle.basis.proofs.Placing.{put_is}
use Rattle.basis.proofs.rows.put_at.Goals as goal

pub returns : goal.returns
returns g c = put_is c.args.rows.now c.rotate_right.new.self c.args.at c.args.row c.requires c.rotate_right.ensures.after
