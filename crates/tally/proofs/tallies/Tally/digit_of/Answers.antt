-- The digit is that of the first rows.
use Rattle.std.proofs.Common.{◌∙◌}
use Rattle.tally.proofs.Entries.{share_of_first}
use Rattle.tally.proofs.tallies.Tally.digit_of.Goals as goal

pub returns : goal.returns
returns g c =
    c.share_digit.ensures
    ∙ share_of_first g.C.Coding c.args.self.now.rows.now c.args.self.now.sizes.size c.args.self.now.sizes.splits c.args.share (c.args.self.now.room tt c.requires.0)
