-- Six splits make 64 shares.
use Rattle.std.proofs.Common.{◌^◌, ◌≤◌, arith, pow_mono}
use Rattle.tally.proofs.sizes.Sizes.share_count.Goals as goal

pub returns-clause-most : goal.returns-clause-most
returns-clause-most c = let p : 2 ^ c.args.self.splits ≤ 2 ^ 6 = pow_mono c.args.self.few in omega (arith, p)
