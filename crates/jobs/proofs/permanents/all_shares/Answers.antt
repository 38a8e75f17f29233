-- Each call is that of its share.
use Rattle.std.proofs.Common.{rules}
use Rattle.std.proofs.lemmas.List.FromFn.{fill_by_all}
use Rattle.tally.specs.declared.calls.Call.TheVariants.{Work}
use Rattle.jobs.proofs.permanents.all_shares.Goals as goal

pub returns : goal.returns
returns c =
    fill_by_all Work c.from_fn.result 64 (Work 0) c.from_fn.ensures.items.long (λ k l. let call = (c.from_fn.ensures.items.at k (Work 0) l).2 in search rules)
