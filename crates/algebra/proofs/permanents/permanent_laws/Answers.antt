use Rattle.std.proofs.Common.{refl}
use Rattle.algebra.proofs.Arrangements.{arranged, complete}
use Rattle.algebra.proofs.Formula.{formula}
use Rattle.algebra.proofs.Shares.{shares}
use Rattle.algebra.proofs.Toggling.{toggled}
use Rattle.algebra.proofs.RunningSums.{enters, leaves}
use Rattle.algebra.proofs.permanents.permanent_laws.Goals as goal

pub returns : goal.returns
returns c = record {
  count = refl;
  laws = record { arranged = arranged; complete = complete; formula = formula; shares = shares; toggled = toggled; enters = enters; leaves = leaves };
}
