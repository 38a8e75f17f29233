use Rattle.std.proofs.Common.{◌≡◌, ℕ, subst, MatchOption}
use mathlib.Core.Path.{fun_ext}
use Rattle.algebra.specs.Modulo.{f3}
use Rattle.algebra.specs.Vector.{Leads}
use Rattle.codings.proofs.singles.SingleCoding.lead.Goals as goal

pub returns : goal.returns
returns c =
    subst (λ v. MatchOption c.lead.result ((k : ℕ) → v k ≡ f3.nil) (λ l. Leads f3 v l.place l.digit))
    (fun_ext c.from.ensures) c.lead.ensures
