use Rattle.std.proofs.Common.{ℕ, ◌<◌, sym, ap, subst, arith}
use lib.Count.{count_trailing_zeros}
use Rattle.algebra.specs.Gray.{gray_code, Toggles}
use Rattle.algebra.proofs.Toggling.{toggled}
use Rattle.algebra.proofs.permanents.toggled_row.Goals as goal

pub returns : goal.returns
unfolding count_trailing_zeros
returns c = record {
  none = λ e. ap (count_trailing_zeros 64) e;
  toggles = λ n i e h l. subst (λ (m : ℕ). (count_trailing_zeros 64 m < n) × Toggles (count_trailing_zeros 64 m) (gray_code i) (gray_code m)) (sym e) (toggled 64 n i (omega arith) l);
}
