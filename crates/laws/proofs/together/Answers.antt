-- Each law where it is proved.
use mathlib.Core.Path.{refl, sym, ◌∙◌}
use lib.ListN.{take}
use Rattle.basis.specs.Form.{meant_rows}
use Rattle.basis.specs.Calls.{accepted}
use Rattle.basis.proofs.Agreeing.{agreeing}
use Rattle.basis.proofs.Comparing.{checks_coset, remainders_coset}
use Rattle.tally.proofs.Entries.{all_told, all_entered, total_permanent}
use Rattle.laws.proofs.together.Goals as goal

pub returns : goal.returns
returns g c = record {
  count = refl;
  laws = record {
    equal_rows = λ n calls others a b p d e f q h run other. agreeing g.C.Coding g.D.Coding (g.met.C.Ternary.three ∙ sym g.met.D.Ternary.three) n run.rank other.rank b f
        (accepted g.C.Coding n calls) (accepted g.D.Coding n others) run.stands other.stands;
    cosets = record {
      checks = λ n calls a b p d run dual form x y lx ly. checks_coset g.C.Coding n run.stands.form.fits (meant_rows g.C.Coding (take run.rank b)) (accepted g.C.Coding n calls) run.stands.form.normal x y lx ly dual form;
      remainders = λ n calls a b p d run x y l r lx ly rl rr. remainders_coset g.C.Coding n run.stands.form.fits (meant_rows g.C.Coding (take run.rank b)) (accepted g.C.Coding n calls) run.stands.form.normal x y lx ly l r rl rr;
    };
    results = λ calls t s. ((all_told s, all_entered s), total_permanent s);
  };
}
