-- The permanent of some rows and some columns over a field, and its expansion along the first column.
use Rattle.std.proofs.Common.{◌≡◌, List, [], ◌∷◌, sym, ap, ◌∙◌}
use mathlib.Core.Path.{fun_ext}
use Rattle.algebra.specs.Field.{Field, Digit}
use Rattle.algebra.specs.Permanent.{insertions, arrangements}
use Rattle.algebra.proofs.Ring.{times_nil, times_left_comm}
use Rattle.algebra.proofs.Over.{over_map, over_joined}
use Rattle.algebra.proofs.Sums.{sum, picks, sum_nil, sum_mul, picks_same, picks_nil, picks_mul, sum_picks}

module _ (F : Field) {X Y : Type 0} (A : X → Y → Digit F.size) where
  open F use {nil, one, add, mul, add_assoc, nil-add}

  -- the product of the entries where each row meets the column at its place, and 0 where there are more of the ones than of the others
  abbrev pub meets : List X → List Y → Digit F.size
  meets [] [] = one
  meets [] (c ∷ cs) = nil
  meets (r ∷ rs) [] = nil
  meets (r ∷ rs) (c ∷ cs) = mul (A r c) (meets rs cs)

  abbrev pub per : List X → List Y → Digit F.size
  per rs cs = sum F (meets rs) (arrangements cs)

  -- the column c, put in at each place of an arrangement q of the others, meets each row in turn
  meets_inserted : (c : Y) (q : List Y) (rs : List X) → sum F (meets rs) (insertions c q) ≡ picks F (λ r rest. mul (A r c) (meets rest q)) rs
  meets_inserted c [] [] = nil-add nil
  meets_inserted c [] (r ∷ rs) =
      ap (add (mul (A r c) (meets rs []))) (sym (picks_same F (λ y rest. mul (A y c) nil) (λ y rest. nil) rs (λ y rest e. times_nil F (A y c)) ∙ picks_nil F rs))
  meets_inserted c (d ∷ q) [] = nil-add _ ∙ over_map add nil (meets []) (λ p. d ∷ p) (insertions c q) ∙ sum_nil F (insertions c q)
  meets_inserted c (d ∷ q) (r ∷ rs) =
      ap (add (mul (A r c) (meets rs (d ∷ q))))
      (over_map add nil (meets (r ∷ rs)) (λ p. d ∷ p) (insertions c q)
      ∙ sum_mul F (A r d) (meets rs) (insertions c q)
      ∙ ap (mul (A r d)) (meets_inserted c q rs)
      ∙ sym (picks_mul F (A r d) (λ y rest. mul (A y c) (meets rest q)) rs)
      ∙ picks_same F _ (λ y rest. mul (A y c) (mul (A r d) (meets rest q))) rs (λ y rest e. times_left_comm F (A r d) (A y c) (meets rest q)))

  pub first_column : (c : Y) (cs : List Y) (rs : List X) → per rs (c ∷ cs) ≡ picks F (λ r rest. mul (A r c) (per rest cs)) rs
  first_column c cs rs =
      over_joined add nil add_assoc nil-add (meets rs) (insertions c) (arrangements cs)
      ∙ ap (λ f. sum F f (arrangements cs)) (fun_ext (λ q. meets_inserted c q rs))
      ∙ sum_picks F (λ q r rest. mul (A r c) (meets rest q)) (arrangements cs) rs
      ∙ picks_same F _ (λ r rest. mul (A r c) (per rest cs)) rs (λ r rest e. sum_mul F (A r c) (meets rest) (arrangements cs))
