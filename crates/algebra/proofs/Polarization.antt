-- Products of column sums over all choices of rows, with the sign that tells how many rows are left out, add up to the permanent.
use Rattle.std.proofs.Common.{◌≡◌, ◌<◌, List, [], ◌∷◌, length, sym, refl, ap, ◌∙◌, ap₂, arith}
use Rattle.algebra.specs.Field.{Field, Digit}
use Rattle.algebra.proofs.Ring.{ring, neg_one_times, plus_neg, plus_nil, times_nil}
use Rattle.algebra.proofs.Sums.{sum, prod, picks, picks_same, picks_nil, picks_add, picks_mul}
use Rattle.algebra.proofs.Expansion.{per, first_column}

module _ (F : Field) {X Y : Type 0} (A : X → Y → Digit F.size) where
  open F use {nil, one, add, mul, neg, nil-add}

  -- the product over the columns of v with the sum of some of the rows, over all choices of rows, negated for each row left out
  abbrev pub differenced : List X → List Y → (Y → Digit F.size) → Digit F.size
  differenced [] cs v = prod F v cs
  differenced (r ∷ rs) cs v = add (differenced rs cs (λ c. add (v c) (A r c))) (neg (differenced rs cs v))

  with_row : (p a s x y u w : Digit F.size)
      → add (add (mul (add (add p a) s) x) u) (neg (add (mul (add p s) y) w)) ≡ add (mul (add p (add a s)) (add x (neg y))) (add (mul a y) (add u (neg w)))
  with_row p a s x y u w = simp ring

  -- one column apart from the others
  apart : (c : Y) (cs : List Y) (rs : List X) (v : Y → Digit F.size)
      → differenced rs (c ∷ cs) v ≡ add (mul (add (v c) (sum F (λ r. A r c) rs)) (differenced rs cs v)) (picks F (λ r rest. mul (A r c) (differenced rest cs v)) rs)
  apart c cs [] v = simp ring
  apart c cs (r ∷ rs) v =
      ap₂ (λ a b. add a (neg b)) (apart c cs rs more) (apart c cs rs v)
      ∙ with_row (v c) (A r c) (sum F (λ r. A r c) rs) (differenced rs cs more) (differenced rs cs v) (picks F taken rs) (picks F left rs)
      ∙ ap (λ z. add (mul (add (v c) (add (A r c) (sum F (λ r. A r c) rs))) (differenced (r ∷ rs) cs v)) (add (mul (A r c) (differenced rs cs v)) z)) gathered
    where
      more : Y → Digit F.size
      more c = add (v c) (A r c)

      taken : X → List X → Digit F.size
      taken y rest = mul (A y c) (differenced rest cs more)

      left : X → List X → Digit F.size
      left y rest = mul (A y c) (differenced rest cs v)

      together : (a x y : Digit F.size) → add (mul a x) (mul (neg one) (mul a y)) ≡ mul a (add x (neg y))
      together a x y = simp ring

      gathered : add (picks F taken rs) (neg (picks F left rs)) ≡ picks F (λ y rest. mul (A y c) (differenced (r ∷ rest) cs v)) rs
      gathered =
          ap (add (picks F taken rs)) (sym (neg_one_times F (picks F left rs)) ∙ sym (picks_mul F (neg one) left rs))
          ∙ sym (picks_add F taken (λ y rest. mul (neg one) (left y rest)) rs)
          ∙ picks_same F _ (λ y rest. mul (A y c) (differenced (r ∷ rest) cs v)) rs (λ y rest e. together (A y c) (differenced rest cs more) (differenced rest cs v))

  no_columns : (rs : List X) (v w : Y → Digit F.size) → differenced rs [] v ≡ differenced rs [] w
  no_columns [] v w = refl
  no_columns (r ∷ rs) v w = ap₂ (λ a b. add a (neg b)) (no_columns rs _ _) (no_columns rs v w)

  -- nothing is left where there are more rows than columns
  vanishes : (cs : List Y) (rs : List X) (v : Y → Digit F.size) → length cs < length rs → differenced rs cs v ≡ nil
  vanishes [] [] v h = absurd (omega arith)
  vanishes [] (r ∷ rs) v h = ap (λ z. add z (neg (differenced rs [] v))) (no_columns rs (λ c. add (v c) (A r c)) v) ∙ plus_neg F (differenced rs [] v)
  vanishes (c ∷ cs) rs v h =
      apart c cs rs v
      ∙ ap₂ add (ap (mul _) (vanishes cs rs v (omega arith)) ∙ times_nil F _)
      (picks_same F _ (λ r rest. nil) rs (λ r rest e. ap (mul (A r c)) (vanishes cs rest v (omega arith)) ∙ times_nil F (A r c)) ∙ picks_nil F rs)
      ∙ nil-add nil

  pub polarized : (cs : List Y) (rs : List X) (v : Y → Digit F.size) → length rs ≡ length cs → differenced rs cs v ≡ per F A rs cs
  polarized [] [] v h = sym (plus_nil F one)
  polarized [] (r ∷ rs) v h = absurd (omega arith)
  polarized (c ∷ cs) rs v h =
      apart c cs rs v
      ∙ ap₂ add (ap (mul _) (vanishes cs rs v (omega arith)) ∙ times_nil F _)
      (picks_same F _ (λ r rest. mul (A r c) (per F A rest cs)) rs (λ r rest e. ap (mul (A r c)) (polarized cs rest v (omega arith))))
      ∙ nil-add _ ∙ sym (first_column F A c cs rs)
