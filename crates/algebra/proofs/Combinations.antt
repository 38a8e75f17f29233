-- Combinations of a list of vectors are closed under sums, multiples and differences, are sums of its vectors, each times a digit, and do not depend on their order.
use Rattle.std.proofs.Common.{◌≡◌, suc, List, [], ◌∷◌, reverse, length, sym, refl, ap, ◌∙◌, subst, ap₂}
use mathlib.Core.Path.{fun_ext}
use mathlib.Core.List.{reverse-reverse}
use Rattle.algebra.specs.Field.{Field, Digit}
use Rattle.algebra.specs.Vector.{Vector, zeros}
use Rattle.algebra.specs.Space.{Each, plus, times, less, Comb, combination, SameSpan}
use Rattle.algebra.proofs.Ring.{ring, difference_nil}
use Rattle.algebra.proofs.Each.{each_map, each_reverse}

-- an identity of vectors, place by place
pub ruleset places = (zeros, plus, times, less, ring)

module _ (F : Field) where
  open F use {nil, one, add, mul, neg}

  -- combinations are closed under sums and multiples
  pub comb_zeros : (rs : List (Vector F)) → Comb F rs (zeros F)
  comb_zeros [] = refl
  comb_zeros (r ∷ rs) = (nil, subst (Comb F rs) (fun_ext λ i. simp places) (comb_zeros rs))

  pub comb_plus : (rs : List (Vector F)) (u v : Vector F) → Comb F rs u → Comb F rs v → Comb F rs (plus F u v)
  comb_plus [] u v a b = fun_ext λ i. ap₂ add (ap (λ f. f i) a) (ap (λ f. f i) b) ∙ simp ring
  comb_plus (r ∷ rs) u v (c, a) (d, b) = (add c d, subst (Comb F rs) (fun_ext λ i. simp places) (comb_plus rs _ _ a b))

  pub comb_times : (rs : List (Vector F)) (k : Digit F.size) (u : Vector F) → Comb F rs u → Comb F rs (times F k u)
  comb_times [] k u a = fun_ext λ i. ap (λ f. mul k (f i)) a ∙ simp ring
  comb_times (r ∷ rs) k u (c, a) = (mul k c, subst (Comb F rs) (fun_ext λ i. simp places) (comb_times rs k _ a))

  pub comb_less : (rs : List (Vector F)) (u v : Vector F) → Comb F rs u → Comb F rs v → Comb F rs (less F u v)
  comb_less rs u v a b = subst (Comb F rs) (fun_ext λ i. simp places) (comb_plus rs u (times F (neg one) v) a (comb_times rs (neg one) v b))

  -- a combination is a sum of the vectors, each times a digit
  minus_back : (x y z : Digit F.size) → add x (neg y) ≡ z → x ≡ add y z
  minus_back x y z e = difference_nil F x (add y z) (neg_sum x y z ∙ ap (λ w. add w (neg z)) e ∙ simp ring)
    where
      neg_sum : (x y z : Digit F.size) → add x (neg (add y z)) ≡ add (add x (neg y)) (neg z)
      neg_sum x y z = simp ring

  pub comb_to_sum : (rs : List (Vector F)) (v : Vector F) → Comb F rs v → (cs : List (Digit F.size)) × (length cs ≡ length rs) × (v ≡ combination F cs rs)
  comb_to_sum [] v k = ([], refl, k)
  comb_to_sum (r ∷ rs) v (c, k) =
      let t = comb_to_sum rs _ k in
      (c ∷ t.0, ap suc t.1, fun_ext λ i. minus_back (v i) (mul c (r i)) (combination F t.0 rs i) (ap (λ f. f i) t.2))

  pub comb_from_sum : (rs : List (Vector F)) (v : Vector F) (cs : List (Digit F.size)) → v ≡ combination F cs rs → Comb F rs v
  comb_from_sum [] v [] e = e
  comb_from_sum [] v (c ∷ cs) e = e
  comb_from_sum (r ∷ rs) v [] e = subst (Comb F (r ∷ rs)) (sym e) (comb_zeros (r ∷ rs))
  comb_from_sum (r ∷ rs) v (c ∷ cs) e = (c, comb_from_sum rs _ cs (fun_ext λ i. ap (λ f. add (f i) (neg (mul c (r i)))) e ∙ fold (mul c (r i)) (combination F cs rs i)))
    where
      fold : (x y : Digit F.size) → add (add x y) (neg x) ≡ y
      fold x y = simp ring

  -- the first is one of them, and what the others make is too
  pub comb_later : (r : Vector F) (rs : List (Vector F)) (u : Vector F) → Comb F rs u → Comb F (r ∷ rs) u
  comb_later r rs u a = (nil, subst (Comb F rs) (fun_ext λ i. simp places) a)

  pub comb_first : (r : Vector F) (rs : List (Vector F)) → Comb F (r ∷ rs) r
  comb_first r rs = (one, subst (Comb F rs) (fun_ext λ i. simp places) (comb_zeros rs))

  -- what combinations of ss make among themselves is a combination of ss
  pub comb_among : (ss rs : List (Vector F)) (u : Vector F) → Each (Comb F ss) rs → Comb F rs u → Comb F ss u
  comb_among ss [] u m a = subst (Comb F ss) (sym a) (comb_zeros ss)
  comb_among ss (r ∷ rs) u (m, ms) (c, a) =
      subst (Comb F ss) (fun_ext λ i. simp places) (comb_plus ss _ _ (comb_among ss rs _ ms a) (comb_times ss c r m))

  pub each_later : (s : Vector F) (ss rs : List (Vector F)) → Each (Comb F ss) rs → Each (Comb F (s ∷ ss)) rs
  each_later s ss rs m = each_map (Comb F ss) (Comb F (s ∷ ss)) rs (comb_later s ss) m

  -- each vector is a combination of all
  pub each_itself : (rs : List (Vector F)) → Each (Comb F rs) rs
  each_itself [] = tt
  each_itself (r ∷ rs) = (comb_first r rs, each_later r rs rs (each_itself rs))

  -- the vectors in reverse span the same
  pub reverse_span : (vs : List (Vector F)) → SameSpan F (reverse vs) vs
  reverse_span vs u = (
    comb_among vs (reverse vs) u (each_reverse (Comb F vs) vs (each_itself vs)),
    comb_among (reverse vs) vs u (subst (Each (Comb F (reverse vs))) (reverse-reverse vs) (each_reverse (Comb F (reverse vs)) (reverse vs) (each_itself (reverse vs)))),
  )
