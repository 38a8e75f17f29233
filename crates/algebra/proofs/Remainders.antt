-- The remainder of a vector by rows in normal form: it differs from the vector by a combination, holds 0 at every lead, and is the only one that does.
use Rattle.std.proofs.Common.{◌≡◌, ℕ, ◌↔◌, List, [], ◌∷◌, sym, refl, ap, ◌∙◌, subst, ap₂}
use mathlib.Core.Path.{fun_ext}
use Rattle.algebra.specs.Field.{Field, Digit}
use Rattle.algebra.specs.Vector.{Vector, zeros, Long}
use Rattle.algebra.specs.Space.{Each, plus, times, less, Comb}
use Rattle.algebra.specs.NormalForm.{Row, vectors, Apart, Within, Clear, remainder, reduced}
use Rattle.algebra.proofs.Ring.{ring, difference_nil}
use Rattle.algebra.proofs.Combinations.{places, comb_less}
use Rattle.algebra.proofs.Each.{each_map, each_map₂}

module _ (F : Field) where
  open F use {nil, one, add, mul, neg}

  over_sum : (u v c d r : Digit F.size) → add (add u v) (neg (mul (add c d) r)) ≡ add (add u (neg (mul c r))) (add v (neg (mul d r)))
  over_sum u v c d r = simp ring

  over_multiple : (k u c r : Digit F.size) → add (mul k u) (neg (mul (mul k c) r)) ≡ mul k (add u (neg (mul c r)))
  over_multiple k u c r = simp ring

  pub remainder_plus : (rs : List (Row F)) (u v : Vector F) → remainder F rs (plus F u v) ≡ plus F (remainder F rs u) (remainder F rs v)
  remainder_plus [] u v = refl
  remainder_plus (r ∷ rs) u v = ap (λ w. less F w (times F (plus F u v r.lead) r.at)) (remainder_plus rs u v) ∙ fun_ext λ i. over_sum _ _ _ _ _

  pub remainder_times : (rs : List (Row F)) (k : Digit F.size) (u : Vector F) → remainder F rs (times F k u) ≡ times F k (remainder F rs u)
  remainder_times [] k u = refl
  remainder_times (r ∷ rs) k u = ap (λ w. less F w (times F (times F k u r.lead) r.at)) (remainder_times rs k u) ∙ fun_ext λ i. over_multiple _ _ _ _

  pub less_is_plus : (u v : Vector F) → plus F u (times F (neg one) v) ≡ less F u v
  less_is_plus u v = fun_ext λ i. simp places

  pub remainder_less : (rs : List (Row F)) (u v : Vector F) → remainder F rs (less F u v) ≡ less F (remainder F rs u) (remainder F rs v)
  remainder_less rs u v =
      ap (remainder F rs) (sym (less_is_plus u v)) ∙ remainder_plus rs u (times F (neg one) v) ∙ ap (plus F (remainder F rs u)) (remainder_times rs (neg one) v) ∙ less_is_plus (remainder F rs u) (remainder F rs v)

  -- it differs from v by a combination
  pub remainder_differs : (rs : List (Row F)) (v : Vector F) → Comb F (vectors F rs) (less F v (remainder F rs v))
  remainder_differs [] v = fun_ext λ i. simp places
  remainder_differs (r ∷ rs) v = (v r.lead, subst (Comb F (vectors F rs)) (fun_ext λ i. simp places) (remainder_differs rs v))

  -- where every row holds 0, it holds what v holds
  pub remainder_there : (p : ℕ) (rs : List (Row F)) (v : Vector F) → Each (λ s. s.at p ≡ nil) rs → remainder F rs v p ≡ v p
  remainder_there p [] v z = refl
  remainder_there p (r ∷ rs) v (z, zs) = ap₂ (λ a b. add a (neg (mul (v r.lead) b))) (remainder_there p rs v zs) z ∙ simp ring

  -- it holds 0 at every lead
  pub remainder_clear : (rs : List (Row F)) → Apart F rs → (v : Vector F) → Clear F rs (remainder F rs v)
  remainder_clear [] n v = tt
  remainder_clear (r ∷ rs) (l, o, n) v = (
    ap₂ (λ a b. add a (neg (mul (v r.lead) b))) (remainder_there r.lead rs v (each_map _ _ rs (λ s e. e.1) o)) l ∙ simp ring,
    each_map₂ _ _ _ rs (λ s a b. ap₂ (λ x y. add x (neg (mul (v r.lead) y))) a b.0 ∙ simp ring) (remainder_clear rs n v) o,
  )

  -- where every row holds 0, so does each combination
  pub comb_there : (p : ℕ) (rs : List (Row F)) (u : Vector F) → Each (λ s. s.at p ≡ nil) rs → Comb F (vectors F rs) u → u p ≡ nil
  comb_there p [] u z a = ap (λ f. f p) a
  comb_there p (r ∷ rs) u (z, zs) (c, a) =
      difference_nil F _ _ (comb_there p rs _ zs a) ∙ ap (mul c) z ∙ simp ring

  -- the multiple of the first row that a combination takes is its digit at the lead
  pub comb_digit : (r : Row F) (rs : List (Row F)) → Apart F (r ∷ rs) → (u : Vector F) (k : Comb F (vectors F (r ∷ rs)) u) → k.0 ≡ u r.lead
  comb_digit r rs (l, o, n) u (c, a) =
      sym (difference_nil F _ _ (comb_there r.lead rs _ (each_map _ _ rs (λ s e. e.1) o) a) ∙ ap (mul c) l ∙ simp ring)

  pub clear_comb : (rs : List (Row F)) → Apart F rs → (u : Vector F) → Clear F rs u → Comb F (vectors F rs) u → u ≡ zeros F
  clear_comb [] n u z a = a
  clear_comb (r ∷ rs) n u (z, zs) k =
      clear_comb rs n.2 u zs (subst (Comb F (vectors F rs)) (ap (λ c. less F u (times F c r.at)) (comb_digit r rs n u k ∙ z) ∙ fun_ext λ i. simp places) k.1)

  -- it is the only one
  pub remainder_only : (rs : List (Row F)) → Apart F rs → (v w : Vector F) → Comb F (vectors F rs) (less F v w) → Clear F rs w → w ≡ remainder F rs v
  remainder_only rs n v w k z =
      fun_ext λ i. difference_nil F _ _ (ap (λ f. f i) (clear_comb rs n (less F w (remainder F rs v))
      (each_map₂ _ _ _ rs (λ s a b. ap₂ (λ x y. add x (neg y)) a b ∙ simp ring) z (remainder_clear rs n v))
      (subst (Comb F (vectors F rs)) (fun_ext λ i. simp places) (comb_less F (vectors F rs) _ _ (remainder_differs rs v) k))))

  pub remainder_of_comb : (rs : List (Row F)) → Apart F rs → (v : Vector F) → Comb F (vectors F rs) v ↔ (remainder F rs v ≡ zeros F)
  remainder_of_comb rs n v = (
    (λ k. clear_comb rs n (remainder F rs v) (remainder_clear rs n v) (subst (Comb F (vectors F rs)) (fun_ext λ i. simp places) (comb_less F (vectors F rs) _ _ k (remainder_differs rs v)))),
    (λ e. subst (Comb F (vectors F rs)) (ap (less F v) e ∙ fun_ext λ i. simp places) (remainder_differs rs v)),
  )

  -- taking the rows off one after another comes to the same
  pub remainder_still : (rs : List (Row F)) (v : Vector F) → Clear F rs v → remainder F rs v ≡ v
  remainder_still [] v z = refl
  remainder_still (r ∷ rs) v (z, zs) = ap₂ (λ w c. less F w (times F c r.at)) (remainder_still rs v zs) z ∙ fun_ext λ i. simp places

  pub reduced_is : (rs : List (Row F)) → Apart F rs → (v : Vector F) → reduced F rs v ≡ remainder F rs v
  reduced_is [] n v = refl
  reduced_is (r ∷ rs) (l, o, n) v =
      reduced_is rs n _ ∙ remainder_less rs v (times F (v r.lead) r.at) ∙ ap (less F (remainder F rs v)) (remainder_times rs (v r.lead) r.at
      ∙ ap (times F (v r.lead)) (remainder_still rs r.at (each_map _ _ rs (λ s e. e.0) o)))

  -- of length n again
  pub remainder_long : (n : ℕ) (rs : List (Row F)) (v : Vector F) → Within F n rs → Long F n v → Long F n (remainder F rs v)
  remainder_long n [] v w h i k = h i k
  remainder_long n (r ∷ rs) v (w, ws) h i k = ap₂ (λ x y. add x (neg (mul (v r.lead) y))) (remainder_long n rs v ws h i k) (w.1 i k) ∙ simp ring
