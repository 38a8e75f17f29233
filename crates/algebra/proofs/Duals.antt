-- The dual of rows in normal form: one vector for each place that is no lead, and what is orthogonal to them.
use Rattle.std.proofs.Common.{◌≡◌, ℕ, zero, suc, ◌+◌, ◌<◌, ◌≤◌, ◌≢◌, ◌⊎◌, ◌↔◌, List, [], ◌∷◌, ◌++◌, length, sym, refl, ap, ◌∙◌, subst, ap₂, inl, inr, arith}
use mathlib.Core.Path.{fun_ext}
use native.Mathlib.Decide.{dec_lt, ℕ_discrete}
use Rattle.algebra.specs.Field.{Field, Digit}
use Rattle.algebra.specs.Vector.{Vector, zeros, Long, joined, dot}
use Rattle.algebra.specs.Space.{Each, times, less, Comb, Orthogonal}
use Rattle.algebra.specs.NormalForm.{Row, vectors, Apart, Rising, Within, Clear, remainder}
use Rattle.algebra.specs.Dual.{unit, Free, IsLead, free?, dual_at, duals}
use Rattle.algebra.proofs.Ring.{ring, difference_nil, one_is_not_nil}
use Rattle.algebra.proofs.Each.{each_map, each_map₂, each_of_map, each_from_map}
use Rattle.algebra.proofs.Combinations.{places, each_itself}
use Rattle.algebra.proofs.Remainders.{comb_there, remainder_differs, remainder_clear, remainder_of_comb, remainder_long}

module _ (F : Field) where
  open F use {nil, one, add, mul, neg}

  -- the dot product with each row is 0
  abbrev Checks : ℕ → List (Row F) → Vector F → Type 0
  Checks n rs u = Each (λ r. dot F n u r.at ≡ nil) rs

  unit_here : (p i : ℕ) → i ≡ p → unit F p i ≡ one
  unit_here p i e = elim (ℕ_discrete i p) as (λ d. (elim d [ yes _ ↦ one | no _ ↦ nil ]) ≡ one) [ yes _ ↦ refl | no h ↦ absurd (h e) ]

  unit_there : (p i : ℕ) → i ≢ p → unit F p i ≡ nil
  unit_there p i h = elim (ℕ_discrete i p) as (λ d. (elim d [ yes _ ↦ one | no _ ↦ nil ]) ≡ nil) [ yes e ↦ absurd (h e) | no _ ↦ refl ]

  -- dot products, in each place
  pub dot_comm : (n : ℕ) (u v : Vector F) → dot F n u v ≡ dot F n v u
  unfolding joined
  dot_comm zero u v = refl
  dot_comm (suc n) u v = ap₂ add (dot_comm n u v) (F.mul_comm (u n) (v n))

  dot_step : (x y a b c k : Digit F.size) → add (add x (neg (mul c y))) (mul k (add a (neg (mul c b)))) ≡ add (add x (mul k a)) (neg (mul c (add y (mul k b))))
  dot_step x y a b c k = simp ring

  minus_step : (x y a b k : Digit F.size) → add (add x (neg y)) (mul k (add a (neg b))) ≡ add (add x (mul k a)) (neg (add y (mul k b)))
  minus_step x y a b k = simp ring

  pub dot_less : (n : ℕ) (u a b : Vector F) (c : Digit F.size) → dot F n u (less F a (times F c b)) ≡ add (dot F n u a) (neg (mul c (dot F n u b)))
  unfolding joined
  dot_less zero u a b c = simp ring
  dot_less (suc n) u a b c = ap (λ x. add x (mul (u n) (add (a n) (neg (mul c (b n)))))) (dot_less n u a b c) ∙ dot_step (dot F n u a) (dot F n u b) (a n) (b n) c (u n)

  pub dot_zeros : (n : ℕ) (u v : Vector F) → ((i : ℕ) → i < n → mul (u i) (v i) ≡ nil) → dot F n u v ≡ nil
  unfolding joined
  dot_zeros zero u v h = refl
  dot_zeros (suc n) u v h = ap₂ add (dot_zeros n u v (λ i k. h i (omega arith))) (h n (omega arith)) ∙ simp ring

  -- only one place counts
  pub dot_only : (n p : ℕ) (u v : Vector F) → p < n → ((i : ℕ) → i < n → i ≢ p → mul (u i) (v i) ≡ nil) → dot F n u v ≡ mul (u p) (v p)
  unfolding joined
  dot_only zero p u v l h = absurd (omega arith)
  dot_only (suc n) p u v l h = elim (ℕ_discrete n p) [
    | yes e ↦ ap₂ add (dot_zeros n u v (λ i k. h i (omega arith) (omega arith))) (ap (λ j. mul (u j) (v j)) e) ∙ simp ring
    | no k ↦ ap₂ add (dot_only n p u v (omega arith) (λ i b. h i (omega arith))) (h n (omega arith) k) ∙ simp ring
  ]

  dot_unit : (n p : ℕ) (u : Vector F) → p < n → dot F n u (unit F p) ≡ u p
  dot_unit n p u l = dot_only n p u (unit F p) l (λ i _ h. ap (mul (u i)) (unit_there p i h) ∙ simp ring) ∙ ap (mul (u p)) (unit_here p p refl) ∙ simp ring

  -- the dot product with the dual vector at f is the remainder's digit at f
  pub dot_dual : (n : ℕ) (rs : List (Row F)) (u : Vector F) (f : ℕ) → f < n → Each (λ r. r.lead < n) rs → dot F n u (dual_at F rs f) ≡ remainder F rs u f
  dot_dual n [] u f l w = dot_unit n f u l
  dot_dual n (r ∷ rs) u f l (w, ws) =
      dot_less n u (dual_at F rs f) (unit F r.lead) (r.at f)
      ∙ ap₂ (λ x y. add x (neg y)) (dot_dual n rs u f l ws) (ap (mul (r.at f)) (dot_unit n r.lead u w) ∙ F.mul_comm (r.at f) (u r.lead))

  pub dot_difference : (n : ℕ) (u a b : Vector F) → dot F n u (less F a b) ≡ add (dot F n u a) (neg (dot F n u b))
  unfolding joined
  dot_difference zero u a b = simp ring
  dot_difference (suc n) u a b = ap (λ x. add x (mul (u n) (add (a n) (neg (b n))))) (dot_difference n u a b) ∙ minus_step (dot F n u a) (dot F n u b) (a n) (b n) (u n)

  pub lead_each : (P : ℕ → Type 0) (rs : List (Row F)) (i : ℕ) → IsLead F rs i → Each (λ r. P r.lead) rs → P i
  lead_each P [] i l e = absurd l
  lead_each P (r ∷ rs) i (inl q) (e, es) = subst P q e
  lead_each P (r ∷ rs) i (inr l) (e, es) = lead_each P rs i l es

  free_lead : (rs : List (Row F)) (i : ℕ) → Free F rs i → IsLead F rs i → ⊥
  free_lead rs i f l = lead_each (λ j. j ≢ i) rs i l f refl

  row : List (Row F) → ℕ → Row F
  row rs f = record { lead = f; at = dual_at F rs f }

  -- the dual's rows are those at the free places below n
  pub each_dual : (P : Row F → Type 0) (n : ℕ) (rs : List (Row F)) → ((f : ℕ) → f < n → Free F rs f → P (record { lead = f; at = dual_at F rs f })) → Each P (duals F n rs)
  each_dual P zero rs h = tt
  each_dual P (suc n) rs h = elim (free? F rs n) as (λ d. Each P (elim d [ inl _ ↦ record { lead = n; at = dual_at F rs n } ∷ duals F n rs | inr _ ↦ duals F n rs ])) [
    | inl f ↦ (h n (omega arith) f, each_dual P n rs (λ g k. h g (omega arith)))
    | inr l ↦ each_dual P n rs (λ g k. h g (omega arith))
  ]

  pub of_dual : (P : Row F → Type 0) (n : ℕ) (rs : List (Row F)) → Each P (duals F n rs) → (f : ℕ) → f < n → Free F rs f → P (record { lead = f; at = dual_at F rs f })
  of_dual P zero rs = λ e f k z. absurd (omega arith)
  of_dual P (suc n) rs = elim (free? F rs n) as (λ d. Each P (elim d [ inl _ ↦ record { lead = n; at = dual_at F rs n } ∷ duals F n rs | inr _ ↦ duals F n rs ]) → (f : ℕ) → f < suc n → Free F rs f → P (record { lead = f; at = dual_at F rs f })) [
    | inl y ↦ (λ e f k z. elim (ℕ_discrete f n) [
      | yes q ↦ subst (λ g. P (record { lead = g; at = dual_at F rs g })) (sym q) e.0
      | no q ↦ of_dual P n rs e.1 f (omega arith) z
    ])
    | inr l ↦ (λ e f k z. elim (ℕ_discrete f n) [
      | yes q ↦ absurd (free_lead rs n (subst (Free F rs) q z) l)
      | no q ↦ of_dual P n rs e f (omega arith) z
    ])
  ]

  dual_at_free : (rs : List (Row F)) (f g : ℕ) → Free F rs g → dual_at F rs f g ≡ unit F f g
  dual_at_free [] f g z = refl
  dual_at_free (r ∷ rs) f g (z, zs) =
      ap₂ (λ x y. add x (neg (mul (r.at f) y))) (dual_at_free rs f g zs) (unit_there r.lead g (λ e. z (sym e))) ∙ simp ring

  pub dual_at_long : (n : ℕ) (rs : List (Row F)) (f : ℕ) → f < n → Within F n rs → Long F n (dual_at F rs f)
  dual_at_long n [] f k w i h = unit_there f i (omega arith)
  dual_at_long n (r ∷ rs) f k (w, ws) i h =
      let l : r.lead < n = w.0 in
      ap₂ (λ x y. add x (neg (mul (r.at f) y))) (dual_at_long n rs f k ws i h) (unit_there r.lead i (omega arith)) ∙ simp ring

  pub dual_within_lem : (n : ℕ) (rs : List (Row F)) → Within F n rs → Within F n (duals F n rs)
  dual_within_lem n rs w = each_dual _ n rs (λ f k z. (k, dual_at_long n rs f k w))

  pub dual_apart : (n : ℕ) (rs : List (Row F)) → Apart F (duals F n rs)
  dual_apart zero rs = tt
  dual_apart (suc n) rs = elim (free? F rs n) as (λ d. Apart F (elim d [ inl _ ↦ record { lead = n; at = dual_at F rs n } ∷ duals F n rs | inr _ ↦ duals F n rs ])) [
    | inl y ↦ (
      dual_at_free rs n n y ∙ unit_here n n refl,
      each_dual _ n rs (λ f k z. (dual_at_free rs n f z ∙ unit_there n f (omega arith), dual_at_free rs f n y ∙ unit_there f n (omega arith))),
      dual_apart n rs,
    )
    | inr l ↦ dual_apart n rs
  ]

  pub leads_below : (n : ℕ) (rs : List (Row F)) → Within F n rs → Each (λ r. r.lead < n) rs
  leads_below n rs w = each_map _ _ rs (λ r e. e.0) w

  -- nothing at the free places, at the leads, and from n on
  all_zeros : (n : ℕ) (rs : List (Row F)) (y : Vector F) → Long F n y → Clear F rs y → ((f : ℕ) → f < n → Free F rs f → y f ≡ nil) → y ≡ zeros F
  all_zeros n rs y b z h = fun_ext λ i. elim (dec_lt i n) [
    | yes k ↦ elim (free? F rs i) [ inl f ↦ h i k f | inr l ↦ lead_each (λ j. y j ≡ nil) rs i l z ]
    | no k ↦ b i (omega arith)
  ]

  -- double dual: orthogonal to all of the dual are the combinations of the rows
  pub orth_dual : (n : ℕ) (rs : List (Row F)) → Apart F rs → Within F n rs → (u : Vector F) → Long F n u → Checks n (duals F n rs) u ↔ Comb F (vectors F rs) u
  orth_dual n rs a w u b = (
    (λ o. (remainder_of_comb F rs a u).1 (all_zeros n rs (remainder F rs u) (remainder_long F n rs u w b) (remainder_clear F rs a u)
        (λ f k z. sym (dot_dual n rs u f k (leads_below n rs w)) ∙ of_dual (λ d. dot F n u d.at ≡ nil) n rs o f k z))),
    (λ c. each_dual _ n rs (λ f k z. dot_dual n rs u f k (leads_below n rs w) ∙ ap (λ v. v f) ((remainder_of_comb F rs a u).0 c))),
  )

  -- a vector orthogonal to each of some vectors is orthogonal to their combinations
  pub comb_orthogonal : (n : ℕ) (vs : List (Vector F)) (u x : Vector F) → Orthogonal F n vs u → Comb F vs x → dot F n u x ≡ nil
  comb_orthogonal n [] u x o k = ap (dot F n u) k ∙ dot_zeros n u (zeros F) (λ i _. simp places)
  comb_orthogonal n (v ∷ vs) u x (o, os) (c, k) =
      difference_nil F _ _ (sym (dot_less n u x v c) ∙ comb_orthogonal n vs u _ os k) ∙ ap (mul c) o ∙ simp ring

  comb_orth : (n : ℕ) (ds : List (Row F)) (u x : Vector F) → Checks n ds u → Comb F (vectors F ds) x → dot F n u x ≡ nil
  comb_orth n ds u x o k = comb_orthogonal n (vectors F ds) u x (each_of_map (λ v. dot F n u v ≡ nil) (λ r. r.at) ds o) k

  each_comb : (rs : List (Row F)) → Each (λ r. Comb F (vectors F rs) r.at) rs
  each_comb rs = each_from_map (Comb F (vectors F rs)) (λ r. r.at) rs (each_itself F (vectors F rs))

  -- the rows are orthogonal to the dual
  rows_orth : (n : ℕ) (rs : List (Row F)) → Apart F rs → Within F n rs → Each (λ r. Checks n (duals F n rs) r.at) rs
  rows_orth n rs a w = each_map₂ _ _ _ rs (λ r k b. (orth_dual n rs a w r.at b.1).1 k) (each_comb rs) w

  -- a row's lead holds 1, and any other place is free or holds 0 in that row
  others : (rs : List (Row F)) → Apart F rs → Each (λ r. (r.at r.lead ≡ one) × ((i : ℕ) → i ≢ r.lead → Free F rs i ⊎ (r.at i ≡ nil))) rs
  others [] a = tt
  others (r ∷ rs) (l, o, a) = (
    (l, (λ i h. elim (free? F rs i) [ inl f ↦ inl ((λ e. h (sym e)), f) | inr k ↦ inr (lead_each (λ j. r.at j ≡ nil) rs i k (each_map _ _ rs (λ s e. e.0) o)) ])),
    each_map₂ _ _ _ rs (λ s g e. (
      g.0,
      (λ i h. elim (ℕ_discrete r.lead i) [
        | yes q ↦ inr (ap s.at (sym q) ∙ e.1)
        | no q ↦ elim (g.1 i h) [ inl f ↦ inl (q, f) | inr z ↦ inr z ]
      ]),
    )) (others rs a) o,
  )

  -- the dual's combinations are the vectors orthogonal to every row
  pub dual_orth : (n : ℕ) (rs : List (Row F)) → Apart F rs → Within F n rs → (x : Vector F) → Long F n x → Checks n rs x ↔ Comb F (vectors F (duals F n rs)) x
  dual_orth n rs a w x b = (to, from)
    where
      from : Comb F (vectors F (duals F n rs)) x → Checks n rs x
      from k = each_map _ _ rs (λ r o. dot_comm n x r.at ∙ comb_orth n (duals F n rs) r.at x o k) (rows_orth n rs a w)

      y : Vector F
      y = remainder F (duals F n rs) x

      y_free : (f : ℕ) → f < n → Free F rs f → y f ≡ nil
      y_free = of_dual (λ d. y d.lead ≡ nil) n rs (remainder_clear F (duals F n rs) (dual_apart n rs) x)

      y_orth : Checks n rs x → Each (λ r. dot F n r.at y ≡ nil) rs
      y_orth o = each_map₂ _ _ _ rs (λ r e d. sym (difference_nil F _ _ (sym (dot_difference n r.at x y) ∙ comb_orth n (duals F n rs) r.at (less F x y) d (remainder_differs F (duals F n rs) x))) ∙ dot_comm n r.at x ∙ e) o (rows_orth n rs a w)

      both : Each (λ r. ((r.at r.lead ≡ one) × ((i : ℕ) → i ≢ r.lead → Free F rs i ⊎ (r.at i ≡ nil))) × (r.lead < n)) rs
      both = each_map₂ _ _ _ rs (λ r p q. (p, q.0)) (others rs a) w

      y_leads : Checks n rs x → Clear F rs y
      y_leads o = each_map₂ _ _ _ rs (λ r g e.
          sym (dot_only n r.lead r.at y g.1 (λ i k h. elim (g.0.1 i h) [ inl f ↦ ap (mul (r.at i)) (y_free i k f) ∙ simp ring | inr z ↦ ap (λ t. mul t (y i)) z ∙ simp ring ])
          ∙ ap (λ t. mul t (y r.lead)) g.0.0 ∙ simp ring) ∙ e) both (y_orth o)

      to : Checks n rs x → Comb F (vectors F (duals F n rs)) x
      to o = (remainder_of_comb F (duals F n rs) (dual_apart n rs) x).1 (all_zeros n rs y (remainder_long F n (duals F n rs) x (dual_within_lem n rs w) b) (y_leads o) y_free)

  -- as many rows in the dual as places are left
  counted : ℕ → ℕ → ℕ → ℕ
  counted a n k = elim (dec_lt a n) [ yes _ ↦ suc k | no _ ↦ k ]

  counted_yes : (a n k : ℕ) → a < n → counted a n k ≡ suc k
  unfolding counted
  counted_yes a n k h = elim (dec_lt a n) as (λ d. (elim d [ yes _ ↦ suc k | no _ ↦ k ]) ≡ suc k) [ yes _ ↦ refl | no g ↦ absurd (g h) ]

  counted_no : (a n k : ℕ) → n ≤ a → counted a n k ≡ k
  unfolding counted
  counted_no a n k h = elim (dec_lt a n) as (λ d. (elim d [ yes _ ↦ suc k | no _ ↦ k ]) ≡ k) [ yes g ↦ absurd (omega arith) | no _ ↦ refl ]

  abbrev count : ℕ → List (Row F) → ℕ
  count n [] = 0
  count n (r ∷ rs) = counted r.lead n (count n rs)

  count_none : (rs : List (Row F)) → count 0 rs ≡ 0
  count_none [] = refl
  count_none (r ∷ rs) = counted_no r.lead 0 (count 0 rs) (omega arith) ∙ count_none rs

  count_all : (n : ℕ) (rs : List (Row F)) → Each (λ r. r.lead < n) rs → count n rs ≡ length rs
  count_all n [] w = refl
  count_all n (r ∷ rs) (w, ws) = counted_yes r.lead n (count n rs) w ∙ ap suc (count_all n rs ws)

  counted_free : (a n j k : ℕ) → a ≢ n → j ≡ k → counted a (suc n) j ≡ counted a n k
  counted_free a n j k h e = elim (dec_lt a n) [
    | yes g ↦ counted_yes a (suc n) j (omega arith) ∙ ap suc e ∙ sym (counted_yes a n k g)
    | no g ↦ counted_no a (suc n) j (omega arith) ∙ e ∙ sym (counted_no a n k (omega arith))
  ]

  count_free : (n : ℕ) (rs : List (Row F)) → Free F rs n → count (suc n) rs ≡ count n rs
  count_free n [] f = refl
  count_free n (r ∷ rs) (f, fs) = counted_free r.lead n _ _ f (count_free n rs fs)

  count_lead : (n : ℕ) (rs : List (Row F)) → Rising F rs → IsLead F rs n → count (suc n) rs ≡ suc (count n rs)
  count_lead n [] m l = absurd l
  count_lead n (r ∷ rs) (b, o, m) (inl e) =
      counted_yes r.lead (suc n) _ (omega arith) ∙ ap suc (count_free n rs (each_map _ _ rs (λ s k. omega arith) o) ∙ sym (counted_no r.lead n _ (omega arith)))
  count_lead n (r ∷ rs) (b, o, m) (inr l) =
      let h : r.lead < n = lead_each (λ j. r.lead < j) rs n l o in
      counted_yes r.lead (suc n) _ (omega arith) ∙ ap suc (count_lead n rs m l ∙ sym (counted_yes r.lead n _ h))

  count_dual : (n : ℕ) (rs : List (Row F)) → Rising F rs → length (duals F n rs) + count n rs ≡ n
  count_dual zero rs m = omega (arith, count_none rs)
  count_dual (suc n) rs m = elim (free? F rs n) as (λ d. length {A = Row F} (elim d [ inl _ ↦ record { lead = n; at = dual_at F rs n } ∷ duals F n rs | inr _ ↦ duals F n rs ]) + count (suc n) rs ≡ suc n) [
    | inl f ↦ omega (arith, count_dual n rs m, count_free n rs f)
    | inr l ↦ omega (arith, count_dual n rs m, count_lead n rs m l)
  ]

  pub dual_length : (n : ℕ) (rs : List (Row F)) → Rising F rs → Within F n rs → length (duals F n rs) + length rs ≡ n
  dual_length n rs m w = omega (arith, count_dual n rs m, count_all n rs (leads_below n rs w))

  -- where a place is free, there are fewer than n rows: what a slice for n rows has room for
  pub rank_room : (n : ℕ) (rs : List (Row F)) → Rising F rs → Within F n rs → (p : ℕ) → p < n → Free F rs p → length rs < n
  rank_room n rs m w p h f = go (duals F n rs) refl
    where
      go : (ds : List (Row F)) → duals F n rs ≡ ds → length rs < n
      go [] e = absurd (of_dual (λ _. ⊥) n rs (subst (Each (λ _. ⊥)) (sym e) tt) p h f)
      go (d ∷ ds) e = omega (arith, dual_length n rs m w, ap (length {A = Row F}) e)

  -- one row more at the end
  pub dual_at_last : (rs : List (Row F)) (r : Row F) (f : ℕ) → dual_at F (rs ++ (r ∷ [])) f ≡ less F (dual_at F rs f) (times F (r.at f) (unit F r.lead))
  dual_at_last [] r f = refl
  dual_at_last (s ∷ rs) r f = ap (λ v. less F v (times F (s.at f) (unit F s.lead))) (dual_at_last rs r f) ∙ fun_ext λ i. either_order (dual_at F rs f i) (mul (r.at f) (unit F r.lead i)) (mul (s.at f) (unit F s.lead i))
    where
      either_order : (a b c : Digit F.size) → add (add a (neg b)) (neg c) ≡ add (add a (neg c)) (neg b)
      either_order a b c = simp ring

  -- one place more: a free one has a vector of its own, which is no combination of those before, and a lead has none
  pub duals_free : (n : ℕ) (rs : List (Row F)) → Free F rs n → duals F (suc n) rs ≡ (record { lead = n; at = dual_at F rs n } ∷ duals F n rs)
  duals_free n rs h = elim (free? F rs n) as (λ d. (elim d [ inl _ ↦ record { lead = n; at = dual_at F rs n } ∷ duals F n rs | inr _ ↦ duals F n rs ]) ≡ (record { lead = n; at = dual_at F rs n } ∷ duals F n rs)) [
    | inl _ ↦ refl
    | inr l ↦ absurd (free_lead rs n h l)
  ]

  pub duals_lead : (n : ℕ) (rs : List (Row F)) → (Free F rs n → ⊥) → duals F (suc n) rs ≡ duals F n rs
  duals_lead n rs h = elim (free? F rs n) as (λ d. (elim d [ inl _ ↦ record { lead = n; at = dual_at F rs n } ∷ duals F n rs | inr _ ↦ duals F n rs ]) ≡ duals F n rs) [
    | inl f ↦ absurd (h f)
    | inr _ ↦ refl
  ]

  pub dual_new : (n : ℕ) (rs : List (Row F)) → Free F rs n → Comb F (vectors F (duals F n rs)) (dual_at F rs n) → ⊥
  dual_new n rs h k = one_is_not_nil F (sym (dual_at_free rs n n h ∙ unit_here n n refl)
      ∙ comb_there F n (duals F n rs) (dual_at F rs n) (each_dual _ n rs (λ f l z. dual_at_free rs f n h ∙ unit_there f n (omega arith))) k)

  one_more : (n : ℕ) (rs : List (Row F)) → length (duals F n rs) ≤ length (duals F (suc n) rs)
  one_more n rs = elim (free? F rs n) as (λ d. length (duals F n rs) ≤ length {A = Row F} (elim d [ inl _ ↦ record { lead = n; at = dual_at F rs n } ∷ duals F n rs | inr _ ↦ duals F n rs ])) [
    | inl _ ↦ omega arith
    | inr _ ↦ omega arith
  ]

  pub duals_fewer : (m n : ℕ) (rs : List (Row F)) → m ≤ n → length (duals F m rs) ≤ length (duals F n rs)
  duals_fewer m zero rs h = let e : m ≡ 0 = omega arith in subst (λ k. length (duals F k rs) ≤ length (duals F 0 rs)) (sym e) (omega arith)
  duals_fewer m (suc n) rs h = elim (ℕ_discrete m (suc n)) [
    | yes e ↦ subst (λ k. length (duals F k rs) ≤ length (duals F (suc n) rs)) (sym e) (omega arith)
    | no k ↦ omega (arith, duals_fewer m n rs (omega arith), one_more n rs)
  ]
