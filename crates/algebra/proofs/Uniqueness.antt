-- Rows in normal form are determined by their span.
use Rattle.std.proofs.Common.{◌≡◌, ℕ, ◌<◌, ◌⊎◌, ◌↔◌, List, [], ◌∷◌, sym, refl, ap, ◌∙◌, subst, ap₂, inl, inr, arith}
use mathlib.Core.Path.{fun_ext}
use native.Mathlib.Decide.{dec_lt}
use Rattle.algebra.specs.Field.{Field}
use Rattle.algebra.specs.Vector.{Vector, zeros}
use Rattle.algebra.specs.Space.{Each, times, less, Comb, SameSpan}
use Rattle.algebra.specs.NormalForm.{Row, vectors, Apart, Rising, Normal, NormalForm, Clear}
use Rattle.algebra.proofs.Ring.{ring, difference_nil, one_is_not_nil}
use Rattle.algebra.proofs.Each.{each_map, each_map₂}
use Rattle.algebra.proofs.Combinations.{places, comb_less, comb_later, comb_first}
use Rattle.algebra.proofs.Remainders.{comb_there, comb_digit, clear_comb}

-- of two numbers one is lower, or they are equal
order : (m n : ℕ) → (m < n) ⊎ ((m ≡ n) ⊎ (n < m))
order m n = elim (dec_lt m n) [ yes h ↦ inl h | no h ↦ elim (dec_lt n m) [ yes k ↦ inr (inr k) | no k ↦ inr (inl (omega arith)) ] ]

module _ (F : Field) where
  open F use {nil, one, add, neg}

  -- all rows hold 0 below the first lead
  below_rest : (p : ℕ) (rs : List (Row F)) → Rising F rs → Each (λ s. p < s.lead) rs → Each (λ s. s.at p ≡ nil) rs
  below_rest p [] n o = tt
  below_rest p (r ∷ rs) (l, _, n) (o, os) = (l p o, below_rest p rs n os)

  below : (p : ℕ) (r : Row F) (rs : List (Row F)) → Rising F (r ∷ rs) → p < r.lead → Each (λ s. s.at p ≡ nil) (r ∷ rs)
  below p r rs (l, o, n) h = (l p h, below_rest p rs n (each_map _ _ rs (λ s k. omega arith) o))

  -- a lead of one is the lead of the other
  no_lower : (r s : Row F) (ss : List (Row F)) → Rising F (s ∷ ss) → r.at r.lead ≡ one → Comb F (vectors F (s ∷ ss)) r.at → r.lead < s.lead → ⊥
  no_lower r s ss n l k h = one_is_not_nil F (sym l ∙ comb_there F r.lead (s ∷ ss) r.at (below r.lead s ss n h) k)

  -- the combinations of the rest are those with 0 at the first lead
  rest : (r : Row F) (rs : List (Row F)) → Apart F (r ∷ rs) → (u : Vector F) → u r.lead ≡ nil → Comb F (vectors F (r ∷ rs)) u → Comb F (vectors F rs) u
  rest r rs n u z k = subst (Comb F (vectors F rs)) (ap (λ c. less F u (times F c r.at)) (comb_digit F r rs n u k ∙ z) ∙ fun_ext λ i. simp places) k.1

  rest_there : (r : Row F) (rs : List (Row F)) → Apart F (r ∷ rs) → (u : Vector F) → Comb F (vectors F rs) u → u r.lead ≡ nil
  rest_there r rs (l, o, n) u k = comb_there F r.lead rs u (each_map _ _ rs (λ s e. e.1) o) k

  rest_half : (r s : Row F) (rs ss : List (Row F)) → Apart F (r ∷ rs) → Apart F (s ∷ ss) → r.lead ≡ s.lead →
      ((u : Vector F) → Comb F (vectors F (r ∷ rs)) u → Comb F (vectors F (s ∷ ss)) u) → (u : Vector F) → Comb F (vectors F rs) u → Comb F (vectors F ss) u
  rest_half r s rs ss n m e h u k =
      rest s ss m u (ap u (sym e) ∙ rest_there r rs n u k) (h u (comb_later F r.at (vectors F rs) u k))

  -- two rows with equal parts are equal
  pub same_row : (r s : Row F) → r.lead ≡ s.lead → r.at ≡ s.at → r ≡ s
  same_row r s p q = λ i. record { lead = p i; at = q i }

  same_lead : (r s : Row F) (rs ss : List (Row F)) → Normal F (r ∷ rs) → Normal F (s ∷ ss) → SameSpan F (vectors F (r ∷ rs)) (vectors F (s ∷ ss)) → r.lead ≡ s.lead
  same_lead r s rs ss (n, n') (m, m') h = elim (order r.lead s.lead) [
    | inl b ↦ absurd (no_lower r s ss m' n.0 ((h r.at).0 (comb_first F r.at (vectors F rs))) b)
    | inr c ↦ elim c [ inl e ↦ e | inr b ↦ absurd (no_lower s r rs n' m.0 ((h s.at).1 (comb_first F s.at (vectors F ss))) b) ]
  ]

  pub unique : (rs ss : List (Row F)) → Normal F rs → Normal F ss → SameSpan F (vectors F rs) (vectors F ss) → rs ≡ ss
  unique [] [] n m h = refl
  unique [] (s ∷ ss) n (m, m') h = absurd (one_is_not_nil F (sym m.0 ∙ ap (λ f. f s.lead) ((h s.at).1 (comb_first F s.at (vectors F ss)))))
  unique (r ∷ rs) [] (n, n') m h = absurd (one_is_not_nil F (sym n.0 ∙ ap (λ f. f r.lead) ((h r.at).0 (comb_first F r.at (vectors F rs)))))
  unique (r ∷ rs) (s ∷ ss) (n, n') (m, m') h =
      let e : r.lead ≡ s.lead = same_lead r s rs ss (n, n') (m, m') h in
      let t : rs ≡ ss = unique rs ss (n.2, n'.2) (m.2, m'.2) (λ u. (rest_half r s rs ss n m e (λ w. (h w).0) u, rest_half s r ss rs m n (sym e) (λ w. (h w).1) u)) in
      let z : Clear F rs r.at = each_map _ _ rs (λ s e. e.0) n.1 in
      let y : Clear F rs s.at = subst (λ xs. Clear F xs s.at) (sym t) (each_map _ _ ss (λ s e. e.0) m.1) in
      let d : Comb F (vectors F (r ∷ rs)) (less F r.at s.at) = comb_less F (vectors F (r ∷ rs)) _ _ (comb_first F r.at (vectors F rs)) ((h s.at).1 (comb_first F s.at (vectors F ss))) in
      let q : r.at r.lead ≡ s.at r.lead = n.0 ∙ sym (ap s.at e ∙ m.0) in
      let o : less F r.at s.at ≡ zeros F = clear_comb F (r ∷ rs) n _
      (ap (λ x. add x (neg (s.at r.lead))) q ∙ simp ring, each_map₂ _ _ _ rs (λ s a b. ap₂ (λ x y. add x (neg y)) a b ∙ simp ring) z y) d in
      ap₂ ◌∷◌ (same_row r s e (fun_ext λ i. difference_nil F _ _ (ap (λ f. f i) o))) t

  -- two lists of vectors have one normal form exactly if they span the same
  pub same_form : (n : ℕ) (rs ss : List (Row F)) (vs ws : List (Vector F)) → NormalForm F n rs vs → NormalForm F n ss ws → (rs ≡ ss) ↔ SameSpan F vs ws
  same_form n rs ss vs ws a b = (
    (λ e u. ((λ k. (b.span u).0 (subst (λ xs. Comb F (vectors F xs) u) e ((a.span u).1 k))), (λ k. (a.span u).0 (subst (λ xs. Comb F (vectors F xs) u) (sym e) ((b.span u).1 k))))),
    (λ s. unique rs ss a.normal b.normal (λ u. ((λ k. (b.span u).1 ((s u).0 ((a.span u).0 k))), (λ k. (a.span u).1 ((s u).1 ((b.span u).0 k)))))),
  )
