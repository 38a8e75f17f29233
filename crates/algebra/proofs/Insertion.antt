-- One vector more in rows in normal form: what is left of it, scaled, clears its lead in the others and goes among them by its lead.
use Rattle.std.proofs.Common.{◌≡◌, ℕ, ◌<◌, ◌≢◌, ◌↔◌, List, [], ◌∷◌, map, sym, ap, ◌∙◌, subst, ap₂, arith}
use mathlib.Core.Path.{fun_ext}
use native.Mathlib.Decide.{dec_lt}
use Rattle.algebra.specs.Field.{Field, Digit}
use Rattle.algebra.specs.Vector.{Vector, Long}
use Rattle.algebra.specs.Space.{Each, times, less, Comb, SameSpan}
use Rattle.algebra.specs.NormalForm.{Row, vectors, Apart, Rising, Normal, Within, NormalForm, Clear, remainder, Lowest}
use Rattle.algebra.proofs.Ring.{ring, one_is_not_nil, inverse_undone}
use Rattle.algebra.proofs.Each.{each_map, each_map₂, each_of_map}
use Rattle.algebra.proofs.Combinations.{places, comb_plus, comb_times, comb_less, comb_later, comb_first, comb_among, each_later, each_itself}
use Rattle.algebra.proofs.Remainders.{remainder_differs, remainder_clear, remainder_long}

module _ (F : Field) where
  open F use {nil, one, add, mul, neg, inv, inv-mul}

  -- r less the multiple of s that leaves 0 at the lead of s
  abbrev pub clear : Row F → Row F → Row F
  clear s r = record { lead = r.lead; at = less F r.at (times F (r.at s.lead) s.at) }

  -- s among rows in the order of their leads
  abbrev pub place : Row F → List (Row F) → List (Row F)
  place s [] = s ∷ []
  place s (r ∷ rs) = elim (dec_lt s.lead r.lead) [ yes _ ↦ s ∷ (r ∷ rs) | no _ ↦ r ∷ place s rs ]

  abbrev pub insert : Row F → List (Row F) → List (Row F)
  insert s rs = place s (map (clear s) rs)

  -- w scaled so that it holds 1 at p
  abbrev pub scaled : Vector F → ℕ → Row F
  scaled w p = record { lead = p; at = times F (inv (w p)) w }

  pub each_place : (P : Row F → Type 0) (s : Row F) (rs : List (Row F)) → P s → Each P rs → Each P (place s rs)
  each_place P s [] p e = (p, tt)
  each_place P s (r ∷ rs) p (e, es) = elim (dec_lt s.lead r.lead) as (λ d. Each P (elim d [ yes _ ↦ s ∷ (r ∷ rs) | no _ ↦ r ∷ place s rs ])) [ yes _ ↦ (p, (e, es)) | no _ ↦ (e, each_place P s rs p es) ]

  module _ (s : Row F) where
    -- clearing keeps the leads as they are
    gone : (k x y : Digit F.size) → x ≡ nil → y ≡ nil → add x (neg (mul k y)) ≡ nil
    gone k x y a b = ap₂ (λ x y. add x (neg (mul k y))) a b ∙ simp ring

    clear_apart : (rs : List (Row F)) → Clear F rs s.at → Apart F rs → Apart F (map (clear s) rs)
    clear_apart [] z n = tt
    clear_apart (r ∷ rs) (z, zs) (l, o, n) = (
      ap₂ (λ x y. add x (neg (mul (r.at s.lead) y))) l z ∙ simp ring,
      each_of_map _ (clear s) rs (each_map₂ _ _ _ rs (λ x y e. (gone _ _ _ e.0 y, gone _ _ _ e.1 z)) zs o),
      clear_apart rs zs n,
    )

    clear_there : (rs : List (Row F)) → s.at s.lead ≡ one → Each (λ r. r.at s.lead ≡ nil) (map (clear s) rs)
    clear_there [] l = tt
    clear_there (r ∷ rs) l = (ap (λ y. add (r.at s.lead) (neg (mul (r.at s.lead) y))) l ∙ simp ring, clear_there rs l)

    clear_clear : (rs : List (Row F)) → Clear F rs s.at → Clear F (map (clear s) rs) s.at
    clear_clear [] z = tt
    clear_clear (r ∷ rs) (z, zs) = (z, clear_clear rs zs)

    clear_rising : (rs : List (Row F)) → ((i : ℕ) → i < s.lead → s.at i ≡ nil) → Rising F rs → Rising F (map (clear s) rs)
    clear_rising [] b n = tt
    clear_rising (r ∷ rs) b (l, o, n) = (low, each_of_map _ (clear s) rs o, clear_rising rs b n)
      where
        low : (i : ℕ) → i < r.lead → add (r.at i) (neg (mul (r.at s.lead) (s.at i))) ≡ nil
        low i h = elim (dec_lt s.lead r.lead) [
          | yes k ↦ ap₂ (λ x y. add x (neg (mul y (s.at i)))) (l i h) (l s.lead k) ∙ simp ring
          | no k ↦ gone _ _ _ (l i h) (b i (omega arith))
        ]

    place_apart : (rs : List (Row F)) → s.at s.lead ≡ one → Each (λ r. r.at s.lead ≡ nil) rs → Clear F rs s.at → Apart F rs → Apart F (place s rs)
    place_apart [] l c z n = (l, tt, tt)
    place_apart (r ∷ rs) l (c, cs) (z, zs) (m, o, n) = elim (dec_lt s.lead r.lead) as (λ d. Apart F (elim d [ yes _ ↦ s ∷ (r ∷ rs) | no _ ↦ r ∷ place s rs ])) [
      | yes _ ↦ (l, ((z, c), each_map₂ _ _ _ rs (λ x a b. (a, b)) zs cs), (m, o, n))
      | no _ ↦ (m, each_place _ s rs (c, z) o, place_apart rs l cs zs n)
    ]

    other_lead : (r : Row F) → s.at s.lead ≡ one → s.at r.lead ≡ nil → ¬ (s.lead < r.lead) → r.lead < s.lead
    other_lead r l z h = elim (dec_lt r.lead s.lead) [ yes k ↦ k | no k ↦ (let e : s.lead ≡ r.lead = omega arith in absurd (one_is_not_nil F (sym l ∙ ap s.at e ∙ z))) ]

    place_rising : (rs : List (Row F)) → s.at s.lead ≡ one → Clear F rs s.at → ((i : ℕ) → i < s.lead → s.at i ≡ nil) → Rising F rs → Rising F (place s rs)
    place_rising [] l z b n = (b, tt, tt)
    place_rising (r ∷ rs) l (z, zs) b (m, o, n) = elim (dec_lt s.lead r.lead) as (λ d. Rising F (elim d [ yes _ ↦ s ∷ (r ∷ rs) | no _ ↦ r ∷ place s rs ])) [
      | yes h ↦ (b, (h, each_map _ _ rs (λ x k. omega arith) o), (m, o, n))
      | no h ↦ (m, each_place _ s rs (other_lead r l z h) o, place_rising rs l zs b n)
    ]

    pub insert_normal : (rs : List (Row F)) → s.at s.lead ≡ one → ((i : ℕ) → i < s.lead → s.at i ≡ nil) → Clear F rs s.at → Normal F rs → Normal F (insert s rs)
    insert_normal rs l b z (n, m) = (
      place_apart (map (clear s) rs) l (clear_there rs l) (clear_clear rs z) (clear_apart rs z n),
      place_rising (map (clear s) rs) l (clear_clear rs z) b (clear_rising rs b m),
    )

  -- the combinations
  pub swap : (a b : Vector F) (rs : List (Vector F)) (u : Vector F) → Comb F (a ∷ (b ∷ rs)) u → Comb F (b ∷ (a ∷ rs)) u
  swap a b rs u (c, (d, k)) = (d, (c, subst (Comb F rs) (fun_ext λ i. simp places) k))

  pub place_combs : (s : Row F) (rs : List (Row F)) → SameSpan F (vectors F (place s rs)) (s.at ∷ vectors F rs)
  place_combs s [] u = ((λ k. k), (λ k. k))
  place_combs s (r ∷ rs) u = elim (dec_lt s.lead r.lead) as (λ d. Comb F (vectors F (elim d [ yes _ ↦ s ∷ (r ∷ rs) | no _ ↦ r ∷ place s rs ])) u ↔ Comb F (s.at ∷ vectors F (r ∷ rs)) u) [
    | yes _ ↦ ((λ k. k), (λ k. k))
    | no _ ↦ ((λ k. swap r.at s.at (vectors F rs) u (k.0, (place_combs s rs _).0 k.1)), (λ k. let (c, j) = swap s.at r.at (vectors F rs) u k in (c, (place_combs s rs _).1 j)))
  ]

  shear : (u a b k s r : Digit F.size) → add (add u (neg (mul b (add r (neg (mul k s)))))) (neg (mul a s)) ≡ add (add u (neg (mul (add a (neg (mul b k))) s))) (neg (mul b r))
  shear u a b k s r = simp ring

  shear_back : (u a b k s r : Digit F.size) → add (add u (neg (mul b r))) (neg (mul a s)) ≡ add (add u (neg (mul (add a (mul b k)) s))) (neg (mul b (add r (neg (mul k s)))))
  shear_back u a b k s r = simp ring

  pub clear_combs : (s : Row F) (rs : List (Row F)) → SameSpan F (s.at ∷ vectors F (map (clear s) rs)) (s.at ∷ vectors F rs)
  clear_combs s [] u = ((λ k. k), (λ k. k))
  clear_combs s (r ∷ rs) u = (
    (λ k. let (b, j) = swap s.at (clear s r).at (vectors F (map (clear s) rs)) u k in
        let (a, h) = (clear_combs s rs _).0 j in
        (add a (neg (mul b (r.at s.lead))), (b, subst (Comb F (vectors F rs)) (fun_ext λ i. shear (u i) a b (r.at s.lead) (s.at i) (r.at i)) h))),
    (λ k. let (b, j) = swap s.at r.at (vectors F rs) u k in
        let (a, h) = (clear_combs s rs _).1 j in
        (add a (mul b (r.at s.lead)), (b, subst (Comb F (vectors F (map (clear s) rs))) (fun_ext λ i. shear_back (u i) a b (r.at s.lead) (s.at i) (r.at i)) h))),
  )

  pub insert_combs : (s : Row F) (rs : List (Row F)) → SameSpan F (vectors F (insert s rs)) (s.at ∷ vectors F rs)
  insert_combs s rs u = (
    (λ k. (clear_combs s rs u).0 ((place_combs s (map (clear s) rs) u).0 k)),
    (λ k. (place_combs s (map (clear s) rs) u).1 ((clear_combs s rs u).1 k)),
  )

  -- the scaled remainder makes what v makes
  pub scaled_one : (w : Vector F) (p : ℕ) → w p ≢ nil → (scaled w p).at p ≡ one
  scaled_one w p h = inv-mul (w p) h

  pub scaled_combs : (rs : List (Row F)) (v : Vector F) (p : ℕ) → remainder F rs v p ≢ nil → SameSpan F ((scaled (remainder F rs v) p).at ∷ vectors F rs) (v ∷ vectors F rs)
  scaled_combs rs v p h u = (
    comb_among F (v ∷ vectors F rs) ((scaled w p).at ∷ vectors F rs) u (there, each_later F v (vectors F rs) (vectors F rs) (each_itself F (vectors F rs))),
    comb_among F ((scaled w p).at ∷ vectors F rs) (v ∷ vectors F rs) u (back, each_later F (scaled w p).at (vectors F rs) (vectors F rs) (each_itself F (vectors F rs))),
  )
    where
      w : Vector F
      w = remainder F rs v

      there : Comb F (v ∷ vectors F rs) (scaled w p).at
      there = comb_times F (v ∷ vectors F rs) (inv (w p)) w (subst (Comb F (v ∷ vectors F rs)) (fun_ext λ i. simp places)
          (comb_less F (v ∷ vectors F rs) _ _ (comb_first F v (vectors F rs)) (comb_later F v (vectors F rs) _ (remainder_differs F rs v))))

      whole : (i : ℕ) → mul (w p) (mul (inv (w p)) (w i)) ≡ w i
      whole i = inverse_undone F (w p) (w i) h

      back : Comb F ((scaled w p).at ∷ vectors F rs) v
      back = (w p, subst (Comb F (vectors F rs)) (fun_ext λ i. ap (λ x. add (v i) (neg x)) (sym (whole i))) (remainder_differs F rs v))

  pub takes : (rs : List (Row F)) → Normal F rs → (v : Vector F) (p : ℕ) → Lowest F (remainder F rs v) p →
      Normal F (insert (scaled (remainder F rs v) p) rs) × SameSpan F (vectors F (insert (scaled (remainder F rs v) p) rs)) (v ∷ vectors F rs)
  takes rs n v p (h, b) = (
    insert_normal (scaled (remainder F rs v) p) rs (scaled_one (remainder F rs v) p h) (λ i k. ap (mul (inv (remainder F rs v p))) (b i k) ∙ simp ring)
        (each_map _ _ rs (λ r e. ap (mul (inv (remainder F rs v p))) e ∙ simp ring) (remainder_clear F rs n.0 v)) n,
    λ u. (
      (λ k. (scaled_combs rs v p h u).0 ((insert_combs (scaled (remainder F rs v) p) rs u).0 k)),
      (λ k. (insert_combs (scaled (remainder F rs v) p) rs u).1 ((scaled_combs rs v p h u).1 k)),
    ),
  )

  insert_within : (n : ℕ) (s : Row F) (rs : List (Row F)) → s.lead < n → Long F n s.at → Within F n rs → Within F n (insert s rs)
  insert_within n s rs l b w =
      each_place _ s (map (clear s) rs) (l, b) (each_of_map _ (clear s) rs (each_map _ _ rs (λ r e. (e.0, (λ i k. ap₂ (λ x y. add x (neg (mul (r.at s.lead) y))) (e.1 i k) (b i k) ∙ simp ring))) w))

  -- rows that v is a combination of are the normal form with v too
  pub known_form : (n : ℕ) (rs : List (Row F)) (vs : List (Vector F)) (v : Vector F) → NormalForm F n rs vs → Comb F (vectors F rs) v → NormalForm F n rs (v ∷ vs)
  known_form n rs vs v h k = record {
    normal = h.normal;
    within = h.within;
    span = λ u. (
      (λ j. comb_later F v vs u ((h.span u).0 j)),
      (λ j. subst (Comb F (vectors F rs)) (fun_ext λ i. simp places) (comb_plus F (vectors F rs) _ _ ((h.span _).1 j.1) (comb_times F (vectors F rs) j.0 v k))),
    );
  }

  -- and where something is left of v, the rows with it inserted are
  pub grown_form : (n : ℕ) (rs : List (Row F)) (vs : List (Vector F)) (v : Vector F) (p : ℕ) → NormalForm F n rs vs → Long F n v → p < n → Lowest F (remainder F rs v) p →
      NormalForm F n (insert (scaled (remainder F rs v) p) rs) (v ∷ vs)
  grown_form n rs vs v p h b below low =
      let t = takes rs h.normal v p low in
      record {
        normal = t.0;
        within = insert_within n (scaled (remainder F rs v) p) rs below (λ i k. ap (mul (inv (remainder F rs v p))) (remainder_long F n rs v h.within b i k) ∙ simp ring) h.within;
        span = λ u. ((λ k. (((t.1 u).0 k).0, (h.span _).0 ((t.1 u).0 k).1)), (λ k. (t.1 u).1 (k.0, (h.span _).1 k.1)));
      }
