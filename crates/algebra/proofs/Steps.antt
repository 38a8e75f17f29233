-- One vector more among stored rows whose leads are found in them: from what code does to what then holds.
use Rattle.std.proofs.Common.{◌≡◌, ℕ, zero, suc, ◌<◌, ◌≤◌, ◌≢◌, List, [], ◌∷◌, ◌++◌, map, length, get_or, take, drop, sym, refl, ap, ◌∙◌, subst, ap₂, arith}
use mathlib.Core.Path.{fun_ext}
use mathlib.Core.List.{map-append}
use native.Mathlib.Decide.{dec_lt}
use Rattle.std.specs.List.{insert as inserted}
use Rattle.std.proofs.lemmas.List.{take-map, drop-map, length-map}
use Rattle.algebra.specs.Field.{Field}
use Rattle.algebra.specs.Vector.{Vector, zeros, Long}
use Rattle.algebra.specs.Space.{Each, times, less, Comb}
use Rattle.algebra.specs.NormalForm.{Row, vectors, NormalForm, remainder, reduced, Lowest, lead_in, row_in, rows_in}
use Rattle.algebra.specs.Dual.{Free}
use Rattle.algebra.proofs.Each.{each_map}
use Rattle.algebra.proofs.Remainders.{reduced_is, remainder_clear, remainder_of_comb, remainder_long}
use Rattle.algebra.proofs.Insertion.{clear, place, insert, scaled, known_form, grown_form}
use Rattle.algebra.proofs.Duals.{rank_room}
use Rattle.algebra.proofs.Leads.{rows_back}

pub map_map : {A B C : Type 0} (f : B → C) (g : A → B) (xs : List A) → map f (map g xs) ≡ map (λ x. f (g x)) xs
map_map f g [] = refl
map_map f g (x ∷ xs) = ap (λ l. f (g x) ∷ l) (map_map f g xs)

map_inserted : {A B : Type 0} (f : A → B) (xs : List A) (m : ℕ) (x : A) → map f (inserted xs m x) ≡ inserted (map f xs) m (f x)
map_inserted f xs m x = map-append f (take m xs) (x ∷ drop m xs) ∙ ap₂ (λ a b. a ++ (f x ∷ b)) (sym (take-map f m xs)) (sym (drop-map f m xs))

module _ (F : Field) (w : ℕ) {X : Type 0} (meant : X → Vector F) where
  open F use {nil}

  pub each_at : (P : Row F → Type 0) (xs : List X) → Each P (rows_in F w meant xs) → (i : ℕ) (d : X) → i < length xs → P (row_in F w (meant (get_or xs i d)))
  each_at P [] e i d h = absurd (omega arith)
  each_at P (x ∷ xs) (e, es) zero d h = e
  each_at P (x ∷ xs) (e, es) (suc i) d h = each_at P xs es i d (omega arith)

  -- the place among rows that code finds by their leads
  place_found : (f : X → Row F) (xs : List X) (m : ℕ) (s : Row F) → m ≤ length xs → ((i : ℕ) (d : X) → i < m → (f (get_or xs i d)).lead < s.lead) → ((d : X) → m < length xs → s.lead < (f (get_or xs m d)).lead) →
      place F s (map f xs) ≡ inserted (map f xs) m s
  place_found f [] zero s h b t = refl
  place_found f [] (suc m) s h b t = absurd (omega arith)
  place_found f (x ∷ xs) zero s h b t =
      elim (dec_lt s.lead (f x).lead) as (λ d. (elim d [ yes _ ↦ s ∷ (f x ∷ map f xs) | no _ ↦ f x ∷ place F s (map f xs) ]) ≡ (s ∷ (f x ∷ map f xs))) [
        | yes _ ↦ refl
        | no k ↦ absurd (k (t x (omega arith)))
      ]
  place_found f (x ∷ xs) (suc m) s h b t =
      elim (dec_lt s.lead (f x).lead) as (λ d. (elim d [ yes _ ↦ s ∷ (f x ∷ map f xs) | no _ ↦ f x ∷ place F s (map f xs) ]) ≡ (f x ∷ inserted (map f xs) m s)) [
        | yes k ↦ absurd (let g : (f x).lead < s.lead = b 0 x (omega arith) in omega arith)
        | no k ↦ ap (λ rs. f x ∷ rs) (place_found f xs m s (omega arith) (λ i d g. b (suc i) d (omega arith)) (λ d g. t d (omega arith)))
      ]

  -- rows in normal form, and what they leave of a vector
  module _ (n : ℕ) (fits : n ≤ w) (xs : List X) (vs : List (Vector F)) (form : NormalForm F n (rows_in F w meant xs) vs) (v : Vector F) (u : Vector F) (left : u ≡ reduced F (rows_in F w meant xs) v) where
    pub left_is : u ≡ remainder F (rows_in F w meant xs) v
    left_is = left ∙ reduced_is F (rows_in F w meant xs) form.normal.0 v

    -- nothing is left of a combination, and of nothing else
    pub nothing_left : Comb F vs v → u ≡ zeros F
    nothing_left k = left_is ∙ (remainder_of_comb F (rows_in F w meant xs) form.normal.0 v).0 ((form.span v).1 k)

    in_rows : ((i : ℕ) → u i ≡ nil) → Comb F (vectors F (rows_in F w meant xs)) v
    in_rows z = (remainder_of_comb F (rows_in F w meant xs) form.normal.0 v).1 (sym left_is ∙ fun_ext z)

    pub known : ((i : ℕ) → u i ≡ nil) → Comb F vs v
    known z = (form.span v).0 (in_rows z)

    pub known_holds : ((i : ℕ) → u i ≡ nil) → NormalForm F n (rows_in F w meant xs) (v ∷ vs)
    known_holds z = known_form F n (rows_in F w meant xs) vs v form (in_rows z)

    module _ (p : ℕ) (low : Lowest F u p) where
      pub unknown : Comb F vs v → ⊥
      unknown k = low.0 (ap (λ f. f p) (nothing_left k))

      module _ (long : Long F n v) where
        lowest : Lowest F (remainder F (rows_in F w meant xs) v) p
        lowest = subst (λ f. Lowest F f p) left_is low

        below : p < n
        below = elim (dec_lt p n) [ yes k ↦ k | no k ↦ absurd (lowest.0 (remainder_long F n (rows_in F w meant xs) v form.within long p (omega arith))) ]

        free : Free F (rows_in F w meant xs) p
        free = each_map _ _ (rows_in F w meant xs) (λ r e q. lowest.0 (ap (remainder F (rows_in F w meant xs) v) (sym q) ∙ e)) (remainder_clear F (rows_in F w meant xs) form.normal.0 v)

        -- there are fewer rows than places
        pub room : length xs < n
        room = omega (arith, rank_room F n (rows_in F w meant xs) form.normal.1 form.within p below free, length-map xs (λ x. row_in F w (meant x)))

        -- s is what is left, scaled; ys are the rows with its lead cleared; zs are those with s put in where its lead belongs
        module _ (m : ℕ) (s : X) (ys zs : List X) (is : meant s ≡ (scaled F u p).at)
            (cleared : map meant ys ≡ map (λ x. less F (meant x) (times F (meant x p) (meant s))) xs)
            (most : m ≤ length xs) (before : (i : ℕ) (d : X) → i < m → lead_in F w (meant (get_or xs i d)) < p) (after : (d : X) → m < length xs → p ≤ lead_in F w (meant (get_or xs m d)))
            (put : zs ≡ inserted ys m s) where
          row : Row F
          row = scaled F (remainder F (rows_in F w meant xs) v) p

          row_at : meant s ≡ row.at
          unfolding row
          row_at = is ∙ ap (λ f. (scaled F f p).at) left_is

          strict : (d : X) → m < length xs → p < lead_in F w (meant (get_or xs m d))
          strict d h = let q : lead_in F w (meant (get_or xs m d)) ≢ p = each_at (λ r. r.lead ≢ p) xs free m d h in omega (arith, after d h)

          placed : insert F row (rows_in F w meant xs) ≡ inserted (map (λ x. clear F row (row_in F w (meant x))) xs) m row
          unfolding row
          placed = ap (place F row) (map_map (clear F row) (λ x. row_in F w (meant x)) xs) ∙ place_found (λ x. clear F row (row_in F w (meant x))) xs m row most before strict

          same : vectors F (insert F row (rows_in F w meant xs)) ≡ map meant zs
          unfolding row
          same = ap (vectors F) placed ∙ map_inserted (λ r. r.at) (map (λ x. clear F row (row_in F w (meant x))) xs) m row
              ∙ ap₂ (λ gs f. inserted gs m f) (map_map (λ r. r.at) (λ x. clear F row (row_in F w (meant x))) xs ∙ at_p ∙ sym cleared) (sym row_at)
              ∙ sym (map_inserted meant ys m s) ∙ ap (map meant) (sym put)
            where
              at_p : map (λ x. (clear F row (row_in F w (meant x))).at) xs ≡ map (λ x. less F (meant x) (times F (meant x p) (meant s))) xs
              at_p = ap (λ f. map (λ x. less F (meant x) (times F (meant x p) f)) xs) (sym row_at)

          pub grown_holds : NormalForm F n (rows_in F w meant zs) (v ∷ vs)
          unfolding row
          grown_holds = subst (λ rs. NormalForm F n rs (v ∷ vs)) (sym found) whole
            where
              whole : NormalForm F n (insert F row (rows_in F w meant xs)) (v ∷ vs)
              whole = grown_form F n (rows_in F w meant xs) vs v p form long below lowest

              found : rows_in F w meant zs ≡ insert F row (rows_in F w meant xs)
              found = sym (map_map (row_in F w) meant zs) ∙ ap (map (row_in F w)) (sym same) ∙ rows_back F w n fits (insert F row (rows_in F w meant xs)) whole.normal whole.within
