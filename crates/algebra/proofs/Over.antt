-- What is joined over the members of a list.
use Rattle.std.proofs.Common.{◌≡◌, ℕ, zero, suc, ◌+◌, List, [], ◌∷◌, ◌++◌, map, sym, refl, ap, ◌∙◌, ap₂, add-zero, arith}
use Rattle.std.specs.List.{range_with_len, flat_map}
use Rattle.algebra.specs.Space.{Each}
use Rattle.algebra.specs.Permanent.{over}

module _ {Y : Type 0} (op : Y → Y → Y) (last : Y) where
  pub over_each : {X : Type 0} (f g : X → Y) (xs : List X) → Each (λ x. f x ≡ g x) xs → over op last f xs ≡ over op last g xs
  over_each f g [] e = refl
  over_each f g (x ∷ xs) (e, es) = ap₂ op e (over_each f g xs es)

  pub over_map : {X Z : Type 0} (f : X → Y) (g : Z → X) (zs : List Z) → over op last f (map g zs) ≡ over op last (λ z. f (g z)) zs
  over_map f g [] = refl
  over_map f g (z ∷ zs) = ap (op (f (g z))) (over_map f g zs)

  -- one list after another
  module _ (assoc : (a b c : Y) → op (op a b) c ≡ op a (op b c)) (first : (a : Y) → op last a ≡ a) where
    over_append : {X : Type 0} (f : X → Y) (xs ys : List X) → over op last f (xs ++ ys) ≡ op (over op last f xs) (over op last f ys)
    over_append f [] ys = sym (first (over op last f ys))
    over_append f (x ∷ xs) ys = ap (op (f x)) (over_append f xs ys) ∙ sym (assoc (f x) (over op last f xs) (over op last f ys))

    -- one number more at the end of a count
    pub over_more : ((a : Y) → op a last ≡ a) → (f : ℕ → Y) (a n : ℕ) → over op last f (range_with_len a (suc n)) ≡ op (over op last f (range_with_len a n)) (f (a + n))
    over_more none f a zero = none (f a) ∙ sym (first (f a)) ∙ ap (λ k. op last (f k)) (sym (add-zero a))
    over_more none f a (suc n) = let e : a + 1 + n ≡ a + suc n = omega arith in
        ap (op (f a)) (over_more none f (a + 1) n) ∙ sym (assoc (f a) (over op last f (range_with_len (a + 1) n)) (f (a + 1 + n))) ∙ ap (λ k. op (op (f a) (over op last f (range_with_len (a + 1) n))) (f k)) e

    pub over_joined : {X Z : Type 0} (f : X → Y) (g : Z → List X) (zs : List Z) → over op last f (flat_map g zs) ≡ over op last (λ z. over op last f (g z)) zs
    over_joined f g [] = refl
    over_joined f g (z ∷ zs) = over_append f (g z) (flat_map g zs) ∙ ap (op (over op last f (g z))) (over_joined f g zs)

  -- a map that keeps what joins and what is last keeps the whole
  pub over_image : {X Z : Type 0} (into : Z → Z → Z) (end : Z) (h : Y → Z) → ((a b : Y) → h (op a b) ≡ into (h a) (h b)) → h last ≡ end →
      (f : X → Y) (xs : List X) → h (over op last f xs) ≡ over into end (λ x. h (f x)) xs
  over_image into end h keeps ends f [] = ends
  over_image into end h keeps ends f (x ∷ xs) = keeps (f x) (over op last f xs) ∙ ap (into (h (f x))) (over_image into end h keeps ends f xs)
