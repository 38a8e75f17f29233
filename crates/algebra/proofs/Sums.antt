-- Sums and products of a field's digits over a list, and sums over the ways to pick one member out of a list.
use Rattle.std.proofs.Common.{◌≡◌, suc, List, [], ◌∷◌, length, sym, refl, ap, ◌∙◌, ap₂}
use Rattle.algebra.specs.Field.{Field, Digit}
use Rattle.algebra.specs.Permanent.{over}
use Rattle.algebra.proofs.Ring.{ring, times_nil}

module _ (F : Field) where
  open F use {nil, one, add, mul, nil-add, mul-add}

  abbrev pub sum : {X : Type 0} → (X → Digit F.size) → List X → Digit F.size
  sum f xs = over add nil f xs

  abbrev pub prod : {X : Type 0} → (X → Digit F.size) → List X → Digit F.size
  prod f xs = over mul one f xs

  -- the sum of f at each member and the list without it
  abbrev pub picks : {X : Type 0} → (X → List X → Digit F.size) → List X → Digit F.size
  picks f [] = nil
  picks f (x ∷ xs) = add (f x xs) (picks (λ y rest. f y (x ∷ rest)) xs)

  module _ {X : Type 0} where
    pub sum_nil : (xs : List X) → sum (λ x. nil) xs ≡ nil
    sum_nil [] = refl
    sum_nil (x ∷ xs) = nil-add _ ∙ sum_nil xs

    pub sum_add : (f g : X → Digit F.size) (xs : List X) → sum (λ x. add (f x) (g x)) xs ≡ add (sum f xs) (sum g xs)
    sum_add f g [] = sym (nil-add nil)
    sum_add f g (x ∷ xs) = ap (add (add (f x) (g x))) (sum_add f g xs) ∙ simp ring

    pub sum_mul : (a : Digit F.size) (f : X → Digit F.size) (xs : List X) → sum (λ x. mul a (f x)) xs ≡ mul a (sum f xs)
    sum_mul a f [] = sym (times_nil F a)
    sum_mul a f (x ∷ xs) = ap (add (mul a (f x))) (sum_mul a f xs) ∙ sym (mul-add a (f x) (sum f xs))

    -- equal wherever the list without the member is shorter by one
    pub picks_same : (f g : X → List X → Digit F.size) (xs : List X)
        → ((y : X) (rest : List X) → suc (length rest) ≡ length xs → f y rest ≡ g y rest) → picks f xs ≡ picks g xs
    picks_same f g [] h = refl
    picks_same f g (x ∷ xs) h = ap₂ add (h x xs refl) (picks_same (λ y rest. f y (x ∷ rest)) (λ y rest. g y (x ∷ rest)) xs (λ y rest e. h y (x ∷ rest) (ap suc e)))

    pub picks_nil : (xs : List X) → picks (λ y rest. nil) xs ≡ nil
    picks_nil [] = refl
    picks_nil (x ∷ xs) = nil-add _ ∙ picks_nil xs

    pub picks_add : (f g : X → List X → Digit F.size) (xs : List X) → picks (λ y rest. add (f y rest) (g y rest)) xs ≡ add (picks f xs) (picks g xs)
    picks_add f g [] = sym (nil-add nil)
    picks_add f g (x ∷ xs) = ap (add (add (f x xs) (g x xs))) (picks_add (λ y rest. f y (x ∷ rest)) (λ y rest. g y (x ∷ rest)) xs) ∙ simp ring

    pub picks_mul : (a : Digit F.size) (f : X → List X → Digit F.size) (xs : List X) → picks (λ y rest. mul a (f y rest)) xs ≡ mul a (picks f xs)
    picks_mul a f [] = sym (times_nil F a)
    picks_mul a f (x ∷ xs) = ap (add (mul a (f x xs))) (picks_mul a (λ y rest. f y (x ∷ rest)) xs) ∙ sym (mul-add a (f x xs) _)

  -- two sums, in either order
  pub sum_picks : {X Y : Type 0} (f : Y → X → List X → Digit F.size) (ys : List Y) (xs : List X) → sum (λ y. picks (f y) xs) ys ≡ picks (λ x rest. sum (λ y. f y x rest) ys) xs
  sum_picks f ys [] = sum_nil ys
  sum_picks f ys (x ∷ xs) =
      sum_add (λ y. f y x xs) (λ y. picks (λ z rest. f y z (x ∷ rest)) xs) ys
      ∙ ap (add (sum (λ y. f y x xs) ys)) (sum_picks (λ y z rest. f y z (x ∷ rest)) ys xs)
