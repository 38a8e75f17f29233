-- What holds of each element of a list.
use Rattle.std.proofs.Common.{List, [], ◌∷◌, ◌++◌, map, reverse}
use mathlib.Core.List.{reverse_aux}
use Rattle.std.specs.List.{flat_map}
use Rattle.algebra.specs.Space.{Each}

pub each_map : {X : Type 0} (P Q : X → Type 0) (xs : List X) → ((x : X) → P x → Q x) → Each P xs → Each Q xs
each_map P Q [] f e = tt
each_map P Q (x ∷ xs) f (e, es) = (f x e, each_map P Q xs f es)

pub each_map₂ : {X : Type 0} (P Q R : X → Type 0) (xs : List X) → ((x : X) → P x → Q x → R x) → Each P xs → Each Q xs → Each R xs
each_map₂ P Q R [] f a b = tt
each_map₂ P Q R (x ∷ xs) f (p, ps) (q, qs) = (f x p q, each_map₂ P Q R xs f ps qs)

-- of each image, and back
pub each_of_map : {X Y : Type 0} (P : Y → Type 0) (f : X → Y) (xs : List X) → Each (λ x. P (f x)) xs → Each P (map f xs)
each_of_map P f [] e = tt
each_of_map P f (x ∷ xs) (e, es) = (e, each_of_map P f xs es)

pub each_from_map : {X Y : Type 0} (P : Y → Type 0) (f : X → Y) (xs : List X) → Each P (map f xs) → Each (λ x. P (f x)) xs
each_from_map P f [] e = tt
each_from_map P f (x ∷ xs) (e, es) = (e, each_from_map P f xs es)

-- of each element of lists put one after another
pub each_append : {X : Type 0} (P : X → Type 0) (xs ys : List X) → Each P xs → Each P ys → Each P (xs ++ ys)
each_append P [] ys e f = f
each_append P (x ∷ xs) ys (e, es) f = (e, each_append P xs ys es f)

pub each_joined : {X Y : Type 0} (P : X → Type 0) (Q : Y → Type 0) (g : X → List Y) → ((x : X) → P x → Each Q (g x)) → (xs : List X) → Each P xs → Each Q (flat_map g xs)
each_joined P Q g f [] e = tt
each_joined P Q g f (x ∷ xs) (e, es) = each_append Q (g x) (flat_map g xs) (f x e) (each_joined P Q g f xs es)

-- in reverse
each_turned : {X : Type 0} (P : X → Type 0) (xs ys : List X) → Each P xs → Each P ys → Each P (reverse_aux xs ys)
each_turned P [] ys a b = b
each_turned P (x ∷ xs) ys (e, es) b = each_turned P xs (x ∷ ys) es (e, b)

pub each_reverse : {X : Type 0} (P : X → Type 0) (xs : List X) → Each P xs → Each P (reverse xs)
each_reverse P xs a = each_turned P xs [] a tt
