-- The rows of two bases over one field hold equal digits exactly if the bases span the same.
use Rattle.std.proofs.Common.{◌≡◌, ℕ, zero, suc, ◌<◌, ◌≤◌, Bool, ◌↔◌, List, [], ◌∷◌, map, length, get_or, take, Decides, sym, refl, ap, ◌∙◌, subst, ap₂, subst₂, arith}
use mathlib.Core.Path.{fun_ext}
use mathlib.Core.Logic.Iff
use native.Mathlib.Decide.{dec_lt}
use Rattle.std.specs.List.{AllWithin}
use Rattle.std.proofs.lemmas.List.{get_or-take, get_or-map, length-take-le, length-map}
use Rattle.algebra.specs.Field.{Field, value, of}
use Rattle.algebra.specs.Vector.{Vector, zeros, Long}
use Rattle.algebra.specs.Space.{times, less, Comb, SameSpan}
use Rattle.algebra.specs.NormalForm.{Row, row_in, rows_in}
use Rattle.algebra.proofs.Digits.{same_digit, of_value}
use Rattle.algebra.proofs.Combinations.{places, comb_later}
use Rattle.algebra.proofs.Steps.{map_map, each_at}
use Rattle.algebra.proofs.Uniqueness.{same_form}
use Rattle.coding.specs.declared.vectors.Coding.{Ghosts as Coding}
use Rattle.coding.proofs.Members.{coding}
use Rattle.basis.specs.Form.{Rows}
use Rattle.basis.specs.Agree.{SameDigits, SameSpans}

-- two lists whose elements have the same images, one by one
module _ {X Y Z : Type 0} (f : X → Z) (g : Y → Z) where
  same_images : (n : ℕ) (xs : List X) (ys : List Y) → n ≤ length xs → n ≤ length ys →
      ((i : ℕ) (d : X) (e : Y) → i < n → f (get_or xs i d) ≡ g (get_or ys i e)) → map f (take n xs) ≡ map g (take n ys)
  same_images zero xs ys a b h = refl
  same_images (suc n) [] ys a b h = absurd (omega arith)
  same_images (suc n) (x ∷ xs) [] a b h = absurd (omega arith)
  same_images (suc n) (x ∷ xs) (y ∷ ys) a b h =
      ap₂ ◌∷◌ (h 0 x y (omega arith)) (same_images n xs ys (omega arith) (omega arith) (λ i d e l. h (suc i) d e (omega arith)))

  same_lengths : (xs : List X) (ys : List Y) → map f xs ≡ map g ys → length xs ≡ length ys
  same_lengths xs ys h = sym (length-map xs f) ∙ ap length h ∙ length-map ys g

  same_at : (xs : List X) (ys : List Y) → map f xs ≡ map g ys → (i : ℕ) (d : X) (e : Y) → i < length xs → f (get_or xs i d) ≡ g (get_or ys i e)
  same_at xs ys h i d e l = sym (get_or-map f xs i d (f d) l) ∙ ap (λ zs. get_or zs i (f d)) h ∙ get_or-map g ys i e (f d) (omega (arith, same_lengths xs ys h))

-- rows below n agree exactly where the first n rows do
pub first_agree : {X Y : Type 0} (C : Coding X) (D : Coding Y) (n : ℕ) (xs : List X) (ys : List Y) (answer : Bool) →
    Decides answer (SameDigits C D n (take n xs) (take n ys)) → Decides answer (SameDigits C D n xs ys)
first_agree C D n xs ys answer h = (
  (λ e i k d f l m. subst₂ (λ x y. value (C.meant x k) ≡ value (D.meant y k)) (get_or-take n xs i d l) (get_or-take n ys i f l) (h.0 e i k d f l m)),
  (λ s. h.1 (λ i k d f l m. subst₂ (λ x y. value (C.meant x k) ≡ value (D.meant y k)) (sym (get_or-take n xs i d l)) (sym (get_or-take n ys i f l)) (s i k d f l m))),
)

-- zero rows after the first k add no combinations
zeros_after : (F : Field) {X : Type 0} (meant : X → Vector F) (k n : ℕ) (xs : List X) → k ≤ n → AllWithin (λ x. meant x ≡ zeros F) xs k n →
    SameSpan F (map meant (take n xs)) (map meant (take k xs))
zeros_after F meant zero zero xs h z v = Iff.rfl
zeros_after F meant zero (suc n) [] h z v = Iff.rfl
zeros_after F meant zero (suc n) (x ∷ xs) h z v =
    let fewer = zeros_after F meant zero n xs (omega arith) (λ i d a b. z (suc i) d (omega arith) (omega arith)) v in (
      (λ t. fewer.0 (subst (Comb F (map meant (take n xs))) (ap (λ f. less F v (times F t.0 f)) (z 0 x (omega arith) (omega arith)) ∙ fun_ext λ p. simp places) t.1)),
      (λ c. comb_later F (meant x) (map meant (take n xs)) v (fewer.1 c)),
    )
zeros_after F meant (suc k) zero xs h z v = absurd (omega arith)
zeros_after F meant (suc k) (suc n) [] h z v = Iff.rfl
zeros_after F meant (suc k) (suc n) (x ∷ xs) h z v =
    let later = zeros_after F meant k n xs (omega arith) (λ i d a b. z (suc i) d (omega arith) (omega arith)) in
    ((λ t. (t.0, (later _).0 t.1)), (λ t. (t.0, (later _).1 t.1)))

-- the rows of one basis
module _ {X : Type 0} (C : Coding X) (n rank : ℕ) (xs : List X) (vs : List (Vector C.field)) (rows : Rows C n rank xs vs) where
  first_length : length (take rank xs) ≡ rank
  first_length = length-take-le rank xs rows.form.room

  -- the first rows are in normal form within n places, and the rest are zero
  rows_long : (i : ℕ) (d : X) → i < n → Long C.field n (C.meant (get_or xs i d))
  rows_long i d h p q = elim (dec_lt i rank) [
    | yes l ↦ subst (λ x. C.meant x p ≡ C.field.nil) (get_or-take rank xs i d l)
        ((each_at C.field C.width C.meant (λ r. (r.lead < n) × Long C.field n r.at) (take rank xs) rows.form.normal.within i d (omega (arith, first_length))).1 p q)
    | no l ↦ ap (λ f. f p) (rows.rest i d (omega arith) h).0
  ]

  -- all n rows span what the first do, which are the normal form of vs
  rows_span : SameSpan C.field (map C.meant (take n xs)) vs
  rows_span u = Iff.trans (zeros_after C.field C.meant rank n xs rows.ranked (λ i d a b. (rows.rest i d a b).0) u)
      (subst (λ fs. Comb C.field fs u ↔ Comb C.field vs u) (map_map (λ (r : Row C.field). r.at) (λ x. row_in C.field C.width (C.meant x)) (take rank xs)) (rows.form.normal.span u))

-- the rows of two bases over one field
module _ (F : Field) (v w : ℕ) {X Y : Type 0} (mx : X → Vector F) (my : Y → Vector F) (cx : X → Type 0) (cy : Y → Type 0) (n k j : ℕ) (xs : List X) (ys : List Y) (vs ws : List (Vector F))
    (a : Rows (coding F v mx cx) n k xs vs) (b : Rows (coding F w my cy) n j ys ws) where
  -- equal digits below n are all that equal rows need
  digits_rows : SameDigits (coding F v mx cx) (coding F w my cy) n xs ys → (i : ℕ) (d : X) (e : Y) → i < n → mx (get_or xs i d) ≡ my (get_or ys i e)
  digits_rows s i d e h = fun_ext λ p. elim (dec_lt p n) [
    | yes l ↦ same_digit _ _ (s i p d e h l)
    | no l ↦ rows_long (coding F v mx cx) n k xs vs a i d h p (omega arith) ∙ sym (rows_long (coding F w my cy) n j ys ws b i e h p (omega arith))
  ]

  digits_span : SameDigits (coding F v mx cx) (coding F w my cy) n xs ys → SameSpan F vs ws
  digits_span s u = Iff.trans (Iff.symm (rows_span (coding F v mx cx) n k xs vs a u))
      (subst (λ fs. Comb F fs u ↔ Comb F ws u) (sym (same_images mx my n xs ys a.room b.room (digits_rows s))) (rows_span (coding F w my cy) n j ys ws b u))

  -- bases that span the same have the same normal form
  span_rows : SameSpan F vs ws → (i : ℕ) (d : X) (e : Y) → i < n → mx (get_or xs i d) ≡ my (get_or ys i e)
  span_rows s i d e h = elim (dec_lt i k) [
    | yes l ↦ sym (ap mx (get_or-take k xs i d l))
        ∙ ap (λ (r : Row F). r.at) (same_at _ _ (take k xs) (take j ys) first i d e (omega (arith, first_length (coding F v mx cx) n k xs vs a)))
        ∙ ap my (get_or-take j ys i e (omega (arith, ranks)))
    | no l ↦ (a.rest i d (omega arith) h).0 ∙ sym (b.rest i e (omega (arith, ranks)) h).0
  ]
    where
      first : rows_in F v mx (take k xs) ≡ rows_in F w my (take j ys)
      first = (same_form F n _ _ vs ws a.form.normal b.form.normal).1 s

      ranks : k ≡ j
      ranks = sym (first_length (coding F v mx cx) n k xs vs a) ∙ same_lengths _ _ (take k xs) (take j ys) first ∙ first_length (coding F w my cy) n j ys ws b

  -- every vector is one of numbers, taken as digits
  numbers_span : SameSpans F F vs ws → SameSpan F vs ws
  numbers_span s u = subst (λ f. Comb F vs f ↔ Comb F ws f) (fun_ext λ p. of_value F (u p)) (s (λ p. value (u p)))

  agreeing_one : SameDigits (coding F v mx cx) (coding F w my cy) n xs ys ↔ SameSpans F F vs ws
  agreeing_one = ((λ s u. digits_span s (λ p. of F (u p))), (λ s i p d e h l. ap (λ f. value (f p)) (span_rows (numbers_span s) i d e h)))

pub agreeing : {X Y : Type 0} (C : Coding X) (D : Coding Y) → C.field ≡ D.field
    → (n k j : ℕ) (xs : List X) (ys : List Y) (vs : List (Vector C.field)) (ws : List (Vector D.field)) →
    Rows C n k xs vs → Rows D n j ys ws → SameDigits C D n xs ys ↔ SameSpans C.field D.field vs ws
agreeing {X} {Y} C D same n k j xs ys vs ws a b =
    subst (λ K. (my : Y → Vector K) (ws : List (Vector K)) → Rows (coding K D.width my D.canonical) n j ys ws → SameDigits C (coding K D.width my D.canonical) n xs ys ↔ SameSpans C.field K vs ws) same
    (λ my ws. agreeing_one C.field C.width D.width C.meant my C.canonical D.canonical n k j xs ys vs ws a) D.meant ws b
