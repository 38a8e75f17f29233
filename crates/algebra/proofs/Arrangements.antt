-- The arrangements of a list: they are as long as it is, and those of 0 to n - 1 are the lists that have each of these once, each of them once.
use Rattle.std.proofs.Common.{◌≡◌, ℕ, zero, suc, ◌+◌, ◌*◌, ◌<◌, ◌≤◌, cond, eqb, ◌≢◌, List, [], ◌∷◌, length, sym, refl, ap, ◌∙◌, ap₂, inl, inr, add_assoc, mul-zero, zero-add, mul-add, arith}
use native.Mathlib.Decide.{ℕ_discrete}
use Rattle.std.specs.List.{range_with_len}
use Rattle.std.proofs.lemmas.Bool.{eq-eqb, ne_eqb, cases_lt}
use Rattle.algebra.specs.Space.{Each}
use Rattle.algebra.specs.Permanent.{sum_over, insertions, arrangements, same, alike, often, often_among, EachOnce}
use Rattle.algebra.proofs.Each.{each_map, each_of_map, each_joined}
use Rattle.algebra.proofs.Over.{over_each, over_map, over_joined}

-- lengths
module _ {X : Type 0} where
  longer : (x : X) (q : List X) → Each (λ p. length p ≡ suc (length q)) (insertions x q)
  longer x [] = (refl, tt)
  longer x (y ∷ q) = (refl, each_of_map _ (λ p. y ∷ p) (insertions x q) (each_map (λ p. length p ≡ suc (length q)) _ (insertions x q) (λ p e. ap suc e) (longer x q)))

  pub as_long : (xs : List X) → Each (λ p. length p ≡ length xs) (arrangements xs)
  as_long [] = (refl, tt)
  as_long (x ∷ xs) =
      each_joined (λ q. length q ≡ length xs) _ (insertions x)
      (λ q e. each_map (λ p. length p ≡ suc (length q)) _ (insertions x q) (λ p f. f ∙ ap suc e) (longer x q)) (arrangements xs) (as_long xs)

-- two columns
same_is : (c d : ℕ) → c ≡ d → same c d ≡ 1
same_is c d e = ap (λ b. cond b 1 0) (eq-eqb c d e)

same_not : (c d : ℕ) → c ≢ d → same c d ≡ 0
same_not c d h = ap (λ b. cond b 1 0) (ne_eqb c d h)

past : (a b c d : ℕ) → b ≡ c + d → a + b ≡ c + (a + d)
past a b c d e = omega arith

-- an arrangement has each column as often as the list
often_inserted : (x : ℕ) (q : List ℕ) → Each (λ p. (c : ℕ) → often c p ≡ same c x + often c q) (insertions x q)
often_inserted x [] = (λ c. refl, tt)
often_inserted x (y ∷ q) = (
  λ c. refl,
  each_of_map _ (λ p. y ∷ p) (insertions x q)
      (each_map (λ p. (c : ℕ) → often c p ≡ same c x + often c q) _ (insertions x q) (λ p h c. past (same c y) (often c p) (same c x) (often c q) (h c)) (often_inserted x q)),
)

often_arranged : (xs : List ℕ) → Each (λ p. (c : ℕ) → often c p ≡ often c xs) (arrangements xs)
often_arranged [] = (λ c. refl, tt)
often_arranged (x ∷ xs) =
    each_joined (λ q. (c : ℕ) → often c q ≡ often c xs) _ (insertions x)
    (λ q h. each_map (λ p. (c : ℕ) → often c p ≡ same c x + often c q) _ (insertions x q) (λ p k c. k c ∙ ap (λ z. same c x + z) (h c)) (often_inserted x q))
    (arrangements xs) (often_arranged xs)

-- how often a column stands among those from k on
before : (c k m : ℕ) → c < k → often c (range_with_len k m) ≡ 0
before c k zero h = refl
before c k (suc m) h = ap₂ ◌+◌ (same_not c k (λ e. omega arith)) (before c (k + 1) m (omega arith))

after : (c k m : ℕ) → k + m ≤ c → often c (range_with_len k m) ≡ 0
after c k zero h = refl
after c k (suc m) h = ap₂ ◌+◌ (same_not c k (λ e. omega arith)) (after c (k + 1) m (omega arith))

among : (c k m : ℕ) → k ≤ c → c < k + m → often c (range_with_len k m) ≡ 1
among c k zero h l = absurd (omega arith)
among c k (suc m) h l = elim (ℕ_discrete c k) [
  | yes e ↦ ap₂ ◌+◌ (same_is c k e) (before c (k + 1) m (omega arith))
  | no d ↦ ap₂ ◌+◌ (same_not c k d) (among c (k + 1) m (omega arith) (omega arith))
]

pub arranged : (n : ℕ) → Each (EachOnce n) (arrangements (range_with_len 0 n))
arranged n = each_map _ (EachOnce n) (arrangements (range_with_len 0 n)) has (often_arranged (range_with_len 0 n))
  where
    has : (p : List ℕ) → ((c : ℕ) → often c p ≡ often c (range_with_len 0 n)) → EachOnce n p
    has p h = record { below = λ c l. h c ∙ among c 0 n (omega arith) (omega arith); beyond = λ c l. h c ∙ after c 0 n (omega arith) }

-- p without its first x
abbrev without : ℕ → List ℕ → List ℕ
without x [] = []
without x (y ∷ p) = cond (eqb x y) p (y ∷ without x p)

without_here : (x y : ℕ) (p : List ℕ) → x ≡ y → without x (y ∷ p) ≡ p
without_here x y p e = ap (λ b. cond b p (y ∷ without x p)) (eq-eqb x y e)

without_later : (x y : ℕ) (p : List ℕ) → x ≢ y → without x (y ∷ p) ≡ y ∷ without x p
without_later x y p h = ap (λ b. cond b p (y ∷ without x p)) (ne_eqb x y h)

often_without : (x : ℕ) (p : List ℕ) → 0 < often x p → (c : ℕ) → often c p ≡ same c x + often c (without x p)
often_without x [] h c = absurd (omega arith)
often_without x (y ∷ p) h c = elim (ℕ_discrete x y) [
  | yes e ↦ ap₂ (λ z q. same c z + often c q) (sym e) (sym (without_here x y p e))
  | no d ↦ (let n : same x y ≡ 0 = same_not x y d in past (same c y) (often c p) (same c x) (often c (without x p)) (often_without x p (omega arith) c) ∙ ap (λ q. same c x + often c q) (sym (without_later x y p d)))
]

sum_scaled : {X : Type 0} (f : X → ℕ) (a : ℕ) (xs : List X) → sum_over (λ x. a * f x) xs ≡ a * sum_over f xs
sum_scaled f a [] = sym (mul-zero a)
sum_scaled f a (x ∷ xs) = ap (λ z. a * f x + z) (sum_scaled f a xs) ∙ sym (mul-add a (f x) (sum_over f xs))

-- where q has no x, a list p that has one is q with x put in at most one way: where p without its x is q
alike_inserted : (x : ℕ) (p q : List ℕ) → 0 < often x p → often x q ≡ 0 → often_among p (insertions x q) ≡ alike (without x p) q
alike_inserted x [] q h k = absurd (omega arith)
alike_inserted x (y ∷ p) [] h k = elim (ℕ_discrete x y) [
  | yes e ↦ ap (λ z. z * alike p [] + 0) (same_is y x (sym e)) ∙ one (alike p []) ∙ ap (λ q. alike q []) (sym (without_here x y p e))
  | no d ↦ ap (λ z. z * alike p [] + 0) (same_not y x (λ e. d (sym e))) ∙ none (alike p []) ∙ ap (λ q. alike q []) (sym (without_later x y p d))
]
  where
    one : (s : ℕ) → 1 * s + 0 ≡ s
    one s = omega arith

    none : (s : ℕ) → 0 * s + 0 ≡ 0
    none s = omega arith
alike_inserted x (y ∷ p) (z ∷ q) h k =
    ap (λ w. same y x * alike p (z ∷ q) + w) (over_map ◌+◌ 0 (alike (y ∷ p)) (λ r. z ∷ r) (insertions x q) ∙ sum_scaled (alike p) (same y z) (insertions x q))
    ∙ by_first (ℕ_discrete x y) (alike_inserted x p q)
  where
    by_first : Dec (x ≡ y) → (0 < often x p → often x q ≡ 0 → often_among p (insertions x q) ≡ alike (without x p) q)
        → same y x * alike p (z ∷ q) + same y z * often_among p (insertions x q) ≡ alike (without x (y ∷ p)) (z ∷ q)
    by_first (yes e) ih =
        ap₂ (λ a b. a * alike p (z ∷ q) + b * often_among p (insertions x q)) (same_is y x (sym e)) (ap (λ w. same w z) (sym e) ∙ apart)
        ∙ first (alike p (z ∷ q)) (often_among p (insertions x q)) ∙ ap (λ r. alike r (z ∷ q)) (sym (without_here x y p e))
      where
        apart : same x z ≡ 0
        apart = omega arith

        first : (s t : ℕ) → 1 * s + 0 * t ≡ s
        first s t = omega arith
    by_first (no d) ih =
        ap₂ (λ a b. a * alike p (z ∷ q) + same y z * b) (same_not y x (λ e. d (sym e))) (ih has (omega arith))
        ∙ later (alike p (z ∷ q)) (same y z * alike (without x p) q) ∙ ap (λ r. alike r (z ∷ q)) (sym (without_later x y p d))
      where
        has : 0 < often x p
        has = let n : same x y ≡ 0 = same_not x y d in omega arith

        later : (s t : ℕ) → 0 * s + t ≡ t
        later s t = omega arith

-- no column stands twice
abbrev Apart : List ℕ → Type 0
Apart [] = Unit {0}
Apart (x ∷ xs) = (often x xs ≡ 0) × Apart xs

apart_counting : (k m : ℕ) → Apart (range_with_len k m)
apart_counting k zero = tt
apart_counting k (suc m) = (before k (k + 1) m (omega arith), apart_counting (k + 1) m)

once : (xs : List ℕ) → Apart xs → (p : List ℕ) → ((c : ℕ) → often c p ≡ often c xs) → often_among p (arrangements xs) ≡ 1
once [] a [] h = refl
once [] a (y ∷ p) h = let e : same y y ≡ 1 = same_is y y refl in let f : often y (y ∷ p) ≡ 0 = h y in absurd (omega arith)
once (x ∷ xs) (new, others) p h =
    over_joined ◌+◌ 0 add_assoc zero-add (alike p) (insertions x) (arrangements xs)
    ∙ over_each ◌+◌ 0 _ (alike (without x p)) (arrangements xs) (each_map _ _ (arrangements xs) (λ q k. alike_inserted x p q has (k x ∙ new)) (often_arranged xs))
    ∙ once xs others (without x p) (λ c. rest (same c x) (often c (without x p)) (often c xs) (sym (often_without x p has c) ∙ h c))
  where
    has : 0 < often x p
    has = let e : same x x ≡ 1 = same_is x x refl in let f : often x p ≡ same x x + often x xs = h x in omega arith

    rest : (a b c : ℕ) → a + b ≡ a + c → b ≡ c
    rest a b c e = omega arith

pub complete : (n : ℕ) (p : List ℕ) → EachOnce n p → often_among p (arrangements (range_with_len 0 n)) ≡ 1
complete n p o = once (range_with_len 0 n) (apart_counting 0 n) p (λ c. elim (cases_lt c n) [
  | inl l ↦ o.below c l ∙ sym (among c 0 n (omega arith) (omega arith))
  | inr l ↦ o.beyond c l ∙ sym (after c 0 n (omega arith))
])
