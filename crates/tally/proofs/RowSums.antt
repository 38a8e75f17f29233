-- The running sum of rows: built row by row for a code, and mended by one row from a position to the next.
use Rattle.std.proofs.Common.{◌≡◌, ℕ, suc, ◌+◌, ◌-◌, ◌*◌, ◌%◌, ◌^◌, ◌<◌, ◌≤◌, List, length, get_or, sym, ap, ◌∙◌, subst, ap₂, add-zero, add_assoc, mul-le-mul_right, suc-mul, one-mul, zero-add, add-one, arith, pow_pos, pow_mono, pow-add}
use Rattle.std.specs.List.{range_with_len}
use Rattle.algebra.specs.Field.{value, minus}
use Rattle.algebra.specs.Modulo.{f3, mul_mod_mod}
use Rattle.algebra.specs.Vector.{Vector, product}
use Rattle.algebra.specs.Permanent.{sum_over, product_over}
use Rattle.algebra.specs.Gray.{gray_code, bit, chosen, sign, term, Toggles}
use Rattle.algebra.proofs.Over.{over_more}
use Rattle.algebra.proofs.RunningSums.{enters, leaves}
use Rattle.coding.specs.declared.vectors.Coding.{Ghosts as Coding}
use Rattle.tally.specs.Matrix.{matrix, Sums}
use Rattle.tally.proofs.Values.{sum_value, difference_value, product_value, row_value}

-- one term more at the end of a sum
pub sum_more : (f : ℕ → ℕ) (a n : ℕ) → sum_over f (range_with_len a (n + 1)) ≡ sum_over f (range_with_len a n) + f (a + n)
sum_more f a n = ap (λ k. sum_over f (range_with_len a k)) (add-one n) ∙ over_more ◌+◌ 0 add_assoc zero-add add-zero f a n

-- the sum of those of the first j rows that the code g chooses, at every column
pub record SumsTo {X : Type 0} (C : Coding X) (rows : List X) (g j : ℕ) (v : Vector C.field) : Type 0 where
  pub digits : (c : ℕ) → value (v c) ≡ sum_over (λ i. bit i g * matrix C rows i c) (range_with_len 0 j) % 3

-- one row more: its digit at column c enters where the code chooses it
row_more : {X : Type 0} (C : Coding X) (rows : List X) (g j c b : ℕ) → bit j g ≡ b
    → sum_over (λ i. bit i g * matrix C rows i c) (range_with_len 0 (j + 1)) ≡ sum_over (λ i. bit i g * matrix C rows i c) (range_with_len 0 j) + b * matrix C rows j c
row_more C rows g j c b is =
    sum_more (λ i. bit i g * matrix C rows i c) 0 j
    ∙ ap (λ i. sum_over (λ i. bit i g * matrix C rows i c) (range_with_len 0 j) + bit i g * matrix C rows i c) (zero-add j)
    ∙ ap (λ d. sum_over (λ i. bit i g * matrix C rows i c) (range_with_len 0 j) + d * matrix C rows j c) is

pub row_chosen : {X : Type 0} {C : Coding X} (three : C.field ≡ f3) {rows : List X} {g j : ℕ} {v : Vector C.field} (t : Vector C.field) {x : X}
    → j < length rows → x ≡ get_or rows j x → bit j g ≡ 1 → ((k : ℕ) → t k ≡ C.field.add (v k) (C.meant x k))
    → SumsTo C rows g j v → SumsTo C rows g (j + 1) t
row_chosen {C = C} three {rows} {g} {j} {v} t {x} h e b is so_far = record {
  digits = λ c.
      ap value (is c) ∙ sum_value C.field three (v c) (C.meant x c)
      ∙ omega (arith, so_far.digits c, row_value C rows j x h e c, row_more C rows g j c 1 b);
}

pub row_left : {X : Type 0} {C : Coding X} {rows : List X} {g j : ℕ} {v : Vector C.field}
    → (bit j g ≡ 1 → ⊥) → SumsTo C rows g j v → SumsTo C rows g (j + 1) v
row_left {C = C} {rows} {g} {j} unchosen so_far = record {
  digits = λ c. so_far.digits c ∙ omega (arith, row_more C rows g j c 0 (omega (arith, unchosen)));
}

-- the step to a position, as the row that toggles there is told
pub step_to : {n position toggled : ℕ}
    → ((m i : ℕ) → position ≡ i + 1 → position < 2 ^ m → m ≤ 64 → (toggled < m) × Toggles toggled (gray_code i) (gray_code position))
    → n ≤ 60 → (0 < position) × (position < 2 ^ n) → (toggled < n) × Toggles toggled (gray_code (position - 1)) (gray_code position)
step_to {n} {position} told small inside = told n (position - 1) (omega arith) inside.1 (omega arith)

-- one row enters, or leaves
module _ {X : Type 0} (C : Coding X) (three : C.field ≡ f3) (rows : List X) {t g h : ℕ} (v u : Vector C.field) {x : X}
    (e : x ≡ get_or rows t x) (step : (t < length rows) × Toggles t g h) (before : Sums C rows (length rows) g v) where
  pub entered : bit t h ≡ 1 → ((k : ℕ) → u k ≡ C.field.add (v k) (C.meant x k)) → Sums C rows (length rows) h u
  entered b is c l =
      ap value (is c) ∙ sum_value C.field three (v c) (C.meant x c) ∙ ap₂ (λ p q. (p + q) % 3) (before c l) (row_value C rows t x step.0 e c)
      ∙ sym (enters (matrix C rows) (length rows) t g h c step.0 step.1 (omega (arith, step.1.flips, b)))

  pub left : (bit t h ≡ 1 → ⊥) → ((k : ℕ) → u k ≡ minus C.field (v k) (C.meant x k)) → Sums C rows (length rows) h u
  left b is c l =
      ap value (is c) ∙ difference_value C.field three (v c) (C.meant x c) ∙ ap₂ (λ p q. (p + 2 * q) % 3) (before c l) (row_value C rows t x step.0 e c)
      ∙ sym (leaves (matrix C rows) (length rows) t g h c step.0 step.1 (omega (arith, step.1.flips, b)))

-- a term from the product of the running sum, with its sign
module _ {X : Type 0} (C : Coding X) (three : C.field ≡ f3) (rows : List X) (n i : ℕ) (v : Vector C.field) {p : ℕ}
    (sums : Sums C rows n (gray_code i) v) (is : p ≡ value (product C.field n v)) where
  -- the product over the columns of the sums of the chosen rows
  abbrev whole : ℕ
  whole = product_over (chosen (matrix C rows) n (gray_code i)) (range_with_len 0 n)

  product_is : p ≡ whole % 3
  product_is = is ∙ product_value C.field three n v (chosen (matrix C rows) n (gray_code i)) sums

  pub odd_term : (n % 2 + i % 2) % 2 ≡ 1 → (2 * p) % 3 ≡ term (matrix C rows) n i % 3
  odd_term h =
      let odd : 2 ≡ sign (n + i) = omega (arith, h) in
      ap (λ x. (2 * x) % 3) product_is ∙ mul_mod_mod 2 whole 3 ∙ ap (λ s. (s * whole) % 3) odd

  pub even_term : ((n % 2 + i % 2) % 2 ≡ 1 → ⊥) → p ≡ term (matrix C rows) n i % 3
  even_term h =
      let even : 1 ≡ sign (n + i) = omega (arith, h) in
      product_is ∙ ap (λ x. x % 3) (sym (one-mul whole)) ∙ ap (λ s. (s * whole) % 3) even

-- one term more, modulo 3
pub total_more : (f : ℕ → ℕ) {start position total t : ℕ} → start ≤ position
    → total ≡ sum_over f (range_with_len start (position - start)) % 3 → t ≡ f position % 3
    → (total + t) % 3 ≡ sum_over f (range_with_len start (position + 1 - start)) % 3
total_more f {start} {position} h a b =
    let e : position + 1 - start ≡ (position - start) + 1 = omega arith in
    let p : start + (position - start) ≡ position = omega arith in
    let s : sum_over f (range_with_len start (position + 1 - start)) ≡ sum_over f (range_with_len start (position - start)) + f position =
    ap (λ k. sum_over f (range_with_len start k)) e ∙ sum_more f start (position - start) ∙ ap (λ k. sum_over f (range_with_len start (position - start)) + f k) p in
    omega (arith, a, b, s)

-- the positions of a share are some, end at or below the last of all, and fit a word
pub record ShareEnds (n k size : ℕ) : Type 0 where
  pub some : 0 < size
  pub most : k * size + size ≤ 2 ^ n
  pub fits : k * size + size < 2 ^ 64

pub share_ends : {n s k size : ℕ} → n ≤ 60 → (s ≤ n) × (k < 2 ^ s) → size ≡ 2 ^ (n - s) → ShareEnds n k size
share_ends {n} {s} {k} {size} small inside e =
    let w : s + (n - s) ≡ n = omega arith in
    let p : 2 ^ n ≡ 2 ^ s * 2 ^ (n - s) = ap (λ x. 2 ^ x) (sym w) ∙ pow-add 2 s (n - s) in
    let m : suc k * size ≤ 2 ^ s * size = mul-le-mul_right size inside.1 in
    let q : suc k * size ≡ k * size + size = suc-mul k size in
    let r : 2 ^ s * size ≡ 2 ^ s * 2 ^ (n - s) = ap (λ x. 2 ^ s * x) e in
    let t : 2 ^ n ≤ 2 ^ 60 = pow_mono small in
    record {
      some = subst (λ x. 0 < x) (sym e) (pow_pos (n - s));
      most = omega (arith, p, m, q, r);
      fits = omega (arith, p, m, q, r, t);
    }
