-- The position of a vector in the successor order, and that the order runs through all vectors, each once.
use Rattle.std.proofs.Common.{◌≡◌, ℕ, zero, suc, ◌+◌, ◌*◌, ◌/◌, ◌%◌, ◌^◌, ◌<◌, true, false, cond, eqb, ◌≢◌, sym, refl, ap, ◌∙◌, subst, suc-le-suc, zero-le, le_trans, le_refl, le_of_suc-le-suc, not-suc-le-zero, add-zero, le_of_lt, add-suc, zero-lt-suc, suc-mul, pow-suc, zero-mul, arith}
use mathlib.Core.Path.{fun_ext}
use native.Mathlib.Nat.{pow-zero}
use native.Mathlib.Decide.{ℕ_discrete}
use lib.Arith.{digits_lt, digits_div, digits_mod}
use Rattle.algebra.specs.Field.{Field, Digit, value, of}
use Rattle.algebra.specs.Modulo.{f3}
use Rattle.algebra.specs.Vector.{Vector, Long}
use Rattle.algebra.specs.Successor.{Next, Last, Walk}
use Rattle.algebra.proofs.Digits.{same_digit, neg_nil, neg_neg}

-- Every successor that raises the lowest digit negates all digits above it. So above a lowest digit 1 they stand
-- negated, and above 0 or 2 they stand as they were.
abbrev turned : (F : Field) → ℕ → Digit F.size → Digit F.size
turned F a x = cond (eqb a 1) (F.neg x) x

-- the digits above the lowest, turned back, where the lowest is a
abbrev above : (F : Field) → ℕ → Vector F → Vector F
above F a v k = turned F a (v (suc k))

-- How many successors modulo 3 lead from zero to v within n places: the digits above the lowest, turned back, move on
-- by one whenever the lowest has run through all its values.
unfoldable pub position : (F : Field) → ℕ → Vector F → ℕ
position F zero v = 0
position F (suc n) v = position F n (above F (value (v 0)) v) * F.size + value (v 0)

turned_nil : (F : Field) (a : ℕ) → turned F a F.nil ≡ F.nil
turned_nil F a = elim (eqb a 1) as (λ b. cond b (F.neg F.nil) F.nil ≡ F.nil) [ true ↦ neg_nil F | false ↦ refl ]

turned_twice : (F : Field) (a : ℕ) (x : Digit F.size) → turned F a (turned F a x) ≡ x
turned_twice F a x =
    elim (eqb a 1) as (λ b. cond b (F.neg (cond b (F.neg x) x)) (cond b (F.neg x) x) ≡ x) [ true ↦ neg_neg F x | false ↦ refl ]

-- what the position is where the lowest digit is known
lowest : (F : Field) (n : ℕ) (v : Vector F) (a : ℕ) → value (v 0) ≡ a
    → position F (suc n) v ≡ position F n (above F a v) * F.size + a
unfolding position
lowest F n v a e = ap (λ (a : ℕ). position F n (above F a v) * F.size + a) e

lowest_nil : (F : Field) (n : ℕ) (v : Vector F) → v 0 ≡ F.nil
    → position F (suc n) v ≡ position F n (λ k. v (suc k)) * F.size
lowest_nil F n v e = lowest F n v 0 (ap value e ∙ F.nil_value) ∙ add-zero _

pub position_zero : (F : Field) (n : ℕ) (v : Vector F) → ((k : ℕ) → v k ≡ F.nil) → position F n v ≡ 0
unfolding position
position_zero F zero v h = refl
position_zero F (suc n) v h =
    lowest_nil F n v (h 0)
    ∙ ap (λ (p : ℕ). p * F.size) (position_zero F n (λ k. v (suc k)) (λ k. h (suc k)))
    ∙ zero-mul F.size

pub position_below : (F : Field) (n : ℕ) (v : Vector F) → position F n v < F.size ^ n
unfolding position
position_below F zero v = omega (arith, pow-zero F.size)
position_below F (suc n) v = rw pow-suc (digits_lt (position_below F n (above F (value (v 0)) v)) (v 0).1)

size_three : (F : Field) → F ≡ f3 → F.size ≡ 3
size_three F three = ap (λ F. F.size) three

two_value : (F : Field) → F ≡ f3 → value (of F 2) ≡ 2
two_value F three = subst (λ F. value (of F 2) ≡ 2) (sym three) refl

-- past a lowest digit 2 the digits above it move on by one
lowest_two : (F : Field) → F ≡ f3 → (n : ℕ) (v : Vector F) → v 0 ≡ of F 2
    → suc (position F (suc n) v) ≡ suc (position F n (λ k. v (suc k))) * F.size
lowest_two F three n v e =
    let p : ℕ = position F n (λ k. v (suc k)) in
    omega (arith, lowest F n v 2 (ap value e ∙ two_value F three), size_three F three, suc-mul p F.size)

room_value : (F : Field) → F ≡ f3 → (a : Digit F.size) → a ≢ of F 2 → value a < 2
room_value F three a h =
    elim (ℕ_discrete (value a) 2) [
      | yes e ↦ absurd (h (same_digit _ _ (e ∙ sym (two_value F three))))
      | no k ↦ omega (arith, a.1, size_three F three)
    ]

raised_value : (F : Field) → F ≡ f3 → (a : Digit F.size) → value a < 2 → value (F.add a F.one) ≡ suc (value a)
raised_value F three =
    subst (λ F. (a : Digit F.size) → value a < 2 → value (F.add a F.one) ≡ suc (value a)) (sym three)
    (λ a h. omega arith)

-- where the lowest digit is cleared, the digits above it step by themselves
next_above : {F : Field} {n d : ℕ} {v w : Vector F} → Next F (suc n) v (suc d) w
    → Next F n (λ k. v (suc k)) d (λ k. w (suc k))
next_above x = record {
  within = le_of_suc-le-suc x.within;
  twos = λ k h. x.twos (suc k) (suc-le-suc h);
  room = x.room;
  cleared = λ k h. x.cleared (suc k) (suc-le-suc h);
  raised = x.raised;
  negated = λ k h. x.negated (suc k) (suc-le-suc h);
}

-- negating a digit while the lowest below it is raised leaves it, turned back, as it was
turned_raised : (F : Field) (a : ℕ) → a < 2 → (x : Digit F.size) → turned F (suc a) (F.neg x) ≡ turned F a x
turned_raised F zero h x = neg_neg F x
turned_raised F (suc zero) h x = refl
turned_raised F (suc (suc a)) h x = absurd (omega arith)

above_raised : (F : Field) {n : ℕ} {v w : Vector F} → Next F n v 0 w → value (v 0) < 2
    → (k : ℕ) → above F (suc (value (v 0))) w k ≡ above F (value (v 0)) v k
above_raised F {v = v} x h k =
    let a : ℕ = value (v 0) in
    ap (turned F (suc a)) (x.negated (suc k) (zero-lt-suc k)) ∙ turned_raised F a h (v (suc k))

-- the successor comes one later
pub position_next : (F : Field) → F ≡ f3 → {n d : ℕ} {v w : Vector F} → Next F n v d w → position F n w ≡ suc (position F n v)
unfolding position
position_next F three {n = zero} x = absurd (not-suc-le-zero x.within)
position_next F three {n = suc n} {d = zero} {v} {w} x =
    let a : ℕ = value (v 0) in
    let h : a < 2 = room_value F three (v 0) x.room in
    lowest F n w (suc a) (ap value x.raised ∙ raised_value F three (v 0) h)
    ∙ ap (λ (rest : Vector F). position F n rest * F.size + suc a) (fun_ext (above_raised F x h))
    ∙ add-suc _ a
position_next F three {n = suc n} {d = suc d} {v} {w} x =
    lowest_nil F n w (x.cleared 0 (zero-lt-suc d))
    ∙ ap (λ (p : ℕ). p * F.size) (position_next F three (next_above x))
    ∙ sym (lowest_two F three n v (x.twos 0 (zero-lt-suc d)))

pub position_last : (F : Field) → F ≡ f3 → (n : ℕ) (v : Vector F) → Last F n v → suc (position F n v) ≡ F.size ^ n
unfolding position
position_last F three zero v h = sym (pow-zero F.size)
position_last F three (suc n) v h =
    lowest_two F three n v (h 0 (zero-lt-suc n))
    ∙ ap (λ (p : ℕ). p * F.size) (position_last F three n (λ k. v (suc k)) (λ k l. h (suc k) (suc-le-suc l)))
    ∙ sym (pow-suc F.size n)

above_long : (F : Field) (n a : ℕ) (v : Vector F) → Long F (suc n) v → Long F n (above F a v)
above_long F n a v h k l = ap (turned F a) (h (suc k) (suc-le-suc l)) ∙ turned_nil F a

-- the position tells the lowest digit, as its remainder, and the position of the digits above, as its quotient
same_lowest : (F : Field) (n : ℕ) (u v : Vector F) → position F (suc n) u ≡ position F (suc n) v → value (v 0) ≡ value (u 0)
unfolding position
same_lowest F n u v e = sym (digits_mod _ (v 0).1) ∙ ap (λ (p : ℕ). p % F.size) (sym e) ∙ digits_mod _ (u 0).1

same_above : (F : Field) (n : ℕ) (u v : Vector F) → position F (suc n) u ≡ position F (suc n) v
    → position F n (above F (value (u 0)) u) ≡ position F n (above F (value (u 0)) v)
unfolding position
same_above F n u v e =
    sym (digits_div _ (u 0).1)
    ∙ ap (λ (p : ℕ). p / F.size) (e ∙ lowest F n v (value (u 0)) (same_lowest F n u v e))
    ∙ digits_div _ (u 0).1

-- no two vectors of length n have the same position
pub position_once : (F : Field) (n : ℕ) (u v : Vector F) → Long F n u → Long F n v
    → position F n u ≡ position F n v
    → (k : ℕ) → u k ≡ v k
unfolding position
position_once F zero u v long_u long_v e k = long_u k zero-le ∙ sym (long_v k zero-le)
position_once F (suc n) u v long_u long_v e zero = same_digit _ _ (sym (same_lowest F n u v e))
position_once F (suc n) u v long_u long_v e (suc k) =
    let a : ℕ = value (u 0) in
    let i = position_once F n (above F a u) (above F a v) (above_long F n a u long_u) (above_long F n a v long_v) (same_above F n u v e) in
    sym (turned_twice F a (u (suc k))) ∙ ap (turned F a) (i k) ∙ turned_twice F a (v (suc k))

pub long_next : (F : Field) {n d : ℕ} {v w : Vector F} → Long F n v → Next F n v d w → Long F n w
long_next F long x k h = x.negated k (le_trans x.within h) ∙ ap F.neg (long k h) ∙ neg_nil F

module _ (F : Field) (n count : ℕ) (row : ℕ → Vector F)
    (first : (k : ℕ) → row 0 k ≡ F.nil)
    (follows : (i : ℕ) → suc i < count → (d : ℕ) × Next F n (row i) d (row (suc i))) where
  row_long : (i : ℕ) → i < count → Long F n (row i)
  row_long zero h = λ k l. first k
  row_long (suc i) h = long_next F (row_long i (le_of_lt h)) (follows i h).1

  row_position : F ≡ f3 → (i : ℕ) → i < count → position F n (row i) ≡ i
  row_position three zero h = position_zero F n (row 0) first
  row_position three (suc i) h = position_next F three (follows i h).1 ∙ ap suc (row_position three i (le_of_lt h))

-- Rows from zero by successors to the last vector are at the positions 0, 1, .., so their number is the number of
-- positions, and a vector of length n is the row at its position.
pub walk_is : (F : Field) → F ≡ f3 → (n count : ℕ) (row : ℕ → Vector F) → 0 < count
    → ((k : ℕ) → row 0 k ≡ F.nil)
    → ((i : ℕ) → suc i < count → (d : ℕ) × Next F n (row i) d (row (suc i)))
    → ((i : ℕ) → suc i ≡ count → Last F n (row i))
    → Walk F n count row
walk_is F three n zero row h first follows last = absurd (not-suc-le-zero h)
walk_is F three n (suc m) row h first follows last =
    let long : (i : ℕ) → i < suc m → Long F n (row i) = row_long F n (suc m) row first follows in
    let at : (i : ℕ) → i < suc m → position F n (row i) ≡ i = row_position F n (suc m) row first follows three in
    let whole : suc m ≡ F.size ^ n = ap suc (sym (at m (le_refl (suc m)))) ∙ position_last F three n (row m) (last m refl) in
    let below : (v : Vector F) → position F n v < suc m = λ v. omega (arith, whole, position_below F n v) in
    record {
      whole = whole;
      first = first;
      follows = follows;
      last = last;
      long = long;
      each = λ v l.
          let p : ℕ = position F n v in
          (p, below v, position_once F n (row p) v (long p (below v)) l (at p (below v)));
      once = λ i j hi hj same. sym (at i hi) ∙ ap (position F n) (fun_ext same) ∙ at j hj;
    }
