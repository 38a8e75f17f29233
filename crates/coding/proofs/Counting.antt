-- One row more is counted at its weight.
use Rattle.std.proofs.Common.{◌≡◌, ℕ, ◌+◌, ◌<◌, ◌≤◌, Bool, true, false, cond, eqb, List, length, get_or, take, set, count_by, sym, ap, ◌∙◌, inl, inr, arith}
use Rattle.std.proofs.lemmas.List.{get_or-set_same, get_or-set_other}
use Rattle.std.proofs.lemmas.List.Sums.{count_by_more_yes, count_by_more_no}
use Rattle.std.proofs.lemmas.Bool.{cases_eq, eq-eqb, ne_eqb}
use Rattle.algebra.specs.Field.{Field}
use Rattle.algebra.specs.Vector.{Vector, differing, weight}
use Rattle.algebra.proofs.Joined.{total_most}

one_at_most : (b : Bool) → cond b 0 1 ≤ 1
one_at_most true = omega arith
one_at_most false = omega arith

pub weight_most : (F : Field) (n : ℕ) (v : Vector F) → weight F n v ≤ n
weight_most F n v = total_most n (λ k. differing (v k) F.nil) (λ k. one_at_most _)

module _ {X : Type 0} (p : X → ℕ) (rows : List X) (i : ℕ) (x : X) (within : i < length rows) (is : x ≡ get_or rows i x) where
  -- how one more row changes the number of rows of a weight
  at_its_weight : (j : ℕ) → j ≡ p x → count_by (λ y. eqb (p y) j) (take (i + 1) rows) ≡ count_by (λ y. eqb (p y) j) (take i rows) + 1
  at_its_weight j e = count_by_more_yes (λ y. eqb (p y) j) rows i x within (eq-eqb (p (get_or rows i x)) j (sym (e ∙ ap p is)))

  elsewhere : (j : ℕ) → (j ≡ p x → ⊥) → count_by (λ y. eqb (p y) j) (take (i + 1) rows) ≡ count_by (λ y. eqb (p y) j) (take i rows)
  elsewhere j n = count_by_more_no (λ y. eqb (p y) j) rows i x within (ne_eqb (p (get_or rows i x)) j (λ e. n (sym (ap p is ∙ e))))

  pub count_more : (most : ℕ) (counts : List ℕ) → most < length counts → p x ≤ most
      → ((j : ℕ) → j ≤ most → get_or counts j 0 ≡ count_by (λ y. eqb (p y) j) (take i rows))
      → (j : ℕ) → j ≤ most → get_or (set counts (p x) (get_or counts (p x) 0 + 1)) j 0 ≡ count_by (λ y. eqb (p y) j) (take (i + 1) rows)
  count_more most counts room low counted j h = elim (cases_eq j (p x)) [
    | inl e ↦
        let l : p x < length counts = omega arith in
        ap (λ k. get_or (set counts (p x) (get_or counts (p x) 0 + 1)) k 0) e
        ∙ get_or-set_same counts (p x) (get_or counts (p x) 0 + 1) 0 l
        ∙ ap (λ k. get_or counts k 0 + 1) (sym e)
        ∙ ap (λ c. c + 1) (counted j h)
        ∙ sym (at_its_weight j e)
    | inr n ↦
        get_or-set_other counts (p x) j (get_or counts (p x) 0 + 1) 0 n ∙ counted j h ∙ sym (elsewhere j n)
  ]
