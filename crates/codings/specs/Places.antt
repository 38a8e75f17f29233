-- What holds of every place, from what holds inside and outside of a word; and digits laid inside it.
use Rattle.std.specs.Prelude.{◌≡◌, ℕ, ◌%◌, ◌<◌, ◌≤◌, cond, nat_lt}
use Rattle.std.proofs.Common.{sym, ap, ap₂, ◌∙◌, inl, inr, mod-eq_of_lt}
use Rattle.std.proofs.lemmas.Bool.{lt-ltb, le-ltb, cases_lt, cond-true, cond-false}
use Rattle.algebra.specs.Field.{Digit, value, of}
use Rattle.algebra.specs.Modulo.{f3}
use Rattle.algebra.proofs.Digits.{of_nil}
use Rattle.algebra.proofs.Ternary.{of_mod}

pub everywhere : (w : ℕ) (P : ℕ → Type 0) → ((k : ℕ) → k < w → P k) → ((k : ℕ) → w ≤ k → P k) → (k : ℕ) → P k
everywhere w P inside outside k = elim (cases_lt k w) [ inl l ↦ inside k l | inr l ↦ outside k l ]

-- the digit f k at each place k below w, and 0 from w on
abbrev pub laid : ℕ → (ℕ → ℕ) → ℕ → Digit 3
laid w f k = of f3 (cond (nat_lt k w) (f k) 0)

module _ (w : ℕ) where
  pub laid_in : (f : ℕ → ℕ) (k : ℕ) → k < w → laid w f k ≡ of f3 (f k)
  laid_in f k h = ap (of f3) (cond-true (nat_lt k w) (f k) 0 (lt-ltb k w h))

  laid_none : (f : ℕ → ℕ) (k : ℕ) → w ≤ k → laid w f k ≡ of f3 0
  laid_none f k h = ap (of f3) (cond-false (nat_lt k w) (f k) 0 (le-ltb k w h))

  pub laid_out : (f : ℕ → ℕ) (k : ℕ) → w ≤ k → laid w f k ≡ f3.nil
  laid_out f k h = laid_none f k h ∙ of_nil f3

  -- what is laid is read back
  pub laid_value : (f : ℕ → ℕ) → ((k : ℕ) → f k < 3) → (k : ℕ) → k < w → value (laid w f k) ≡ f k
  laid_value f small k h = ap value (laid_in f k h) ∙ mod-eq_of_lt (small k)

  pub laid_nil : (f : ℕ → ℕ) → ((k : ℕ) → k < w → f k ≡ 0) → (k : ℕ) → laid w f k ≡ f3.nil
  laid_nil f e = everywhere w _ (λ k l. laid_in f k l ∙ ap (of f3) (e k l) ∙ of_nil f3) (laid_out f)

  pub laid_same : (f g : ℕ → ℕ) → ((k : ℕ) → k < w → f k ≡ g k) → (k : ℕ) → laid w f k ≡ laid w g k
  laid_same f g e = everywhere w _
      (λ k l. laid_in f k l ∙ ap (of f3) (e k l) ∙ sym (laid_in g k l))
      (λ k l. laid_none f k l ∙ sym (laid_none g k l))

  -- digits that an operation gives place by place, from their values modulo 3
  pub laid_by : (op : Digit 3 → Digit 3 → Digit 3) (o : ℕ → ℕ → ℕ) → ((a b : ℕ) → of f3 (o a b) ≡ op (of f3 a) (of f3 b)) → o 0 0 ≡ 0
      → (f g h : ℕ → ℕ) → ((k : ℕ) → k < w → h k ≡ o (f k) (g k) % 3) → (k : ℕ) → laid w h k ≡ op (laid w f k) (laid w g k)
  laid_by op o of_o zeros f g h e = everywhere w _
      (λ k l. laid_in h k l ∙ ap (of f3) (e k l) ∙ of_mod (o (f k) (g k)) ∙ of_o (f k) (g k) ∙ sym (ap₂ op (laid_in f k l) (laid_in g k l)))
      (λ k l. laid_none h k l ∙ sym (ap₂ op (laid_none f k l) (laid_none g k l) ∙ sym (of_o 0 0) ∙ ap (of f3) zeros))
