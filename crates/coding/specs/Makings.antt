-- What the calls on a thing answer whose making may have been refused.
use Rattle.std.specs.Prelude.{◌≡◌, Err, Result, MatchResult}
use Rattle.coding.specs.declared.refusals.Refusal.{Refusal}

-- on a void thing the refusal of its making, and otherwise what is said of the answer and of the refusal
abbrev pub Unless : {A : Type 0} → Result (Unit {0}) Refusal → Result A Refusal → (A → Type 0) → (Refusal → Type 0) → Type 0
Unless making r P Q = MatchResult making (λ _. MatchResult r P Q) (λ e. r ≡ Err e)
