-- What is known of an answer by cases, carried over to another claim on it.
use Rattle.std.proofs.Common.{Ok, Err, Result, MatchResult}

pub either_way : {T E : Type 0} {P P' : T → Type 0} {Q Q' : E → Type 0} (r : Result T E)
    → ((x : T) → P x → P' x) → ((e : E) → Q e → Q' e) → MatchResult r P Q → MatchResult r P' Q'
either_way (Ok x) f g h = f x h
either_way (Err e) f g h = g e h
