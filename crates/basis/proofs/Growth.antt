-- Rows in normal form before and after one vector more, by what code left of it and where it put that.
use Rattle.std.proofs.Common.{◌≡◌, ℕ, ◌+◌, ◌<◌, ◌≤◌, List, ◌∷◌, ◌++◌, map, length, get_or, take, drop, Ok, ◌∙◌, subst, arith, length-append}
use Rattle.std.specs.List.{insert, All}
use Rattle.std.proofs.lemmas.List.{get_or-take, length-take-le, take_at}
use Rattle.std.proofs.lemmas.List.Elements.{All-same, All-append, All-take, All-cons, All-drop}
use Rattle.algebra.specs.Vector.{Vector, Long, Leads}
use Rattle.algebra.specs.Space.{times, less, Comb}
use Rattle.algebra.specs.NormalForm.{reduced}
use Rattle.algebra.proofs.Insertion.{scaled}
use Rattle.algebra.proofs.Steps.{known, known_holds, unknown, room, grown_holds}
use Rattle.coding.specs.declared.vectors.Coding.{Ghosts as Coding}
use Rattle.basis.specs.Form.{Form, lead_of, meant_rows}
use Rattle.basis.specs.Inserted.{After}
use Rattle.basis.specs.declared.taken.Taken.TheVariants.{Known, Grown}

module _ {X : Type 0} (C : Coding X) (n rank : ℕ) (rows : List X) (vs : List (Vector C.field)) (v u : Vector C.field)
    (long : Long C.field n v) (form : Form C n rank rows vs) (left : u ≡ reduced C.field (meant_rows C (take rank rows)) v) where
  open C.field use {nil}

  pub known_after : ((k : ℕ) → u k ≡ nil) → After C n rank rows vs v (Ok Known)
  known_after z = (
    known C.field C.width C.meant n form.fits (take rank rows) vs form.normal v u left z,
    record { fits = form.fits; room = form.room; normal = known_holds C.field C.width C.meant n form.fits (take rank rows) vs form.normal v u left z; stored = form.stored },
  )

  size : length (take rank rows) ≡ rank
  size = length-take-le rank rows form.room

  module _ (p d : ℕ) (lead : Leads C.field u p d) where
    new : Comb C.field vs v → ⊥
    new = unknown C.field C.width C.meant n form.fits (take rank rows) vs form.normal v u left p (lead.some, lead.below)

    below : rank < n
    below = omega (arith, room C.field C.width C.meant n form.fits (take rank rows) vs form.normal v u left p (lead.some, lead.below) long, size)

    pub no_room_after : (Comb C.field vs v → ⊥) × (rank < n)
    no_room_after = (new, below)

    -- s is what is left, scaled; fs are the first rows with its lead cleared; ws are those with s put in among them
    pub grown_after : (at : ℕ) (s : X) (fs ws rest : List X) → C.meant s ≡ (scaled C.field u p).at → C.canonical s → at ≤ length (take rank rows) →
        ((i : ℕ) (d : X) → i < at → lead_of C (get_or (take rank rows) i d) < p) → ((d : X) → at < length (take rank rows) → p ≤ lead_of C (get_or (take rank rows) at d)) →
        map C.meant fs ≡ map (λ x. less C.field (C.meant x) (times C.field (C.meant x p) (C.meant s))) (take rank rows) → All C.canonical fs →
        ws ≡ insert fs at s → length ws ≡ rank + 1 →
        After C n rank (ws ++ rest) vs v (Ok Grown)
    grown_after at s fs ws rest is own most before after cleared kept put len = (
      new,
      below,
      record {
        fits = form.fits;
        room = omega (arith, len, length-append ws rest);
        normal = grown_holds C.field C.width C.meant n form.fits (take rank rows) vs form.normal v u left p (lead.some, lead.below) long at s fs (take (rank + 1) (ws ++ rest)) is cleared most before after front;
        stored = λ i d _ high. subst C.canonical (get_or-take (rank + 1) (ws ++ rest) i d high)
            (All-same C.canonical (take (rank + 1) (ws ++ rest)) (insert fs at s) front every i d (omega (arith, high, len, length-take-le (rank + 1) (ws ++ rest) (omega (arith, len, length-append ws rest)))));
      },
    )
      where
        front : take (rank + 1) (ws ++ rest) ≡ insert fs at s
        front = take_at ws rest (rank + 1) len ∙ put

        every : All C.canonical (insert fs at s)
        every = All-append C.canonical (take at fs) (s ∷ drop at fs) (All-take C.canonical at fs kept) (All-cons C.canonical s (drop at fs) own (All-drop C.canonical at fs kept))
