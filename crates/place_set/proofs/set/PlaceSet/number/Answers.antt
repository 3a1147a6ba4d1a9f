use Rattle.std.proofs.Common.{◌≡◌, ◌<◌, ◌≤◌, ◌++◌, ◌∷◌, [], ◌∙◌, subst, length, sym, ap, slice_get, List, Some}
use Rattle.bddl_model.specs.Certificate.{Place}
use Rattle.place_set.specs.Places.{place_at}
use Rattle.place_set.specs.Stored.{place_of, places_of}
use Rattle.place_set.specs.declared.set.StoredPlace.{StoredPlace}
use Rattle.place_set.proofs.Kept.{keys_apart, stored_place, met, next}
use Rattle.place_set.proofs.set.PlaceSet.number.Goals as goal

pub invariant_of-self-2 : goal.invariant_of-self-2
invariant_of-self-2 c = keys_apart c.insert_full.new.self.keys c.in_ok-number.ensures.unique

-- what is put: a copy of the board's marks
abbrev key : goal.In_ok-number → StoredPlace
key c = record { side = c.args.side; left = c.args.left; marks = c.in_ok-from_slice.field-0 }

key_is : (c : goal.In_ok-number) → place_of (key c) ≡ place_at c.args.side c.args.board.now c.args.left
key_is c = ap (λ m. record { side = c.args.side; board = m; left = c.args.left }) (c.in_ok-from_slice.ensures.items ∙ c.marks.ensures)

here : (c : goal.In_ok-number) → slice_get (places_of c.insert_full.new.self.keys) c.in_ok-number.number ≡ Some (place_of (key c))
here c =
    let stored = c.in_ok-number.ensures.stored in
    stored_place c.insert_full.new.self.keys c.in_ok-number.number (key c) stored.0 stored.1 stored.2

pub returns-clause-place : goal.returns-clause-place
returns-clause-place c = here c ∙ ap Some (key_is c)

pub returns-clause-met : goal.returns-clause-met
returns-clause-met c low =
    met c.self.inside.places.keys (key c) c.insert_full.new.self.keys c.in_ok-number.number c.in_ok-number.ensures.keys (here c) c.in_ok-number.ensures.within
    (subst (λ (l : List Place). c.in_ok-number.number < length l) (sym c.self.view_is) low) ∙ c.self.view_is

pub returns-clause-next : goal.returns-clause-next
returns-clause-next c high =
    next c.self.inside.places.keys (key c) c.insert_full.new.self.keys c.in_ok-number.number c.in_ok-number.ensures.keys (here c) c.in_ok-number.ensures.within
    (subst (λ (l : List Place). length l ≤ c.in_ok-number.number) (sym c.self.view_is) high)
    ∙ ap (λ l. l ++ place_of (key c) ∷ []) c.self.view_is ∙ ap (λ p. c.args.self.now ++ p ∷ []) (key_is c)
