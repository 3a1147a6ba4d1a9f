use Rattle.std.proofs.Common.{◌≡◌, ◌∙◌, List, Some, length, slice_get, option_map, sym, ap, subst}
use Rattle.std.proofs.lemmas.Option.{slice_get-map}
use Rattle.bddl_model.specs.Board.{SizedBoard}
use Rattle.bddl_model.specs.Certificate.{Place}
use Rattle.place_set.specs.Stored.{place_of}
use Rattle.place_set.proofs.set.PlaceSet.go_to.Goals as goal

-- the key of the number, as the place of the number
there : (c : goal.After-deref) → slice_get c.args.self.now c.args.number ≡ Some (place_of c.in-Some.place.now)
there c =
    subst (λ (l : List Place). slice_get l c.args.number ≡ Some (place_of c.in-Some.place.now)) c.self.view_is
    (slice_get-map place_of c.self.inside.places.keys c.args.number ∙ ap (option_map place_of) (sym c.in-Some.ensures.key))

pub set_marks-requires : goal.set_marks-requires
set_marks-requires c = ap length c.deref.ensures.value ∙ c.requires.size (place_of c.in-Some.place.now) (there c)

pub returns-clause-place : goal.returns-clause-place
returns-clause-place c =
    there c.before.before
    ∙ ap (λ m. Some (record { side = c.in-Some.place.now.side; board = m; left = c.in-Some.place.now.left })) (sym (ap (λ (b : SizedBoard). b.marks) c.set_marks.ensures ∙ c.deref.ensures.value))
