-- What a set keeps, as places.
use Rattle.std.specs.Prelude.{List, map}
use Rattle.bddl_model.specs.Certificate.{Place}
use Rattle.place_set.specs.declared.set.StoredPlace.{StoredPlace}

abbrev pub place_of : StoredPlace → Place
place_of p = record { side = p.side; board = p.marks.items; left = p.left }

abbrev pub places_of : List StoredPlace → List Place
places_of keys = map place_of keys
