use Rattle.std.proofs.Common.{◌<◌, length}
use Rattle.cert_checker.specs.Places.{place_in}
use Rattle.cert_checker.proofs.Standing.{LeadOn}
use Rattle.cert_checker.proofs.places.moves_to.Given as goal

-- the moves that are written lead on from the node that was reached
abbrev pub invariant-namings : goal.invariant-namings
invariant-namings l = record {
  inside : l.at < length l.table;
  lead : LeadOn l.setup l.table l.at (place_in l.setup l.table l.node) l.begin l.moves;
}

abbrev pub decreases-namings : goal.decreases-namings
decreases-namings l = l.at
