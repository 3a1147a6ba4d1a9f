use Rattle.std.proofs.Common.{◌≡◌}
use Rattle.bddl_model.specs.Reading.{place_at}
use Rattle.bddl_lexer.proofs.places.place_of.Given as goal

abbrev pub invariant-loop-b : goal.invariant-loop-b
invariant-loop-b l = record { line : l.line ≡ (place_at l.b-items l.b-index).line; column : l.column ≡ (place_at l.b-items l.b-index).column }
