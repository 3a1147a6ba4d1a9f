use Rattle.std.proofs.Common.{◌≡◌, ◌*◌, ◌&&◌, drop, take}
use Rattle.std.specs.List.{sum_by}
use Rattle.bddl_model.specs.Truth.{Assignment}
use Rattle.bddl_model.specs.Circuit.{IsWire, holds}
use Rattle.bddl_model.specs.Growth.{Grows}
use Rattle.bddl_model.specs.Layout.{anchor_bits}
use Rattle.bddl_model.specs.Words.{word_value}
use Rattle.symbol_cell.specs.Runs.{place_named}
use Rattle.symbol_cell.specs.Steps.{unit}
use Rattle.lifted_encode.specs.Telling.{marks_of, plies_pass, own_parts}
use Rattle.lifted_encode.proofs.plies.plies_pass.Given as goal

abbrev pub invariant-plies : goal.invariant-plies
invariant-plies l = record {
  wire : IsWire l.dag l.all;
  grows : Grows (unit (anchor_bits l.game) * sum_by (own_parts l.game) (take l.number l.plies)) l.fn.dag l.dag;
  value : (a : Assignment) → (holds l.dag l.all a && plies_pass l.game a (word_value l.fn.dag l.time a) (place_named l.game l.fn.dag a l.run.place) (marks_of l.fn.dag l.run a) l.number (drop l.number l.plies))
      ≡ plies_pass l.game a (word_value l.fn.dag l.time a) (place_named l.game l.fn.dag a l.run.place) (marks_of l.fn.dag l.run a) 0 l.plies;
}
