use Rattle.std.proofs.Common.{◌≡◌, ◌*◌, nat_lt, if◌then◌else◌, take, length}
use Rattle.std.specs.List.{sum_by}
use Rattle.bddl_model.specs.Truth.{Assignment}
use Rattle.bddl_model.specs.Game.{actions}
use Rattle.bddl_model.specs.Growth.{Grows}
use Rattle.bddl_model.specs.OneCell.{stepped}
use Rattle.bddl_model.specs.Words.{word_value}
use Rattle.symbol_cell.specs.Pairs.{IsPair, mark_of}
use Rattle.symbol_cell.specs.Steps.{anchor_of, place_of, move_at, unit, parts}
use Rattle.symbol_cell.proofs.step.put_actions.Given as goal

-- the mark after the named action, if it is one of those so far
abbrev pub invariant-actions : goal.invariant-actions
invariant-actions l = record {
  pair : IsPair l.dag l.pair;
  grows : Grows (unit (length l.cells.place.now) * sum_by parts (take l.number (actions l.game l.side))) l.fn.dag l.dag;
  shown : (a : Assignment) → mark_of l.dag l.pair a
      ≡ (if nat_lt (word_value l.fn.dag l.action a) l.number then stepped l.game l.side (move_at (word_value l.fn.dag l.action a) (anchor_of l.fn.dag l.cells a)) (place_of l.fn.dag l.cells a) (mark_of l.fn.dag l.fn.before a) else mark_of l.fn.dag l.fn.before a);
}
