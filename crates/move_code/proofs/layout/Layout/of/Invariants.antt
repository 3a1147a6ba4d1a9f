use Rattle.std.proofs.Common.{◌≡◌, ◌≤◌, ◌+◌, ◌*◌, ◌-◌, ◌++◌}
use Rattle.bddl_model.specs.Layout as spec
use Rattle.move_code.proofs.layout.Layout.of.Given as goal

abbrev pub invariant-loop-number : goal.invariant-loop-number
invariant-loop-number l = record {
  plies : l.plies.items ++ spec.plies_at l.sizes (l.fn.depth - l.number) l.side l.next ≡ spec.plies_at l.sizes l.fn.depth l.fn.first 1;
  next : spec.plies_end l.sizes (l.fn.depth - l.number) l.side l.next ≡ spec.plies_end l.sizes l.fn.depth l.fn.first 1;
  low : 1 ≤ l.next;
  high : l.next ≤ 1 + 192 * l.number;
}
