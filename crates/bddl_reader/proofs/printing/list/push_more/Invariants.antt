use Rattle.std.proofs.Common.{◌≡◌, ◌++◌, drop}
use Rattle.std.specs.Prelude.{flat_map, codes}
use Rattle.bddl_reader.proofs.printing.list.push_more.Given as goal

abbrev pub invariant-loop-item : goal.invariant-loop-item
invariant-loop-item g l = l.text.items ++ flat_map (λ item. codes " " ++ g.P.Printed.text_of item) (drop l.item-index l.items) ≡ l.fn.text.items ++ flat_map (λ item. codes " " ++ g.P.Printed.text_of item) l.items
