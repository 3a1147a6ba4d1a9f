use Rattle.std.proofs.Common.{◌≡◌, ◌+◌, map, take, drop}
use Rattle.bddl_model.specs.Check.{first_of, each_line}
use Rattle.bddl_model.specs.Setup.{tests_of}
use Rattle.offset_check.specs.Checks.{with_lines}
use Rattle.offset_check.proofs.lines.add_lines.Given as goal

abbrev pub invariant-loop-i : goal.invariant-loop-i
invariant-loop-i l =
    let g = l.fn.game in
    record {
      passed : first_of (each_line g.width g.height l.side (l.i + 1) (drop l.i l.lines)) ≡ first_of (each_line g.width g.height l.side 1 l.lines);
      added : l.game ≡ with_lines g l.side (map (tests_of g.width g.height) (take l.i l.lines));
    }
