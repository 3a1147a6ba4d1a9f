use Rattle.std.proofs.Common.{◌≡◌, ◌+◌, drop, false}
use Rattle.bddl_lexer.specs.Gaps.{gap_len}
use Rattle.bddl_lexer.proofs.bytes.gap.Given as goal

abbrev pub invariant-loop-i : goal.invariant-loop-i
invariant-loop-i l = l.i + gap_len l.commenting (drop l.i l.bytes) ≡ gap_len false l.bytes
