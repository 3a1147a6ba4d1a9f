use Rattle.std.proofs.Common.{◌≡◌, ◌+◌, drop}
use Rattle.bddl_model.specs.Bytes.{is_name_byte}
use Rattle.bddl_model.specs.Tokens.{run_len}
use Rattle.bddl_lexer.proofs.bytes.name_run.Given as goal

abbrev pub invariant-loop-i : goal.invariant-loop-i
invariant-loop-i l = l.i + run_len is_name_byte (drop l.i l.bytes) ≡ run_len is_name_byte l.bytes
