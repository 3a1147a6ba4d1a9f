use Rattle.std.proofs.Common.{subst, sym}
use Rattle.bddl_model.specs.Tokens.{AreTokens}
use Rattle.bddl_reader.proofs.Lines.{exact_problem}
use Rattle.bddl_reader.proofs.Answered.{read_found, stop_within, stop_fails}
use Rattle.bddl_reader.proofs.reading.problem_of.Goals as goal

pub returns-in-Ok-clause-found : goal.returns-in-Ok-clause-found
returns-in-Ok-clause-found c =
    let placed = subst (AreTokens c.args.bytes.now) (sym c.as_slice-tokens.ensures.value) c.in_ok-tokens.ensures.found in
    read_found exact_problem c.args.bytes.now c.as_slice-tokens.result.now c.in-Ok.tree placed c.in-Ok.ensures

pub stop_fault-requires-clause-within : goal.stop_fault-requires-clause-within
stop_fault-requires-clause-within c = stop_within exact_problem c.args.bytes.now c.as_slice-tokens.result.now c.in-Err.stop c.in-Err.ensures

pub returns-clause-fault : goal.returns-clause-fault
returns-clause-fault c =
    let placed = subst (AreTokens c.args.bytes.now) (sym c.as_slice-tokens.ensures.value) c.in_ok-tokens.ensures.found in
    rw c.stop_fault.ensures (stop_fails exact_problem c.args.bytes.now c.as_slice-tokens.result.now c.in-Err.stop placed c.in-Err.ensures)
