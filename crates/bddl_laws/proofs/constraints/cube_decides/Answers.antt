use Rattle.bddl_model.specs.Truth.{no_values, clauses_true}
use Rattle.bddl_laws.proofs.Deciding.{true_behind, whole_true, true_by_no_literals}
use Rattle.bddl_laws.proofs.constraints.cube_decides.Goals as goal

pub returns-clause-behind_kept : goal.returns-clause-behind_kept
returns-clause-behind_kept c = true_behind

pub returns-clause-whole : goal.returns-clause-whole
returns-clause-whole c = whole_true

pub returns-clause-without_literals : goal.returns-clause-without_literals
returns-clause-without_literals c = true_by_no_literals

pub returns-clause-of_form : goal.returns-clause-of_form
returns-clause-of_form c kept f learned within fine none = whole_true kept f.prefix (clauses_true f.clauses) learned no_values within fine none
