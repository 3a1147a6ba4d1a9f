use Rattle.bddl_model.proofs.FormulaReading.{reading_is_exact, fault_is_exact}
use Rattle.bddl_laws.proofs.texts.one_reading.Goals as goal

pub returns-clause-form : goal.returns-clause-form
returns-clause-form c = reading_is_exact

pub returns-clause-fault : goal.returns-clause-fault
returns-clause-fault c = fault_is_exact
