use Rattle.bddl_model.specs.declared.formula.Quant.TheVariants.{Exists, All}
use Rattle.bddl_laws.proofs.FirstValues.{first_values}
use Rattle.bddl_laws.proofs.constraints.first_block_has_values.Goals as goal

pub returns-clause-existential : goal.returns-clause-existential
returns-clause-existential c = first_values Exists

pub returns-clause-universal : goal.returns-clause-universal
returns-clause-universal c = first_values All
