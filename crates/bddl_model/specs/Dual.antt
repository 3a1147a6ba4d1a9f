-- The dual: each quantifier and each literal turned into its other.
use Rattle.std.specs.Prelude.{List, map}
use Rattle.bddl_model.specs.declared.formula.Quant.{Quant}
use Rattle.bddl_model.specs.declared.formula.Quant.TheVariants.{Exists, All}
use Rattle.bddl_model.specs.declared.formula.Bound.{Bound}
use Rattle.bddl_model.specs.declared.formula.Lit.{Lit}
use Rattle.bddl_model.specs.Truth.{negation}

abbrev pub other : Quant → Quant
other Exists = All
other All = Exists

abbrev pub dual : Bound → Bound
dual b = record b { quant = other b.quant }

abbrev pub dual_prefix : List Bound → List Bound
dual_prefix p = map dual p

abbrev pub negated_literals : List Lit → List Lit
negated_literals c = map negation c
