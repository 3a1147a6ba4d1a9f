-- A clause of a circuit as a list of literals.
use Rattle.std.specs.Prelude.{List, [], ◌∷◌}
use Rattle.bddl_model.specs.declared.formula.Lit.{Lit}
use Rattle.tseitin.specs.declared.numbered.GateClause.{GateClause}
use Rattle.tseitin.specs.declared.numbered.GateClause.TheVariants.{One, Two, Three}

abbrev pub literals_of : GateClause → List Lit
literals_of (One first) = first ∷ []
literals_of (Two first second) = first ∷ second ∷ []
literals_of (Three first second third) = first ∷ second ∷ third ∷ []
