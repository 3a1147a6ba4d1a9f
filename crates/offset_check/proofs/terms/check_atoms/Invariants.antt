use Rattle.std.proofs.Common.{◌≡◌, drop}
use Rattle.bddl_model.specs.Check.{atoms_fault}
use Rattle.offset_check.proofs.terms.check_atoms.Given as goal

abbrev pub invariant-loop-atom : goal.invariant-loop-atom
invariant-loop-atom l = atoms_fault l.item l.width l.height (drop l.atom-index l.atoms) ≡ atoms_fault l.item l.width l.height l.atoms
