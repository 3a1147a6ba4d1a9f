use Rattle.std.proofs.Common.{◌≡◌, map, take}
use Rattle.bddl_model.specs.Setup.{atom_of}
use Rattle.offset_check.proofs.terms.atoms_of.Given as goal

abbrev pub invariant-loop-atom : goal.invariant-loop-atom
invariant-loop-atom l = l.made.items ≡ map (atom_of l.width l.height) (take l.atom-index l.atoms)
