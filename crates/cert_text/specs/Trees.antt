-- The numbers of next nodes, as the order of the nodes tells them.
use Rattle.std.specs.Prelude.{ℕ, suc, List, [], ◌∷◌}
use Rattle.bddl_model.specs.declared.certificate.Answered.{Answered}
use Rattle.bddl_model.specs.declared.certificate.NodeNo.{NodeNo}
use Rattle.bddl_model.specs.declared.certificate.Node.{Node}
use Rattle.bddl_model.specs.declared.certificate.Node.TheVariants.{Goal, Black, White}
use Rattle.bddl_model.specs.CertificateGraph.{answers}

abbrev pub leading_to : Answered → NodeNo → Answered
leading_to a root = record { mv = a.mv; next = root }

-- the answers, each with the root of the next one of these trees
abbrev pub with_roots : List Answered → List NodeNo → List Answered
with_roots [] roots = []
with_roots (a ∷ all) [] = a ∷ with_roots all []
with_roots (a ∷ all) (root ∷ roots) = leading_to a root ∷ with_roots all roots

-- the roots that are left
abbrev pub roots_behind : List Answered → List NodeNo → List NodeNo
roots_behind [] roots = roots
roots_behind (a ∷ all) [] = []
roots_behind (a ∷ all) (root ∷ roots) = roots_behind all roots

abbrev pub node_with_roots : Node → List NodeNo → Node
node_with_roots Goal roots = Goal
node_with_roots (Black mv next) [] = Black mv next
node_with_roots (Black mv next) (root ∷ roots) = Black mv root
node_with_roots (White replies) roots = White (with_roots replies roots)

-- nodes and the roots of the trees that they are
pub record Trees : Type 0 where
  pub nodes : List Node
  pub roots : List NodeNo

abbrev pub onto_trees : ℕ → Node → Trees → Trees
onto_trees n node t = record {
  nodes = node_with_roots node t.roots ∷ t.nodes;
  roots = record { 0 = n } ∷ roots_behind (answers node) t.roots;
}

-- the nodes from number n on
abbrev pub trees_from : ℕ → List Node → Trees
trees_from n [] = record { nodes = []; roots = [] }
trees_from n (node ∷ rest) = onto_trees n node (trees_from (suc n) rest)
