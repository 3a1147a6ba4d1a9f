-- The nodes that a text in order says, with their numbers: a tree in preorder.
use Rattle.std.proofs.Common.{◌≡◌, ℕ, zero, suc, ◌+◌, ◌<◌, ◌≤◌, ◌^◌, true, nat_eq, List, [], ◌∷◌, ◌++◌, length, map, Some, refl, sym, ap, ap₂, ◌∙◌, arith, eq-eqb}
use Rattle.std.specs.Prelude.{All, flat_map}
use Rattle.std.specs.Fmt.{decimal}
use Rattle.std.proofs.lemmas.Bool.{and_from}
use Rattle.std.proofs.lemmas.List.Elements.{All-nil, All-cons, All-head, All-tail}
use Rattle.bddl_model.specs.declared.certificate.Answered.{Answered}
use Rattle.bddl_model.specs.declared.certificate.NodeNo.{NodeNo}
use Rattle.bddl_model.specs.declared.certificate.Node.{Node}
use Rattle.bddl_model.specs.declared.certificate.Node.TheVariants.{Goal, Black, White}
use Rattle.bddl_model.specs.FormulaText.{line_text}
use Rattle.bddl_model.specs.CertificateGraph.{answers, links, preorder_from, preorder}
use Rattle.bddl_model.specs.CertificateText.{ordered, move_words, answer_words, node_text, nodes_text, IsShort, IsShortNode}
use Rattle.bddl_model.specs.CertificateFaults.{trees_due}
use Rattle.cert_text.proofs.Trees.{roots_counted}
use Rattle.cert_text.specs.Trees.{Trees, with_roots, roots_behind, node_with_roots, trees_from}

abbrev pub IsLow : NodeNo → Type 0
IsLow root = root.0 < 2 ^ 64

abbrev nexts : List Answered → List ℕ
nexts all = map (λ a. a.next.0) all

abbrev pub numbers : List NodeNo → List ℕ
numbers roots = map (λ r. r.0) roots

-- ---- the answers of a node

-- all answers have a root
record Filled (all filled : List Answered) (given over : List NodeNo) : Type 0 where
  pub same : length filled ≡ length all
  pub words : flat_map (answer_words ordered) filled ≡ flat_map (answer_words ordered) all
  pub short : All IsShort filled
  pub roots : nexts filled ++ numbers over ≡ numbers given
  pub low : All IsLow over

all_filled : (all : List Answered) (roots : List NodeNo) → All IsShort all → All IsLow roots → length all ≤ length roots → Filled all (with_roots all roots) roots (roots_behind all roots)
all_filled [] roots short low enough = record { same = refl; words = refl; short = All-nil IsShort; roots = refl; low = low }
all_filled (a ∷ all) [] short low enough = absurd (omega arith)
all_filled (a ∷ all) (root ∷ roots) short low enough =
    let later = all_filled all roots (All-tail IsShort a all short) (All-tail IsLow root roots low) (omega arith) in
    let first = All-head IsShort a all short in
    record {
      same = ap suc later.same;
      words = ap (λ l. move_words a.mv ++ l) later.words;
      short = All-cons IsShort (record { mv = a.mv; next = root }) (with_roots all roots) (record { action = first.action; x = first.x; y = first.y; next = All-head IsLow root roots low }) later.short;
      roots = ap (λ (l : List ℕ). root.0 ∷ l) later.roots;
      low = later.low;
    }

record FilledNode (node filled : Node) (given over : List NodeNo) : Type 0 where
  pub text : node_text ordered filled ≡ node_text ordered node
  pub short : IsShortNode filled
  pub roots : nexts (answers filled) ++ numbers over ≡ numbers given
  pub low : All IsLow over

node_filled : (node : Node) (roots : List NodeNo) → IsShortNode node → All IsLow roots → length (answers node) ≤ length roots → FilledNode node (node_with_roots node roots) roots (roots_behind (answers node) roots)
node_filled Goal roots short low enough = record { text = refl; short = short; roots = refl; low = low }
node_filled (Black mv next) [] short low enough = absurd (omega arith)
node_filled (Black mv next) (root ∷ roots) short low enough =
    let f = all_filled (record { mv = mv; next = next } ∷ []) (root ∷ roots) short.short low enough in
    record { text = refl; short = record { few = short.few; short = f.short }; roots = f.roots; low = f.low }
node_filled (White replies) roots short low enough =
    let f = all_filled replies roots short.short low enough in
    let same = f.same in
    let few = short.few in
    record {
      text = ap₂ (λ (n : ℕ) (ws : List (List ℕ)). line_text ((119 ∷ []) ∷ decimal n ∷ ws)) f.same f.words;
      short = record { few = omega arith; short = f.short };
      roots = f.roots;
      low = f.low;
    }

-- ---- the nodes of trees

pub record AreTrees (n : ℕ) (raw : List Node) (t : Trees) : Type 0 where
  pub order : preorder_from n (numbers t.roots) (links t.nodes) ≡ true
  pub text : nodes_text ordered t.nodes ≡ nodes_text ordered raw
  pub short : All IsShortNode t.nodes
  pub low : All IsLow t.roots
  pub same : length t.nodes ≡ length raw

pub are_trees : (n due : ℕ) (raw : List Node) → trees_due due (links raw) ≡ Some 0 → n + length raw ≤ 2 ^ 64 → All IsShortNode raw → AreTrees n raw (trees_from n raw)
are_trees n due [] owed fits short = record { order = refl; text = refl; short = All-nil IsShortNode; low = All-nil IsLow; same = refl }
are_trees n zero (node ∷ raw) owed fits short = absurd cc
are_trees n (suc due) (node ∷ raw) owed fits short =
    let later = are_trees (suc n) (length (answers node) + due) raw owed (omega arith) (All-tail IsShortNode node raw short) in
    let count = roots_counted (suc n) (length (answers node) + due) raw owed in
    let f = node_filled node (trees_from (suc n) raw).roots (All-head IsShortNode node raw short) later.low (omega arith) in
    record {
      order = and_from (nat_eq n n) _ (eq-eqb n n refl) (ap (λ (ds : List ℕ). preorder_from (suc n) ds (links (trees_from (suc n) raw).nodes)) f.roots ∙ later.order);
      text = ap₂ (λ (a b : List ℕ). a ++ b) f.text later.text;
      short = All-cons IsShortNode (node_with_roots node (trees_from (suc n) raw).roots) (trees_from (suc n) raw).nodes f.short later.short;
      low = All-cons IsLow (record { 0 = n }) (roots_behind (answers node) (trees_from (suc n) raw).roots) (omega arith) f.low;
      same = ap suc later.same;
    }

no_roots : (roots : List NodeNo) → length roots ≡ 0 → numbers roots ≡ []
no_roots [] h = refl
no_roots (r ∷ roots) h = absurd (omega arith)

-- they are one tree
pub in_preorder : (raw : List Node) → trees_due 1 (links raw) ≡ Some 0 → length raw ≤ 2 ^ 64 → All IsShortNode raw → preorder (links (trees_from 0 raw).nodes) ≡ true
unfolding preorder
in_preorder [] owed fits short = absurd cc
in_preorder (node ∷ raw) owed fits short =
    let t = are_trees 0 1 (node ∷ raw) owed (omega arith) short in
    let one = roots_counted 0 1 (node ∷ raw) owed in
    let none = no_roots (roots_behind (answers node) (trees_from 1 raw).roots) (omega arith) in
    ap (λ (ds : List ℕ). preorder_from 0 (0 ∷ ds) (links (trees_from 0 (node ∷ raw)).nodes)) (sym none) ∙ t.order
