-- A tree has a root for each answer.
use Rattle.std.proofs.Common.{◌≡◌, ℕ, zero, suc, ◌+◌, ◌<◌, ◌≤◌, List, [], ◌∷◌, length, drop, reverse, get_or, Some, sym, ap, arith}
use Rattle.std.proofs.lemmas.List.{length-reverse}
use Rattle.bddl_model.specs.declared.certificate.Answered.{Answered}
use Rattle.bddl_model.specs.declared.certificate.NodeNo.{NodeNo}
use Rattle.bddl_model.specs.declared.certificate.Node.{Node}
use Rattle.bddl_model.specs.CertificateGraph.{answers, links}
use Rattle.bddl_model.specs.CertificateFaults.{trees_due}
use Rattle.cert_text.specs.Trees.{roots_behind, trees_from}

left_over : (all : List Answered) (roots : List NodeNo) → length all ≤ length roots → length all + length (roots_behind all roots) ≡ length roots
left_over [] roots enough = omega arith
left_over (a ∷ all) [] enough = absurd (omega arith)
left_over (a ∷ all) (root ∷ roots) enough = let later = left_over all roots (omega arith) in omega arith

pub roots_counted : (n due : ℕ) (nodes : List Node) → trees_due due (links nodes) ≡ Some 0 → length (trees_from n nodes).roots ≡ due
roots_counted n due [] owed = (let z : due ≡ 0 = cc in sym z)
roots_counted n zero (node ∷ nodes) owed = absurd cc
roots_counted n (suc due) (node ∷ nodes) owed =
    let later = roots_counted (suc n) (length (answers node) + due) nodes owed in
    let left = left_over (answers node) (trees_from (suc n) nodes).roots (omega arith) in
    omega arith

-- the nodes from one on
owed_behind : (n due : ℕ) (nodes : List Node) (d : Node) → n < length nodes → trees_due due (links nodes) ≡ Some 0 → (more : ℕ) × (trees_due (length (answers (get_or nodes n d)) + more) (links (drop (n + 1) nodes)) ≡ Some 0)
owed_behind n due [] d within owed = absurd (omega arith)
owed_behind n zero (node ∷ nodes) d within owed = absurd cc
owed_behind zero (suc due) (node ∷ nodes) d within owed = (due, owed)
owed_behind (suc n) (suc due) (node ∷ nodes) d within owed =
    let later = owed_behind n (length (answers node) + due) nodes d (omega arith) owed in
    let next : suc n + 1 ≡ suc (n + 1) = omega arith in
    (later.0, rw next later.1)

pub enough_roots : (n next : ℕ) (nodes : List Node) (node : Node) (roots : List NodeNo) → next ≡ n + 1 → n < length nodes → node ≡ get_or nodes n node → trees_due 1 (links nodes) ≡ Some 0
    → reverse roots ≡ (trees_from next (drop next nodes)).roots → length (answers node) ≤ length roots
enough_roots n next nodes node roots step within here owed is =
    let behind = owed_behind n 1 nodes node within owed in
    let count = roots_counted next (length (answers (get_or nodes n node)) + behind.0) (drop next nodes) (rw step behind.1) in
    let turned = length-reverse roots in
    let same : length (reverse roots) ≡ length (trees_from next (drop next nodes)).roots = ap length is in
    let all : length (answers node) ≡ length (answers (get_or nodes n node)) = ap (λ (x : Node). length (answers x)) here in
    omega arith
