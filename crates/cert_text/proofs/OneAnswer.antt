-- A text of a certificate has that answer, and a text with a fault has that fault.
use Rattle.std.proofs.Common.{◌≡◌, ◌≢◌, ℕ, zero, suc, ◌+◌, ◌-◌, ◌<◌, ◌≤◌, ◌^◌, true, false, ◌&&◌, nat_eq, nat_lt, if◌then◌else◌, List, [], ◌∷◌, ◌++◌, length, map, None, Some, Result, Ok, Err, refl, sym, ap, ap₂, ◌∙◌, arith, inl, inr, ◌⊎◌, append-nil, eq-eqb}
use Rattle.std.specs.Prelude.{All, IfOk, IfErr}
use Rattle.std.specs.List.{list_all, range_with_len}
use Rattle.std.proofs.lemmas.Bool.{cases_Bool, and_parts, le-leb, eqb-true, ne_eqb}
use Rattle.std.proofs.lemmas.Bool.Decides.{Decides-ltb}
use Rattle.std.proofs.lemmas.List.{length-map}
use Rattle.bddl_model.specs.declared.certificate.Answered.{Answered}
use Rattle.bddl_model.specs.declared.certificate.NodeNo.{NodeNo}
use Rattle.bddl_model.specs.declared.certificate.Node.{Node}
use Rattle.bddl_model.specs.declared.certificate.Node.TheVariants.{Goal, Black, White}
use Rattle.bddl_model.specs.declared.certificate.CertReadFault.{CertReadFault}
use Rattle.bddl_model.specs.declared.certificate.CertReadFault.TheVariants as faults
use Rattle.bddl_model.specs.CertificateGraph.{answers, Links, links, named_by, namings, is_later, is_named, linked, preorder, preorder_from}
use Rattle.bddl_model.specs.CertificateText.{Version, ordered, numbered, header_text, node_text, nodes_text, cert_text, suits, IsShortNode, CertText}
use Rattle.bddl_model.specs.CertificateFaults.{ReadsTo, CertFails, NoLine, trees_due}
use Rattle.cert_text.specs.Answers.{UnlessNoMemory}
use Rattle.cert_text.specs.Nodes.{due_next, on_line, node_at}
use Rattle.cert_text.specs.Trees.{Trees, with_roots, roots_behind, node_with_roots, onto_trees, trees_from}
use Rattle.cert_text.proofs.HeaderReading.{no_header_read}
use Rattle.cert_text.proofs.LineReading.{kept, kept_node, no_line_read}
use Rattle.cert_text.proofs.Following.{links_len}
use Rattle.cert_text.proofs.Ending.{count_is}
use Rattle.cert_text.proofs.Outcome.{unnamed_from, unless_unnamed, ended, then_node, walk, behind_header, outcome, same_nodes, node_back, read_so_far}

-- ---- a tree gets its numbers back

abbrev number_of : ℕ → NodeNo
number_of n = record { 0 = n }

abbrev nexts : List Answered → List ℕ
nexts all = map (λ a. a.next.0) all

answers_numbered : (all : List Answered) (dues : List ℕ)
    → (with_roots (map (kept ordered) all) (map number_of (nexts all ++ dues)) ≡ all) × (roots_behind (map (kept ordered) all) (map number_of (nexts all ++ dues)) ≡ map number_of dues)
answers_numbered [] dues = (refl, refl)
answers_numbered (a ∷ all) dues = let later = answers_numbered all dues in (ap (λ (l : List Answered). a ∷ l) later.0, later.1)

node_numbered : (node : Node) (dues : List ℕ)
    → (node_with_roots (kept_node ordered node) (map number_of (nexts (answers node) ++ dues)) ≡ node) × (roots_behind (answers (kept_node ordered node)) (map number_of (nexts (answers node) ++ dues)) ≡ map number_of dues)
node_numbered Goal dues = (refl, refl)
node_numbered (Black mv next) dues = (refl, refl)
node_numbered (White replies) dues = let all = answers_numbered replies dues in (ap (λ (l : List Answered). White l) all.0, all.1)

abbrev trees : List Node → List NodeNo → Trees
trees nodes roots = record { nodes = nodes; roots = roots }

numbered_again : (n : ℕ) (dues : List ℕ) (nodes : List Node) → preorder_from n dues (links nodes) ≡ true → trees_from n (map (kept_node ordered) nodes) ≡ trees nodes (map number_of dues)
numbered_again n [] [] h = refl
numbered_again n (due ∷ dues) [] h = absurd cc
numbered_again n [] (node ∷ nodes) h = absurd cc
numbered_again n (due ∷ dues) (node ∷ nodes) h =
    let p = and_parts (nat_eq due n) (preorder_from (suc n) (nexts (answers node) ++ dues) (links nodes)) h in
    let number : n ≡ due = sym (eqb-true due n p.0) in
    let one = node_numbered node dues in
    ap (onto_trees n (kept_node ordered node)) (numbered_again (suc n) (nexts (answers node) ++ dues) nodes p.1)
    ∙ ap₂ (λ (x : Node) (roots : List NodeNo). trees (x ∷ nodes) (number_of n ∷ roots)) one.0 one.1
    ∙ ap (λ (m : ℕ). trees (node ∷ nodes) (number_of m ∷ map number_of dues)) number

nexts_len : (all : List Answered) (dues : List ℕ) → length (nexts all ++ dues) ≡ length all + length dues
nexts_len [] dues = omega arith
nexts_len (a ∷ all) dues = let later = nexts_len all dues in omega arith

trees_counted : (n : ℕ) (dues : List ℕ) (ls : Links) → preorder_from n dues ls ≡ true → trees_due (length dues) ls ≡ Some 0
trees_counted n [] [] h = refl
trees_counted n (due ∷ dues) [] h = absurd cc
trees_counted n [] (all ∷ ls) h = absurd cc
trees_counted n (due ∷ dues) (all ∷ ls) h =
    let p = and_parts (nat_eq due n) (preorder_from (suc n) (nexts all ++ dues) ls) h in
    ap (λ (k : ℕ). trees_due k ls) (sym (nexts_len all dues)) ∙ trees_counted (suc n) (nexts all ++ dues) ls p.1

-- ---- all nodes are named, or one is the first that isn't

none_unnamed : (nodes : List Node) (from n : ℕ) → list_all (is_named (links nodes)) (range_with_len from n) ≡ true → unnamed_from nodes from n ≡ None
none_unnamed nodes from zero h = refl
none_unnamed nodes from (suc n) h =
    let p = and_parts (is_named (links nodes) from) (list_all (is_named (links nodes)) (range_with_len (from + 1) n)) h in
    let next : suc from ≡ from + 1 = omega arith in
    rw p.0 (ap (λ (m : ℕ). unnamed_from nodes m n) next ∙ none_unnamed nodes (from + 1) n p.1)

one_unnamed : (nodes : List Node) (from n k : ℕ) → from ≤ k → k < from + n → is_named (links nodes) k ≡ false → ((m : ℕ) → from ≤ m → m < k → is_named (links nodes) m ≡ true) → unnamed_from nodes from n ≡ Some k
one_unnamed nodes from zero k low high none before = absurd (omega arith)
one_unnamed nodes from (suc n) k low high none before = elim (cases_Bool (is_named (links nodes) from)) [
  | inr here ↦ rw here (ap (λ (m : ℕ). Some m) (first (cases_Bool (nat_eq from k)) here))
  | inl named ↦
      let other : from ≢ k = λ e. (let z : true ≡ false = sym named ∙ ap (is_named (links nodes)) e ∙ none in cc) in
      rw named (one_unnamed nodes (suc from) n k (omega arith) (omega arith) none (λ m l h. before m (omega arith) h))
]
  where
    first : (nat_eq from k ≡ true) ⊎ (nat_eq from k ≡ false) → is_named (links nodes) from ≡ false → from ≡ k
    first (inl same) here = eqb-true from k same
    first (inr other) here =
        let apart : from ≢ k = λ e. (let z : true ≡ false = sym (eq-eqb from k e) ∙ other in cc) in
        absurd (let z : true ≡ false = sym (before from (omega arith) (omega arith)) ∙ here in cc)

-- ---- a text of a certificate

whole_text : (v : Version) (nodes : List Node) (bytes : List ℕ) → bytes ≡ cert_text v nodes → bytes ≡ header_text v (length nodes) ++ (nodes_text v nodes ++ [])
unfolding cert_text
whole_text v nodes bytes h = h ∙ ap (λ t. header_text v (length nodes) ++ t) (sym (append-nil (nodes_text v nodes)))

ordered_answer : (bytes : List ℕ) (nodes : List Node) → bytes ≡ cert_text ordered nodes → preorder (links nodes) ≡ true → All IsShortNode nodes → length nodes < 2 ^ 64 → outcome bytes ≡ Ok nodes
unfolding preorder
ordered_answer bytes nodes text order short few =
    let reads : ReadsTo bytes ordered (length nodes) nodes 0 [] = record {
      written = whole_text ordered nodes bytes text;
      said = few;
      short = short;
      owed = trees_counted 0 (0 ∷ []) (links nodes) order;
      later = refl;
    } in
    let far = read_so_far bytes ordered (length nodes) nodes 0 [] reads in
    far.1 ∙ rw (eq-eqb (length nodes) (length (map (kept_node ordered) nodes)) (sym (length-map nodes (kept_node ordered))))
    (ap (λ (t : Trees). Ok t.nodes) (numbered_again 0 (0 ∷ []) nodes order))

numbered_answer : (bytes : List ℕ) (nodes : List Node) → bytes ≡ cert_text numbered nodes → linked (links nodes) ≡ true → All IsShortNode nodes → length nodes < 2 ^ 64 → outcome bytes ≡ Ok nodes
unfolding linked
numbered_answer bytes nodes text suits short few =
    let len = links_len nodes in
    let p = and_parts (nat_lt 0 (length (links nodes))) (list_all (is_later (length (links nodes))) (namings (links nodes)) && list_all (is_named (links nodes)) (range_with_len 1 (length (links nodes) - 1))) suits in
    let q = and_parts (list_all (is_later (length (links nodes))) (namings (links nodes))) (list_all (is_named (links nodes)) (range_with_len 1 (length (links nodes) - 1))) p.1 in
    let some = (Decides-ltb 0 (length (links nodes))).0 p.0 in
    let none : length nodes - length (links nodes) ≡ 0 = omega arith in
    let reads : ReadsTo bytes numbered (length nodes) nodes 0 [] = record {
      written = whole_text numbered nodes bytes text;
      said = (omega arith, few);
      short = short;
      owed = rw (le-leb (length (links nodes)) (length nodes) (omega arith)) (ap (λ (n : ℕ). Some n) none);
      later = ap (λ (n : ℕ). list_all (is_later n) (namings (links nodes))) (sym len) ∙ q.0;
    } in
    let far = read_so_far bytes numbered (length nodes) nodes 0 [] reads in
    far.1 ∙ ap (λ (l : List Node). ended numbered (length nodes) l []) (same_nodes nodes)
    ∙ ap (unless_unnamed nodes) (ap (λ (n : ℕ). unnamed_from nodes 1 (n - 1)) (sym len) ∙ none_unnamed nodes 1 (length (links nodes) - 1) q.1)

pub cert_answer : (bytes : List ℕ) (nodes : List Node) → CertText bytes nodes → outcome bytes ≡ Ok nodes
cert_answer bytes nodes text = go text.version text.written text.suits
  where
    go : (v : Version) → bytes ≡ cert_text v nodes → suits v (links nodes) ≡ true → outcome bytes ≡ Ok nodes
    go ordered written order = ordered_answer bytes nodes written order text.short text.count
    go numbered written suits = numbered_answer bytes nodes written suits text.short text.count

-- ---- a text with a fault

kept_nodes_len : (v : Version) (nodes : List Node) → length (map (kept_node v) nodes) ≡ length nodes
kept_nodes_len v nodes = length-map nodes (kept_node v)

no_node : (v : Version) (count n : ℕ) (rest : List ℕ) → rest ≢ [] → NoLine v rest → node_at v count n rest ≡ Err (faults.NotALine n)
no_node v count n [] some none = absurd (some refl)
no_node v count n (b ∷ rest) some none = ap (on_line v count n) (no_line_read v (b ∷ rest) none)

unused_answer : (v : Version) (count : ℕ) (nodes : List Node) (rest : List ℕ) → rest ≢ [] → ended v count nodes rest ≡ Err (faults.Unused (length nodes))
unused_answer v count nodes [] some = absurd (some refl)
unused_answer ordered count nodes (b ∷ rest) some = refl
unused_answer numbered count nodes (b ∷ rest) some = refl

module _ (bytes : List ℕ) (v : Version) (count due : ℕ) (nodes : List Node) (rest : List ℕ) where
  abbrev seen : List Node
  seen = map (kept_node v) nodes

  -- a node is due here, and its line isn't read
  stops_here : ReadsTo bytes v count nodes (suc due) rest → (f : CertReadFault) → node_at v count (length nodes) rest ≡ Err f → outcome bytes ≡ Err f
  stops_here reads f h =
      let far = read_so_far bytes v count nodes (suc due) rest reads in
      far.1 ∙ ap (λ r. then_node r (λ r. walk far.0 v count (seen ++ r.0 ∷ []) (due_next v r.0 due) r.1)) (ap (λ (n : ℕ). node_at v count n rest) (kept_nodes_len v nodes) ∙ h)

  ends_here : ReadsTo bytes v count nodes 0 rest → outcome bytes ≡ ended v count seen rest
  ends_here reads = (read_so_far bytes v count nodes 0 rest reads).1

pub fault_answer : (bytes : List ℕ) (f : CertReadFault) → CertFails bytes f → outcome bytes ≡ Err f
unfolding outcome
fault_answer bytes faults.NoMemory h = elim h [ ]
fault_answer bytes faults.NotHeader h = ap behind_header (no_header_read bytes h)
fault_answer bytes (faults.EndsEarly n) (v, count, due, nodes, reads, number) = rw number (stops_here bytes v count due nodes [] reads (faults.EndsEarly (length nodes)) refl)
fault_answer bytes (faults.NotALine n) (v, count, due, nodes, rest, reads, number, some, none) = rw number (stops_here bytes v count due nodes rest reads (faults.NotALine (length nodes)) (no_node v count (length nodes) rest some none))
fault_answer bytes (faults.BadNext n) (count, due, nodes, node, rest, reads, number, short, early) =
    rw number (stops_here bytes numbered count due nodes (node_text numbered node ++ rest) reads (faults.BadNext (length nodes))
    (node_back numbered count (length nodes) node rest short ∙ rw (ap (λ (m : ℕ). list_all (is_later count) (named_by m (answers node))) (sym number) ∙ early) refl))
fault_answer bytes (faults.Unused n) (v, count, nodes, rest, reads, number, some) =
    ends_here bytes v count 0 nodes rest reads ∙ unused_answer v count (map (kept_node v) nodes) rest some ∙ ap (λ (m : ℕ). Err (faults.Unused m)) (kept_nodes_len v nodes ∙ sym number)
fault_answer bytes (faults.NotReached n) (count, nodes, reads, later, within, none, before) =
    let number = count_is bytes count nodes reads in
    ends_here bytes numbered count 0 nodes [] reads ∙ ap (λ (l : List Node). ended numbered count l []) (same_nodes nodes)
    ∙ ap (unless_unnamed nodes) (one_unnamed nodes 1 (length nodes - 1) n later (omega arith) none before)
fault_answer bytes (faults.CountDiffers said found) (nodes, reads, number, differs) =
    ends_here bytes ordered said 0 nodes [] reads
    ∙ ap (λ (m : ℕ). if nat_eq said m then Ok (trees_from 0 (map (kept_node ordered) nodes)).nodes else Err (faults.CountDiffers said m)) (kept_nodes_len ordered nodes ∙ sym number)
    ∙ rw (ne_eqb said found differs) refl

-- ---- what is answered

abbrev Sound : List ℕ → Result (List Node) CertReadFault → Type 0
Sound bytes r = IfOk r (λ nodes. CertText bytes nodes) × IfErr r (λ f. (f ≡ faults.NoMemory) ⊎ CertFails bytes f)

one_answer : (bytes : List ℕ) (r wanted : Result (List Node) CertReadFault) → Sound bytes r → outcome bytes ≡ wanted → UnlessNoMemory r wanted
one_answer bytes (Ok nodes) wanted sound is = inl (sym (cert_answer bytes nodes sound.0) ∙ is)
one_answer bytes (Err f) wanted sound is = elim sound.1 [
  | inl memory ↦ inr (ap (λ (g : CertReadFault). Err g) memory)
  | inr fails ↦ inl (sym (fault_answer bytes f fails) ∙ is)
]

pub only_cert : (bytes : List ℕ) (r : Result (List Node) CertReadFault) → IfOk r (λ nodes. CertText bytes nodes) → IfErr r (λ f. (f ≡ faults.NoMemory) ⊎ CertFails bytes f)
    → (nodes : List Node) → CertText bytes nodes → UnlessNoMemory r (Ok nodes)
only_cert bytes r said fails nodes text = one_answer bytes r (Ok nodes) (said, fails) (cert_answer bytes nodes text)

pub exact_fault : (bytes : List ℕ) (r : Result (List Node) CertReadFault) → IfOk r (λ nodes. CertText bytes nodes) → IfErr r (λ f. (f ≡ faults.NoMemory) ⊎ CertFails bytes f)
    → (f : CertReadFault) → CertFails bytes f → UnlessNoMemory r (Err f)
exact_fault bytes r said fails f fault = one_answer bytes r (Err f) (said, fails) (fault_answer bytes f fault)
