-- The one answer to a text, as a function of its bytes. So no text has two answers.
use Rattle.std.proofs.Common.{◌≡◌, ℕ, zero, suc, ◌+◌, ◌-◌, ◌≤◌, Bool, true, nat_eq, nat_le, if◌then◌else◌, List, [], ◌∷◌, ◌++◌, length, map, Option, None, Some, Result, Ok, Err, refl, sym, ap, ap₂, ◌∙◌, arith, inl, inr, append_assoc, append-nil, length-append}
use Rattle.std.specs.Prelude.{All}
use Rattle.std.specs.List.{list_all}
use Rattle.std.proofs.lemmas.Bool.{cases_Bool, and_parts, le-leb, leb-true}
use Rattle.std.proofs.lemmas.List.{length_push, length-map}
use Rattle.std.proofs.lemmas.List.Elements.{All-head, All-tail}
use Rattle.std.proofs.lemmas.List.Folds.{list_all-append}
use Rattle.bddl_model.specs.declared.certificate.Answered.{Answered}
use Rattle.bddl_model.specs.declared.certificate.Node.{Node}
use Rattle.bddl_model.specs.declared.certificate.Node.TheVariants.{Goal, Black, White}
use Rattle.bddl_model.specs.declared.certificate.CertReadFault.{CertReadFault}
use Rattle.bddl_model.specs.declared.certificate.CertReadFault.TheVariants as faults
use Rattle.bddl_model.specs.FormulaText.{joined}
use Rattle.bddl_model.specs.CertificateGraph.{answers, Links, links, named_by, namings_from, is_later, is_named}
use Rattle.bddl_model.specs.CertificateText.{Version, ordered, numbered, node_line, node_text, nodes_text, IsShortNode}
use Rattle.bddl_model.specs.CertificateFaults.{ReadsTo, due_behind, later_in, trees_due}
use Rattle.cert_text.specs.Reading.{line_at, header_at}
use Rattle.cert_text.specs.Nodes.{first_due, due_next, node_later, on_line, node_at}
use Rattle.cert_text.specs.Trees.{trees_from}
use Rattle.cert_text.proofs.HeaderReading.{header_back}
use Rattle.cert_text.proofs.LineReading.{kept, kept_node, line_back}

-- ---- the answer

abbrev pub unnamed_from : List Node → ℕ → ℕ → Option ℕ
unnamed_from nodes from zero = None
unnamed_from nodes from (suc n) = if is_named (links nodes) from then unnamed_from nodes (suc from) n else Some from

abbrev pub unless_unnamed : List Node → Option ℕ → Result (List Node) CertReadFault
unless_unnamed nodes None = Ok nodes
unless_unnamed nodes (Some n) = Err (faults.NotReached n)

abbrev pub ended : Version → ℕ → List Node → List ℕ → Result (List Node) CertReadFault
ended v count nodes (b ∷ bytes) = Err (faults.Unused (length nodes))
ended ordered count nodes [] = if nat_eq count (length nodes) then Ok (trees_from 0 nodes).nodes else Err (faults.CountDiffers count (length nodes))
ended numbered count nodes [] = unless_unnamed nodes (unnamed_from nodes 1 (length nodes - 1))

abbrev pub then_node : Result (Node × List ℕ) CertReadFault → (Node × List ℕ → Result (List Node) CertReadFault) → Result (List Node) CertReadFault
then_node (Ok r) go = go r
then_node (Err f) go = Err f

-- so many lines are read at most
abbrev pub walk : ℕ → Version → ℕ → List Node → ℕ → List ℕ → Result (List Node) CertReadFault
walk zero v count seen due bytes = Err faults.NoMemory
walk (suc most) v count seen zero bytes = ended v count seen bytes
walk (suc most) v count seen (suc due) bytes = then_node (node_at v count (length seen) bytes) (λ r. walk most v count (seen ++ r.0 ∷ []) (due_next v r.0 due) r.1)

abbrev pub behind_header : Option ((Version × ℕ) × List ℕ) → Result (List Node) CertReadFault
behind_header None = Err faults.NotHeader
behind_header (Some r) = walk (length r.1 + 1) r.0.0 r.0.1 [] (first_due r.0.0 r.0.1) r.1

unfoldable pub outcome : List ℕ → Result (List Node) CertReadFault
outcome bytes = behind_header (header_at bytes)

-- ---- what is kept of a node

same_answers : (all : List Answered) → map (kept numbered) all ≡ all
same_answers [] = refl
same_answers (a ∷ all) = ap (λ (l : List Answered). a ∷ l) (same_answers all)

same_node : (node : Node) → kept_node numbered node ≡ node
same_node Goal = refl
same_node (Black mv next) = refl
same_node (White replies) = ap (λ (l : List Answered). White l) (same_answers replies)

pub same_nodes : (nodes : List Node) → map (kept_node numbered) nodes ≡ nodes
same_nodes [] = refl
same_nodes (node ∷ nodes) = ap₂ (λ (n : Node) (l : List Node). n ∷ l) (same_node node) (same_nodes nodes)

kept_len : (node : Node) → length (answers (kept_node ordered node)) ≡ length (answers node)
kept_len Goal = refl
kept_len (Black mv next) = refl
kept_len (White replies) = length-map replies (kept ordered)

kept_due : (v : Version) (node : Node) (due : ℕ) → due_next v (kept_node v node) due ≡ due_next v node due
kept_due ordered node due = ap (λ (n : ℕ). n + due) (kept_len node)
kept_due numbered node due = refl

kept_later : (v : Version) (count n : ℕ) (node : Node) → node_later v count n (kept_node v node) ≡ node_later v count n node
kept_later ordered count n node = refl
kept_later numbered count n node = ap (node_later numbered count n) (same_node node)

-- ---- a node that is read back

read_line : (v : Version) (count n : ℕ) (bytes : List ℕ) (r : Node × List ℕ) → line_at v bytes ≡ Some r → node_at v count n bytes ≡ on_line v count n (Some r)
unfolding line_at
read_line v count n [] r h = absurd cc
read_line v count n (b ∷ bytes) r h = ap (on_line v count n) h

pub node_back : (v : Version) (count n : ℕ) (node : Node) (rest : List ℕ) → IsShortNode node → node_at v count n (node_text v node ++ rest) ≡ (if node_later v count n node then Ok (kept_node v node, rest) else Err (faults.BadNext n))
node_back v count n node rest short =
    read_line v count n (node_text v node ++ rest) (kept_node v node, rest) (line_back v node rest short)
    ∙ ap (λ (b : Bool). if b then Ok (kept_node v node, rest) else Err (faults.BadNext n)) (kept_later v count n node)

abbrev owes : Version → ℕ → Links → Option ℕ
owes ordered start ls = trees_due start ls
owes numbered start ls = if nat_le (length ls) start then Some (start - length ls) else None

abbrev later_from : Version → ℕ → ℕ → Links → Bool
later_from ordered count n ls = true
later_from numbered count n ls = list_all (is_later count) (namings_from n ls)

owes_none : (v : Version) (start due : ℕ) → owes v start [] ≡ Some due → start ≡ due
owes_none ordered start due h = cc
owes_none numbered start due h =
    let z : Some (start - 0) ≡ Some due = ap (λ (b : Bool). if b then Some (start - 0) else None) (sym (le-leb 0 start (omega arith))) ∙ h in
    let same : start - 0 ≡ due = cc in
    omega arith

owes_next : (v : Version) (start due : ℕ) (node : Node) (ls : Links) → owes v start (answers node ∷ ls) ≡ Some due → (less : ℕ) × (start ≡ suc less) × (owes v (due_next v node less) ls ≡ Some due)
owes_next ordered zero due node ls h = absurd cc
owes_next ordered (suc less) due node ls h = (less, refl, h)
owes_next numbered start due node ls h = elim (cases_Bool (nat_le (suc (length ls)) start)) [
  | inr few ↦ absurd (let z : None ≡ Some due = rw few at h in cc)
  | inl enough ↦
      let z : Some (start - suc (length ls)) ≡ Some due = rw enough at h in
      let left : start - suc (length ls) ≡ due = cc in
      let within = leb-true (suc (length ls)) start enough in
      (start - 1, omega arith, rw (le-leb (length ls) (start - 1) (omega arith)) (ap (λ (n : ℕ). Some n) (omega arith)))
]

later_next : (v : Version) (count n : ℕ) (node : Node) (ls : Links) → later_from v count n (answers node ∷ ls) ≡ true → (node_later v count n node ≡ true) × (later_from v count (suc n) ls ≡ true)
later_next ordered count n node ls h = (refl, refl)
later_next numbered count n node ls h =
    and_parts (list_all (is_later count) (named_by n (answers node))) (list_all (is_later count) (namings_from (suc n) ls))
    (sym (list_all-append (is_later count) (named_by n (answers node)) (namings_from (suc n) ls)) ∙ h)

-- ---- the nodes of a text, one behind the other

walk_one : (v : Version) (count all most start less : ℕ) (seen : List Node) (node : Node) (rest : List ℕ) → all ≡ suc most → start ≡ suc less → IsShortNode node → node_later v count (length seen) node ≡ true
    → walk all v count seen start (node_text v node ++ rest) ≡ walk most v count (seen ++ kept_node v node ∷ []) (due_next v node less) rest
walk_one v count all most start less seen node rest more some short later =
    let back : node_at v count (length seen) (node_text v node ++ rest) ≡ Ok (kept_node v node, rest) = node_back v count (length seen) node rest short ∙ rw later refl in
    ap₂ (λ (a s : ℕ). walk a v count seen s (node_text v node ++ rest)) more some
    ∙ ap (λ r. then_node r (λ r. walk most v count (seen ++ r.0 ∷ []) (due_next v r.0 less) r.1)) back
    ∙ ap (λ (d : ℕ). walk most v count (seen ++ kept_node v node ∷ []) d rest) (kept_due v node less)

walk_over : (v : Version) (count all most start due : ℕ) (seen nodes : List Node) (rest : List ℕ) → all ≡ length nodes + most → All IsShortNode nodes → owes v start (links nodes) ≡ Some due
    → later_from v count (length seen) (links nodes) ≡ true → walk all v count seen start (nodes_text v nodes ++ rest) ≡ walk most v count (seen ++ map (kept_node v) nodes) due rest
walk_over v count all most start due seen [] rest enough short owed later =
    let same : all ≡ most = omega arith in
    rw (same, owes_none v start due owed, append-nil seen) refl
walk_over v count all most start due seen (node ∷ nodes) rest enough short owed later =
    let o = owes_next v start due node (links nodes) owed in
    let l = later_next v count (length seen) node (links nodes) later in
    let longer = length_push seen (kept_node v node) in
    let number : length (seen ++ kept_node v node ∷ []) ≡ suc (length seen) = omega arith in
    ap (walk all v count seen start) (append_assoc (node_text v node) (nodes_text v nodes) rest)
    ∙ walk_one v count all (length nodes + most) start o.0 seen node (nodes_text v nodes ++ rest) (omega arith) o.1 (All-head IsShortNode node nodes short) l.0
    ∙ walk_over v count (length nodes + most) most (due_next v node o.0) due (seen ++ kept_node v node ∷ []) nodes rest refl (All-tail IsShortNode node nodes short) o.2
    (ap (λ (n : ℕ). later_from v count n (links nodes)) number ∙ l.1)
    ∙ ap (λ (l : List Node). walk most v count l due rest) (append_assoc seen (kept_node v node ∷ []) (map (kept_node v) nodes))

owes_behind : (v : Version) (count : ℕ) (ls : Links) → owes v (first_due v count) ls ≡ due_behind v count ls
owes_behind ordered count ls = refl
owes_behind numbered count ls = refl

later_behind : (v : Version) (count : ℕ) (ls : Links) → later_from v count 0 ls ≡ later_in v count ls
later_behind ordered count ls = refl
later_behind numbered count ls = refl

some_lines : (v : Version) (nodes : List Node) (rest : List ℕ) → length nodes ≤ length (nodes_text v nodes ++ rest)
some_lines v [] rest = omega arith
some_lines v (node ∷ nodes) rest =
    let later = some_lines v nodes rest in
    let parts = length-append (node_text v node) (nodes_text v nodes ++ rest) in
    let line = length-append (joined (node_line v node)) (10 ∷ []) in
    rw (append_assoc (node_text v node) (nodes_text v nodes) rest) (omega arith)

pub read_so_far : (bytes : List ℕ) (v : Version) (count : ℕ) (nodes : List Node) (due : ℕ) (rest : List ℕ) → ReadsTo bytes v count nodes due rest → (most : ℕ) × (outcome bytes ≡ walk (suc most) v count (map (kept_node v) nodes) due rest)
unfolding outcome
read_so_far bytes v count nodes due rest reads =
    let enough = some_lines v nodes rest in (
      length (nodes_text v nodes ++ rest) - length nodes,
      ap (λ (b : List ℕ). behind_header (header_at b)) reads.written ∙ ap behind_header (header_back v count (nodes_text v nodes ++ rest) reads.said)
          ∙ walk_over v count (length (nodes_text v nodes ++ rest) + 1) (suc (length (nodes_text v nodes ++ rest) - length nodes)) (first_due v count) due [] nodes rest (omega arith) reads.short
          (owes_behind v count (links nodes) ∙ reads.owed) (later_behind v count (links nodes) ∙ reads.later),
    )
