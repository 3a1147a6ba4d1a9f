-- A text that was read up to a node, and the line of that node.
use Rattle.std.proofs.Common.{◌≡◌, ◌≢◌, ℕ, zero, suc, ◌+◌, ◌-◌, ◌<◌, ◌≤◌, true, false, nat_le, List, [], ◌∷◌, ◌++◌, length, Option, None, Some, Result, Ok, Err, refl, sym, ap, subst, ◌∙◌, arith, inl, inr, ◌⊎◌, append_assoc, append-nil}
use Rattle.std.specs.List.{list_all}
use Rattle.std.proofs.lemmas.Bool.{cases_Bool, le-leb, and_from}
use Rattle.std.proofs.lemmas.Grind.{flat_map-append}
use Rattle.std.proofs.Common.{length-append}
use Rattle.std.proofs.lemmas.List.{map_push, length_push}
use Rattle.std.proofs.lemmas.List.Elements.{All-push}
use Rattle.std.proofs.lemmas.List.Folds.{list_all-append}
use Rattle.bddl_model.specs.declared.certificate.Answered.{Answered}
use Rattle.bddl_model.specs.declared.certificate.Node.{Node}
use Rattle.bddl_model.specs.declared.certificate.CertReadFault.{CertReadFault}
use Rattle.bddl_model.specs.declared.certificate.CertReadFault.TheVariants as faults
use Rattle.bddl_model.specs.CertificateGraph.{answers, Links, links, named_by, namings, namings_from, is_later}
use Rattle.bddl_model.specs.CertificateText.{Version, ordered, numbered, header_text, node_line, node_text, nodes_text, IsShortNode}
use Rattle.bddl_model.specs.FormulaText.{joined}
use Rattle.bddl_model.specs.CertificateFaults.{ReadsTo, CertFails, due_behind, later_in, trees_due}
use Rattle.cert_text.specs.Reading.{line_at}
use Rattle.cert_text.specs.Nodes.{due_next, node_later, on_line, node_at, FailsWith}
use Rattle.cert_text.proofs.LineReading.{line_sound, no_line}

-- ---- a node more

trees_more : (start due : ℕ) (ls : Links) (all : List Answered) → trees_due start ls ≡ Some (suc due) → trees_due start (ls ++ all ∷ []) ≡ Some (length all + due)
trees_more start due [] all h = let e : start ≡ suc due = cc in rw e refl
trees_more zero due (x ∷ ls) all h = absurd cc
trees_more (suc start) due (x ∷ ls) all h = trees_more (length x + start) due ls all h

left_more : (count due : ℕ) (ls : Links) (all : List Answered) → due_behind numbered count ls ≡ Some (suc due) → due_behind numbered count (ls ++ all ∷ []) ≡ Some due
left_more count due ls all h = elim (cases_Bool (nat_le (length ls) count)) [
  | inr few ↦ absurd (let z : None ≡ Some (suc due) = rw few at h in cc)
  | inl enough ↦
      let z : Some (count - length ls) ≡ Some (suc due) = rw enough at h in
      let left : count - length ls ≡ suc due = cc in
      let longer = length_push ls all in
      rw (le-leb (length (ls ++ all ∷ [])) count (omega arith)) (ap (λ (n : ℕ). Some n) (omega arith))
]

owed_more : (v : Version) (count due : ℕ) (ls : Links) (node : Node) → due_behind v count ls ≡ Some (suc due) → due_behind v count (ls ++ answers node ∷ []) ≡ Some (due_next v node due)
owed_more ordered count due ls node h = trees_more 1 due ls (answers node) h
owed_more numbered count due ls node h = left_more count due ls (answers node) h

pub namings_more : (n : ℕ) (ls : Links) (all : List Answered) → namings_from n (ls ++ all ∷ []) ≡ namings_from n ls ++ named_by (n + length ls) all
namings_more n [] all = append-nil (named_by n all) ∙ ap (λ (m : ℕ). named_by m all) (omega arith)
namings_more n (x ∷ ls) all =
    ap (λ ws. named_by n x ++ ws) (namings_more (suc n) ls all ∙ ap (λ (m : ℕ). namings_from (suc n) ls ++ named_by m all) (omega arith))
    ∙ sym (append_assoc (named_by n x) (namings_from (suc n) ls) (named_by (n + suc (length ls)) all))

later_more : (v : Version) (count n : ℕ) (ls : Links) (node : Node) → n ≡ length ls → later_in v count ls ≡ true → node_later v count n node ≡ true → later_in v count (ls ++ answers node ∷ []) ≡ true
later_more ordered count n ls node number h later = refl
later_more numbered count n ls node number h later =
    ap (list_all (is_later count)) (namings_more 0 ls (answers node)) ∙ list_all-append (is_later count) (namings ls) (named_by (0 + length ls) (answers node))
    ∙ and_from (list_all (is_later count) (namings ls)) (list_all (is_later count) (named_by (0 + length ls) (answers node))) h (ap (λ (m : ℕ). list_all (is_later count) (named_by m (answers node))) (omega arith) ∙ later)

pub links_len : (nodes : List Node) → length (links nodes) ≡ length nodes
links_len [] = refl
links_len (node ∷ nodes) = ap suc (links_len nodes)

text_more : (v : Version) (nodes : List Node) (node : Node) (rest : List ℕ) → nodes_text v (nodes ++ node ∷ []) ++ rest ≡ nodes_text v nodes ++ (node_text v node ++ rest)
text_more v nodes node rest =
    ap (λ t. t ++ rest) (flat_map-append (node_text v) nodes (node ∷ []))
    ∙ append_assoc (nodes_text v nodes) (node_text v node ++ []) rest
    ∙ ap (λ t. nodes_text v nodes ++ (t ++ rest)) (append-nil (node_text v node))

module _ (bytes : List ℕ) (v : Version) (count due : ℕ) (nodes : List Node) (rest : List ℕ) (reads : ReadsTo bytes v count nodes (suc due) rest) where
  reads_more : (node : Node) (behind : List ℕ) → line_at v rest ≡ Some (node, behind) → node_later v count (length nodes) node ≡ true → ReadsTo bytes v count (nodes ++ node ∷ []) (due_next v node due) behind
  reads_more node behind h later =
      let s = line_sound v rest behind node h in
      let more : links (nodes ++ node ∷ []) ≡ links nodes ++ answers node ∷ [] = map_push answers nodes node in
      record {
        written = reads.written ∙ ap (λ t. header_text v count ++ (nodes_text v nodes ++ t)) s.0 ∙ ap (λ t. header_text v count ++ t) (sym (text_more v nodes node behind));
        said = reads.said;
        short = All-push IsShortNode nodes node reads.short s.1;
        owed = rw more (owed_more v count due (links nodes) node reads.owed);
        later = rw more (later_more v count (length nodes) (links nodes) node (sym (links_len nodes)) reads.later later);
      }

-- ---- what the line of a node was found to be

pub node_read : (v : Version) (count n : ℕ) (bytes behind : List ℕ) (node : Node) → node_at v count n bytes ≡ Ok (node, behind) → (line_at v bytes ≡ Some (node, behind)) × (node_later v count n node ≡ true)
node_read v count n [] behind node h = absurd cc
node_read v count n (b ∷ bytes) behind node h = go (line_at v (b ∷ bytes)) h
  where
    go : (read : Option (Node × List ℕ)) → on_line v count n read ≡ Ok (node, behind) → (read ≡ Some (node, behind)) × (node_later v count n node ≡ true)
    go None h = absurd cc
    go (Some r) h = elim (cases_Bool (node_later v count n r.0)) [
      | inr early ↦ absurd (let z : ◌≡◌ {A = Result (Node × List ℕ) CertReadFault} (Err (faults.BadNext n)) (Ok (node, behind)) = rw early at h in cc)
      | inl later ↦
          let z : ◌≡◌ {A = Result (Node × List ℕ) CertReadFault} (Ok r) (Ok (node, behind)) = rw later at h in
          let same : ◌≡◌ {A = Node × List ℕ} r (node, behind) = cc in
          (ap (λ (x : Node × List ℕ). Some x) same, ap (λ (x : Node × List ℕ). node_later v count n x.0) (sym same) ∙ later)
    ]

pub shorter : (v : Version) (count n : ℕ) (bytes behind : List ℕ) (node : Node) → node_at v count n bytes ≡ Ok (node, behind) → length behind < length bytes
shorter v count n bytes behind node h =
    let s = line_sound v bytes behind node (node_read v count n bytes behind node h).0 in
    let all = length-append (node_text v node) behind in
    let some = length-append (joined (node_line v node)) (10 ∷ []) in
    rw s.0 (omega arith)

pub grows : (v : Version) (count n due : ℕ) (bytes behind : List ℕ) (node : Node) → node_at v count n bytes ≡ Ok (node, behind) → due_next v node due ≤ due + 1000000000
grows v count n due bytes behind node h = go v (line_sound v bytes behind node (node_read v count n bytes behind node h).0).1.few
  where
    go : (w : Version) → length (answers node) < 1000000000 → due_next w node due ≤ due + 1000000000
    go ordered few = omega arith
    go numbered few = omega arith

-- the nodes behind one more
pub reads_on : (bytes : List ℕ) (v : Version) (count due less n : ℕ) (nodes : List Node) (rest behind : List ℕ) (node : Node)
    → due ≡ suc less → n ≡ length nodes → ReadsTo bytes v count nodes due rest → node_at v count n rest ≡ Ok (node, behind) → ReadsTo bytes v count (nodes ++ node ∷ []) (due_next v node less) behind
reads_on bytes v count due less n nodes rest behind node some number reads h =
    let r = node_read v count n rest behind node h in
    reads_more bytes v count less nodes rest (subst (λ d. ReadsTo bytes v count nodes d rest) some reads) node behind r.0 (ap (λ (m : ℕ). node_later v count m node) (sym number) ∙ r.1)

-- ---- what the line of a node was not found to be

pub fails_cases : {A : Type 0} (f : CertReadFault) (r : Result A CertReadFault) → FailsWith f r → (f ≡ faults.NoMemory) ⊎ (r ≡ Err f)
fails_cases faults.NoMemory r h = inl refl
fails_cases faults.NotHeader r h = inr h
fails_cases (faults.NotALine n) r h = inr h
fails_cases (faults.EndsEarly n) r h = inr h
fails_cases (faults.BadNext n) r h = inr h
fails_cases (faults.Unused n) r h = inr h
fails_cases (faults.NotReached n) r h = inr h
fails_cases (faults.CountDiffers s n) r h = inr h

-- why it was not read
abbrev Stops : Version → ℕ → ℕ → List ℕ → CertReadFault → Type 0
Stops v count n rest f =
    ((f ≡ faults.EndsEarly n) × (rest ≡ [])) ⊎ (((f ≡ faults.NotALine n) × (rest ≢ []) × (line_at v rest ≡ None))
    ⊎ ((f ≡ faults.BadNext n) × ((node : Node) × (behind : List ℕ) × (line_at v rest ≡ Some (node, behind)) × (node_later v count n node ≡ false))))

stops : (v : Version) (count n : ℕ) (rest : List ℕ) (f : CertReadFault) → node_at v count n rest ≡ Err f → Stops v count n rest f
stops v count n [] f h = inl (cc, refl)
stops v count n (b ∷ bytes) f h = go (line_at v (b ∷ bytes)) refl h
  where
    go : (read : Option (Node × List ℕ)) → line_at v (b ∷ bytes) ≡ read → on_line v count n read ≡ Err f → Stops v count n (b ∷ bytes) f
    go None e h = inr (inl (cc, (λ z. cc), e))
    go (Some r) e h = elim (cases_Bool (node_later v count n r.0)) [
      | inl later ↦ absurd (let z : ◌≡◌ {A = Result (Node × List ℕ) CertReadFault} (Ok r) (Err f) = rw later at h in cc)
      | inr early ↦
          let z : ◌≡◌ {A = Result (Node × List ℕ) CertReadFault} (Err (faults.BadNext n)) (Err f) = rw early at h in
          inr (inr (cc, (r.0, r.1, e, early)))
    ]

early_fails : (bytes : List ℕ) (v : Version) (count due : ℕ) (nodes : List Node) (rest behind : List ℕ) (node : Node) → ReadsTo bytes v count nodes (suc due) rest → line_at v rest ≡ Some (node, behind)
    → node_later v count (length nodes) node ≡ false → CertFails bytes (faults.BadNext (length nodes))
early_fails bytes ordered count due nodes rest behind node reads h early = absurd cc
early_fails bytes numbered count due nodes rest behind node reads h early =
    let s = line_sound numbered rest behind node h in
    (count, due, nodes, node, behind, subst (λ t. ReadsTo bytes numbered count nodes (suc due) t) s.0 reads, refl, s.1, early)

stop_fails : (bytes : List ℕ) (v : Version) (count due : ℕ) (nodes : List Node) (rest : List ℕ) (f : CertReadFault) → ReadsTo bytes v count nodes (suc due) rest → Stops v count (length nodes) rest f → CertFails bytes f
stop_fails bytes v count due nodes rest f reads h = elim h [
  | inl ends ↦ rw ends.0 (v, count, due, nodes, subst (λ t. ReadsTo bytes v count nodes (suc due) t) ends.1 reads, refl)
  | inr other ↦ elim other [
    | inl none ↦ rw none.0 (v, count, due, nodes, rest, reads, refl, none.1, no_line v rest none.2)
    | inr early ↦ rw early.0 (early_fails bytes v count due nodes rest early.1.1 early.1.0 reads early.1.2 early.1.3)
  ]
]

-- the fault is the text's
pub node_fails : (bytes : List ℕ) (v : Version) (count due less n : ℕ) (nodes : List Node) (rest : List ℕ) (f : CertReadFault)
    → due ≡ suc less → n ≡ length nodes → ReadsTo bytes v count nodes due rest → FailsWith f (node_at v count n rest) → (f ≡ faults.NoMemory) ⊎ CertFails bytes f
node_fails bytes v count due less n nodes rest f some number reads h = elim (fails_cases f (node_at v count n rest) h) [
  | inl memory ↦ inl memory
  | inr wrong ↦ inr (stop_fails bytes v count less nodes rest f (subst (λ d. ReadsTo bytes v count nodes d rest) some reads) (stops v count (length nodes) rest f (ap (λ (m : ℕ). node_at v count m rest) (sym number) ∙ wrong)))
]
