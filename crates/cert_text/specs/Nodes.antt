-- Reading the lines of nodes one behind the other.
use Rattle.std.specs.Prelude.{◌≡◌, ℕ, ◌+◌, Bool, true, if◌then◌else◌, List, [], ◌∷◌, length, Option, Some, None, Result, Ok, Err}
use Rattle.std.specs.List.{list_all}
use Rattle.bddl_model.specs.declared.certificate.Node.{Node}
use Rattle.bddl_model.specs.declared.certificate.CertReadFault.{CertReadFault}
use Rattle.bddl_model.specs.declared.certificate.CertReadFault.TheVariants as faults
use Rattle.bddl_model.specs.CertificateGraph.{answers, is_later, named_by}
use Rattle.bddl_model.specs.CertificateText.{Version, ordered, numbered}
use Rattle.cert_text.specs.Reading.{line_at}

-- how many nodes or trees are due at first, by the count of the header
abbrev pub first_due : Version → ℕ → ℕ
first_due ordered count = 1
first_due numbered count = count

-- how many are due behind a node, of which so many were due beside it
abbrev pub due_next : Version → Node → ℕ → ℕ
due_next ordered node due = length (answers node) + due
due_next numbered node due = due

-- the next numbers that the line of node n says are later, and below the count
abbrev pub node_later : Version → ℕ → ℕ → Node → Bool
node_later ordered count n node = true
node_later numbered count n node = list_all (is_later count) (named_by n (answers node))

-- the line of node n
abbrev pub on_line : Version → ℕ → ℕ → Option (Node × List ℕ) → Result (Node × List ℕ) CertReadFault
on_line v count n None = Err (faults.NotALine n)
on_line v count n (Some r) = if node_later v count n r.0 then Ok r else Err (faults.BadNext n)

abbrev pub node_at : Version → ℕ → ℕ → List ℕ → Result (Node × List ℕ) CertReadFault
node_at v count n [] = Err (faults.EndsEarly n)
node_at v count n (b ∷ bytes) = on_line v count n (line_at v (b ∷ bytes))

-- ---- what code answers

abbrev pub FailsWith : {Y : Type 0} → CertReadFault → Result Y CertReadFault → Type 0
FailsWith faults.NoMemory read = Unit {0}
FailsWith e read = read ≡ Err e

-- the same, unless memory runs out
abbrev pub Reads : {X Y : Type 0} → (X → Y) → Result X CertReadFault → Result Y CertReadFault → Type 0
Reads view (Ok x) read = read ≡ Ok (view x)
Reads view (Err e) read = FailsWith e read
