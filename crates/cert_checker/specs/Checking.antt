-- Checking a certificate in one pass over its nodes, with one entry for each node.
use Rattle.std.specs.Prelude.{◌≡◌, ℕ, suc, ◌<◌, ◌⊎◌, List, [], ◌∷◌, slice_set, Option, Some, None, Result, Err, if◌then◌else◌}
use Rattle.bddl_model.specs.declared.certificate.Answered.{Answered}
use Rattle.bddl_model.specs.declared.certificate.Node.{Node}
use Rattle.bddl_model.specs.declared.certificate.CertFault.{CertFault}
use Rattle.bddl_model.specs.declared.certificate.CertFault.TheVariants.{TwoPlaces, NoMemory}
use Rattle.bddl_model.specs.Setup.{Setup}
use Rattle.bddl_model.specs.CertificateGraph.{answers}
use Rattle.bddl_model.specs.Certificate.{Place, behind, same_place, node_fault, or_next}
use Rattle.cert_checker.specs.declared.known.Known.{Known}
use Rattle.cert_checker.specs.declared.known.Known.TheVariants.{Unnamed, First, Two}
use Rattle.cert_checker.specs.Places.{Table, known_at, place_in, MayMove}

-- what is known of a node after one more naming, by node n and this answer, which leads to this place
abbrev pub after_naming : Setup → Table → ℕ → Place → Answered → Known → Known
after_naming s t n there a Unnamed = First n a.mv
after_naming s t n there a (First from mv) = if same_place there (place_in s t a.next.0) then First from mv else Two
after_naming s t n there a Two = Two

-- the table after one more answer of node n, which stands at p
abbrev pub with_answer : Setup → ℕ → Place → Answered → Table → Table
with_answer s n p a t = slice_set t a.next.0 (after_naming s t n (behind s.game p a.mv) a (known_at t a.next.0))

abbrev pub with_answers : Setup → ℕ → Place → List Answered → Table → Table
with_answers s n p [] t = t
with_answers s n p (a ∷ rest) t = with_answers s n p rest (with_answer s n p a t)

-- an answer of node n, which stands at p, in a certificate of so many nodes
pub record IsAnswer (s : Setup) (count n : ℕ) (p : Place) (a : Answered) : Type 0 where
  pub later : n < a.next.0
  pub inside : a.next.0 < count
  pub may : MayMove s.game p a.mv

-- an answer of node n names a later one of so many nodes
abbrev pub IsLater : ℕ → ℕ → Answered → Type 0
IsLater count n a = (n < a.next.0) × (a.next.0 < count)

abbrev pub fault_known : Setup → ℕ → Place → Node → Known → Option CertFault
fault_known s n p node Unnamed = node_fault s.game n p node
fault_known s n p node (First from mv) = node_fault s.game n p node
fault_known s n p node Two = Some (TwoPlaces n)

-- the first fault from node n on, with this table of the nodes before
abbrev pub check_from : Setup → ℕ → Table → List Node → Option CertFault
check_from s n t [] = None
check_from s n t (node ∷ rest) = or_next (fault_known s n (place_in s t n) node (known_at t n)) (check_from s (suc n) (with_answers s n (place_in s t n) (answers node) t) rest)

-- the result is this one, unless memory ran out
abbrev pub UnlessNoMemory : Result Unit CertFault → Result Unit CertFault → Type 0
UnlessNoMemory result wanted = (result ≡ wanted) ⊎ (result ≡ Err NoMemory)
