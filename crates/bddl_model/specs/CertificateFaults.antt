-- What is wrong with the text of a certificate: the first thing that can't stand where it does.
use Rattle.std.specs.Prelude.{ℕ, zero, suc, ◌≡◌, ◌≢◌, ◌<◌, ◌≤◌, ◌+◌, ◌-◌, ◌^◌, Bool, true, false, nat_le, if◌then◌else◌, List, [], ◌∷◌, ◌++◌, length, Option, None, Some, All}
use Rattle.std.specs.List.{list_all}
use Rattle.bddl_model.specs.declared.certificate.Node.{Node}
use Rattle.bddl_model.specs.declared.certificate.CertReadFault.{CertReadFault}
use Rattle.bddl_model.specs.declared.certificate.CertReadFault.TheVariants.{NotHeader, NotALine, EndsEarly, BadNext, Unused, NotReached, CountDiffers, NoMemory}
use Rattle.bddl_model.specs.CertificateGraph.{answers, Links, links, named_by, namings, is_later, is_named}
use Rattle.bddl_model.specs.CertificateText.{Version, ordered, numbered, header_text, node_text, nodes_text, IsShortNode}

-- a header's count: 64 bits, and in version 2 not 0
abbrev pub IsCount : Version → ℕ → Type 0
IsCount ordered count = count < 2 ^ 64
IsCount numbered count = (1 ≤ count) × (count < 2 ^ 64)

-- How many trees are due behind these nodes, of which so many were due before: a node is one, and brings those of its answers. None where a node came that was not due.
abbrev pub trees_due : ℕ → Links → Option ℕ
trees_due due [] = Some due
trees_due zero (all ∷ rest) = None
trees_due (suc due) (all ∷ rest) = trees_due (length all + due) rest

-- how many nodes, or trees, are due behind these nodes, by the count of the header
abbrev pub due_behind : Version → ℕ → Links → Option ℕ
due_behind ordered count ls = trees_due 1 ls
due_behind numbered count ls = if nat_le (length ls) count then Some (count - length ls) else None

-- the next numbers that are told are later, and below the count
abbrev pub later_in : Version → ℕ → Links → Bool
later_in ordered count ls = true
later_in numbered count ls = list_all (is_later count) (namings ls)

-- A text is read up to this rest: its header, and the lines of these nodes, each of which was due; so many are due still.
pub record ReadsTo (bytes : List ℕ) (v : Version) (count : ℕ) (nodes : List Node) (due : ℕ) (rest : List ℕ) : Type 0 where
  pub written : bytes ≡ header_text v count ++ (nodes_text v nodes ++ rest)
  pub said : IsCount v count
  pub short : All IsShortNode nodes
  pub owed : due_behind v count (links nodes) ≡ Some due
  pub later : later_in v count (links nodes) ≡ true

-- these bytes begin with no header, and with no line of a node
abbrev pub NoHeader : List ℕ → Type 0
NoHeader bytes = (v : Version) (count : ℕ) (rest : List ℕ) → IsCount v count → bytes ≢ header_text v count ++ rest

abbrev pub NoLine : Version → List ℕ → Type 0
NoLine v bytes = (node : Node) (rest : List ℕ) → IsShortNode node → bytes ≢ node_text v node ++ rest

-- the text is no certificate for this fault; want of memory is no fault of a text
abbrev pub CertFails : List ℕ → CertReadFault → Type 0
CertFails bytes NotHeader = NoHeader bytes
CertFails bytes (EndsEarly n) =
    (v : Version) × (count due : ℕ) × (nodes : List Node) × ReadsTo bytes v count nodes (suc due) [] × (n ≡ length nodes)
CertFails bytes (NotALine n) =
    (v : Version) × (count due : ℕ) × (nodes : List Node) × (rest : List ℕ) × ReadsTo bytes v count nodes (suc due) rest × (n ≡ length nodes)
    × (rest ≢ []) × NoLine v rest
CertFails bytes (BadNext n) =
    (count due : ℕ) × (nodes : List Node) × (node : Node) × (rest : List ℕ) × ReadsTo bytes numbered count nodes (suc due) (node_text numbered node ++ rest) × (n ≡ length nodes)
    × IsShortNode node × (list_all (is_later count) (named_by n (answers node)) ≡ false)
CertFails bytes (Unused n) =
    (v : Version) × (count : ℕ) × (nodes : List Node) × (rest : List ℕ) × ReadsTo bytes v count nodes 0 rest × (n ≡ length nodes)
    × (rest ≢ [])
CertFails bytes (NotReached n) =
    (count : ℕ) × (nodes : List Node) × ReadsTo bytes numbered count nodes 0 []
    × (1 ≤ n) × (n < count) × (is_named (links nodes) n ≡ false) × ((m : ℕ) → 1 ≤ m → m < n → is_named (links nodes) m ≡ true)
CertFails bytes (CountDiffers said found) =
    (nodes : List Node) × ReadsTo bytes ordered said nodes 0 [] × (found ≡ length nodes) × (said ≢ found)
CertFails bytes NoMemory = ⊥
