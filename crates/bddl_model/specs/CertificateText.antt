-- The two texts of a certificate: lines of words, the first one a header, with a line for each node.
use Rattle.std.specs.Prelude.{ℕ, ◌≡◌, ◌<◌, ◌^◌, Bool, true, List, [], ◌∷◌, ◌++◌, flat_map, length, codes, All}
use Rattle.std.specs.Fmt.{decimal}
use Rattle.bddl_model.specs.declared.game.Move.{Move}
use Rattle.bddl_model.specs.declared.certificate.Answered.{Answered}
use Rattle.bddl_model.specs.declared.certificate.Node.{Node}
use Rattle.bddl_model.specs.declared.certificate.Node.TheVariants.{Goal, Black, White}
use Rattle.bddl_model.specs.FormulaText.{line_text}
use Rattle.bddl_model.specs.CertificateGraph.{answers, Links, links, linked, preorder}

-- The nodes that follow a node: in version 1 the order of the lines tells them, in version 2 their numbers.
pub data Version : Type 0 where
  ordered : Version
  numbered : Version

abbrev pub version_number : Version → ℕ
version_number ordered = 1
version_number numbered = 2

-- ---- lines

abbrev pub header_line : Version → ℕ → List (List ℕ)
header_line v count = codes "bddlcert" ∷ decimal (version_number v) ∷ decimal count ∷ []

abbrev pub move_words : Move → List (List ℕ)
move_words m = decimal m.action ∷ decimal m.x ∷ decimal m.y ∷ []

abbrev pub answer_words : Version → Answered → List (List ℕ)
answer_words ordered a = move_words a.mv
answer_words numbered a = move_words a.mv ++ decimal a.next.0 ∷ []

abbrev pub node_line : Version → Node → List (List ℕ)
node_line v Goal = codes "g" ∷ []
node_line v (Black mv next) = codes "b" ∷ answer_words v (record { mv = mv; next = next })
node_line v (White replies) = codes "w" ∷ decimal (length replies) ∷ flat_map (answer_words v) replies

-- ---- texts

abbrev pub header_text : Version → ℕ → List ℕ
header_text v count = line_text (header_line v count)

abbrev pub node_text : Version → Node → List ℕ
node_text v node = line_text (node_line v node)

abbrev pub nodes_text : Version → List Node → List ℕ
nodes_text v nodes = flat_map (node_text v) nodes

unfoldable pub cert_text : Version → List Node → List ℕ
cert_text v nodes = header_text v (length nodes) ++ nodes_text v nodes

-- the one that is written
abbrev pub ctext : List Node → List ℕ
ctext nodes = cert_text numbered nodes

-- ---- what a text keeps to

-- the numbers of an answer: nine digits, and 64 bits for a node
pub record IsShort (a : Answered) : Type 0 where
  pub action : a.mv.action < 1000000000
  pub x : a.mv.x < 1000000000
  pub y : a.mv.y < 1000000000
  pub next : a.next.0 < 2 ^ 64

pub record IsShortNode (node : Node) : Type 0 where
  pub few : length (answers node) < 1000000000
  pub short : All IsShort (answers node)

-- next numbers are as the version tells them
abbrev pub suits : Version → Links → Bool
suits ordered ls = preorder ls
suits numbered ls = linked ls

-- the bytes are a text of these nodes
pub record CertText (bytes : List ℕ) (nodes : List Node) : Type 0 where
  pub version : Version
  pub written : bytes ≡ cert_text version nodes
  pub suits : suits version (links nodes) ≡ true
  pub short : All IsShortNode nodes
  pub count : length nodes < 2 ^ 64
