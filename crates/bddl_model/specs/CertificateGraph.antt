-- Strategy certificates as graphs: which nodes a node names, and in what order nodes are numbered.
use Rattle.std.specs.Prelude.{ℕ, suc, ◌-◌, Bool, true, false, ◌&&◌, ◌==◌, nat_lt, nat_le, if◌then◌else◌, List, [], ◌∷◌, ◌++◌, map, length, Option, None, Some}
use Rattle.std.specs.List.{list_all, list_any, range_with_len}
use Rattle.bddl_model.specs.declared.game.Move.{Move}
use Rattle.bddl_model.specs.declared.certificate.Answered.{Answered}
use Rattle.bddl_model.specs.declared.certificate.Node.{Node}
use Rattle.bddl_model.specs.declared.certificate.Node.TheVariants.{Goal, Black, White}

-- ---- nodes as answers

-- the moves of a node, each with the node that follows
abbrev pub answers : Node → List Answered
answers Goal = []
answers (Black mv next) = record { mv = mv; next = next } ∷ []
answers (White replies) = replies

-- The answers of each node, in the order of the nodes. What is said of graphs is said of these, whosever strategy it is.
abbrev pub Links : Type 0
Links = List (List Answered)

abbrev pub links : List Node → Links
links nodes = map answers nodes

-- ---- namings

-- a node names another one, by a move
pub record Naming : Type 0 where
  pub from : ℕ
  pub mv : Move
  pub to : ℕ

abbrev pub naming_of : ℕ → Answered → Naming
naming_of n a = record { from = n; mv = a.mv; to = a.next.0 }

-- those of node n, by its answers
abbrev pub named_by : ℕ → List Answered → List Naming
named_by n all = map (naming_of n) all

-- in order of node and then of answer, these being the answers from node n on
abbrev pub namings_from : ℕ → Links → List Naming
namings_from n [] = []
namings_from n (all ∷ rest) = named_by n all ++ namings_from (suc n) rest

abbrev pub namings : Links → List Naming
namings ls = namings_from 0 ls

abbrev pub first_naming : ℕ → List Naming → Option Naming
first_naming m [] = None
first_naming m (w ∷ ws) = if w.to == m then Some w else first_naming m ws

-- ---- next numbers

-- the named node is later than the one that names it, and one of so many
abbrev pub is_later : ℕ → Naming → Bool
is_later count w = nat_lt w.from w.to && nat_lt w.to count

abbrev pub is_named : Links → ℕ → Bool
is_named ls m = list_any (λ w. w.to == m) (namings ls)

-- there is a node, next numbers are later and in the list, and every node but 0 is named
unfoldable pub linked : Links → Bool
linked ls = nat_lt 0 (length ls) && (list_all (is_later (length ls)) (namings ls) && list_all (is_named ls) (range_with_len 1 (length ls - 1)))

-- the nodes from number n on are, one after the other, the trees below these next numbers
abbrev pub preorder_from : ℕ → List ℕ → Links → Bool
preorder_from n [] [] = true
preorder_from n [] (all ∷ rest) = false
preorder_from n (due ∷ dues) [] = false
preorder_from n (due ∷ dues) (all ∷ rest) = due == n && preorder_from (suc n) (map (λ a. a.next.0) all ++ dues) rest

-- the nodes are one tree: each is followed by the trees of its answers
unfoldable pub preorder : Links → Bool
preorder ls = preorder_from 0 (0 ∷ []) ls

-- the nodes up to n being named, each naming is of a named node or of the next one
abbrev pub numbers_from : ℕ → List Naming → Bool
numbers_from n [] = true
numbers_from n (w ∷ ws) = if nat_le w.to n then numbers_from n ws else (w.to == suc n && numbers_from (suc n) ws)

-- the nodes are numbered by their first namings, in order of node and then of answer
unfoldable pub breadth_first : Links → Bool
breadth_first ls = numbers_from 0 (namings ls)
