-- Certificates of small games, as the definitions compute them.
use Rattle.std.proofs.Common.{◌≡◌, ℕ, true, false, List, [], ◌∷◌, refl}
use Rattle.std.specs.Prelude.{replicate, codes, Some}
use Rattle.std.specs.Fmt.{digits}
use Rattle.bddl_model.specs.declared.game.Mark.TheVariants as marks
use Rattle.bddl_model.specs.declared.game.Side.TheVariants as side
use Rattle.bddl_model.specs.declared.game.Move.{Move}
use Rattle.bddl_model.specs.declared.certificate.Answered.{Answered}
use Rattle.bddl_model.specs.declared.certificate.Node.{Node}
use Rattle.bddl_model.specs.declared.certificate.Node.TheVariants.{Goal, Black, White}
use Rattle.bddl_model.specs.declared.certificate.CertFault.TheVariants as fault
use Rattle.bddl_model.specs.Setup.{Setup}
use Rattle.bddl_model.specs.CertificateGraph.{links, linked, preorder, breadth_first}
use Rattle.bddl_model.specs.Certificate.{place, cert_fault, valid}
use Rattle.bddl_model.specs.CertificateText.{ordered, numbered, cert_text}
use Rattle.bddl_model.proofs.Examples.{occupying, across, down}

abbrev mv : ℕ → ℕ → Move
mv x y = record { action = 0; x = x; y = y }

abbrev to : ℕ → ℕ → ℕ → Answered
to x y next = record { mv = mv x y; next = record { 0 = next } }

abbrev black : ℕ → ℕ → ℕ → Node
black x y next = Black (mv x y) (record { 0 = next })

-- two stones in a row or a column, within three plies
abbrev two_by_two : Setup
two_by_two = record { game = occupying 2 2 (across ∷ down ∷ []) []; board = replicate 4 marks.Free; first = side.Black; depth = 3 }

abbrev tree : List Node
tree = black 1 1 1 ∷ White (to 2 1 2 ∷ to 1 2 4 ∷ to 2 2 6 ∷ []) ∷ black 1 2 3 ∷ Goal ∷ black 2 1 5 ∷ Goal ∷ black 2 1 7 ∷ Goal ∷ []

abbrev shared : List Node
shared = black 1 1 1 ∷ White (to 2 1 2 ∷ to 1 2 3 ∷ to 2 2 4 ∷ []) ∷ black 1 2 5 ∷ black 2 1 6 ∷ black 2 1 7 ∷ Goal ∷ Goal ∷ Goal ∷ []

a_tree_wins_two_by_two : valid two_by_two tree ≡ true
unfolding valid linked cert_fault place
a_tree_wins_two_by_two = refl

the_tree_is_in_preorder : preorder (links tree) ≡ true
unfolding preorder
the_tree_is_in_preorder = refl

the_text_of_the_tree : cert_text ordered tree ≡ codes "bddlcert 1 8\nb 0 1 1\nw 3 0 2 1 0 1 2 0 2 2\nb 0 1 2\ng\nb 0 2 1\ng\nb 0 2 1\ng\n"
unfolding cert_text digits
the_text_of_the_tree = refl

the_same_nodes_numbered_breadth_first : valid two_by_two shared ≡ true
unfolding valid linked cert_fault place
the_same_nodes_numbered_breadth_first = refl

they_are_breadth_first : breadth_first (links shared) ≡ true
unfolding breadth_first
they_are_breadth_first = refl

the_tree_is_not : breadth_first (links tree) ≡ false
unfolding breadth_first
the_tree_is_not = refl

the_text_of_the_numbered_nodes : cert_text numbered shared ≡ codes "bddlcert 2 8\nb 0 1 1 1\nw 3 0 2 1 2 0 1 2 3 0 2 2 4\nb 0 1 2 5\nb 0 2 1 6\nb 0 2 1 7\ng\ng\ng\n"
unfolding cert_text digits
the_text_of_the_numbered_nodes = refl

the_third_reply_is_missing : cert_fault two_by_two (black 1 1 1 ∷ White (to 2 1 2 ∷ to 1 2 4 ∷ []) ∷ black 1 2 3 ∷ Goal ∷ black 2 1 5 ∷ Goal ∷ []) ≡ Some (fault.RepliesDiffer 1 2)
unfolding cert_fault place
the_third_reply_is_missing = refl

one_goal_for_two_boards : cert_fault two_by_two (black 1 1 1 ∷ White (to 2 1 2 ∷ to 1 2 3 ∷ to 2 2 4 ∷ []) ∷ black 1 2 5 ∷ black 2 1 5 ∷ black 2 1 6 ∷ Goal ∷ Goal ∷ []) ≡ Some (fault.TwoPlaces 5)
unfolding cert_fault place
one_goal_for_two_boards = refl

the_goal_stands_too_early : cert_fault two_by_two (Goal ∷ []) ≡ Some (fault.GoalDoesNotStand 0)
unfolding cert_fault place
the_goal_stands_too_early = refl

white_moves_for_black : cert_fault two_by_two (White (to 1 1 1 ∷ []) ∷ Goal ∷ []) ≡ Some (fault.WrongSide 0)
unfolding cert_fault place
white_moves_for_black = refl
