-- Small games and formulas, as the definitions compute them.
use Rattle.std.proofs.Common.{◌≡◌, ℕ, true, false, List, [], ◌∷◌, ◌++◌, refl}
use Rattle.std.specs.Prelude.{ℤ, pos, negsuc, replicate, codes, map, Some, None}
use Rattle.std.specs.Fmt.{digits}
use Rattle.bddl_model.specs.declared.formula.Lit.{Lit}
use Rattle.bddl_model.specs.declared.formula.Quant.{Quant}
use Rattle.bddl_model.specs.declared.formula.Quant.TheVariants.{Exists, All}
use Rattle.bddl_model.specs.declared.formula.Bound.{Bound}
use Rattle.bddl_model.specs.declared.game.Mark.{Mark}
use Rattle.bddl_model.specs.declared.game.Mark.TheVariants as marks
use Rattle.bddl_model.specs.declared.game.Side.TheVariants.{Black, White}
use Rattle.bddl_model.specs.declared.game.Term.TheVariants.{Rel, Abs}
use Rattle.bddl_model.specs.declared.game.Atom.{Atom}
use Rattle.bddl_model.specs.declared.game.Test.{Test}
use Rattle.bddl_model.specs.declared.game.Move.{Move}
use Rattle.bddl_model.specs.Truth.{form_value}
use Rattle.bddl_model.specs.FormulaText.{qtext}
use Rattle.bddl_model.specs.Game.{Action, Game}
use Rattle.bddl_model.specs.Board.{Board}
use Rattle.bddl_model.specs.Rectangle.{rect_of}
use Rattle.bddl_model.specs.Moves.{legal, moves}
use Rattle.bddl_model.specs.Conditions.{Cell}
use Rattle.bddl_model.specs.OneCell.{rewritten, stepped}
use Rattle.bddl_model.specs.Goal.{goal}
use Rattle.bddl_model.specs.Win.{win}
use Rattle.bddl_model.specs.Bits.{bits}
use Rattle.bddl_model.specs.Layout.{layout, block, blocks, prefix_of, bounds, span}
use Rattle.bddl_model.specs.Codes.{code, spelled_move, in_range}
use Rattle.bddl_model.specs.Prenex.{merged}
use Rattle.bddl_model.specs.FormulaWords.{words_of, last_line, token_of, number, other, quantifier}
use Rattle.bddl_model.specs.Qdimacs.{form_of}
use Rattle.bddl_model.specs.Circuit.{Circuit, circuit_clauses}
use Rattle.bddl_model.specs.declared.texts.TermText.TheVariants as text
use Rattle.bddl_model.specs.declared.texts.AtomText.{AtomText}
use Rattle.bddl_model.specs.declared.texts.TestText.{TestText}
use Rattle.bddl_model.specs.declared.texts.ActionText.{ActionText}
use Rattle.bddl_model.specs.declared.texts.InitAtom.{InitAtom}
use Rattle.bddl_model.specs.declared.texts.DomainText.{DomainText}
use Rattle.bddl_model.specs.declared.texts.ProblemText.{ProblemText}
use Rattle.bddl_model.specs.declared.check.Axis.TheVariants.{Width, Height}
use Rattle.bddl_model.specs.declared.check.CheckFault.TheVariants as fault
use Rattle.bddl_model.specs.declared.check.Item.TheVariants as item
use Rattle.bddl_model.specs.declared.check.Part.TheVariants as part
use Rattle.bddl_model.specs.Check.{setup_fault}
use Rattle.bddl_model.specs.Request.{number_in_word, numbers_in_words}

-- ---- formulas

abbrev bound : Quant → ℕ → Bound
bound q v = record { quant = q; var = record { 0 = v } }

abbrev plus : ℕ → Lit
plus v = record { var = record { 0 = v }; negated = false }

abbrev minus : ℕ → Lit
minus v = record { var = record { 0 = v }; negated = true }

abbrev same_values : List (List Lit)
same_values = (plus 1 ∷ minus 2 ∷ []) ∷ (minus 1 ∷ plus 2 ∷ []) ∷ []

an_inner_variable_may_follow_an_outer_one : form_value (record { prefix = bound All 1 ∷ bound Exists 2 ∷ []; clauses = same_values }) ≡ true
an_inner_variable_may_follow_an_outer_one = refl

an_outer_variable_may_not_follow_an_inner_one : form_value (record { prefix = bound Exists 2 ∷ bound All 1 ∷ []; clauses = same_values }) ≡ false
an_outer_variable_may_not_follow_an_inner_one = refl

the_text_of_a_formula : qtext (record { prefix = bound All 1 ∷ bound Exists 2 ∷ bound Exists 3 ∷ []; clauses = same_values }) ≡ codes "p cnf 3 2\na 1 0\ne 2 3 0\n1 -2 0\n-1 2 0\n"
unfolding digits
the_text_of_a_formula = refl

the_text_of_no_formula : qtext (record { prefix = []; clauses = [] ∷ [] }) ≡ codes "p cnf 0 1\n0\n"
unfolding digits
the_text_of_no_formula = refl

-- ---- games

abbrev shifted : Mark → ℤ → ℤ → Atom
shifted m x y = record { mark = m; x = Rel x; y = Rel y }

abbrev is : Atom → Test
is a = record { atom = a; negated = false }

abbrev is_not : Atom → Test
is_not a = record { atom = a; negated = true }

abbrev here : Mark → Atom
here m = shifted m (pos 0) (pos 0)

abbrev near : Mark → ℕ → ℕ → Test
near m x y = is (shifted m (pos x) (pos y))

abbrev fixed : Mark → ℕ → ℕ → Test
fixed m x y = is (record { mark = m; x = Abs x; y = Abs y })

abbrev pub occupy : Mark → Action
occupy m = record { name = codes "occupy"; before = is (here marks.Free) ∷ []; effects = here m ∷ [] }

abbrev pub occupying : ℕ → ℕ → List (List Test) → List (List Test) → Game
occupying w h black white = record { width = w; height = h; black_actions = occupy marks.Black ∷ []; white_actions = occupy marks.White ∷ []; black_lines = black; white_lines = white }

abbrev without_actions : ℕ → ℕ → List (List Test) → List (List Test) → Game
without_actions w h black white = record { width = w; height = h; black_actions = []; white_actions = []; black_lines = black; white_lines = white }

abbrev pub across : List Test
across = near marks.Black 0 0 ∷ near marks.Black 1 0 ∷ []

abbrev pub down : List Test
down = near marks.Black 0 0 ∷ near marks.Black 0 1 ∷ []

a_black_stone_stands : win (without_actions 1 1 ((fixed marks.Black 1 1 ∷ []) ∷ []) []) Black (marks.Black ∷ []) 0 ≡ true
a_black_stone_stands = refl

no_stone_stands : win (without_actions 1 1 ((fixed marks.Black 1 1 ∷ []) ∷ []) []) Black (marks.Free ∷ []) 0 ≡ false
no_stone_stands = refl

one_ply_makes_no_pair : win (occupying 2 2 (across ∷ down ∷ []) []) Black (replicate 4 marks.Free) 1 ≡ false
one_ply_makes_no_pair = refl

white_can_stop_only_one_of_two_lines : win (occupying 2 2 (across ∷ down ∷ []) []) Black (replicate 4 marks.Free) 3 ≡ true
white_can_stop_only_one_of_two_lines = refl

the_second_stone_is_missing : win (occupying 2 2 (across ∷ down ∷ []) []) Black (replicate 4 marks.Free) 2 ≡ false
the_second_stone_is_missing = refl

the_plies_outrun_the_board : win (occupying 2 1 (across ∷ []) []) Black (replicate 2 marks.Free) 3 ≡ false
the_plies_outrun_the_board = refl

white_is_stuck : win (occupying 1 1 ((fixed marks.White 1 1 ∷ []) ∷ []) []) Black (replicate 1 marks.Free) 2 ≡ false
white_is_stuck = refl

white_must_complete_the_line : win (occupying 2 1 ((fixed marks.White 2 1 ∷ []) ∷ []) []) Black (replicate 2 marks.Free) 2 ≡ true
white_must_complete_the_line = refl

both_goals_at_once_are_blacks : win (without_actions 2 1 ((fixed marks.Black 1 1 ∷ []) ∷ []) ((fixed marks.White 2 1 ∷ []) ∷ [])) Black (marks.Black ∷ marks.White ∷ []) 0 ≡ true
both_goals_at_once_are_blacks = refl

whites_goal_stood_before : win (without_actions 1 1 ((fixed marks.Black 1 1 ∷ []) ∷ []) ((fixed marks.White 1 1 ∷ []) ∷ [])) Black (marks.White ∷ []) 31 ≡ false
whites_goal_stood_before = refl

the_later_effect_wins : win (record { width = 1; height = 1; black_actions = record { name = codes "a"; before = is (here marks.Free) ∷ []; effects = here marks.Black ∷ here marks.White ∷ [] } ∷ []; white_actions = []; black_lines = (fixed marks.White 1 1 ∷ []) ∷ []; white_lines = [] }) Black (marks.Free ∷ []) 1 ≡ true
the_later_effect_wins = refl

-- ---- negated tests, and games that White begins

no_white_stone_stands : map (λ m. goal (without_actions 1 1 ((is_not (here marks.White) ∷ []) ∷ []) []) (m ∷ []) Black) (marks.Free ∷ marks.Black ∷ marks.White ∷ []) ≡ true ∷ true ∷ false ∷ []
no_white_stone_stands = refl

-- a stone is dropped on one that lies below, or on the last row
abbrev dropping : Game
dropping = record {
  width = 2;
  height = 2;
  black_actions = record { name = codes "stack"; before = is (here marks.Free) ∷ is_not (shifted marks.Free (pos 0) (pos 1)) ∷ []; effects = here marks.Black ∷ [] } ∷ record { name = codes "ground"; before = is (record { mark = marks.Free; x = Rel (pos 0); y = Abs 2 }) ∷ []; effects = record { mark = marks.Black; x = Rel (pos 0); y = Abs 2 } ∷ [] } ∷ [];
  white_actions = [];
  black_lines = [];
  white_lines = [];
}

a_stone_is_stacked_on_either_colour : map (λ m. legal dropping (marks.Free ∷ marks.Free ∷ marks.Free ∷ m ∷ []) Black (record { action = 0; x = 2; y = 1 })) (marks.Free ∷ marks.Black ∷ marks.White ∷ []) ≡ false ∷ true ∷ true ∷ []
a_stone_is_stacked_on_either_colour = refl

white_begins_and_black_answers : win (occupying 2 1 ((near marks.Black 0 0 ∷ []) ∷ []) []) White (replicate 2 marks.Free) 2 ≡ true
white_begins_and_black_answers = refl

white_begins_and_no_ply_is_left : win (occupying 2 1 ((near marks.Black 0 0 ∷ []) ∷ []) []) White (replicate 2 marks.Free) 1 ≡ false
white_begins_and_no_ply_is_left = refl

white_takes_the_only_cell : win (occupying 1 1 ((near marks.Black 0 0 ∷ []) ∷ []) []) White (replicate 1 marks.Free) 2 ≡ false
white_takes_the_only_cell = refl

-- ---- moves

the_open_cells_in_order : moves (occupying 2 2 [] []) (marks.White ∷ marks.Free ∷ marks.Free ∷ marks.Free ∷ []) Black
    ≡ record { action = 0; x = 2; y = 1 } ∷ record { action = 0; x = 1; y = 2 } ∷ record { action = 0; x = 2; y = 2 } ∷ []
the_open_cells_in_order = refl

anchors_of_two_atoms : rect_of 3 2 (shifted marks.Black (pos 1) (pos 0) ∷ record { mark = marks.White; x = Rel (negsuc 0); y = Abs 1 } ∷ []) ≡ Some (record { x_low = 2; x_high = 2; y_low = 1; y_high = 2 })
unfolding rect_of
anchors_of_two_atoms = refl

the_first_column_leads_to_the_last : rect_of 64 64 (shifted marks.Black (pos 63) (pos 0) ∷ []) ≡ Some (record { x_low = 1; x_high = 1; y_low = 1; y_high = 64 })
unfolding rect_of
the_first_column_leads_to_the_last = refl

no_column_leads_past_the_last : rect_of 64 64 (shifted marks.Black (pos 64) (pos 0) ∷ []) ≡ None
unfolding rect_of
no_column_leads_past_the_last = refl

-- a stone of one mark goes from the anchor to a cell of another mark
abbrev going : List ℕ → Mark → Mark → ℤ → ℤ → Action
going name mine from x y = record { name = name; before = is (here mine) ∷ is (shifted from x y) ∷ []; effects = here marks.Free ∷ shifted mine x y ∷ [] }

abbrev breakthrough : Game
breakthrough = record {
  width = 2;
  height = 4;
  black_actions = going (codes "forward") marks.Black marks.Free (pos 0) (pos 1) ∷ going (codes "right") marks.Black marks.White (pos 1) (pos 1) ∷ going (codes "left") marks.Black marks.White (negsuc 0) (pos 1) ∷ [];
  white_actions = going (codes "forward") marks.White marks.Free (pos 0) (negsuc 0) ∷ [];
  black_lines = (is (record { mark = marks.Black; x = Rel (pos 0); y = Abs 4 }) ∷ []) ∷ [];
  white_lines = (is (record { mark = marks.White; x = Rel (pos 0); y = Abs 1 }) ∷ []) ∷ [];
}

black_breaks_through : win breakthrough Black (marks.Free ∷ marks.Free ∷ marks.Free ∷ marks.White ∷ marks.Black ∷ marks.Free ∷ marks.Free ∷ marks.Free ∷ []) 1 ≡ true
black_breaks_through = refl

no_stone_goes_past_the_last_row : (board : Board) → legal breakthrough board Black (record { action = 0; x = 1; y = 4 }) ≡ false
no_stone_goes_past_the_last_row board = refl

-- ---- bits and inputs

bits_of_small_numbers : bits 0 ∷ bits 1 ∷ bits 2 ∷ bits 3 ∷ bits 4 ∷ bits 5 ∷ bits 16 ∷ bits 17 ∷ bits 64 ∷ [] ≡ 0 ∷ 0 ∷ 1 ∷ 2 ∷ 2 ∷ 3 ∷ 4 ∷ 5 ∷ 6 ∷ []
unfolding bits
bits_of_small_numbers = refl

inputs_of_three_plies_on_two_by_two : prefix_of (blocks (layout (occupying 2 2 (across ∷ down ∷ []) []) Black 3)) ≡ bounds Exists 1 4 ++ bounds All 5 2 ++ bounds Exists 7 8 ++ bounds All 15 2
unfolding bits
inputs_of_three_plies_on_two_by_two = refl

-- four lines of five atoms
abbrev five : Mark → List (List Test)
five m = replicate 4 (replicate 5 (near m 0 0))

inputs_of_five_plies_on_fifteen_by_fifteen : prefix_of (blocks (layout (occupying 15 15 (five marks.Black) (five marks.White)) Black 5))
    ≡ bounds Exists 1 16 ++ bounds All 17 8 ++ bounds Exists 25 16 ++ bounds All 41 8 ++ bounds Exists 49 22 ++ bounds All 71 13 ++ bounds Exists 84 3 ++ bounds All 87 8
unfolding bits
inputs_of_five_plies_on_fifteen_by_fifteen = refl

inputs_of_a_start_board : prefix_of (blocks (layout (without_actions 16 3 [] []) Black 0)) ≡ bounds Exists 1 7 ++ bounds All 8 6
unfolding bits
inputs_of_a_start_board = refl

inputs_of_two_plies_that_white_begins : prefix_of (blocks (layout (occupying 2 1 ((near marks.Black 0 0 ∷ []) ∷ []) []) White 2)) ≡ bounds Exists 1 1 ++ bounds All 2 1 ++ bounds Exists 3 5 ++ bounds All 8 1
unfolding bits
inputs_of_two_plies_that_white_begins = refl

inputs_of_one_cell : (layout (without_actions 1 1 [] []) Black 0).inputs ≡ 1
unfolding bits
inputs_of_one_cell = refl

-- ---- moves as bits

-- three actions on five columns and two rows: two bits, three and one
code_of_the_last_action : code (record { actions = 3; width = 5; height = 2 }) (record { action = 2; x = 4; y = 2 }) ≡ false ∷ true ∷ true ∷ true ∷ false ∷ true ∷ []
unfolding bits
code_of_the_last_action = refl

move_of_all_bits : spelled_move (record { actions = 3; width = 5; height = 2 }) (replicate 6 true) ≡ record { action = 3; x = 8; y = 2 }
unfolding bits
move_of_all_bits = refl

moves_in_range_on_two_by_three : map (λ m. in_range (occupying 2 3 [] []) Black m) (record { action = 0; x = 2; y = 3 } ∷ record { action = 1; x = 1; y = 1 } ∷ record { action = 0; x = 3; y = 1 } ∷ []) ≡ true ∷ false ∷ false ∷ []
moves_in_range_on_two_by_three = refl

-- ---- blocks

-- the sample of the first ply of White joins the code of Black's before it; its code has no neighbour of its quantifier
merged_blocks_of_three_plies : merged (blocks (layout (occupying 2 2 (across ∷ down ∷ []) []) Black 3)) ≡ block Exists (span 1 4) ∷ block All (span 5 2) ∷ block Exists (span 7 8) ∷ block All (span 15 2) ∷ []
unfolding bits
merged_blocks_of_three_plies = refl

blocks_without_variables : merged (block All (span 1 0) ∷ block Exists (span 1 2) ∷ block All (span 3 0) ∷ block Exists (span 3 1) ∷ block All (span 4 0) ∷ []) ≡ block Exists (span 1 3) ∷ []
blocks_without_variables = refl

-- ---- texts of formulas

-- a comment line, a word that is cut off by a tab, and an empty last line
words_and_their_lines : words_of (codes "c p cnf\np\tcnf 1\r\n  c\n 2") ≡ record { line = 2; text = codes "p" } ∷ record { line = 2; text = codes "cnf" } ∷ record { line = 2; text = codes "1" } ∷ record { line = 4; text = codes "2" } ∷ []
words_and_their_lines = refl

line_feeds_make_lines : last_line (codes "") ∷ last_line (codes "p\n") ∷ last_line (codes "\n\np") ∷ [] ≡ 1 ∷ 2 ∷ 3 ∷ []
line_feeds_make_lines = refl

numbers_and_other_words : map token_of (codes "012" ∷ codes "-7" ∷ codes "-0" ∷ codes "+1" ∷ codes "1234567890" ∷ codes "e" ∷ []) ≡ number false 12 ∷ number true 7 ∷ other ∷ other ∷ other ∷ quantifier Exists ∷ []
numbers_and_other_words = refl

-- a doubled literal goes, and a clause that is always true goes; a variable that no set binds exists
the_form_of_a_text : form_of (record { variables = 3; said = 2; sets = record { quant = All; vars = 1 ∷ 3 ∷ [] } ∷ []; clauses = (plus 1 ∷ minus 2 ∷ plus 1 ∷ []) ∷ (minus 3 ∷ plus 3 ∷ []) ∷ [] }) ≡ record { prefix = bound Exists 2 ∷ bound All 1 ∷ bound All 3 ∷ []; clauses = (plus 1 ∷ minus 2 ∷ []) ∷ [] }
the_form_of_a_text = refl

-- ---- circuits

-- the first of two inputs, and not the second
abbrev one_gate : Circuit
one_gate = record { inputs = 2; gates = record { left = record { node = record { 0 = 1 }; negated = false }; right = record { node = record { 0 = 2 }; negated = true } } ∷ [] }

the_clauses_of_a_gate : circuit_clauses one_gate (record { node = record { 0 = 3 }; negated = false }) ≡ (plus 3 ∷ []) ∷ (minus 4 ∷ plus 1 ∷ []) ∷ (minus 4 ∷ minus 2 ∷ []) ∷ (plus 4 ∷ minus 1 ∷ plus 2 ∷ []) ∷ (plus 4 ∷ []) ∷ []
the_clauses_of_a_gate = refl

-- ---- what is wrong with a game

abbrev right : ℕ → Mark → AtomText
right n m = record { mark = m; x = text.Shift (pos n); y = text.Shift (pos 0) }

abbrev asked : AtomText → TestText
asked a = record { atom = a; negated = false }

abbrev refused : AtomText → TestText
refused a = record { atom = a; negated = true }

abbrev column : ℕ → Mark → AtomText
column n m = record { mark = m; x = text.Number n; y = text.Shift (pos 0) }

abbrev acting : List ℕ → List TestText → List AtomText → ActionText
acting name before effects = record { name = name; before = before; effects = effects }

abbrev put : List ℕ → ActionText
put name = acting name [] (right 0 marks.Black ∷ [])

abbrev blacks : List ActionText → DomainText
blacks actions = record { black = actions; white = [] }

abbrev of_size : ℕ → ℕ → ProblemText
of_size w h = record { width = w; height = h; init = []; depth = 0; first = Black; black = []; white = [] }

abbrev marking : Mark → ℕ → ℕ → InitAtom
marking m x y = record { mark = m; x = x; y = y }

a_board_of_one_cell_has_no_fault : setup_fault (blacks []) (of_size 1 1) ≡ None
unfolding setup_fault
a_board_of_one_cell_has_no_fault = refl

the_greatest_board_has_no_fault : setup_fault (blacks []) (of_size 64 64) ≡ None
unfolding setup_fault
the_greatest_board_has_no_fault = refl

sixty_five_columns : setup_fault (blacks []) (of_size 65 1) ≡ Some (fault.SizeOutOfRange Width 65)
unfolding setup_fault
sixty_five_columns = refl

no_rows : setup_fault (blacks []) (of_size 64 0) ≡ Some (fault.SizeOutOfRange Height 0)
unfolding setup_fault
no_rows = refl

thirty_two_plies : setup_fault (blacks []) (record (of_size 1 1) { depth = 32 }) ≡ Some (fault.DepthOutOfRange 32)
unfolding setup_fault
thirty_two_plies = refl

-- also where it is marked as open
a_cell_twice : setup_fault (blacks []) (record (of_size 1 1) { init = marking marks.Black 1 1 ∷ marking marks.Free 1 1 ∷ [] }) ≡ Some (fault.CellTwice (item.Init 2) 1 1)
unfolding setup_fault
a_cell_twice = refl

nine_actions : setup_fault (blacks (replicate 9 (put (codes "a")))) (of_size 1 1) ≡ Some (fault.TooManyActions Black 9)
unfolding setup_fault
nine_actions = refl

two_actions_of_one_name : setup_fault (blacks (put (codes "a") ∷ put (codes "b") ∷ put (codes "b") ∷ [])) (of_size 1 1) ≡ Some (fault.SameName (item.Action Black 3) 2)
unfolding setup_fault
two_actions_of_one_name = refl

-- each side has its own names
the_other_side_may_use_a_name : setup_fault (record { black = put (codes "a") ∷ []; white = put (codes "a") ∷ [] }) (of_size 1 1) ≡ None
unfolding setup_fault
the_other_side_may_use_a_name = refl

preconditions_come_before_effects : setup_fault (blacks (acting (codes "a") (asked (column 3 marks.Free) ∷ []) (column 4 marks.Black ∷ []) ∷ [])) (of_size 2 1) ≡ Some (fault.NumberOffBoard (item.Action Black 1) 3)
unfolding setup_fault
preconditions_come_before_effects = refl

an_effect_past_each_column : setup_fault (blacks (acting (codes "a") [] (right 16 marks.Black ∷ []) ∷ [])) (of_size 16 16) ≡ Some (fault.NeverOnBoard (item.Action Black 1))
unfolding setup_fault
an_effect_past_each_column = refl

an_effect_in_the_last_column : setup_fault (blacks (acting (codes "a") [] (right 63 marks.Black ∷ []) ∷ [])) (of_size 64 64) ≡ None
unfolding setup_fault
an_effect_in_the_last_column = refl

five_effects : setup_fault (blacks (acting (codes "a") [] (replicate 5 (right 0 marks.Black)) ∷ [])) (of_size 1 1) ≡ Some (fault.TooManyAtoms (item.Action Black 1) part.Effects 5)
unfolding setup_fault
five_effects = refl

-- the depth comes before the cells, and White's lines come last
the_first_of_three_faults : setup_fault (blacks []) (record { width = 1; height = 1; init = marking marks.Black 2 1 ∷ []; depth = 32; first = White; black = []; white = (asked (column 2 marks.White) ∷ []) ∷ [] }) ≡ Some (fault.DepthOutOfRange 32)
unfolding setup_fault
the_first_of_three_faults = refl

cells_come_before_lines : setup_fault (blacks []) (record { width = 1; height = 1; init = marking marks.Black 2 1 ∷ []; depth = 31; first = White; black = []; white = (asked (column 2 marks.White) ∷ []) ∷ [] }) ≡ Some (fault.NumberOffBoard (item.Init 1) 2)
unfolding setup_fault
cells_come_before_lines = refl

a_negated_test_has_to_fit_too : setup_fault (blacks []) (record (of_size 1 1) { black = (refused (right 1 marks.Black) ∷ []) ∷ [] }) ≡ Some (fault.NeverOnBoard (item.Line Black 1))
unfolding setup_fault
a_negated_test_has_to_fit_too = refl

seventeen_tests_in_a_line : setup_fault (blacks []) (record (of_size 1 1) { white = (replicate 8 (asked (right 0 marks.Black)) ++ replicate 9 (refused (right 0 marks.Black))) ∷ [] }) ≡ Some (fault.TooManyAtoms (item.Line White 1) part.Line 17)
unfolding setup_fault
seventeen_tests_in_a_line = refl

a_line_off_the_board : setup_fault (blacks []) (record { width = 1; height = 1; init = []; depth = 31; first = Black; black = (asked (right 0 marks.Black) ∷ []) ∷ []; white = [] ∷ (refused (column 2 marks.White) ∷ []) ∷ [] }) ≡ Some (fault.NumberOffBoard (item.Line White 2) 2)
unfolding setup_fault
a_line_off_the_board = refl

many_lines : setup_fault (blacks []) (record { width = 1; height = 1; init = []; depth = 0; first = Black; black = []; white = replicate 257 [] }) ≡ Some (fault.TooManyLines White 257)
unfolding setup_fault
many_lines = refl

-- ---- one cell

abbrev cell : ℕ → ℕ → Cell
cell x y = record { x = x; y = y }

-- a stone of Black goes to the next column
abbrev sliding : List Atom
sliding = here marks.Free ∷ shifted marks.Black (pos 1) (pos 0) ∷ []

a_slide_leaves_its_cell_open : rewritten sliding (cell 1 2) (cell 1 2) marks.Black ≡ marks.Free
a_slide_leaves_its_cell_open = refl

a_slide_takes_the_next_cell : rewritten sliding (cell 1 2) (cell 2 2) marks.White ≡ marks.Black
a_slide_takes_the_next_cell = refl

a_slide_keeps_other_cells : map (λ place. rewritten sliding (cell 1 2) place marks.White) (cell 1 1 ∷ cell 2 1 ∷ cell 3 2 ∷ []) ≡ marks.White ∷ marks.White ∷ marks.White ∷ []
a_slide_keeps_other_cells = refl

-- on a board of two columns the place is off the board
a_slide_reaches_over_the_edge : rewritten sliding (cell 2 2) (cell 3 2) marks.Free ≡ marks.Black
a_slide_reaches_over_the_edge = refl

the_later_of_two_effects_stays : rewritten (here marks.Black ∷ here marks.White ∷ []) (cell 1 1) (cell 1 1) marks.Free ≡ marks.White
the_later_of_two_effects_stays = refl

abbrev occupied_at : ℕ → ℕ → Move
occupied_at action x = record { action = action; x = x; y = 1 }

a_move_marks_its_cell : stepped (occupying 2 2 [] []) White (occupied_at 0 2) (cell 2 1) marks.Free ≡ marks.White
a_move_marks_its_cell = refl

a_move_keeps_the_other_cells : map (λ place. stepped (occupying 2 2 [] []) White (occupied_at 0 2) place marks.Free) (cell 1 1 ∷ cell 1 2 ∷ cell 2 2 ∷ []) ≡ marks.Free ∷ marks.Free ∷ marks.Free ∷ []
a_move_keeps_the_other_cells = refl

a_move_of_no_action_keeps_all : stepped (occupying 2 2 [] []) Black (occupied_at 1 2) (cell 2 1) marks.Free ≡ marks.Free
a_move_of_no_action_keeps_all = refl

-- ---- numbers among the words of a command line

the_greatest_number_has_64_bits : number_in_word (codes "18446744073709551615") ≡ Some 18446744073709551615
unfolding digits
the_greatest_number_has_64_bits = refl

a_greater_number_is_none : number_in_word (codes "18446744073709551616") ≡ None
unfolding digits
a_greater_number_is_none = refl

zero_is_a_number : number_in_word (codes "0") ≡ Some 0
unfolding digits
zero_is_a_number = refl

no_digits_are_no_number : number_in_word [] ≡ None
unfolding digits
no_digits_are_no_number = refl

a_zero_before_a_digit_is_no_number : number_in_word (codes "07") ≡ None
unfolding digits
a_zero_before_a_digit_is_no_number = refl

a_sign_is_no_number : number_in_word (codes "+7") ≡ None
a_sign_is_no_number = refl

a_space_is_no_number : number_in_word (codes "7 ") ≡ None
a_space_is_no_number = refl

numbers_keep_their_order : numbers_in_words (codes "3" ∷ codes "10" ∷ []) ≡ Some (3 ∷ 10 ∷ [])
unfolding digits
numbers_keep_their_order = refl

one_other_word_leaves_no_numbers : numbers_in_words (codes "3" ∷ codes "01" ∷ []) ≡ None
unfolding digits
one_other_word_leaves_no_numbers = refl
