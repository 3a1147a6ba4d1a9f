-- The conditions, one part after the other, by the inputs of a layout, and the gates that their parts take.
use Rattle.std.specs.Prelude.{ℕ, ◌+◌, Bool, not, ◌&&◌, ◌||◌, nat_le, nat_lt, List, if◌then◌else◌}
use Rattle.std.specs.List.{sum_by}
use Rattle.bddl_model.specs.declared.game.Mark.{Mark}
use Rattle.bddl_model.specs.declared.game.PlyBits.{PlyBits}
use Rattle.bddl_model.specs.declared.game.Side.{Side}
use Rattle.bddl_model.specs.declared.game.Side.TheVariants.{Black, White}
use Rattle.bddl_model.specs.Truth.{Assignment}
use Rattle.bddl_model.specs.Conditions.{Cell, all_pass_at}
use Rattle.bddl_model.specs.Encoding.{line_tests, number_in, cell_in}
use Rattle.bddl_model.specs.Game.{Game}
use Rattle.bddl_model.specs.Layout.{Inputs}
use Rattle.lifted_encode.specs.declared.items.Items.TheVariants.{Lines}
use Rattle.lifted_encode.specs.Asking.{unrefuted, found_met}
use Rattle.lifted_encode.specs.Chosen.{items_of, item_parts}
use Rattle.lifted_encode.specs.Telling.{mark_below, plies_pass, one_refused, own_parts, refused_parts}

module _ (g : Game) (depth : ℕ) (l : Inputs) (a : Assignment) where
  -- Black's line stands at the place at this time, if it is within the depth; else where the board is empty
  abbrev pub goal_claimed : ℕ → Cell → (ℕ → Mark) → Bool
  goal_claimed time place marks = all_pass_at place (mark_below (depth + 1) marks time) (line_tests g Black (number_in a l.line) (cell_in g a l.anchor))

  -- the claim, whose time is given
  abbrev pub claim_holds : ℕ → Cell → (ℕ → Mark) → Bool
  claim_holds time place marks = if a l.kind.from then one_refused g a time place marks (number_in a l.atom) 0 l.plies else goal_claimed time place marks

  -- White's line is one whose anchor fits, and its test of the refuting number doesn't fail at the place at this time
  abbrev pub attack_stands : ℕ → Cell → (ℕ → Mark) → Bool
  attack_stands time place marks =
      found_met (unrefuted (number_in a l.refuting)) place (mark_below depth marks time) (line_tests g White (number_in a l.white_line) (cell_in g a l.white_anchor))

  -- it doesn't do so at its own time, or this one isn't before the claim's
  abbrev pub is_answered : ℕ → Cell → (ℕ → Mark) → Bool
  is_answered time place marks = not (attack_stands (number_in a l.white_time) place marks) || not (nat_lt (number_in a l.white_time) time)

  abbrev pub outcome_holds : ℕ → Cell → (ℕ → Mark) → Bool
  outcome_holds time place marks = claim_holds time place marks && is_answered time place marks

  abbrev pub conditions : Cell → (ℕ → Mark) → Bool
  conditions place marks = let time = number_in a l.time in
      (nat_le time depth && plies_pass g a time place marks 0 l.plies) && outcome_holds time place marks

-- ---- parts, each of which takes a unit of gates at most

abbrev pub line_parts : Game → Side → ℕ
line_parts g side = sum_by item_parts (items_of g (Lines side))

-- a moment is a part, and so is each test of a line and the choice of it
abbrev pub goal_parts : Game → ℕ → ℕ
goal_parts g depth = depth + 1 + line_parts g Black

abbrev pub claim_parts : Game → ℕ → List PlyBits → ℕ
claim_parts g depth plies = sum_by (refused_parts g) plies + goal_parts g depth

abbrev pub attack_parts : Game → ℕ → ℕ
attack_parts g depth = depth + line_parts g White

abbrev pub outcome_parts : Game → ℕ → List PlyBits → ℕ
outcome_parts g depth plies = claim_parts g depth plies + attack_parts g depth

-- one more joins them
abbrev pub condition_parts : Game → ℕ → List PlyBits → ℕ
condition_parts g depth plies = sum_by (own_parts g) plies + outcome_parts g depth plies + 1
