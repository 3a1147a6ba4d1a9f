-- The inputs of a game within the limits.
use Rattle.std.proofs.Common.{ℕ, zero, suc, ◌≤◌, ◌+◌, List, [], ◌∷◌, length, arith}
use Rattle.std.specs.Prelude.{All}
use Rattle.std.proofs.lemmas.List.Elements.{All-head, All-tail}
use Rattle.bddl_model.specs.declared.game.Side.{Side}
use Rattle.bddl_model.specs.declared.game.Side.TheVariants.{Black, White}
use Rattle.bddl_model.specs.declared.game.Test.{Test}
use Rattle.bddl_model.specs.Bits.{bits}
use Rattle.bddl_model.specs.Game.{Game, Action}
use Rattle.bddl_model.specs.Setup.{Setup}
use Rattle.bddl_model.specs.Limits.{IsAction, IsLine, IsGame}
use Rattle.bddl_model.specs.Layout.{Sizes, anchor_bits, code_bits, most_preconditions, most_tests, where_lines, sizes_of, plies_end}
use Rattle.bddl_model.specs.Size.{inputs_of}
use Rattle.bddl_model.proofs.Bits.{bits_most}
use Rattle.bddl_laws.proofs.GreatestSizes.{plies_most, anchor_within}

preconditions_within : (w h : ℕ) (actions : List Action) → All (IsAction w h) actions → most_preconditions actions ≤ 8
preconditions_within w h [] each = omega arith
preconditions_within w h (a ∷ more) each =
    let here = All-head (IsAction w h) a more each in
    let later = preconditions_within w h more (All-tail (IsAction w h) a more each) in
    omega (arith, here.before, later)

tests_within : (w h : ℕ) (lines : List (List Test)) → All (IsLine w h) lines → most_tests lines ≤ 16
tests_within w h [] each = omega arith
tests_within w h (l ∷ more) each =
    let here = All-head (IsLine w h) l more each in
    let later = tests_within w h more (All-tail (IsLine w h) l more each) in
    omega (arith, here.tests, later)

code_within : (g : Game) (actions : List Action) → anchor_bits g ≤ 12 → length actions ≤ 8 → code_bits g actions ≤ 15
code_within g [] anchor few = omega arith
code_within g (a ∷ more) anchor few = let action = bits_most (length (a ∷ more)) 3 few in omega (arith, anchor, action)

where_lines_within : (lines : List (List Test)) (n : ℕ) → where_lines lines n ≤ n
where_lines_within [] n = omega arith
where_lines_within (l ∷ ls) n = omega arith

plies_end_within : (z : Sizes) (n : ℕ) (first : Side) (v : ℕ) → z.black_code ≤ 15 → z.white_code ≤ 15 → plies_end z n first v ≤ v + plies_most first 15 30 n
plies_end_within z zero Black v black white = omega arith
plies_end_within z zero White v black white = omega arith
plies_end_within z (suc n) Black v black white = let later = plies_end_within z n White (v + z.black_code) black white in omega (arith, black, later)
plies_end_within z (suc n) White v black white = let later = plies_end_within z n Black (v + z.white_code + z.white_code) black white in omega (arith, white, later)

plies_end_at_most : (z : Sizes) (first : Side) (n : ℕ) → z.black_code ≤ 15 → z.white_code ≤ 15 → n ≤ 31 → plies_end z n first 1 ≤ 706
plies_end_at_most z Black n black white short = omega (arith, plies_end_within z n Black 1 black white)
plies_end_at_most z White n black white short = omega (arith, plies_end_within z n White 1 black white)

pub inputs_within : (s : Setup) → IsGame s.game → s.depth ≤ 31 → inputs_of s ≤ 775
inputs_within s is short =
    let anchor = anchor_within s.game is in
    let z = sizes_of s.game s.depth in
    let black = code_within s.game s.game.black_actions anchor is.black.few_actions in
    let white = code_within s.game s.game.white_actions anchor is.white.few_actions in
    let time = bits_most (s.depth + 1) 5 (omega arith) in
    let line = bits_most (length s.game.black_lines) 8 is.black.few_lines in
    let atom = bits_most (most_preconditions s.game.white_actions) 3 (preconditions_within s.game.width s.game.height s.game.white_actions is.white.each_action) in
    let white_line = bits_most (length s.game.white_lines) 8 is.white.few_lines in
    let white_anchor = where_lines_within s.game.white_lines (anchor_bits s.game) in
    let white_time = where_lines_within s.game.white_lines (bits (s.depth + 1)) in
    let refuting = bits_most (most_tests s.game.white_lines) 4 (tests_within s.game.width s.game.height s.game.white_lines is.white.each_line) in
    let plies = plies_end_at_most z s.first s.depth black white short in
    omega (arith, anchor, time, line, atom, white_line, white_anchor, white_time, refuting, plies, short)
