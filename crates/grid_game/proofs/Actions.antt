-- Legal moves: the side has their action, and its atoms fit.
use Rattle.std.proofs.Common.{◌≡◌, ◌<◌, true, length, inl, inr, sym, ap, ◌∙◌}
use Rattle.std.proofs.lemmas.Bool.{and_parts, cases_lt}
use Rattle.std.proofs.lemmas.Option.{slice_get-get_or, slice_get_past}
use Rattle.bddl_model.specs.declared.game.Move.{Move}
use Rattle.bddl_model.specs.declared.game.Side.{Side}
use Rattle.bddl_model.specs.Board.{Board}
use Rattle.bddl_model.specs.Fitting.{fits}
use Rattle.bddl_model.specs.Game.{Game, action_atoms, test_atoms, actions, action_at}
use Rattle.bddl_model.specs.Moves.{legal_with, legal, effects_of, written, after}
use Rattle.bddl_model.proofs.Anchors.{fits_second}

has_action : (g : Game) (board : Board) (side : Side) (m : Move) → legal g board side m ≡ true → m.action < length (actions g side)
has_action g board side m l = elim (cases_lt m.action (length (actions g side))) [
  | inl lt ↦ lt
  | inr past ↦ absurd (let none = ap (λ a. legal_with g board a m.x m.y) (slice_get_past (actions g side) m.action past) in cc)
]

action_fits : (g : Game) (board : Board) (side : Side) (m : Move) → legal g board side m ≡ true
    → fits g.width g.height (action_atoms (action_at g side m.action)) m.x m.y ≡ true
action_fits g board side m l =
    let by_number = ap (λ a. legal_with g board a m.x m.y) (slice_get-get_or (actions g side) m.action _ (has_action g board side m l)) in
    (and_parts _ _ (sym by_number ∙ l)).0

pub effects_fit : (g : Game) (board : Board) (side : Side) (m : Move) → legal g board side m ≡ true → fits g.width g.height (action_at g side m.action).effects m.x m.y ≡ true
effects_fit g board side m l =
    let a = action_at g side m.action in
    fits_second g.width g.height m.x m.y (test_atoms a.before) a.effects (action_fits g board side m l)

pub after_legal : (g : Game) (board : Board) (side : Side) (m : Move) → legal g board side m ≡ true → after g board side m ≡ written g m.x m.y (action_at g side m.action).effects board
after_legal g board side m l =
    ap (λ a. written g m.x m.y (effects_of a) board) (slice_get-get_or (actions g side) m.action _ (has_action g board side m l))
