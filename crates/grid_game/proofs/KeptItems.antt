-- The items of a side keep to the limits, each with its rectangle, after one more of them.
use Rattle.std.proofs.Common.{◌≡◌, ℕ, ◌<◌, Bool, true, false, if◌then◌else◌, List, [], ◌∷◌, ◌++◌, length, length-append, sym, subst, arith}
use Rattle.std.proofs.lemmas.List.{map_push}
use Rattle.std.proofs.lemmas.List.Elements.{All-push}
use Rattle.bddl_model.specs.declared.game.Test.{Test}
use Rattle.bddl_model.specs.declared.game.Rect.{Rect}
use Rattle.bddl_model.specs.Game.{Action, action_atoms, line_atoms}
use Rattle.bddl_model.specs.Limits.{IsAction, IsLine, AreItems, IsGame}
use Rattle.bddl_model.specs.Rectangle.{IsRectOf}
use Rattle.grid_game.specs.declared.items.StoredAction.{StoredAction}
use Rattle.grid_game.specs.declared.items.StoredLine.{StoredLine}
use Rattle.grid_game.specs.declared.items.Items.{Items}
use Rattle.grid_game.specs.Stored.{action_of, actions_of, lines_of, KeepsRects, game_of}

pub record Kept (width height : ℕ) (items : Items) : Type 0 where
  pub limits : AreItems width height (actions_of items) (lines_of items)
  pub rects : KeepsRects width height items

-- ---- one side

same_kept : (width height : ℕ) (old new : Items) → Kept width height old → new.actions.items ≡ old.actions.items → new.lines.items ≡ old.lines.items → Kept width height new
same_kept width height old new kept actions lines = record {
  limits = rw (actions, lines) kept.limits;
  rects = record { actions = rw actions kept.rects.actions; lines = rw lines kept.rects.lines };
}

abbrev HasRect : ℕ → ℕ → StoredAction → Type 0
HasRect width height a = IsRectOf width height (action_atoms (action_of a)) a.rect

more_actions : (width height : ℕ) (old new : Items) (action : StoredAction) → Kept width height old
    → length (actions_of old) < 8 → IsAction width height (action_of action) → HasRect width height action
    → new.actions.items ≡ old.actions.items ++ action ∷ [] → new.lines.items ≡ old.lines.items → Kept width height new
more_actions width height old new action kept few is rect actions lines = record {
  limits = rw (actions, lines, map_push action_of old.actions.items action) (record {
    few_actions = omega (arith, length-append (actions_of old) (action_of action ∷ []));
    each_action = All-push (IsAction width height) (actions_of old) (action_of action) kept.limits.each_action is;
    few_lines = kept.limits.few_lines;
    each_line = kept.limits.each_line;
  });
  rects = record {
    actions = rw actions (All-push (HasRect width height) old.actions.items action kept.rects.actions rect);
    lines = rw lines kept.rects.lines;
  };
}

-- an action that is stored for the one that was given
pub action_kept : (width height : ℕ) (old new : Items) (stored : StoredAction) (given : Action) (rect : Rect) (added : Bool) → Kept width height old
    → length (actions_of old) < 8 → IsAction width height given → IsRectOf width height (action_atoms given) rect → action_of stored ≡ given → stored.rect ≡ rect
    → new.actions.items ≡ (if added then old.actions.items ++ stored ∷ [] else old.actions.items) → new.lines.items ≡ old.lines.items → Kept width height new
action_kept width height old new stored given rect false kept few is exact same same_rect actions lines = same_kept width height old new kept actions lines
action_kept width height old new stored given rect true kept few is exact same same_rect actions lines =
    more_actions width height old new stored kept few (rw same is) (subst (λ (a : Action). IsRectOf width height (action_atoms a) stored.rect) (sym same) (rw same_rect exact)) actions lines

abbrev tests_of : StoredLine → List Test
tests_of line = line.tests.items

more_lines : (width height : ℕ) (old new : Items) (line : StoredLine) → Kept width height old
    → length (lines_of old) < 256 → IsLine width height (tests_of line) → IsRectOf width height (line_atoms (tests_of line)) line.rect
    → new.lines.items ≡ old.lines.items ++ line ∷ [] → new.actions.items ≡ old.actions.items → Kept width height new
more_lines width height old new line kept few is rect lines actions = record {
  limits = rw (actions, lines, map_push tests_of old.lines.items line) (record {
    few_actions = kept.limits.few_actions;
    each_action = kept.limits.each_action;
    few_lines = omega (arith, length-append (lines_of old) (tests_of line ∷ []));
    each_line = All-push (IsLine width height) (lines_of old) (tests_of line) kept.limits.each_line is;
  });
  rects = record {
    actions = rw actions kept.rects.actions;
    lines = rw lines (All-push (λ (l : StoredLine). IsRectOf width height (line_atoms (tests_of l)) l.rect) old.lines.items line kept.rects.lines rect);
  };
}

-- a line that is stored for the one that was given
pub line_kept : (width height : ℕ) (old new : Items) (stored : StoredLine) (given : List Test) (rect : Rect) (added : Bool) → Kept width height old
    → length (lines_of old) < 256 → IsLine width height given → IsRectOf width height (line_atoms given) rect → tests_of stored ≡ given → stored.rect ≡ rect
    → new.lines.items ≡ (if added then old.lines.items ++ stored ∷ [] else old.lines.items) → new.actions.items ≡ old.actions.items → Kept width height new
line_kept width height old new stored given rect false kept few is exact same same_rect lines actions = same_kept width height old new kept actions lines
line_kept width height old new stored given rect true kept few is exact same same_rect lines actions =
    more_lines width height old new stored kept few (rw same is) (rw (same, same_rect) exact) lines actions

-- ---- both sides

abbrev pub GameKept : ℕ → ℕ → Items → Items → Type 0
GameKept width height black white = IsGame (game_of width height black white) × KeepsRects width height black × KeepsRects width height white

-- one of them gets an item more
pub black_grows : (width height : ℕ) (black white new : Items) → GameKept width height black white → (Kept width height black → Kept width height new) → GameKept width height new white
black_grows width height black white new kept more =
    let side = more (record { limits = kept.0.black; rects = kept.1 }) in
    (record { width = kept.0.width; height = kept.0.height; black = side.limits; white = kept.0.white }, side.rects, kept.2)

pub white_grows : (width height : ℕ) (black white new : Items) → GameKept width height black white → (Kept width height white → Kept width height new) → GameKept width height black new
white_grows width height black white new kept more =
    let side = more (record { limits = kept.0.white; rects = kept.2 }) in
    (record { width = kept.0.width; height = kept.0.height; black = kept.0.black; white = side.limits }, kept.1, side.rects)
