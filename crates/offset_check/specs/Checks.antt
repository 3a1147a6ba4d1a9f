-- What a check answers, and a game with items of a side in the place of those that it had.
use Rattle.std.specs.Prelude.{◌≡◌, ◌≤◌, ◌⊎◌, All, List, length, Option, None, Some, Result, Ok, Err}
use Rattle.bddl_model.specs.declared.game.Side.{Side}
use Rattle.bddl_model.specs.declared.game.Side.TheVariants.{Black, White}
use Rattle.bddl_model.specs.declared.game.Test.{Test}
use Rattle.bddl_model.specs.declared.texts.ActionText.{ActionText}
use Rattle.bddl_model.specs.declared.check.CheckFault.{CheckFault}
use Rattle.bddl_model.specs.declared.check.CheckFault.TheVariants as fault
use Rattle.bddl_model.specs.Game.{Game, Action}

-- it passes where there is no fault, and else tells the fault, if memory suffices
abbrev pub Checks : {T : Type 0} → Option CheckFault → Result T CheckFault → Type 0
Checks wanted (Ok x) = wanted ≡ None
Checks wanted (Err f) = (f ≡ fault.NoMemory) ⊎ (wanted ≡ Some f)

abbrev pub with_actions : Game → Side → List Action → Game
with_actions g Black actions = record g { black_actions = actions }
with_actions g White actions = record g { white_actions = actions }

abbrev pub with_lines : Game → Side → List (List Test) → Game
with_lines g Black lines = record g { black_lines = lines }
with_lines g White lines = record g { white_lines = lines }

-- names of 1 to 32 bytes
abbrev pub AreNamed : List ActionText → Type 0
AreNamed actions = All (λ a. (1 ≤ length a.name) × (length a.name ≤ 32)) actions
