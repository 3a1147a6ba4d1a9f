-- Inputs that stand one after the other, and how many bits their parts have at most.
use Rattle.std.specs.Prelude.{◌≡◌, ◌+◌, ◌-◌, ◌≤◌}
use Rattle.bddl_model.specs.Layout.{Sizes, Inputs, end, plies_blocks}
use Rattle.bddl_model.specs.Prenex.{Cover}

-- the plies bind the inputs before the claim, and each other part begins where the one before it ends
pub record IsLaidOut (l : Inputs) : Type 0 where
  pub low : 1 ≤ l.kind.from
  pub plies : Cover (plies_blocks l.plies) (l.kind.from - 1)
  pub time : l.time.from ≡ end l.kind
  pub line : l.line.from ≡ end l.time
  pub anchor : l.anchor.from ≡ end l.line
  pub atom : l.atom.from ≡ end l.anchor
  pub white_line : l.white_line.from ≡ end l.atom
  pub white_anchor : l.white_anchor.from ≡ end l.white_line
  pub white_time : l.white_time.from ≡ end l.white_anchor
  pub refuting : l.refuting.from ≡ end l.white_time
  pub place : l.place.from ≡ end l.refuting
  pub last : l.inputs + 1 ≡ end l.place
  pub few : l.inputs ≤ 65535

-- the bits of two or three numbers below 2 ^ 32
pub record AreSmall (z : Sizes) : Type 0 where
  pub codes : (z.black_code ≤ 96) × (z.white_code ≤ 96)
  pub claim : (z.time ≤ 32) × (z.line ≤ 32) × (z.anchor ≤ 64) × (z.atom ≤ 32)
  pub goal : (z.white_line ≤ 32) × (z.white_anchor ≤ 64) × (z.white_time ≤ 32) × (z.refuting ≤ 32)
