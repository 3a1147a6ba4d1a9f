-- The inputs of the encoding, one part after the other from number 1 on: the moves; a claim of Black, that its goal stands
-- at some time, or of the other kind, that a move of White was illegal; a line, an anchor and a time at which White says
-- that its own goal stood before, and the test by which Black refutes it; and a place of the board.
use Rattle.std.specs.Prelude.{ℕ, zero, suc, ◌+◌, ◌-◌, max, List, [], ◌∷◌, ◌++◌, length}
use Rattle.bddl_model.specs.declared.formula.Quant.{Quant}
use Rattle.bddl_model.specs.declared.formula.Quant.TheVariants.{Exists, All}
use Rattle.bddl_model.specs.declared.formula.Bound.{Bound}
use Rattle.bddl_model.specs.declared.formula.Span.{Span}
use Rattle.bddl_model.specs.declared.formula.Block.{Block}
use Rattle.bddl_model.specs.declared.game.Side.{Side}
use Rattle.bddl_model.specs.declared.game.Side.TheVariants.{Black, White}
use Rattle.bddl_model.specs.declared.game.Test.{Test}
use Rattle.bddl_model.specs.declared.game.PlyBits.{PlyBits}
use Rattle.bddl_model.specs.Bits.{bits}
use Rattle.bddl_model.specs.Game.{Game, Action, opponent}

-- ---- how many bits each part has

pub record Sizes : Type 0 where
  pub black_code : ℕ
  pub white_code : ℕ
  pub time : ℕ
  pub line : ℕ
  pub anchor : ℕ
  pub atom : ℕ
  pub white_line : ℕ
  pub white_anchor : ℕ
  pub white_time : ℕ
  pub refuting : ℕ

abbrev pub anchor_bits : Game → ℕ
anchor_bits g = bits g.width + bits g.height

-- the bits of a move: its action, x and y; none where there is no action
abbrev pub code_bits : Game → List Action → ℕ
code_bits g [] = 0
code_bits g (a ∷ more) = bits (length (a ∷ more)) + anchor_bits g

abbrev pub most_preconditions : List Action → ℕ
most_preconditions [] = 0
most_preconditions (a ∷ more) = max (length a.before) (most_preconditions more)

abbrev pub most_tests : List (List Test) → ℕ
most_tests [] = 0
most_tests (l ∷ more) = max (length l) (most_tests more)

-- so many where there is a line, else none
abbrev pub where_lines : List (List Test) → ℕ → ℕ
where_lines [] n = 0
where_lines (l ∷ ls) n = n

abbrev pub sizes_of : Game → ℕ → Sizes
sizes_of g depth = record {
  black_code = code_bits g g.black_actions;
  white_code = code_bits g g.white_actions;
  time = bits (depth + 1);
  line = bits (length g.black_lines);
  anchor = anchor_bits g;
  atom = bits (most_preconditions g.white_actions);
  white_line = bits (length g.white_lines);
  white_anchor = where_lines g.white_lines (anchor_bits g);
  white_time = where_lines g.white_lines (bits (depth + 1));
  refuting = bits (most_tests g.white_lines);
}

-- ---- where each part stands

pub record Inputs : Type 0 where
  pub plies : List PlyBits
  pub kind : Span
  pub time : Span
  pub line : Span
  pub anchor : Span
  pub atom : Span
  pub white_line : Span
  pub white_anchor : Span
  pub white_time : Span
  pub refuting : Span
  pub place : Span
  pub inputs : ℕ

abbrev pub span : ℕ → ℕ → Span
span v n = record { from = v; len = n }

-- the first input behind a span
abbrev pub end : Span → ℕ
end s = s.from + s.len

abbrev pub behind : Span → ℕ → Span
behind s n = span (end s) n

abbrev pub ply_at : Sizes → Side → ℕ → PlyBits
ply_at z Black v = record { side = Black; sample = span v 0; code = span v z.black_code }
ply_at z White v = record { side = White; sample = span v z.white_code; code = behind (span v z.white_code) z.white_code }

-- so many plies, sides in turn, from an input on
abbrev pub plies_at : Sizes → ℕ → Side → ℕ → List PlyBits
plies_at z zero side v = []
plies_at z (suc n) side v = ply_at z side v ∷ plies_at z n (opponent side) (end (ply_at z side v).code)

-- the first input behind them
abbrev pub plies_end : Sizes → ℕ → Side → ℕ → ℕ
plies_end z zero side v = v
plies_end z (suc n) side v = plies_end z n (opponent side) (end (ply_at z side v).code)

-- behind the plies: the claim, White's goal, what refutes it, and the place
abbrev pub layout_behind : Sizes → List PlyBits → ℕ → Inputs
layout_behind z plies v =
    let kind = span v 1 in
    let time = behind kind z.time in
    let line = behind time z.line in
    let anchor = behind line z.anchor in
    let atom = behind anchor z.atom in
    let white_line = behind atom z.white_line in
    let white_anchor = behind white_line z.white_anchor in
    let white_time = behind white_anchor z.white_time in
    let refuting = behind white_time z.refuting in
    let place = behind refuting z.anchor in
    record {
      plies = plies;
      kind = kind;
      time = time;
      line = line;
      anchor = anchor;
      atom = atom;
      white_line = white_line;
      white_anchor = white_anchor;
      white_time = white_time;
      refuting = refuting;
      place = place;
      inputs = end place - 1;
    }

abbrev pub layout : Game → Side → ℕ → Inputs
layout g first depth = let z = sizes_of g depth in layout_behind z (plies_at z depth first 1) (plies_end z depth first 1)

-- ---- the quantifiers of the inputs, outermost first

abbrev pub block : Quant → Span → Block
block q s = record { quant = q; span = s }

abbrev pub ply_blocks : Side → PlyBits → List Block
ply_blocks Black p = block Exists p.code ∷ []
ply_blocks White p = block Exists p.sample ∷ block All p.code ∷ []

abbrev pub plies_blocks : List PlyBits → List Block
plies_blocks [] = []
plies_blocks (p ∷ ps) = ply_blocks p.side p ++ plies_blocks ps

-- from the first of some spans to the last
abbrev pub from_to : Span → Span → Span
from_to a b = span a.from (end b - a.from)

-- behind those of the plies: the claim, White's goal, what refutes it, and the place
abbrev pub claim_blocks : Inputs → List Block
claim_blocks l = block Exists (from_to l.kind l.atom) ∷ block All (from_to l.white_line l.white_time) ∷ block Exists l.refuting ∷ block All l.place ∷ []

abbrev pub blocks : Inputs → List Block
blocks l = plies_blocks l.plies ++ claim_blocks l

-- so many variables from v on
abbrev pub bounds : Quant → ℕ → ℕ → List Bound
bounds q v zero = []
bounds q v (suc n) = record { quant = q; var = record { 0 = v } } ∷ bounds q (suc v) n

abbrev pub prefix_of : List Block → List Bound
prefix_of [] = []
prefix_of (b ∷ bs) = bounds b.quant b.span.from b.span.len ++ prefix_of bs
