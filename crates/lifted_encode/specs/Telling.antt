-- What the inputs say of plies, one after the other, and of the mark at a moment that they name.
use Rattle.std.specs.Prelude.{ℕ, suc, ◌≡◌, ◌+◌, ◌≤◌, Bool, true, false, not, ◌&&◌, ◌||◌, ◌==◌, nat_lt, All, List, [], ◌∷◌, length, Option, None, Some, slice_get, if◌then◌else◌}
use Rattle.std.specs.List.{sum_by}
use Rattle.bddl_model.specs.declared.formula.Span.{Span}
use Rattle.bddl_model.specs.declared.game.Mark.{Mark}
use Rattle.bddl_model.specs.declared.game.Mark.TheVariants.{Free}
use Rattle.bddl_model.specs.declared.game.PlyBits.{PlyBits}
use Rattle.bddl_model.specs.declared.game.Side.{Side}
use Rattle.bddl_model.specs.declared.game.Side.TheVariants as sides
use Rattle.bddl_model.specs.Truth.{Assignment}
use Rattle.bddl_model.specs.Bits.{bits}
use Rattle.bddl_model.specs.Circuit.{Circuit}
use Rattle.bddl_model.specs.Codes.{shape_of, code_length}
use Rattle.bddl_model.specs.Conditions.{Cell, all_pass_at, is_refused, is_white}
use Rattle.bddl_model.specs.Encoding.{move_tests}
use Rattle.bddl_model.specs.Exact.{coded_move, own_code}
use Rattle.bddl_model.specs.Game.{Game}
use Rattle.bddl_model.specs.Layout.{Inputs, anchor_bits, where_lines}
use Rattle.symbol_cell.specs.declared.pair.Pair.{Pair}
use Rattle.symbol_cell.specs.Pairs.{mark_of}
use Rattle.symbol_cell.specs.Runs.{Run}
use Rattle.lifted_encode.specs.declared.items.Items.TheVariants.{Actions}
use Rattle.lifted_encode.specs.Chosen.{items_of, item_parts}

-- ---- spans of inputs

abbrev pub IsSpan : Circuit → Span → Type 0
IsSpan c s = (1 ≤ s.from) × (s.from + s.len ≤ c.inputs + 1)

-- so many inputs
abbrev pub SpansOf : Circuit → ℕ → Span → Type 0
SpansOf c n s = IsSpan c s × (s.len ≡ n)

-- at most so many
abbrev pub SpansFew : Circuit → ℕ → Span → Type 0
SpansFew c n s = IsSpan c s × (s.len ≤ n)

-- inputs of codes of the ply's side
pub record IsPlyOf (g : Game) (c : Circuit) (p : PlyBits) : Type 0 where
  pub own : SpansOf c (code_length (shape_of g p.side)) (own_code p)
  pub code : SpansOf c (code_length (shape_of g p.side)) p.code

-- each part has as many inputs as it needs
pub record IsLaidFor (g : Game) (depth : ℕ) (c : Circuit) (l : Inputs) : Type 0 where
  pub plies : All (IsPlyOf g c) l.plies
  pub count : length l.plies ≡ depth
  pub kind : SpansOf c 1 l.kind
  pub time : SpansOf c (bits (depth + 1)) l.time
  pub line : SpansOf c (bits (length g.black_lines)) l.line
  pub anchor : SpansOf c (anchor_bits g) l.anchor
  pub atom : SpansFew c 16 l.atom
  pub white_line : SpansOf c (bits (length g.white_lines)) l.white_line
  pub white_anchor : SpansOf c (where_lines g.white_lines (anchor_bits g)) l.white_anchor
  pub white_time : SpansOf c (where_lines g.white_lines (bits (depth + 1))) l.white_time
  pub refuting : SpansFew c 16 l.refuting
  pub place : SpansOf c (anchor_bits g) l.place

-- ---- marks

abbrev pub mark_in : Circuit → Assignment → Option Pair → Mark
mark_in c a None = Free
mark_in c a (Some p) = mark_of c p a

-- the mark at the run's place after so many plies
abbrev pub marks_of : Circuit → Run → Assignment → ℕ → Mark
marks_of c r a time = mark_in c a (slice_get r.pairs time)

-- the mark of this moment, if it is one of so many
abbrev pub mark_below : ℕ → (ℕ → Mark) → ℕ → Mark
mark_below count marks time = if nat_lt time count then marks time else Free

-- ---- plies, the first of which is the one after so many

-- where the time is behind the ply: the code that its player has to make legal is in range, and its tests pass
abbrev pub ply_passes : Game → Assignment → ℕ → Cell → (ℕ → Mark) → ℕ → PlyBits → Bool
ply_passes g a time place marks i p = not (nat_lt i time) || all_pass_at place (marks i) (move_tests g p.side (coded_move g p.side a (own_code p)))

abbrev pub plies_pass : Game → Assignment → ℕ → Cell → (ℕ → Mark) → ℕ → List PlyBits → Bool
plies_pass g a time place marks i [] = true
plies_pass g a time place marks i (p ∷ ps) = ply_passes g a time place marks i p && plies_pass g a time place marks (suc i) ps

-- the ply ends at the time, is White's, and its code is out of range or its test of this number fails
abbrev pub ply_refused : Game → Assignment → ℕ → Cell → (ℕ → Mark) → ℕ → ℕ → PlyBits → Bool
ply_refused g a time place marks n i p = time == i + 1 && (is_white p.side && is_refused place (marks i) n (move_tests g p.side (coded_move g p.side a p.code)))

abbrev pub one_refused : Game → Assignment → ℕ → Cell → (ℕ → Mark) → ℕ → ℕ → List PlyBits → Bool
one_refused g a time place marks n i [] = false
one_refused g a time place marks n i (p ∷ ps) = ply_refused g a time place marks n i p || one_refused g a time place marks n (suc i) ps

-- ---- parts, each of which takes a unit of gates at most

abbrev pub action_parts : Game → Side → ℕ
action_parts g side = sum_by item_parts (items_of g (Actions side))

abbrev pub own_parts : Game → PlyBits → ℕ
own_parts g p = action_parts g p.side + 1

-- a code of Black is not tested
abbrev pub refused_in : Game → Side → ℕ
refused_in g sides.Black = 1
refused_in g sides.White = action_parts g sides.White + 1

abbrev pub refused_parts : Game → PlyBits → ℕ
refused_parts g p = refused_in g p.side
