-- The moves and the places that carried inputs name.
use Rattle.std.proofs.Common.{◌≡◌, ℕ, zero, suc, ◌≤◌, ◌+◌, ◌*◌, ◌-◌, Bool, true, List, [], ◌∷◌, ◌++◌, length, get_or, take, drop, if◌then◌else◌, refl, sym, subst, ap, ap₂, ◌∙◌, arith}
use Rattle.std.specs.Prelude.{Some, slice_get}
use Rattle.bddl_model.specs.declared.circuit.Wire.{Wire}
use Rattle.bddl_model.specs.declared.formula.Span.{Span}
use Rattle.bddl_model.specs.declared.game.Move.{Move}
use Rattle.bddl_model.specs.declared.game.Side.{Side}
use Rattle.bddl_model.specs.declared.game.Side.TheVariants.{Black, White}
use Rattle.bddl_model.specs.Truth.{Assignment}
use Rattle.bddl_model.specs.Bits.{bits, number_at}
use Rattle.bddl_model.specs.Board.{Board}
use Rattle.bddl_model.specs.Circuit.{Circuit}
use Rattle.bddl_model.specs.Codes.{shape_of, code_length, spelled_move}
use Rattle.bddl_model.specs.Conditions.{Cell}
use Rattle.bddl_model.specs.Encoding.{AreCoded, shown, place_read}
use Rattle.bddl_model.specs.Exact as exact
use Rattle.bddl_model.specs.Exact.{coded_move, position}
use Rattle.bddl_model.specs.Game.{Game, actions, opponent}
use Rattle.bddl_model.specs.Layout.{anchor_bits, sizes_of, ply_at, end}
use Rattle.bddl_model.specs.Moves.{legal, after}
use Rattle.bddl_model.specs.OneCell.{spelled_cell}
use Rattle.bddl_model.specs.Setup.{Setup}
use Rattle.bddl_model.specs.Words.{number_of_bits}
use Rattle.bddl_model.proofs.Codes.{some_actions, code_length_is, legal_is_in_range, in_range_is_placed}
use Rattle.symbol_cell.specs.declared.pair.Pair.{Pair}
use Rattle.symbol_cell.specs.Coded.{values_at, Carries, CarryCodes, CarriesLayout}
use Rattle.symbol_cell.specs.Pairs.{mark_of}
use Rattle.symbol_cell.specs.Runs.{Run, Ply, Stands, Name, named, board_after, place_named}
use Rattle.symbol_cell.specs.Steps.{move_at}
use Rattle.symbol_cell.proofs.Following.{follow_at}

-- ---- numbers

values_front : (a : Assignment) (v n k : ℕ) → k ≤ n → number_of_bits (take k (values_at a v n)) ≡ number_at a v k
values_front a v n zero le = refl
values_front a v zero (suc k) le = absurd (omega arith)
values_front a v (suc n) (suc k) le = ap (λ m. (if a v then 1 else 0) + 2 * m) (values_front a (suc v) n k (omega arith))

values_behind : (a : Assignment) (v n k : ℕ) → k ≤ n → drop k (values_at a v n) ≡ values_at a (v + k) (n - k)
values_behind a v n zero le = ap₂ (values_at a) (omega arith) (omega arith)
values_behind a v zero (suc k) le = absurd (omega arith)
values_behind a v (suc n) (suc k) le = values_behind a (suc v) n k (omega arith) ∙ ap₂ (values_at a) (omega arith) (omega arith)

pub values_number : (a : Assignment) (v n : ℕ) → number_of_bits (values_at a v n) ≡ number_at a v n
values_number a v zero = refl
values_number a v (suc n) = ap (λ m. (if a v then 1 else 0) + 2 * m) (values_number a (suc v) n)

pub values_push : (a : Assignment) (v n : ℕ) → values_at a v (suc n) ≡ values_at a v n ++ a (v + n) ∷ []
values_push a v zero = ap (λ w. a w ∷ []) (omega arith)
values_push a v (suc n) = ap (λ l. a v ∷ l) (values_push a (suc v) n ∙ ap (λ w. values_at a (suc v) n ++ a w ∷ []) (omega arith))

-- ---- places and moves

pub cell_values : (a : Assignment) (v n w h : ℕ) → n ≡ w + h → spelled_cell w (values_at a v n) ≡ record { x = number_at a v w + 1; y = number_at a (v + w) h + 1 }
cell_values a v n w h e =
    let column = values_front a v n w (omega (arith, e)) in
    let row = ap number_of_bits (values_behind a v n w (omega (arith, e))) ∙ values_number a (v + w) (n - w) ∙ ap (number_at a (v + w)) (omega (arith, e)) in
    ap₂ (λ x y. record { x = x + 1; y = y + 1 }) column row

pub move_values : (g : Game) (side : Side) (a : Assignment) (s : Span) → 1 ≤ length (actions g side) → s.len ≡ code_length (shape_of g side)
    → spelled_move (shape_of g side) (values_at a s.from s.len) ≡ coded_move g side a s
move_values g side a s some len =
    let n = bits (length (actions g side)) in
    let whole : s.len ≡ n + anchor_bits g = len ∙ some_actions (shape_of g side) some in
    let anchor =
    ap (spelled_cell (bits g.width)) (values_behind a s.from s.len n (omega (arith, whole)))
    ∙ cell_values a (s.from + n) (s.len - n) (bits g.width) (bits g.height) (omega (arith, whole)) in
    ap₂ move_at (values_front a s.from s.len n (omega (arith, whole))) anchor

code_len : (g : Game) (depth : ℕ) (side : Side) (v : ℕ) → (ply_at (sizes_of g depth) side v).code.len ≡ code_length (shape_of g side)
code_len g depth Black v = sym (code_length_is g Black)
code_len g depth White v = sym (code_length_is g White)

-- ---- lists of moves

moves_named : (g : Game) (depth : ℕ) (c : Circuit) (a : Assignment) (side : Side) (b : Board) (v : ℕ) (plies : List Ply) (ms : List Move)
    → CarryCodes g depth c side v plies → AreCoded g depth a side b v ms → length ms ≤ length plies
    → Name g c a b plies ms × (board_after g b plies ms ≡ exact.board_after g side b ms)
moves_named g depth c a side b v plies [] carry coded le = (tt, refl)
moves_named g depth c a side b v [] (m ∷ ms) carry coded le = absurd (omega arith)
moves_named g depth c a side b v (s ∷ plies) (m ∷ ms) carry coded le =
    let p = ply_at (sizes_of g depth) side v in
    let rest = moves_named g depth c a (opponent side) (after g b side m) (end p.code) plies ms carry.2 coded.2 (omega arith) in
    let same =
    ap (λ z. spelled_move (shape_of g z) (values_at a p.code.from p.code.len)) carry.0
    ∙ move_values g side a p.code (some_action b coded.0) (code_len g depth side v)
    ∙ coded.1 in (
      (
        ap (spelled_move (shape_of g s.side)) (carry.1.bits a) ∙ same,
        ap (λ z. legal g b z m) carry.0 ∙ coded.0,
        subst (λ z. Name g c a (after g b z m) plies ms) (sym carry.0) rest.0,
      ),
      ap (λ z. board_after g (after g b z m) plies ms) carry.0 ∙ rest.1,
    )
  where
    some_action : (b : Board) → legal g b side m ≡ true → 1 ≤ length (actions g side)
    some_action b may = let placed = in_range_is_placed g side m (legal_is_in_range g side m b may) in omega (arith, placed.action)

-- ---- the marks of a run whose words are those of the layout

pub marks_shown : (s : Setup) (c : Circuit) (r : Run) (a : Assignment) (ms : List Move) (d : Pair) → Stands r c s.game s.board → CarriesLayout s c r → length ms ≤ length r.plies
    → AreCoded s.game s.depth a s.first s.board 1 ms → mark_of c (get_or r.pairs (length ms) d) a ≡ shown s.game (position s ms) (place_read s a)
marks_shown s c r a ms d stands carries le coded =
    let moves = moves_named s.game s.depth c a s.first s.board 1 r.plies ms carries.plies coded le in
    follow_at s.game c a (place_named s.game c a r.place) s.board r.plies r.pairs ms d (stands.follow a) moves.0
    ∙ ap₂ (shown s.game) moves.1 place
  where
    place : place_named s.game c a r.place ≡ place_read s a
    place = ap (spelled_cell (bits s.game.width)) (carries.place.bits a) ∙ cell_values a _ _ (bits s.game.width) (bits s.game.height) refl
