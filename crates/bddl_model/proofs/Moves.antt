-- A legal move is in the list of moves, and a move keeps the board's size.
use Rattle.std.proofs.Common.{◌≡◌, ℕ, zero, suc, ◌+◌, ◌-◌, ◌≤◌, ◌<◌, Bool, true, false, cond, List, [], ◌∷◌, map, length, ◌⊎◌, inl, inr, refl, sym, ap, subst, ◌∙◌, arith}
use Rattle.std.specs.Prelude.{filter, flat_map, Contains, slice_get}
use Rattle.std.specs.List.{range_with_len}
use Rattle.std.proofs.lemmas.List.{length-set, length-map, get_or-map}
use Rattle.std.proofs.lemmas.List.Elements.{Contains-append_left, Contains-append_right}
use Rattle.std.proofs.lemmas.List.FromFn.{length-range_with_len, get_or-range_with_len}
use Rattle.bddl_model.specs.declared.game.Side.{Side}
use Rattle.bddl_model.specs.declared.game.Atom.{Atom}
use Rattle.bddl_model.specs.declared.game.Move.{Move}
use Rattle.bddl_model.specs.Game.{Game, actions}
use Rattle.bddl_model.specs.Board.{Board, with_mark}
use Rattle.bddl_model.specs.Fitting.{led}
use Rattle.bddl_model.specs.Moves.{legal, written, after, effects_of, all_moves, moves}
use Rattle.bddl_model.specs.Codes.{shape_of, IsPlaced}
use Rattle.bddl_model.proofs.Codes.{legal_is_in_range, in_range_is_placed}

-- ---- what a list contains

pub Contains-range : (a n k : ℕ) → a ≤ k → k < a + n → Contains (range_with_len a n) k
Contains-range a n k low high =
    let place : k - a < n = omega arith in
    let there : a + (k - a) ≡ k = omega arith in
    (k - a, rw (length-range_with_len a n) place, get_or-range_with_len a n (k - a) k place ∙ there)

pub Contains-map : {X Y : Type 0} (f : X → Y) (xs : List X) (x : X) → Contains xs x → Contains (map f xs) (f x)
Contains-map f xs x h = (h.0, omega (arith, length-map xs f, h.1), get_or-map f xs h.0 x (f x) h.1 ∙ ap f h.2)

-- the first, or one of the others
Contains-cases : {X : Type 0} (x y : X) (xs : List X) → Contains (x ∷ xs) y → (x ≡ y) ⊎ Contains xs y
Contains-cases x y xs (zero, low, here) = inl here
Contains-cases x y xs (suc k, low, there) = inr (k, omega (arith, low), there)

pub Contains-flat_map : {X Y : Type 0} (f : X → List Y) (xs : List X) (x : X) (y : Y) → Contains xs x → Contains (f x) y → Contains (flat_map f xs) y
Contains-flat_map f [] x y among h = absurd (omega (arith, among.1))
Contains-flat_map f (z ∷ zs) x y among h = elim (Contains-cases z x zs among) [
  | inl here ↦ Contains-append_left (f z) (flat_map f zs) y (subst (λ w. Contains (f w) y) (sym here) h)
  | inr later ↦ Contains-append_right (f z) (flat_map f zs) y (Contains-flat_map f zs x y later h)
]

kept_later : {X : Type 0} (b : Bool) (z : X) (zs : List X) (x : X) → Contains zs x → Contains (cond b (z ∷ zs) zs) x
kept_later true z zs x h = Contains-append_right (z ∷ []) zs x h
kept_later false z zs x h = h

pub Contains-filter : {X : Type 0} (p : X → Bool) (xs : List X) (x : X) → Contains xs x → p x ≡ true → Contains (filter p xs) x
Contains-filter p [] x among h = absurd (omega (arith, among.1))
Contains-filter p (z ∷ zs) x among h = elim (Contains-cases z x zs among) [
  | inl here ↦ let passes : p z ≡ true = ap p here ∙ h in rw passes (0, omega arith, here)
  | inr later ↦ kept_later (p z) z (filter p zs) x (Contains-filter p zs x later h)
]

-- ---- moves

placed_is_a_move : (g : Game) (side : Side) (m : Move) → IsPlaced (shape_of g side) m → Contains (all_moves g side) m
placed_is_a_move g side m placed =
    let number : Contains (range_with_len 0 (length (actions g side))) m.action = Contains-range 0 _ m.action (omega arith) (omega (arith, placed.action)) in
    let row = λ (a : ℕ) (y : ℕ). map (λ x. record { action = a; x = x; y = y }) (range_with_len 1 g.width) in
    let in_row = Contains-map (λ x. record { action = m.action; x = x; y = m.y }) (range_with_len 1 g.width) m.x (Contains-range 1 g.width m.x placed.column.0 (omega (arith, placed.column))) in
    let in_rows = Contains-flat_map (row m.action) (range_with_len 1 g.height) m.y m (Contains-range 1 g.height m.y placed.row.0 (omega (arith, placed.row))) in_row in
    Contains-flat_map (λ a. flat_map (row a) (range_with_len 1 g.height)) (range_with_len 0 (length (actions g side))) m.action m number in_rows

pub legal_moves_are_listed : (g : Game) (board : Board) (side : Side) (m : Move) → legal g board side m ≡ true → Contains (moves g board side) m
legal_moves_are_listed g board side m h = Contains-filter (legal g board side) (all_moves g side) m (placed_is_a_move g side m (in_range_is_placed g side m (legal_is_in_range g side m board h))) h

length-written : (g : Game) (x y : ℕ) (atoms : List Atom) (board : Board) → length (written g x y atoms board) ≡ length board
length-written g x y [] board = refl
length-written g x y (atom ∷ atoms) board = length-written g x y atoms (with_mark g.width board (led atom.x x) (led atom.y y) atom.mark) ∙ length-set board _ atom.mark

pub moves_keep_the_size : (g : Game) (board : Board) (side : Side) (m : Move) → length (after g board side m) ≡ length board
moves_keep_the_size g board side m = length-written g m.x m.y (effects_of (slice_get (actions g side) m.action)) board
