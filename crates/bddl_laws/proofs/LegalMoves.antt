-- A test of some legal move, or of each, is one of the list of moves.
use Rattle.std.proofs.Common.{◌≡◌, zero, suc, Bool, true, false, cond, List, [], ◌∷◌, ⊎_elim, refl, ap, ◌∙◌, arith}
use Rattle.std.specs.Prelude.{filter, Contains}
use Rattle.std.specs.List.{list_any, list_all}
use Rattle.std.proofs.lemmas.Bool.{or_cases, and_parts, and_from, false≢true}
use Rattle.std.proofs.lemmas.List.Folds.{list_any_at}
use Rattle.bddl_model.specs.declared.game.Side.{Side}
use Rattle.bddl_model.specs.declared.game.Move.{Move}
use Rattle.bddl_model.specs.Game.{Game}
use Rattle.bddl_model.specs.Board.{Board}
use Rattle.bddl_model.specs.Moves.{legal, moves, all_moves}
use Rattle.bddl_model.specs.Win.{has_any}
use Rattle.bddl_model.proofs.Moves.{legal_moves_are_listed}

-- ---- lists

contained_passes : {X : Type 0} (f : X → Bool) (xs : List X) (x : X) → list_all f xs ≡ true → Contains xs x → f x ≡ true
contained_passes f [] x h (i, low, here) = absurd (omega (arith, low))
contained_passes f (y ∷ ys) x h (zero, low, here) = ap f (let e : x ≡ y = cc in e) ∙ (and_parts _ _ h).0
contained_passes f (y ∷ ys) x h (suc i, low, there) = contained_passes f ys x (and_parts (f y) _ h).1 (i, omega (arith, low), there)

some_filtered : {X : Type 0} (p f : X → Bool) (xs : List X) → list_any f (filter p xs) ≡ true → (x : X) × (p x ≡ true) × (f x ≡ true)
some_filtered p f [] h = absurd (false≢true h)
some_filtered {X} p f (x ∷ xs) h = at (p x) refl h (λ i. some_filtered p f xs i)
  where
    at : (t : Bool) → p x ≡ t → list_any f (cond t (x ∷ filter p xs) (filter p xs)) ≡ true → (list_any f (filter p xs) ≡ true → (y : X) × (p y ≡ true) × (f y ≡ true)) → (y : X) × (p y ≡ true) × (f y ≡ true)
    at true e h next = ⊎_elim (λ here. (x, e, here)) next (or_cases _ _ h)
    at false e h next = next h

each_filtered : {X : Type 0} (p f : X → Bool) (xs : List X) → ((x : X) → p x ≡ true → f x ≡ true) → list_all f (filter p xs) ≡ true
each_filtered p f [] h = refl
each_filtered p f (x ∷ xs) h = at (p x) refl (each_filtered p f xs h)
  where
    at : (t : Bool) → p x ≡ t → list_all f (filter p xs) ≡ true → list_all f (cond t (x ∷ filter p xs) (filter p xs)) ≡ true
    at true e next = and_from _ _ (h x e) next
    at false e next = next

first_filtered : {X : Type 0} (p : X → Bool) (xs : List X) → has_any (filter p xs) ≡ true → (x : X) × (p x ≡ true)
first_filtered p [] h = absurd (false≢true h)
first_filtered {X} p (x ∷ xs) h = at (p x) refl h (λ i. first_filtered p xs i)
  where
    at : (t : Bool) → p x ≡ t → has_any (cond t (x ∷ filter p xs) (filter p xs)) ≡ true → (has_any (filter p xs) ≡ true → (y : X) × (p y ≡ true)) → (y : X) × (p y ≡ true)
    at true e h next = (x, e)
    at false e h next = next h

contained_is_any : {X : Type 0} (xs : List X) (x : X) → Contains xs x → has_any xs ≡ true
contained_is_any [] x h = absurd (omega (arith, h.1))
contained_is_any (y ∷ ys) x h = refl

-- ---- moves

module _ (g : Game) (board : Board) (side : Side) where
  abbrev IsLegal : Move → Type 0
  IsLegal m = legal g board side m ≡ true

  pub some_move : (f : Move → Bool) → list_any f (moves g board side) ≡ true → (m : Move) × IsLegal m × (f m ≡ true)
  some_move f h = some_filtered (legal g board side) f (all_moves g side) h

  pub any_move : (f : Move → Bool) (m : Move) → IsLegal m → f m ≡ true → list_any f (moves g board side) ≡ true
  any_move f m l h = let c = legal_moves_are_listed g board side m l in list_any_at f (moves g board side) c.0 m c.1 (ap f c.2 ∙ h)

  pub each_move : (f : Move → Bool) → ((m : Move) → IsLegal m → f m ≡ true) → list_all f (moves g board side) ≡ true
  each_move f h = each_filtered (legal g board side) f (all_moves g side) h

  pub one_move : (f : Move → Bool) (m : Move) → list_all f (moves g board side) ≡ true → IsLegal m → f m ≡ true
  one_move f m h l = contained_passes f (moves g board side) m h (legal_moves_are_listed g board side m l)

  pub first_move : has_any (moves g board side) ≡ true → (m : Move) × IsLegal m
  first_move h = first_filtered (legal g board side) (all_moves g side) h

  pub has_move : (m : Move) → IsLegal m → has_any (moves g board side) ≡ true
  has_move m l = contained_is_any (moves g board side) m (legal_moves_are_listed g board side m l)
