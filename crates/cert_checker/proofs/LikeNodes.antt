-- A node that is like another one has no fault where that one has none.
use Rattle.std.proofs.Common.{◌≡◌, ℕ, suc, ◌≤◌, Bool, true, false, if◌then◌else◌, List, [], ◌∷◌, map, Option, Some, None, ◌⊎◌, inl, inr, refl, ap, ◌∙◌, arith}
use Rattle.bddl_model.specs.declared.game.Move.{Move}
use Rattle.bddl_model.specs.declared.game.Side.{Side}
use Rattle.bddl_model.specs.declared.game.Side.TheVariants.{Black as black, White as white}
use Rattle.bddl_model.specs.declared.certificate.Answered.{Answered}
use Rattle.bddl_model.specs.declared.certificate.Node.{Node}
use Rattle.bddl_model.specs.declared.certificate.Node.TheVariants.{Goal, Black, White}
use Rattle.bddl_model.specs.declared.certificate.TurnFault.{TurnFault}
use Rattle.bddl_model.specs.declared.certificate.CertFault.{CertFault}
use Rattle.bddl_model.specs.Game.{Game}
use Rattle.bddl_model.specs.Goal.{goal}
use Rattle.bddl_model.specs.Moves.{moves}
use Rattle.bddl_model.specs.CertificateGraph.{answers}
use Rattle.bddl_model.specs.Certificate.{Place, same_move, turn_fault, move_fault, difference, differ_at, answers_fault, replies_fault, turn_at, node_fault, IsLike}
use Rattle.cert_checker.proofs.Fine.{no_turn_fault, may_turn}

-- ---- the number of a node doesn't matter

goal_fine : (b : Bool) (f h : CertFault) → (if b then None else Some f) ≡ None → (if b then None else Some h) ≡ None
goal_fine true f h e = refl
goal_fine false f h e = absurd cc

-- ---- nor do next numbers

same_difference : (n : ℕ) (rs ts : List Answered) (ms : List Move) → map (λ a. a.mv) rs ≡ map (λ a. a.mv) ts → difference n rs ms ≡ difference n ts ms
same_difference n [] [] ms e = refl
same_difference n [] (t ∷ ts) ms e = absurd cc
same_difference n (r ∷ rs) [] ms e = absurd cc
same_difference n (r ∷ rs) (t ∷ ts) [] e = refl
same_difference n (r ∷ rs) (t ∷ ts) (m ∷ ms) e = (
    let here : r.mv ≡ t.mv = cc in
    let rest : map (λ a. a.mv) rs ≡ map (λ a. a.mv) ts = cc in
    ap (λ k. if same_move k m then difference (suc n) rs ms else Some n) here ∙ ap (λ o. if same_move t.mv m then o else Some n) (same_difference (suc n) rs ts ms rest))

same_answers : (rs ts : List Answered) (ms : List Move) → map (λ a. a.mv) rs ≡ map (λ a. a.mv) ts → answers_fault rs ms ≡ answers_fault ts ms
same_answers rs ts [] e = refl
same_answers rs ts (m ∷ ms) e = ap differ_at (same_difference 0 rs ts (m ∷ ms) e)

pub fine_alike : (g : Game) (p : Place) (n k : ℕ) (new old : Node) → IsLike new old → node_fault g k p old ≡ None → node_fault g n p new ≡ None
fine_alike g p n k Goal Goal like e = goal_fine (goal g p.board black) _ _ e
fine_alike g p n k Goal (Black mv next) like e = absurd like
fine_alike g p n k Goal (White ts) like e = absurd like
fine_alike g p n k (Black m next) Goal like e = absurd like
fine_alike g p n k (Black m next) (Black mv other) like e = ap (turn_at n) (ap (move_fault g black p) like ∙ no_turn_fault k (move_fault g black p mv) e)
fine_alike g p n k (Black m next) (White ts) like e = absurd like
fine_alike g p n k (White rs) Goal like e = absurd like
fine_alike g p n k (White rs) (Black mv next) like e = absurd like
fine_alike g p n k (White rs) (White ts) like e = ap (turn_at n) (ap (turn_fault g white p) (same_answers rs ts (moves g p.board white) like) ∙ no_turn_fault k (replies_fault g white p ts) e)

-- ---- a ply is left where a move is made

turn_left : (g : Game) (side : Side) (p : Place) (more : Option TurnFault) → turn_fault g side p more ≡ None → 1 ≤ p.left
turn_left g side p more e = let left = (may_turn g side p more e).1 in omega (arith, left)

pub fine_left : (g : Game) (p : Place) (n : ℕ) (node : Node) → node_fault g n p node ≡ None → (1 ≤ p.left) ⊎ (answers node ≡ [])
fine_left g p n Goal e = inr refl
fine_left g p n (Black mv next) e = inl (turn_left g black p _ (no_turn_fault n (move_fault g black p mv) e))
fine_left g p n (White rs) e = inl (turn_left g white p _ (no_turn_fault n (replies_fault g white p rs) e))
