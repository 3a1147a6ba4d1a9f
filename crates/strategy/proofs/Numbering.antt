-- Answers that are numbered one after the other.
use Rattle.std.proofs.Common.{◌≡◌, ℕ, ◌+◌, ◌-◌, ◌<◌, ◌≤◌, List, [], ◌∷◌, ◌++◌, length, map, take, slice_get, true, Some, refl, sym, ap, ap₂, ◌∙◌, subst}
use Rattle.std.specs.List.{slice_index_or}
use Rattle.std.proofs.lemmas.List.{map-append, take_more}
use Rattle.bddl_model.specs.declared.certificate.Answered.{Answered}
use Rattle.bddl_model.specs.declared.game.Move.{Move}
use Rattle.bddl_model.specs.declared.game.Side.{Side}
use Rattle.bddl_model.specs.declared.game.Side.TheVariants.{White}
use Rattle.bddl_model.specs.Board.{Board}
use Rattle.bddl_model.specs.Game.{Game, opponent}
use Rattle.bddl_model.specs.Moves.{legal, after}
use Rattle.bddl_model.specs.Certificate.{Place, behind}
use Rattle.bddl_laws.specs.BreadthFirst.{IsNumbered, AreNumbered}
use Rattle.bddl_laws.proofs.BreadthFirst.{all_one}
use Rattle.strategy.specs.Growing.{AwaitsReplies}

pub behind_is : (g : Game) (p : Place) (side : Side) (board : Board) (mv : Move) → p.side ≡ side → board ≡ after g p.board side mv
    → record { side = opponent side; board = board; left = p.left - 1 } ≡ behind g p mv
behind_is g p side board mv e is = ap₂ (λ s b. record { side = opponent s; board = b; left = p.left - 1 }) (sym e) (is ∙ ap (λ s. after g p.board s mv) (sym e))

pub is_numbered : (g : Game) (p q : Place) (a : Answered) (old new : List Place) → q ≡ behind g p a.mv
    → slice_get new a.next.0 ≡ Some q → (a.next.0 < length old → new ≡ old) → (length old ≤ a.next.0 → new ≡ old ++ q ∷ []) → IsNumbered g p a old new
is_numbered g p q a old new e there met next = record { there = there ∙ ap (λ r. Some r) e; met = met; next = λ le. next le ∙ ap (λ r. old ++ r ∷ []) e }

-- one answer more
pub one_more : (g : Game) (p : Place) (all : List Answered) (a : Answered) (old mid new : List Place) → AreNumbered g p all old mid → IsNumbered g p a mid new → AreNumbered g p (all ++ a ∷ []) old new
one_more g p [] a old mid new are is = (new, subst (λ places. IsNumbered g p a places new) are is, refl)
one_more g p (b ∷ rest) a old mid new (next, first, are) is = (next, first, one_more g p rest a next mid new are is)

-- ---- the replies to one move or to some

pub awaits_one : (g : Game) (p q : Place) (mvs : List Move) (k : ℕ) (d : Move) → AwaitsReplies g p mvs → k < length mvs → p ≡ q → AwaitsReplies g q (slice_index_or mvs k d ∷ [])
awaits_one g p q mvs k d awaits lt same = subst (λ r. AwaitsReplies g r (slice_index_or mvs k d ∷ [])) same (record {
  size = awaits.size;
  side = awaits.side;
  left = awaits.left;
  legal = all_one (λ m. legal g p.board White m ≡ true) (slice_index_or mvs k d) (awaits.legal k d lt);
})

pub none_numbered : (g : Game) (p : Place) (all : List Answered) (old : List Place) → all ≡ [] → AreNumbered g p all old old
none_numbered g p all old none = subst (λ rs. AreNumbered g p rs old old) (sym none) refl

pub moves_more : (all after : List Answered) (a : Answered) (mvs : List Move) (i : ℕ) (d : Move) → i < length mvs → map (λ b. b.mv) all ≡ take i mvs → a.mv ≡ slice_index_or mvs i d → after ≡ all ++ a ∷ []
    → map (λ b. b.mv) after ≡ take (i + 1) mvs
moves_more all after a mvs i d lt so_far here is =
    ap (map (λ b. b.mv)) is
    ∙ map-append (λ b. b.mv) all (a ∷ [])
    ∙ ap₂ (λ xs x. xs ++ x ∷ []) so_far here
    ∙ sym (take_more mvs i d lt)
