use Rattle.std.proofs.Common.{◌≡◌, List, length, Bool, Option, Some, None, IfSome, IfNone, sym, ap, ◌∙◌}
use Rattle.bddl_model.specs.declared.game.Move.{Move}
use Rattle.bddl_model.specs.Codes.{Shape, code_length, IsPlaced, code, spelled_move}
use Rattle.bddl_model.proofs.Codes.{spelled_code, code_spelled}
use Rattle.move_code.proofs.code.move_of.Goals as goal

module _ (s : Shape) (c : List Bool) where
  coded : (o : Option Move) → length c ≡ code_length s → IfSome o (λ m. IsPlaced s m × (spelled_move s c ≡ m)) → IfSome o (λ m. IsPlaced s m × (code s m ≡ c))
  coded None l h = tt
  coded (Some m) l h = (h.0, (rw (sym h.1) (code_spelled s c l (rw h.1 h.0))))

  spelled_is : (m : Move) → IsPlaced s m → code s m ≡ c → spelled_move s c ≡ m
  spelled_is m placed is = ap (spelled_move s) (sym is) ∙ spelled_code s m placed

  found : (o : Option Move) → IfSome o (λ m. IsPlaced s m × (spelled_move s c ≡ m)) → IfNone o (IsPlaced s (spelled_move s c) → ⊥) → (m : Move) → IsPlaced s m → code s m ≡ c → o ≡ Some m
  found (Some n) h none m placed is = ap Some (sym h.1 ∙ spelled_is m placed is)
  found None h none m placed is = absurd (none (rw (spelled_is m placed is) placed))

  no_code : (o : Option Move) → IfNone o (IsPlaced s (spelled_move s c) → ⊥) → IfNone o ((m : Move) → IsPlaced s m → code s m ≡ c → ⊥)
  no_code (Some n) none = tt
  no_code None none = λ m placed is. none (rw (spelled_is m placed is) placed)

pub returns-clause-some : goal.returns-clause-some
returns-clause-some c = coded c.args.shape.now c.args.code.now c.spelled.result c.requires c.spelled.ensures.some

pub returns-clause-found : goal.returns-clause-found
returns-clause-found c = found c.args.shape.now c.args.code.now c.spelled.result c.spelled.ensures.some c.spelled.ensures.none

pub returns-clause-none : goal.returns-clause-none
returns-clause-none c = no_code c.args.shape.now c.args.code.now c.spelled.result c.spelled.ensures.none
