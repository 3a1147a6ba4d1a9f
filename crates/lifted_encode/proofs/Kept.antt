-- What the conditions say depends on a time, a place and the marks of moments alone.
use Rattle.std.proofs.Common.{◌≡◌, ℕ, suc, ◌+◌, Bool, not, ◌&&◌, ◌||◌, nat_lt, if◌then◌else◌, List, [], ◌∷◌, refl, ap, ap₂, ◌∙◌}
use Rattle.bddl_model.specs.declared.game.Mark.{Mark}
use Rattle.bddl_model.specs.declared.game.Mark.TheVariants.{Free}
use Rattle.bddl_model.specs.declared.game.PlyBits.{PlyBits}
use Rattle.bddl_model.specs.declared.game.Side.TheVariants.{Black, White}
use Rattle.bddl_model.specs.Truth.{Assignment}
use Rattle.bddl_model.specs.Conditions.{Cell, all_pass_at}
use Rattle.bddl_model.specs.Encoding.{line_tests, number_in, cell_in}
use Rattle.bddl_model.specs.Game.{Game}
use Rattle.bddl_model.specs.Layout.{Inputs}
use Rattle.lifted_encode.specs.Asking.{unrefuted, found_met}
use Rattle.lifted_encode.specs.Joined.{goal_claimed, claim_holds, attack_stands, is_answered, outcome_holds}
use Rattle.lifted_encode.specs.Telling.{mark_below, plies_pass, one_refused}
use Rattle.lifted_encode.proofs.Turns.{passes_kept, refused_kept}

module _ (g : Game) (a : Assignment) (s t : ℕ) (c d : Cell) (k m : ℕ → Mark) (time : s ≡ t) (place : c ≡ d) (marks : (i : ℕ) → k i ≡ m i) where
  pub plies_kept : (i : ℕ) (plies : List PlyBits) → plies_pass g a s c k i plies ≡ plies_pass g a t d m i plies
  plies_kept i [] = refl
  plies_kept i (p ∷ plies) = ap₂ (λ x y. x && y) (passes_kept g a i p s t c d k m time place (marks i)) (plies_kept (suc i) plies)

  pub one_kept : (n i : ℕ) (plies : List PlyBits) → one_refused g a s c k n i plies ≡ one_refused g a t d m n i plies
  one_kept n i [] = refl
  one_kept n i (p ∷ plies) = ap₂ (λ x y. x || y) (refused_kept g a i p s t c d k m time place (marks i) n n refl) (one_kept n (suc i) plies)

  below_kept : (count : ℕ) → mark_below count k s ≡ mark_below count m t
  below_kept count = ap (λ mark. if nat_lt s count then mark else Free) (marks s) ∙ ap (mark_below count m) time

  module _ (depth : ℕ) (l : Inputs) where
    pub goal_kept : goal_claimed g depth l a s c k ≡ goal_claimed g depth l a t d m
    goal_kept = ap₂ (λ cell mark. all_pass_at cell mark (line_tests g Black (number_in a l.line) (cell_in g a l.anchor))) place (below_kept (depth + 1))

    pub claim_kept : claim_holds g depth l a s c k ≡ claim_holds g depth l a t d m
    claim_kept = ap₂ (λ x y. if a l.kind.from then x else y) (one_kept (number_in a l.atom) 0 l.plies) goal_kept

    pub attack_kept : attack_stands g depth l a s c k ≡ attack_stands g depth l a t d m
    attack_kept = ap₂ (λ cell mark. found_met (unrefuted (number_in a l.refuting)) cell mark (line_tests g White (number_in a l.white_line) (cell_in g a l.white_anchor))) place (below_kept depth)

-- the attack's time is one of the inputs
module _ (g : Game) (a : Assignment) (s t : ℕ) (c d : Cell) (k m : ℕ → Mark) (time : s ≡ t) (place : c ≡ d) (marks : (i : ℕ) → k i ≡ m i) (depth : ℕ) (l : Inputs) where
  pub answered_kept : is_answered g depth l a s c k ≡ is_answered g depth l a t d m
  answered_kept =
      ap₂ (λ x n. not x || not (nat_lt (number_in a l.white_time) n))
      (attack_kept g a (number_in a l.white_time) (number_in a l.white_time) c d k m refl place marks depth l) time

  pub outcome_kept : outcome_holds g depth l a s c k ≡ outcome_holds g depth l a t d m
  outcome_kept = ap₂ (λ x y. x && y) (claim_kept g a s t c d k m time place marks depth l) answered_kept

pub same_choice : {b c x y u v : Bool} → b ≡ c → x ≡ y → u ≡ v → (if b then x else u) ≡ (if c then y else v)
same_choice e f g = rw (e, f, g) refl
