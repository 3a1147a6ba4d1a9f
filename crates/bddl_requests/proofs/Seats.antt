-- The opponents of a play, one of which was changed in its place.
use Rattle.std.proofs.Common.{ℕ, zero, suc, ◌≡◌, ◌<◌, ◌⊎◌, Bool, List, [], ◌∷◌, length, get_or, set, slice_get, Option, Some, Result, Ok, Err, IfOk, IsTrue, inl, inr, refl, sym, ap, subst, ◌∙◌}
use Rattle.std.specs.Option.{unwrap_or}
use Rattle.std.proofs.lemmas.List.{get_or-set_same, length-set, set-get_or}
use Rattle.std.proofs.lemmas.Option.{slice_get-get_or}
use Rattle.bddl_model.specs.declared.command.Command.{Command}
use Rattle.bddl_model.specs.declared.command.Command.TheVariants.{Play}
use Rattle.io_edge.specs.Outside.{Counts}
use Rattle.bddl_requests.specs.Opponents.{AreReplies, Begins, ChangesOnly, CountsAt, IsSteadyAt}

-- what holds of an answer that it gives, holds more weakly
pub if_ok : {T E : Type 0} (r : Result T E) (P Q : Type 0) → (P → Q) → IfOk r (λ _. P) → IfOk r (λ _. Q)
if_ok (Ok x) P Q wider h = wider h
if_ok (Err e) P Q wider h = tt

-- a play began as its request says
pub play_begins : {O T E : Type 0} (r : Result T E) (began : O → ℕ) (c : Command) (numbers : List ℕ) (who n : ℕ) (new : List O) → c ≡ Play → numbers ≡ who ∷ n ∷ [] → IfOk r (λ _. Begins began Play (who ∷ n ∷ []) new) → IfOk r (λ _. Begins began c numbers new)
play_begins r began c numbers who n new is are h = rw (is, are) h

changed_elsewhere : {O : Type 0} (xs : List O) (who k : ℕ) (y : O) → (who ≡ k → ⊥) → slice_get (set xs who y) k ≡ slice_get xs k
changed_elsewhere [] who k y other = refl
changed_elsewhere (x ∷ xs) zero zero y other = absurd (other refl)
changed_elsewhere (x ∷ xs) zero (suc k) y other = refl
changed_elsewhere (x ∷ xs) (suc who) zero y other = refl
changed_elsewhere (x ∷ xs) (suc who) (suc k) y other = changed_elsewhere xs who k y (λ e. other (ap suc e))

same_found : {O : Type 0} (found : Option O) (x o : O) → found ≡ Some x → found ≡ Some o → x ≡ o
same_found found x o a b = ap (λ q. unwrap_or q x) (sym a ∙ b)

-- ---- the opponent of this number was x, and is y

module _ {O : Type 0} (xs : List O) (who n : ℕ) (seat : who < n) (len : n ≡ length xs) (x y : O) (is : x ≡ get_or xs who x) where
  inside : who < length xs
  inside = subst (λ m. who < m) len seat

  stood : slice_get xs who ≡ Some x
  stood = slice_get-get_or xs who x inside ∙ ap Some (sym is)

  stands : slice_get (set xs who y) who ≡ Some y
  stands = slice_get-get_or (set xs who y) who y (subst (λ m. who < m) (sym (length-set xs who y)) inside) ∙ ap Some (get_or-set_same xs who y y inside)

  pub replies_of : (said : O → List ℕ) (left : O → Option (List ℕ)) (replies : List ℕ) → AreReplies said left (Some who) xs (set xs who y) replies → (said y ≡ replies) ⊎ (left x ≡ Some replies)
  replies_of said left replies (inl (o, at, e)) = inl (subst (λ o. said o ≡ replies) (sym (same_found (slice_get (set xs who y) who) y o stands at)) e)
  replies_of said left replies (inr (o, at, e)) = inr (subst (λ o. left o ≡ Some replies) (sym (same_found (slice_get xs who) x o stood at)) e)

  pub others_stay : ChangesOnly (Some who) xs (set xs who y)
  others_stay k other = changed_elsewhere xs who k y (λ e. other (ap Some e))

  pub all_stay : y ≡ x → set xs who y ≡ xs
  all_stay same = ap (λ o. set xs who o) (same ∙ is) ∙ set-get_or xs who x

  pub begins : (began : O → ℕ) (number : ℕ) → began y ≡ number → Begins began Play (who ∷ number ∷ []) (set xs who y)
  begins began number e = (y, stands, e)

  pub counts : (count : O → ℕ) (missed : Bool) → Counts (count x) (count y) missed → CountsAt count (Some who) xs (set xs who y) missed
  counts count missed h = (x, y, stood, stands, h)

  pub is_steady : (steady : O → Bool) → IsSteadyAt steady (Some who) xs → IsTrue (steady x)
  is_steady steady (o, at, e) = subst (λ o. IsTrue (steady o)) (sym (same_found (slice_get xs who) x o stood at)) e
