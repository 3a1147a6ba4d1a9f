-- Checks one after the other: what stops one stops the whole, and what passes leaves the rest.
use Rattle.std.proofs.Common.{◌≡◌, ◌⊎◌, inl, inr, List, [], ◌∷◌, Option, Some, None, refl, sym, ◌∙◌}
use Rattle.bddl_model.specs.declared.check.CheckFault.{CheckFault}
use Rattle.bddl_model.specs.declared.check.CheckFault.TheVariants as fault
use Rattle.bddl_model.specs.Check.{first_of}

-- a check that tells this fault
abbrev pub Stops : Option CheckFault → CheckFault → Type 0
Stops wanted f = (f ≡ fault.NoMemory) ⊎ (wanted ≡ Some f)

pub stops : (a : Option CheckFault) (more : List (Option CheckFault)) (f : CheckFault) → Stops a f → Stops (first_of (a ∷ more)) f
stops a more f (inl out) = inl out
stops a more f (inr here) = inr (rw here refl)

pub passes : (a : Option CheckFault) (more : List (Option CheckFault)) → a ≡ None → first_of (a ∷ more) ≡ first_of more
passes a more e = rw e refl

pub stops_same : (a b : Option CheckFault) (f : CheckFault) → a ≡ b → Stops a f → Stops b f
stops_same a b f e (inl out) = inl out
stops_same a b f e (inr here) = inr (sym e ∙ here)

-- ---- the last check, where the others passed

pub last_of_three : (a b c : Option CheckFault) → a ≡ None → b ≡ None → first_of (a ∷ b ∷ c ∷ []) ≡ c
last_of_three a b None a_passed b_passed = rw (a_passed, b_passed) refl
last_of_three a b (Some f) a_passed b_passed = rw (a_passed, b_passed) refl

pub last_of_six : (a b c d e w : Option CheckFault) → a ≡ None → b ≡ None → c ≡ None → d ≡ None → e ≡ None → first_of (a ∷ b ∷ c ∷ d ∷ e ∷ w ∷ []) ≡ w
last_of_six a b c d e w a_passed b_passed c_passed d_passed e_passed = rw (a_passed, b_passed, c_passed) (last_of_three d e w d_passed e_passed)
