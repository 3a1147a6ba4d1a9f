-- Clauses that fit a prefix: each of them, with one more, and their variables are bound.
use Rattle.std.proofs.Common.{◌≡◌, ℕ, zero, suc, ◌<◌, true, List, [], ◌∷◌, ◌++◌, length, get_or, refl, arith, eq-eqb}
use Rattle.std.specs.Prelude.{◌==◌, Result, Ok, Err, OnOk, OnErr}
use Rattle.std.proofs.lemmas.Bool.{or_left, or_right}
use Rattle.bddl_model.specs.declared.formula.Bound.{Bound}
use Rattle.bddl_model.specs.declared.formula.Lit.{Lit}
use Rattle.bddl_model.specs.Truth.{Formula}
use Rattle.bddl_model.specs.Forms.{has_number, prefix_variables, literal_variables, FitsPrefix, AllFitPrefix}
use Rattle.bddl_model.proofs.NumberLists.{one_passes}

pub clause_fits : (bounds : List Bound) (cs : List (List Lit)) (n : ℕ) → AllFitPrefix bounds cs → n < length cs → FitsPrefix bounds (get_or cs n [])
clause_fits bounds [] n fit h = absurd (omega arith)
clause_fits bounds (c ∷ cs) zero fit h = fit.0
clause_fits bounds (c ∷ cs) (suc n) fit h = clause_fits bounds cs n fit.1 (omega arith)

all_fit : (bounds : List Bound) (cs : List (List Lit)) (c : List Lit) → AllFitPrefix bounds cs → FitsPrefix bounds c → AllFitPrefix bounds (cs ++ c ∷ [])
all_fit bounds [] c fit fits = (fits, tt)
all_fit bounds (d ∷ ds) c fit fits = (fit.0, all_fit bounds ds c fit.1 fits)

-- a clause that was added, or not
pub still_fit : {A B : Type 0} (bounds : List Bound) (old new : List (List Lit)) (c : List Lit) (r : Result A B) → OnOk r (new ≡ old ++ c ∷ []) → OnErr r (new ≡ old) → AllFitPrefix bounds old → FitsPrefix bounds c → AllFitPrefix bounds new
still_fit bounds old new c (Ok a) more same fit fits = rw more (all_fit bounds old c fit fits)
still_fit bounds old new c (Err b) more same fit fits = rw same fit

pub literal_among : (ls : List Lit) (n : ℕ) (d : Lit) → n < length ls → has_number (literal_variables ls) (get_or ls n d).var.0 ≡ true
literal_among [] n d h = absurd (omega arith)
literal_among (l ∷ ls) zero d h = or_left (l.var.0 == l.var.0) (has_number (literal_variables ls) l.var.0) (eq-eqb l.var.0 l.var.0 refl)
literal_among (l ∷ ls) (suc n) d h = or_right (l.var.0 == (get_or ls n d).var.0) (has_number (literal_variables ls) (get_or ls n d).var.0) (literal_among ls n d (omega arith))

pub fitting_bound : (f : Formula) (c : List Lit) (v : ℕ) → FitsPrefix f.prefix c → has_number (literal_variables c) v ≡ true → has_number (prefix_variables f.prefix) v ≡ true
fitting_bound f c v fits h = one_passes (has_number (prefix_variables f.prefix)) (literal_variables c) v fits.0 h
