-- The text of a form goes out clause by clause.
use Rattle.std.proofs.Common.{◌≡◌, ℕ, ◌+◌, List, ◌++◌, drop, slice_get, Option, Some, Result, Ok, Err, inr, sym}
use Rattle.std.specs.Prelude.{flat_map}
use Rattle.std.proofs.lemmas.Option.{slice_get_within, get_or_from_slice_get}
use Rattle.bddl_model.specs.declared.formula.Lit.{Lit}
use Rattle.bddl_model.specs.Encodes.{Encodes}
use Rattle.bddl_model.specs.FormulaText.{clause_text, qtext}
use Rattle.bddl_model.specs.Setup.{Setup}
use Rattle.bddl_model.specs.Truth.{Formula}
use Rattle.io_edge.specs.Puts.{Puts}
use Rattle.io_edge.specs.declared.sink.SinkEnd.{SinkEnd}
use Rattle.io_edge.proofs.Added.{flat_map_next}
use Rattle.strategy.specs.Written.{WritesForm}

-- the line of the clause with this number is the next one
pub clause_next : (clauses : List (List Lit)) (number : ℕ) (clause : List Lit) → slice_get clauses number ≡ Some clause
    → flat_map clause_text (drop number clauses) ≡ clause_text clause ++ flat_map clause_text (drop (number + 1) clauses)
clause_next clauses number clause found =
    flat_map_next clause_text clauses number clause clause (slice_get_within clauses number clause found) (sym (get_or_from_slice_get clauses number clause clause found))

-- a form that encodes the setup was written, or a front of its text
pub writes_form : (s : Setup) (form : Formula) → Encodes form s → (old new : Option (List ℕ)) (r : Result Unit SinkEnd) → Puts (qtext form) old new r → WritesForm s old new r
writes_form s form encodes old new (Ok u) put = (form, encodes, put)
writes_form s form encodes old new (Err e) put = inr (form, encodes, put)
