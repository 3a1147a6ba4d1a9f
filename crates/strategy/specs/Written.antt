-- The text of a form that encodes a setup goes to a sink, whole or up to a refusal.
use Rattle.std.specs.Prelude.{ℕ, ◌≡◌, ◌⊎◌, List, Option, Result, Ok, Err}
use Rattle.bddl_model.specs.Truth.{Formula}
use Rattle.bddl_model.specs.Encodes.{Encodes}
use Rattle.bddl_model.specs.FormulaText.{qtext}
use Rattle.bddl_model.specs.Setup.{Setup}
use Rattle.io_edge.specs.Outside.{with_bytes, WithFront}
use Rattle.io_edge.specs.declared.sink.SinkEnd.{SinkEnd}

-- After a refusal nothing was written, or a front of such a text.
abbrev pub WritesForm : Setup → Option (List ℕ) → Option (List ℕ) → Result Unit SinkEnd → Type 0
WritesForm s old new (Ok u) = (form : Formula) × Encodes form s × (new ≡ with_bytes old (qtext form))
WritesForm s old new (Err e) = (new ≡ old) ⊎ ((form : Formula) × Encodes form s × WithFront old new (qtext form))
