-- What reading a text answers.
use Rattle.std.specs.Prelude.{◌≡◌, ◌⊎◌, Result, Ok, Err}
use Rattle.bddl_model.specs.declared.fault.QFault.{QFault}
use Rattle.bddl_model.specs.declared.fault.QFault.TheVariants.{NoMemory}
use Rattle.bddl_model.specs.FormulaReading.{FormulaRead}
use Rattle.qdimacs_io.specs.declared.read.QdimacsRead.{QdimacsRead}
use Rattle.qdimacs_io.specs.States.{Fails}

-- the result is this one, unless memory ran out
abbrev pub UnlessNoMemory : {A : Type 0} → Result A QFault → Result A QFault → Type 0
UnlessNoMemory result wanted = (result ≡ wanted) ⊎ (result ≡ Err NoMemory)

abbrev pub read_view : QdimacsRead → FormulaRead
read_view r = record { variables = r.variables; clauses = r.clauses; form = r.form }

-- the result is what is expected, unless memory ran out
abbrev pub Reads : Result FormulaRead QFault → Result QdimacsRead QFault → Type 0
Reads expected (Ok r) = expected ≡ Ok (read_view r)
Reads expected (Err f) = Fails expected f
