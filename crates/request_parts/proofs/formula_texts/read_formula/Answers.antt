use Rattle.std.proofs.lemmas.Result.{err_from_is_err_and}
use Rattle.request_parts.proofs.Formulas.{formula_stops}
use Rattle.request_parts.proofs.formula_texts.read_formula.Goals as goal

pub returns-in_err-read_qdimacs-clause-stop : goal.returns-in_err-read_qdimacs-clause-stop
returns-in_err-read_qdimacs-clause-stop c =
    let end = err_from_is_err_and c.from_residual.result c.from_residual.ensures.1 in
    rw end.1 (formula_stops c.args.bytes.now c.in_err-read_qdimacs.field-0.0 _ c.in_err-read_qdimacs.ensures.fault end.2)
