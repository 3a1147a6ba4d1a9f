use Rattle.std.proofs.Common.{◌∙◌, sym, ap, Ok}
use Rattle.std.proofs.lemmas.Result.{err_from_is_err_and}
use Rattle.bddl_model.specs.FormulaReading.{FormulaRead}
use Rattle.qdimacs_io.proofs.Whole.{word_fails, end_fails, whole_fits, whole_read}
use Rattle.qdimacs_io.proofs.read.read_text.Goals as goal

pub returns-in_err-reader : goal.returns-in_err-reader
returns-in_err-reader c =
    let p = err_from_is_err_and c.from_residual.result c.from_residual.ensures.1 in
    rw (p.1, p.2) (word_fails c.args.bytes.now c.in_err-reader.field-0.0 (rw c.of-words.ensures.words at c.in_err-reader.ensures.read))

pub returns-in-Some : goal.returns-in-Some
returns-in-Some c =
    end_fails c.args.bytes.now c.in_ok-reader.reader c.line.result c.in-Some.fault (rw c.of-words.ensures.words at c.in_ok-reader.ensures.read)
    (c.line.ensures ∙ c.in_ok-reader.ensures.last ∙ c.of-words.ensures.last) (sym c.in-Some.ensures)

pub finish-requires : goal.finish-requires
finish-requires c =
    whole_fits c.args.bytes.now c.in_ok-reader.reader c.line.result (rw c.of-words.ensures.words at c.in_ok-reader.ensures.read)
    (c.line.ensures ∙ c.in_ok-reader.ensures.last ∙ c.of-words.ensures.last) (sym c.in_default.ensures)

pub returns : goal.returns
returns c =
    whole_read c.args.bytes.now c.in_ok-reader.reader c.line.result (rw c.of-words.ensures.words at c.in_ok-reader.ensures.read)
    (c.line.ensures ∙ c.in_ok-reader.ensures.last ∙ c.of-words.ensures.last) (sym c.in_default.ensures)
    ∙ ap (λ (r : FormulaRead). Ok r) (sym c.in_ok-finish.ensures)
