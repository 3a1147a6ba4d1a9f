use Rattle.std.proofs.Common.{◌∙◌, sym, arith}
use Rattle.std.proofs.lemmas.Grind.{common_steps}
use Rattle.std.proofs.lemmas.List.{append-nil}
use Rattle.std.proofs.lemmas.Result.{err_from_is_err_and}
use Rattle.offset_check.proofs.Faults.{last_of_three, stops_same}
use Rattle.offset_check.proofs.lines.add_line.Goals as goal

pub returns-in_err-check_fits-clause-checks : goal.returns-in_err-check_fits-clause-checks
returns-in_err-check_fits-clause-checks c =
    let last = last_of_three _ _ _ c.in_ok-check_length.ensures c.in_ok-check_tests.ensures in
    let stop = rw (append-nil, c.deref.ensures.value ∙ c.in_ok-line.ensures) at c.in_err-check_fits.ensures.checks in
    let end = err_from_is_err_and c.from_residual-in_err-check_fits.result c.from_residual-in_err-check_fits.ensures.1 in
    rw (end.1, end.2, sym c.width-width.ensures.value, sym c.height-height.ensures.value) (stops_same _ _ _ (sym last) stop)

pub add_line-requires-clause-line : goal.add_line-requires-clause-line
add_line-requires-clause-line c = record { tests = grind (arith, common_steps); fits = rw (append-nil, c.width-width.ensures.value, c.height-height.ensures.value, c.deref.ensures.value ∙ sym c.deref-2.ensures.value) at c.in_ok-check_fits.ensures.fits }
