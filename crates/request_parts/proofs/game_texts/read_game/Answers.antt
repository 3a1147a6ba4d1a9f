use Rattle.std.proofs.Common.{Err, refl}
use Rattle.std.proofs.lemmas.Result.{err_from_is_err_and}
use Rattle.request_parts.proofs.Games.{check_stops}
use Rattle.offset_check.proofs.Named.{named}
use Rattle.request_parts.proofs.game_texts.read_game.Goals as goal

pub check-requires-clause-black : goal.check-requires-clause-black
check-requires-clause-black c = (named c.in_ok-domain.domain c.in_ok-domain.ensures.spelled).0

pub check-requires-clause-white : goal.check-requires-clause-white
check-requires-clause-white c = (named c.in_ok-domain.domain c.in_ok-domain.ensures.spelled).1

pub returns-in_err-check-clause-stop : goal.returns-in_err-check-clause-stop
returns-in_err-check-clause-stop c =
    let end = err_from_is_err_and c.from_residual-in_err-check.result c.from_residual-in_err-check.ensures.1 in
    rw end.1 (check_stops c.args.domain.now c.args.problem.now c.in_ok-domain.domain c.in_ok-problem.problem c.in_err-check.field-0.0 (Err c.in_err-check.field-0.0) end.0 refl c.in_ok-domain.ensures.found c.in_ok-problem.ensures.found c.in_err-check.ensures end.2)
