use Rattle.std.proofs.Common.{sym, ap, ◌∙◌}
use Rattle.std.specs.Prelude.{slice_get, Some}
use Rattle.std.proofs.lemmas.Option.{get_or_from_slice_get}
use Rattle.symbol_cell.specs.Pairs.{mark_of}
use Rattle.symbol_cell.specs.Runs.{place_named}
use Rattle.symbol_cell.proofs.Following.{follow_at}
use Rattle.symbol_cell.proofs.run.SymbolRun.mark.Goals as goal

pub returns-clause-shows : goal.returns-clause-shows
returns-clause-shows c dag g board a moves stands count named =
    let r = c.args.self.now in
    let p = c.pair_at-pair.result in
    ap (λ q. mark_of dag q a) (sym (get_or_from_slice_get r.pairs _ p p (ap (slice_get r.pairs) count ∙ c.pair_at-pair.ensures)))
    ∙ follow_at g dag a (place_named g dag a r.place) board r.plies r.pairs moves p (stands.follow a) named
