use Rattle.std.proofs.Common.{◌≡◌, ◌<◌, ◌+◌, ◌*◌, arith, sym, subst}
use Rattle.std.proofs.lemmas.Grind.{common_steps}
use Rattle.qbf_store.specs.Rows.{row_of, row_count}
use Rattle.qbf_store.proofs.RowNumbers.{row_within}
use Rattle.qbf_store.proofs.holders.row_number.Goals as goal

pub returns-clause-within : goal.returns-clause-within
returns-clause-within c =
    let is : 2 * c.place.result + c.from.result ≡ row_of c.args.prefix.now c.args.literal = grind (arith, common_steps) in
    subst (λ n. n < row_count c.args.prefix.now) (sym is) (row_within c.args.prefix.now c.args.literal)
