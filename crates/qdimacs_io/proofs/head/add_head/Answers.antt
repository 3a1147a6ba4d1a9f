use Rattle.std.proofs.Common.{refl}
use Rattle.io_edge.proofs.Added.{added_nothing, added_more, added_stops, added_last}
use Rattle.qdimacs_io.proofs.Blocks.{head_text_is}
use Rattle.qdimacs_io.proofs.head.add_head.Goals as goal

pub returns-in_err-add_problem_line-clause-text : goal.returns-in_err-add_problem_line-clause-text
returns-in_err-add_problem_line-clause-text g c =
    let next = head_text_is c.args.prefix.now c.as_slice-bounds.result.now _ c.args.clauses c.as_slice-bounds.ensures c.greatest.ensures in
    added_stops _ _ _ _ next _ _ _ _ _ _ (added_nothing _ _ _) _ c.from_residual.ensures.0 c.in_err-add_problem_line.ensures.text

pub returns-clause-text : goal.returns-clause-text
returns-clause-text g c =
    let next = head_text_is c.args.prefix.now c.as_slice-bounds.result.now _ c.args.clauses c.as_slice-bounds.ensures c.greatest.ensures in
    added_last _ _ _ refl _ _ _ _ _ _ _ (added_more _ _ _ _ next _ _ _ _ _ _ (added_nothing _ _ _) c.in_ok-add_problem_line.ensures.text) c.add_blocks.ensures.text
