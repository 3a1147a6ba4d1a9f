use Rattle.std.proofs.Common.{◌++◌, ap, ◌∙◌, append_assoc, take, take-append-drop}
use Rattle.std.proofs.lemmas.List.{take_rest}
use Rattle.io_edge.proofs.Fronts.{appends_more}
use Rattle.io_edge.proofs.stream_sink.write_piece.Goals as goal

pub loop-rest-preserved : goal.loop-rest-preserved
loop-rest-preserved g c =
    let w = c.loop-rest.invariant in
    let rest = c.loop-rest.rest.now in
    let n = c.in-Ok.n in (
      w.0 ++ take n rest,
      appends_more _ _ _ w.0 (take n rest) w.1 c.in-Ok.ensures.bytes,
      append_assoc w.0 (take n rest) _ ∙ ap (λ l. w.0 ++ l) (ap (λ l. take n rest ++ l) (take_rest rest n) ∙ take-append-drop n rest) ∙ w.2,
    )
