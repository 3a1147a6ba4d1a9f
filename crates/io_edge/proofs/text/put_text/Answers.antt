use Rattle.std.proofs.Common.{rules, arith, ◌≡◌, ◌+◌, ◌-◌, Ok}
use Rattle.io_edge.proofs.Steps.{puts_run, puts_run_stops}
use Rattle.io_edge.proofs.text.put_text.Goals as goal

pub returns-in_err-put-clause-text : goal.returns-in_err-put-clause-text
returns-in_err-put-clause-text g c =
    let run : c.pieces.at + c.min.result - c.pieces.at ≡ c.min.result = omega arith in
    puts_run_stops c.args.text.now c.pieces.at c.min.result (g.K.Sink.written c.args.sink.now) (g.K.Sink.written c.pieces.sink) (g.K.Sink.written c.put.new.self) c.from_residual.result c.from_residual.ensures.0 c.pieces.invariant.told (rw run at c.in_err-put.ensures.err)

pub pieces-preserved : goal.pieces-preserved
pieces-preserved g c =
    let run : c.pieces.at + c.min.result - c.pieces.at ≡ c.min.result = omega arith in
    record {
      within = omega arith;
      told = puts_run c.args.text.now c.pieces.at c.min.result (g.K.Sink.written c.args.sink.now) (g.K.Sink.written c.pieces.sink) (g.K.Sink.written c.put.new.self) (Ok tt) c.pieces.invariant.told (rw run at c.in_ok-put.ensures.ok);
      counts = search rules;
    }
