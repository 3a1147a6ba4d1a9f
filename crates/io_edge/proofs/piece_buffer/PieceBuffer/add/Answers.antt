use Rattle.std.proofs.Common.{rules, arith, ◌≡◌, ◌+◌, ◌-◌, Ok}
use Rattle.io_edge.proofs.Steps.{adds_run, adds_run_stops}
use Rattle.io_edge.proofs.piece_buffer.PieceBuffer.add.Goals as goal

pub returns-in_err-add_run-clause-text : goal.returns-in_err-add_run-clause-text
returns-in_err-add_run-clause-text g c =
    let run : c.runs.at + c.min.result - c.runs.at ≡ c.min.result = omega arith in
    adds_run_stops c.args.text.now c.runs.at c.min.result (g.K.Sink.written c.args.sink.now) (g.K.Sink.written c.runs.sink) (g.K.Sink.written c.add_run.new.sink) c.from_residual.result c.from_residual.ensures.0 c.args.self.now c.runs.self-inside.held.items c.add_run.new.held.items c.runs.invariant.added (rw run at c.in_err-add_run.ensures.text)

pub runs-preserved : goal.runs-preserved
runs-preserved g c =
    let run : c.runs.at + c.min.result - c.runs.at ≡ c.min.result = omega arith in
    record {
      within = omega arith;
      room = c.in_ok-add_run.ensures.room;
      added = adds_run c.args.text.now c.runs.at c.min.result (g.K.Sink.written c.args.sink.now) (g.K.Sink.written c.runs.sink) (g.K.Sink.written c.add_run.new.sink) (Ok tt) c.args.self.now c.runs.self-inside.held.items c.add_run.new.held.items c.runs.invariant.added (rw run at c.in_ok-add_run.ensures.text);
      rest = omega (arith, c.in_ok-add_run.ensures.rest);
      counts = search rules;
    }
