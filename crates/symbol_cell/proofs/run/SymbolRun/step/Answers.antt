use Rattle.std.proofs.Common.{◌≡◌, List, length, refl, ap, ◌∙◌, arith}
use Rattle.std.specs.Prelude.{slice_get}
use Rattle.std.proofs.lemmas.List.{length-map}
use Rattle.bddl_model.specs.declared.circuit.Wire.{Wire}
use Rattle.bddl_model.specs.OneCell.{stepped}
use Rattle.symbol_cell.specs.Pairs.{mark_of}
use Rattle.symbol_cell.specs.Runs.{Run, Ply, named, place_named}
use Rattle.symbol_cell.specs.Views.{ply_of}
use Rattle.symbol_cell.proofs.Following.{stands_more, added}
use Rattle.symbol_cell.proofs.run.SymbolRun.step.Goals as goal

pub returns-clause-stands : goal.returns-clause-stands
returns-clause-stands c board h =
    let r = c.args.self.now in
    let g = c.args.game.now in
    let s : Ply = record { side = c.args.side; code = c.args.code.now } in
    let count : length r.plies ≡ c.len.result = omega (arith, c.len.ensures, length-map c.self.inside.steps.items ply_of, ap (λ (t : Run). length t.plies) c.self.view_is) in
    let place : c.deref.result.now ≡ r.place = c.deref.ensures.value ∙ ap (λ (t : Run). t.place) c.self.view_is in
    stands_more g _ c.args.dag.now c.put_move.new.dag c.put_move.ensures.grows r _ board s c.in_ok-pair.pair c.pair_at-before.result
    (added c.self.inside.place.items c.self.inside.first c.self.inside.steps.items c.push.new.self.items _ s c.in_ok-pair.pair r c.self.view_is c.in_ok-push.ensures.items (ap (λ l. record { side = c.args.side; code = l }) c.in_ok-code.ensures.items) refl)
    (ap (slice_get r.pairs) count ∙ c.pair_at-before.ensures) c.requires.code c.requires.code_bits c.in_ok-pair.ensures.pair
    (λ a. c.in_ok-pair.ensures.shown a ∙ ap (λ (l : List Wire). stepped g c.args.side (named g c.args.dag.now a s) (place_named g c.args.dag.now a l) (mark_of c.args.dag.now c.pair_at-before.result a)) place) h
