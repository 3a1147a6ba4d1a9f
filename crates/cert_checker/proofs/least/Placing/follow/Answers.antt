use Rattle.std.proofs.Common.{◌≡◌, true, sym, ap, subst, ◌∙◌, slice_get}
use Rattle.std.proofs.lemmas.Grind.{get_or_default_zero}
use Rattle.bddl_model.specs.Moves.{legal}
use Rattle.bddl_model.specs.Setup.{Setup}
use Rattle.bddl_model.specs.Certificate.{Place}
use Rattle.place_set.specs.Places.{place_at}
use Rattle.cert_checker.proofs.least.Placing.follow.Goals as goal

pub apply-requires-clause-legal : goal.apply-requires-clause-legal
apply-requires-clause-legal c =
    let here : Place = place_at c.go_to-side.result.0 c.go_to-side.new.board c.go_to-side.result.1 in
    let number = sym (get_or_default_zero c.args.self.now.of.items c.args.node c.index.result.now c.requires.inside) ∙ sym c.index.ensures in
    subst (λ g. legal g c.go_to-side.new.board.marks c.go_to-side.result.0 c.args.answer.mv ≡ true) (sym (ap (λ (s : Setup). s.game) c.setup.view_is))
    (c.requires.answer here (ap (slice_get c.args.self.now.places) number ∙ c.go_to-side.ensures.place)).may.legal

pub overflow_sub-left : goal.overflow_sub-left
overflow_sub-left c =
    let here : Place = place_at c.go_to-side.result.0 c.go_to-side.new.board c.go_to-side.result.1 in
    let number = sym (get_or_default_zero c.args.self.now.of.items c.args.node c.index.result.now c.requires.inside) ∙ sym c.index.ensures in
    (c.requires.answer here (ap (slice_get c.args.self.now.places) number ∙ c.go_to-side.ensures.place)).may.left

pub stand-requires-clause-inside : goal.stand-requires-clause-inside
stand-requires-clause-inside c =
    let here : Place = place_at c.go_to-side.result.0 c.go_to-side.new.board c.go_to-side.result.1 in
    let number = sym (get_or_default_zero c.args.self.now.of.items c.args.node c.index.result.now c.requires.inside) ∙ sym c.index.ensures in
    (c.requires.answer here (ap (slice_get c.args.self.now.places) number ∙ c.go_to-side.ensures.place)).inside
