use Rattle.std.proofs.Common.{◌≡◌, ap, subst, arith}
use Rattle.bddl_model.specs.Board.{SizedBoard}
use Rattle.bddl_model.specs.Certificate.{Place}
use Rattle.bddl_model.specs.declared.game.Side.TheVariants.{White}
use Rattle.place_set.specs.Places.{place_at}
use Rattle.bddl_laws.specs.BreadthFirst.{IsNumbered}
use Rattle.strategy.proofs.Numbering.{behind_is, is_numbered}
use Rattle.strategy.proofs.growing.reply.Goals as goal

pub apply-requires-clause-legal : goal.apply-requires-clause-legal
apply-requires-clause-legal c = (c.requires.place _ c.go_to-left.ensures.place).legal 0 c.args.mv (omega arith)

pub overflow_sub-left : goal.overflow_sub-left
overflow_sub-left c = (c.requires.place _ c.go_to-left.ensures.place).left

pub returns-clause-numbered : goal.returns-clause-numbered
returns-clause-numbered c p found =
    let here : Place = place_at c.go_to-left.result.0 c.go_to-left.new.board c.go_to-left.result.1 in
    let there = c.go_to-left.ensures.place in
    let same : here ≡ p = cc in
    let awaits = c.requires.place here there in
    let behind = behind_is c.args.game.now here White c.apply.new.board.marks c.args.mv awaits.side (ap (λ (b : SizedBoard). b.marks) c.apply.ensures) in
    subst (λ q. IsNumbered c.args.game.now q (record { mv = c.args.mv; next = record { 0 = c.in_ok-next.next } }) c.args.places.now c.number.new.self) same
    (is_numbered c.args.game.now here _ _ c.args.places.now c.number.new.self behind c.in_ok-next.ensures.place c.in_ok-next.ensures.met c.in_ok-next.ensures.next)
