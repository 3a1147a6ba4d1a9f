use Rattle.std.proofs.Common.{◌*◌, refl, sym, ap₂, ◌∙◌, subst, take, arith}
use Rattle.std.specs.List.{slice_index_or}
use Rattle.std.proofs.lemmas.List.{take_more, take_all}
use Rattle.bddl_model.specs.Certificate.{behind}
use Rattle.cert_checker.specs.Checking.{IsAnswer}
use Rattle.cert_checker.specs.Placing.{AllStand}
use Rattle.cert_checker.proofs.Placings.{no_answer, first_place, stands_still, start_keeps, stood_there, number_stays, one_keeps, keeps_all, one_more_stands}
use Rattle.cert_checker.proofs.least.Placing.follow_all.Goals as goal

pub loop-answer-init : goal.loop-answer-init
loop-answer-init c = record {
  size = c.requires.size;
  keeps = start_keeps c.args.node c.args.self.now c.requires.same;
  stood = λ p found. refl;
}

pub follow-requires-clause-size : goal.follow-requires-clause-size
follow-requires-clause-size c = c.loop-answer.invariant.size

pub follow-requires-clause-inside : goal.follow-requires-clause-inside
follow-requires-clause-inside c = let count = c.loop-answer.invariant.keeps.count in let within = c.requires.inside in omega (arith, count, within)

pub follow-requires-clause-same : goal.follow-requires-clause-same
follow-requires-clause-same c = c.loop-answer.invariant.keeps.matches

pub follow-requires-clause-number : goal.follow-requires-clause-number
follow-requires-clause-number c = number_stays c.args.node c.args.self.now c.loop-answer.self c.loop-answer.invariant.keeps c.requires.number

pub follow-requires-clause-board : goal.follow-requires-clause-board
follow-requires-clause-board c p found =
    let before = stood_there c.args.node c.args.self.now c.loop-answer.self c.loop-answer.invariant.keeps c.requires.number p found in
    let now = c.loop-answer.invariant.size in
    c.requires.board p before ∙ ap₂ (λ h w. h * w) (c.requires.size.1 ∙ sym now.1) (c.requires.size.0 ∙ sym now.0)

pub follow-requires-clause-answer : goal.follow-requires-clause-answer
follow-requires-clause-answer c p found =
    let before = stood_there c.args.node c.args.self.now c.loop-answer.self c.loop-answer.invariant.keeps c.requires.number p found in
    subst (λ n. IsAnswer c.args.setup.now n c.args.node p (slice_index_or c.args.answers.now c.loop-answer.answer-index no_answer)) (sym c.loop-answer.invariant.keeps.count) (c.requires.answers p before c.loop-answer.answer-index no_answer c.loop-answer-test.true)

pub loop-answer-preserved : goal.loop-answer-preserved
loop-answer-preserved c =
    let keeps = c.loop-answer.invariant.keeps in
    let answer = slice_index_or c.args.answers.now c.loop-answer.answer-index no_answer in
    let first = first_place c.args.node c.args.self.now c.requires.number in
    let still = stands_still c.args.node c.args.self.now c.loop-answer.self keeps in
    record {
      size = c.in_ok-follow.ensures.size;
      keeps = keeps_all c.args.node c.args.self.now c.loop-answer.self c.follow.new.self keeps
          (one_keeps c.loop-answer.self answer.next.0 (behind c.args.setup.now.game first.0 answer.mv) c.follow.new.self keeps.matches (c.in_ok-follow.ensures.stands first.0 (still first.0 first.1))
          c.args.node (c.requires.answers first.0 first.1 c.loop-answer.answer-index no_answer c.loop-answer-test.true).later);
      stood = λ p found.
          subst (λ all. AllStand c.args.setup.now.game p all c.args.self.now c.follow.new.self) (sym (take_more c.args.answers.now c.loop-answer.answer-index no_answer c.loop-answer-test.true))
          (one_more_stands c.args.setup.now.game p (take c.loop-answer.answer-index c.args.answers.now) answer c.args.self.now c.loop-answer.self c.follow.new.self
          (c.loop-answer.invariant.stood p found) (c.in_ok-follow.ensures.stands p (still p found)));
    }

pub returns-clause-stands : goal.returns-clause-stands
returns-clause-stands c p found =
    subst (λ all. AllStand c.args.setup.now.game p all c.args.self.now c.loop-answer.self) (take_all c.loop-answer.answer-index c.args.answers.now c.loop-answer-test.false) (c.loop-answer.invariant.stood p found)

pub returns-clause-size : goal.returns-clause-size
returns-clause-size c = c.loop-answer.invariant.size
