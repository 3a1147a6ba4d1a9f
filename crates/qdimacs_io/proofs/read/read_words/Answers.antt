use Rattle.std.proofs.Common.{arith, ◌∙◌}
use Rattle.bddl_model.specs.FormulaWords.{Word, word_on}
use Rattle.qdimacs_io.specs.Scanning.{token_view}
use Rattle.qdimacs_io.proofs.Following.{states_kept, found_step}
use Rattle.qdimacs_io.proofs.read.read_words.Goals as goal

pub words-preserved : goal.words-preserved
words-preserved c =
    let w : Word = word_on c.in-Some.word.line c.in-Some.word.text.now in
    let found = found_step c.in-Some.word.line c.words.reader c.step.new.self (token_view c.of.result) c.in_ok-step.ensures in record {
      same = states_kept c.words.reader c.step.new.self w c.next.new.self.words c.words.words.words (token_view c.of.result) c.of.ensures c.in-Some.ensures.word c.in_ok-step.ensures ∙ c.words.invariant.same;
      last = c.in-Some.ensures.last ∙ c.words.invariant.last;
      few = omega (arith, found, c.in-Some.ensures.shorter, c.words.invariant.few);
    }
