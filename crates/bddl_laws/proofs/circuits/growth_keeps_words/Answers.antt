use Rattle.bddl_model.proofs.WireWords.{word_stays, word_kept, value_kept}
use Rattle.bddl_laws.proofs.circuits.growth_keeps_words.Goals as goal

pub returns : goal.returns
returns c = record { wires = word_stays; bits = word_kept; number = value_kept }
