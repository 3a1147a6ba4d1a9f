use Rattle.std.proofs.Common.{◌≡◌, ◌≤◌, ◌+◌, Ok}
use Rattle.qdimacs_io.specs.States.{states, first_state}
use Rattle.qdimacs_io.proofs.read.read_words.Given as goal

abbrev pub invariant-words : goal.invariant-words
invariant-words l = record {
  same : states (Ok l.reader) l.words.words ≡ states (Ok first_state) l.fn.words.words;
  last : l.words.last ≡ l.fn.words.last;
  few : l.reader.found + l.words.bytes ≤ 67108864;
}

abbrev pub decreases-words : goal.decreases-words
decreases-words l = l.words.bytes
