use Rattle.std.proofs.Common.{◌≡◌, drop, length, map}
use Rattle.bddl_model.specs.Request.{numbers_in_words}
use Rattle.request_parts.proofs.Numbers.{behind}
use Rattle.request_parts.proofs.number.numbers_in_words.Given as goal

-- the numbers so far, and behind them those of the words that are left
abbrev pub invariant-words : goal.invariant-words
invariant-words l = record {
  numbers : behind l.numbers.items (numbers_in_words (map (λ w. w.items) (drop l.word-index l.words))) ≡ numbers_in_words (map (λ w. w.items) l.words);
  count : length l.numbers.items ≡ l.word-index;
}
