use Rattle.std.proofs.Common.{◌+◌, ap, ◌∙◌, arith}
use Rattle.qdimacs_io.specs.Scanning.{Remaining}
use Rattle.qdimacs_io.proofs.Scans.{word_found, feeds_behind, shorter_behind}
use Rattle.qdimacs_io.proofs.words.Words.next.Goals as goal

pub returns-clause-word : goal.returns-clause-word
returns-clause-word c =
    word_found c.at_word-at.result.fresh c.at_word-at.result.line c.run_len.result c.at_word-at.result.rest.now c.split_at.result.0.now c.split_at.result.1.now _
    c.at_word-at.ensures.found c.run_len.ensures.len c.split_at.ensures.front c.split_at.ensures.back c.if-is_empty.ensures (c.at_word-at.ensures.passed.words ∙ ap (λ (r : Remaining). r.words) c.self.view_is)

pub returns-clause-last : goal.returns-clause-last
returns-clause-last c =
    ap (λ k. c.at_word-at.result.line + k) (feeds_behind c.run_len.result c.at_word-at.result.rest.now c.split_at.result.1.now c.run_len.ensures.len c.split_at.ensures.back)
    ∙ c.at_word-at.ensures.passed.last ∙ ap (λ (r : Remaining). r.last) c.self.view_is

pub returns-clause-shorter : goal.returns-clause-shorter
returns-clause-shorter c =
    let less = shorter_behind c.run_len.result c.at_word-at.result.rest.now c.split_at.result.0.now c.split_at.result.1.now c.split_at.ensures.front c.split_at.ensures.back c.if-is_empty.ensures c.run_len.ensures.within in
    let short = c.at_word-at.ensures.passed.shorter in
    let all = ap (λ (r : Remaining). r.bytes) c.self.view_is in
    omega arith
