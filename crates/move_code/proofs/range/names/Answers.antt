use Rattle.std.proofs.Common.{rules, arith}
use Rattle.bddl_model.proofs.Growth.{grows_then, grows_within, makes_after}
use Rattle.bddl_model.proofs.WireWords.{word_stays}
use Rattle.move_code.proofs.Ranges.{names_held}
use Rattle.move_code.proofs.range.names.Goals as goal

pub stands_between-requires-clause-word : goal.stands_between-requires-clause-word
stands_between-requires-clause-word c = word_stays _ _ _ c.args.words.x.now c.in_ok-named.ensures.grows c.requires.words.x

pub stands_between-requires-2-clause-word : goal.stands_between-requires-2-clause-word
stands_between-requires-2-clause-word c = word_stays _ _ _ c.args.words.y.now (grows_then c.in_ok-named.ensures.grows c.in_ok-in_columns.ensures.grows) c.requires.words.y

pub returns-in_err-inside : goal.returns-in_err-inside
returns-in_err-inside c = record {
  wire = search rules;
  value = search rules;
  grows = grows_within (grows_then (grows_then (grows_then c.in_ok-named.ensures.grows c.in_ok-in_columns.ensures.grows) c.in_ok-in_rows.ensures.grows) c.and.ensures.made.grows) (omega arith);
}

pub returns : goal.returns
returns c =
    let tested = grows_then (grows_then (grows_then c.in_ok-named.ensures.grows c.in_ok-in_columns.ensures.grows) c.in_ok-in_rows.ensures.grows) c.in_ok-inside.ensures.made.grows in
    makes_after tested c.and-2.ensures.made (omega arith) (names_held c.args.words c.args.action c.args.rect c.in_ok-named.ensures c.in_ok-in_columns.ensures c.in_ok-in_rows.ensures c.in_ok-inside.ensures.made c.requires.words)
