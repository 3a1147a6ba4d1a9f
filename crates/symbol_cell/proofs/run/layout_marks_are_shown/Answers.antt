use Rattle.std.proofs.Common.{length, sym, ap, ◌∙◌}
use Rattle.std.proofs.lemmas.Option.{get_or_from_slice_get}
use Rattle.symbol_cell.specs.Pairs.{mark_of}
use Rattle.symbol_cell.proofs.Carried.{marks_shown}
use Rattle.symbol_cell.proofs.run.layout_marks_are_shown.Goals as goal

pub returns : goal.returns
returns c s dag run a moves pair stands carries le coded found =
    ap (λ p. mark_of dag p a) (sym (get_or_from_slice_get run.pairs (length moves) pair pair found)) ∙ marks_shown s dag run a moves pair stands carries le coded
