use Rattle.std.proofs.Common.{length}
use Rattle.bddl_model.specs.FormulaText.{greatest_variable, qtext}
use Rattle.bddl_model.proofs.WrittenForms.{text_is_read}
use Rattle.bddl_model.proofs.OneText.{one_form}
use Rattle.bddl_laws.proofs.texts.text_is_read.Goals as goal

pub returns-clause-one_form : goal.returns-clause-one_form
returns-clause-one_form c f i few =
    let read = text_is_read f i few in record {
      read = (greatest_variable f.prefix, length f.clauses, read);
      only = λ other variables clauses says. (one_form (qtext f) variables clauses (greatest_variable f.prefix) (length f.clauses) other f says read).0;
    }

pub returns-clause-numbers : goal.returns-clause-numbers
returns-clause-numbers c f other variables clauses i few says =
    let same = one_form (qtext f) variables clauses (greatest_variable f.prefix) (length f.clauses) other f says (text_is_read f i few) in
    (same.1, same.2)
