-- A list of tokens has one tree at most, and so has a text.
use Rattle.std.proofs.Common.{◌≡◌, ℕ, List, subst}
use Rattle.bddl_model.specs.declared.texts.DomainText.{DomainText}
use Rattle.bddl_model.specs.declared.texts.ProblemText.{ProblemText}
use Rattle.bddl_model.specs.Tokens.{Lexeme}
use Rattle.bddl_model.specs.Grammar.{domain, problem}
use Rattle.bddl_model.specs.Reading.{Reads}
use Rattle.bddl_lexer.proofs.OneReading.{one_spelling}
use Rattle.bddl_reader.proofs.ExactWhole.{one_value}
use Rattle.bddl_reader.proofs.Lines.{exact_domain, exact_problem}

pub one_domain : (ws : List Lexeme) (p q : DomainText) → domain ws p → domain ws q → p ≡ q
one_domain = one_value exact_domain

pub one_problem : (ws : List Lexeme) (p q : ProblemText) → problem ws p → problem ws q → p ≡ q
one_problem = one_value exact_problem

-- a text spells one domain at most
pub one_domain_read : (bytes : List ℕ) (d e : DomainText) → Reads domain bytes d → Reads domain bytes e → d ≡ e
one_domain_read bytes d e (vs, tokens, spells) (ws, others, other_spells) =
    one_domain ws d e (subst (λ z. domain z d) (one_spelling bytes vs ws tokens others) spells) other_spells

pub one_problem_read : (bytes : List ℕ) (p q : ProblemText) → Reads problem bytes p → Reads problem bytes q → p ≡ q
one_problem_read bytes p q (vs, tokens, spells) (ws, others, other_spells) =
    one_problem ws p q (subst (λ z. problem z p) (one_spelling bytes vs ws tokens others) spells) other_spells
