use Rattle.std.proofs.Common.{ℕ, ◌≡◌, None, Ok, sym, subst, ap, ◌∙◌}
use Rattle.bddl_make.specs.Kinds.{trial_of}
use Rattle.bddl_make.specs.declared.making.TrialKind.{TrialKind}
use Rattle.bddl_make.specs.declared.making.TrialKind.TheVariants.{Large, Small}
use Rattle.bddl_model.specs.declared.texts.DomainText.{DomainText}
use Rattle.bddl_model.specs.declared.texts.ProblemText.{ProblemText}
use Rattle.bddl_model.specs.Check.{checked_setup, setup_fault, setup_unless}
use Rattle.bddl_model.specs.Grammar.{domain, problem}
use Rattle.bddl_model.specs.Reading.{Reads}
use Rattle.bddl_model.specs.Setup.{Setup, setup_of}
use Rattle.bddl_model.specs.Trial.{large, occupying, small}
use Rattle.bddl_reader.proofs.OneTree.{one_domain_read, one_problem_read}
use Rattle.bddl_requests.proofs.trial.made.Goals as goal

no_fault : ((n : ℕ) → setup_fault occupying (large n) ≡ None) → ((n : ℕ) → setup_fault occupying (small n) ≡ None) → (kind : TrialKind) (number : ℕ) → setup_fault occupying (trial_of kind number) ≡ None
no_fault of_large of_small Large number = of_large number
no_fault of_large of_small Small number = of_small number

one_setup : (d : DomainText) (p : ProblemText) (s : Setup) → setup_fault d p ≡ None → checked_setup d p ≡ Ok s → s ≡ setup_of d p
one_setup d p s none checked =
    let same : Ok s ≡ Ok (setup_of d p) = sym checked ∙ ap (λ f. setup_unless f (setup_of d p)) none in
    cc

pub returns : goal.returns
returns c =
    let found = c.in-Ok.ensures.found in
    let read = c.in_ok-texts.ensures.read in
    let laws = c.trial_games_have_no_fault.ensures in
    let dom = one_domain_read _ found.0 occupying found.2.0 (subst (λ t. Reads domain t occupying) (sym c.deref.ensures.value) read.0) in
    let prob = one_problem_read _ found.1 (trial_of c.args.kind c.args.number) found.2.1 (subst (λ t. Reads problem t (trial_of c.args.kind c.args.number)) (sym c.deref-2.ensures.value) read.1) in
    one_setup occupying (trial_of c.args.kind c.args.number) c.in-Ok.setup (no_fault laws.large laws.small c.args.kind c.args.number) (rw (dom, prob) at found.2.2)
