-- What a request that is carried out ends as.
use Rattle.std.proofs.Common.{ℕ, ◌≡◌, true, List, [], ◌∷◌, Option, None, Some, inl, inr, refl, subst}
use Rattle.bddl_model.specs.declared.command.Command.{Command}
use Rattle.bddl_model.specs.declared.command.Command.TheVariants.{Compile, Solve, SolveFormula, Certify, Check, Recertify, Play, Trial, FormatDomain, FormatProblem, Help, Version}
use Rattle.bddl_model.specs.declared.texts.DomainText.{DomainText}
use Rattle.bddl_model.specs.declared.texts.ProblemText.{ProblemText}
use Rattle.bddl_model.specs.declared.certificate.Node.{Node}
use Rattle.bddl_model.specs.Certificate.{valid}
use Rattle.bddl_model.specs.CertificateText.{CertText}
use Rattle.bddl_model.specs.Files.{Files}
use Rattle.bddl_model.specs.Request.{Request, limits_of}
use Rattle.bddl_model.specs.Setup.{Setup}
use Rattle.bddl_model.specs.Outcome.{End, CompileEnds, SolveEnds, CertifyEnds, CheckEnds, RecertifyEnds, PlayEnds, AcceptedThen, Accepts, ContentEnds, GameThen, Finds, IsResult, MayEnd, Results, States, is_carried_out}
use Rattle.std.specs.Prelude.{Ok}
use Rattle.request_parts.proofs.Done.{not_refused}
use Rattle.request_parts.proofs.Files.{files_were_read}

of_game : (d p : List ℕ) (next : Setup → End → Type 0) (end : End) → is_carried_out end.status ≡ true → GameThen d p next end
    → (dom : DomainText) × (prob : ProblemText) × (s : Setup) × States d p dom prob (Ok s) × next s end
of_game d p next end carried (inl f) = absurd (not_refused end 2 _ carried refl f.2)
of_game d p next end carried (inr (dom, r, inl f)) = absurd (not_refused end 2 _ carried refl f.2)
of_game d p next end carried (inr (dom, r, inr (prob, q, inl f))) = absurd (not_refused end 2 _ carried refl f.2)
of_game d p next end carried (inr (dom, r, inr (prob, q, inr (s, c, h)))) = (dom, prob, s, (r, q, c), h)

of_text : (c : List ℕ) (next : Setup → List Node → End → Type 0) (s : Setup) (end : End) → is_carried_out end.status ≡ true → AcceptedThen c next s end
    → (nodes : List Node) × CertText c nodes × (valid s nodes ≡ true) × next s nodes end
of_text c next s end carried (inl f) = absurd (not_refused end 6 _ carried refl f.2)
of_text c next s end carried (inr (nodes, read, inl f)) = absurd (not_refused end 6 _ carried refl f.2)
of_text c next s end carried (inr (nodes, read, inr h)) = (nodes, read, h.0, h.1)

of_certificate : (d p c : List ℕ) (next : Setup → List Node → End → Type 0) (end : End) → is_carried_out end.status ≡ true → GameThen d p (AcceptedThen c next) end
    → (s : Setup) × (nodes : List Node) × Accepts d p c s nodes × next s nodes end
of_certificate d p c next end carried h =
    let game = of_game d p (AcceptedThen c next) end carried h in
    let text = of_text c next game.2 end carried game.4 in
    (game.2, text.0, record { dom = game.0; prob = game.1; states = game.3; read = text.1; valid = text.2 }, text.3)

pub result_of : (c : Command) (contents : List (List ℕ)) (numbers replies : List ℕ) (end : End) → is_carried_out end.status ≡ true → ContentEnds c contents numbers replies end → Results c contents numbers replies end
result_of Compile (d ∷ p ∷ []) [] replies end carried h = let game = of_game d p (CompileEnds d p) end carried h in (game.2, game.4)
result_of Solve (d ∷ p ∷ []) (n ∷ []) replies end carried h = of_game d p (SolveEnds n) end carried h
result_of Certify (d ∷ p ∷ []) (n ∷ []) replies end carried h = of_game d p (CertifyEnds n) end carried h
result_of Check (d ∷ p ∷ c ∷ []) [] replies end carried h = of_certificate d p c CheckEnds end carried h
result_of Recertify (d ∷ p ∷ c ∷ []) [] replies end carried h = of_certificate d p c RecertifyEnds end carried h
result_of Play (d ∷ p ∷ c ∷ []) (who ∷ number ∷ []) replies end carried h = of_certificate d p c (PlayEnds replies) end carried h
result_of Trial [] (number ∷ n ∷ []) replies end carried h = h
result_of SolveFormula (f ∷ []) (n ∷ []) replies end carried (inl w) = absurd (not_refused end 2 _ carried refl w.2)
result_of SolveFormula (f ∷ []) (n ∷ []) replies end carried (inr h) = h
result_of FormatDomain (d ∷ []) [] replies end carried (inl f) = absurd (not_refused end 2 _ carried refl f.2)
result_of FormatDomain (d ∷ []) [] replies end carried (inr h) = h
result_of FormatProblem (p ∷ []) [] replies end carried (inl f) = absurd (not_refused end 2 _ carried refl f.2)
result_of FormatProblem (p ∷ []) [] replies end carried (inr h) = h
result_of Help [] [] replies end carried h = h
result_of Version [] [] replies end carried h = h
result_of _ _ _ replies end carried h = absurd h

pub result_of_request : (held : Option Files) (request : Option Request) (replies : List ℕ) (end : End) → is_carried_out end.status ≡ true → MayEnd true held request replies end → IsResult held request replies end
result_of_request held None replies end carried h = absurd (not_refused end 1 _ carried refl h.2)
result_of_request held (Some r) replies end carried h =
    let read = files_were_read 2 (limits_of r.command) h.0 (λ contents. ContentEnds r.command contents r.numbers replies) end carried h.2 in
    (read.0, subst (λ found. Finds held r.files found) read.1 h.1, result_of r.command read.0 r.numbers replies end carried read.2)
