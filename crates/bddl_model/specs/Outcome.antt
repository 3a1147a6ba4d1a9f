-- What a command line comes to, by the files that are held. Each step goes on with what it found, or tells why it can't.
use Rattle.std.specs.Prelude.{ℕ, ◌≡◌, ◌+◌, ◌*◌, ◌<◌, ◌≤◌, ◌⊎◌, List, [], ◌∷◌, length, map, Bool, true, false, ◌||◌, ◌==◌, IsTrue, Option, None, Some, Result, Ok, Err}
use Rattle.std.specs.FinMap.{get}
use Rattle.bddl_model.specs.declared.texts.DomainText.{DomainText}
use Rattle.bddl_model.specs.declared.texts.ProblemText.{ProblemText}
use Rattle.bddl_model.specs.declared.fault.ReadFault.{ReadFault}
use Rattle.bddl_model.specs.declared.check.CheckFault.{CheckFault}
use Rattle.bddl_model.specs.declared.fault.QFault.{QFault}
use Rattle.bddl_model.specs.declared.certificate.Node.{Node}
use Rattle.bddl_model.specs.declared.certificate.CertReadFault.{CertReadFault}
use Rattle.bddl_model.specs.declared.certificate.CertFault.{CertFault}
use Rattle.bddl_model.specs.declared.formula.Quant.TheVariants as quant
use Rattle.bddl_model.specs.declared.formula.Verdict.TheVariants as verdict
use Rattle.bddl_model.specs.declared.command.Command.{Command}
use Rattle.bddl_model.specs.declared.command.Command.TheVariants.{Compile, Solve, SolveFormula, Certify, Check, Recertify, Play, Trial, FormatDomain, FormatProblem, Help, Version}
use Rattle.bddl_model.specs.Files.{Files}
use Rattle.bddl_model.specs.About.{help_text, version_text}
use Rattle.bddl_model.specs.Notes as notes
use Rattle.bddl_model.specs.Tokens.{Lexeme}
use Rattle.bddl_model.specs.Grammar.{domain, problem}
use Rattle.bddl_model.specs.Canonical.{domain_text, problem_text}
use Rattle.bddl_model.specs.Reading.{Reads, ReadFails}
use Rattle.bddl_model.specs.Truth.{Formula}
use Rattle.bddl_model.specs.FormulaText.{qtext}
use Rattle.bddl_model.specs.Qdimacs.{Qdimacs, HasOneForm}
use Rattle.bddl_model.specs.FormulaFaults.{QdimacsFails}
use Rattle.bddl_model.specs.Setup.{Setup, setup_of}
use Rattle.bddl_model.specs.Check.{checked_setup}
use Rattle.bddl_model.specs.Trial.{large, occupying, small}
use Rattle.bddl_model.specs.Win.{win}
use Rattle.bddl_model.specs.Encodes.{Encodes}
use Rattle.bddl_model.specs.Bounds.{bound, game_bound, certify_bound}
use Rattle.bddl_model.specs.Certificate.{cert_fault, valid, IsShared, IsSharedForm}
use Rattle.bddl_model.specs.CertificateText.{ctext, CertText}
use Rattle.bddl_model.specs.CertificateFaults.{CertFails}
use Rattle.bddl_model.specs.declared.play.Played.TheVariants as ends
use Rattle.bddl_model.specs.Play.{Told, plays, in_range, Reaches, ReachesOrGone}
use Rattle.bddl_model.specs.Verdicts.{IsValue, win_text, no_win_text, spent_text, accepted_text, answer_text, trial_text}
use Rattle.bddl_model.specs.Request.{Request, limits_of, files_of}

-- how a call ends that is not cut short: its status, and what it wrote
pub record End : Type 0 where
  pub status : ℕ
  pub out : List ℕ
  pub note : List ℕ

-- nothing is written, and the note tells why
abbrev pub refused : ℕ → List ℕ → End
refused status note = record { status = status; out = []; note = note }

-- the text is written, and there is nothing to note
abbrev pub told : ℕ → List ℕ → End
told status text = record { status = status; out = text; note = [] }

abbrev pub done : List ℕ → End
done text = told 0 text

abbrev pub Says : List ℕ → End → Type 0
Says text end = end ≡ done text

-- ---- games

-- goes on with the tree of a text
abbrev pub TextThen : {A : Type 0} → (List Lexeme → A → Type 0) → (List ℕ → ReadFault → List ℕ) → List ℕ → (A → End → Type 0) → End → Type 0
TextThen {A} grammar fault_note bytes next end =
    ((f : ReadFault) × ReadFails grammar bytes f × (end ≡ refused 2 (fault_note bytes f)))
    ⊎ ((tree : A) × Reads grammar bytes tree × next tree end)

abbrev pub DomainThen : List ℕ → (DomainText → End → Type 0) → End → Type 0
DomainThen bytes next end = TextThen domain notes.domain_fault bytes next end

abbrev pub ProblemThen : List ℕ → (ProblemText → End → Type 0) → End → Type 0
ProblemThen bytes next end = TextThen problem notes.problem_fault bytes next end

-- goes on with the setup that two trees state
abbrev pub CheckThen : DomainText → ProblemText → (Setup → End → Type 0) → End → Type 0
CheckThen dom prob next end =
    ((f : CheckFault) × (checked_setup dom prob ≡ Err f) × (end ≡ refused 2 (notes.check_note f)))
    ⊎ ((s : Setup) × (checked_setup dom prob ≡ Ok s) × next s end)

-- goes on with the setup that two texts state
abbrev pub GameThen : List ℕ → List ℕ → (Setup → End → Type 0) → End → Type 0
GameThen d p next end = DomainThen d (λ dom. ProblemThen p (λ prob. CheckThen dom prob next)) end

-- ---- compiling

-- the texts have these trees, and checking them gives this
abbrev pub States : List ℕ → List ℕ → DomainText → ProblemText → Result Setup CheckFault → Type 0
States d p dom prob checked = Reads domain d dom × Reads problem p prob × (checked_setup dom prob ≡ checked)

-- The text is that of a form that encodes the setup which two texts state; it is the one form that is read from the text.
pub record Compiles (d p : List ℕ) (s : Setup) (text : List ℕ) : Type 0 where
  pub dom : DomainText
  pub prob : ProblemText
  pub states : States d p dom prob (Ok s)
  pub form : Formula
  pub encodes : Encodes form s
  pub written : text ≡ qtext form
  pub read : HasOneForm text form

-- what compiling the setup of two texts may end as
abbrev pub CompileEnds : List ℕ → List ℕ → Setup → End → Type 0
CompileEnds d p s end = (text : List ℕ) × Compiles d p s text × Says text end

-- ---- deciding

-- what deciding a setup in so many steps may end as
abbrev pub SolveEnds : ℕ → Setup → End → Type 0
SolveEnds budget s end =
    ((win s.game s.first s.board s.depth ≡ true) × (end ≡ told 10 win_text))
    ⊎ (((win s.game s.first s.board s.depth ≡ false) × (end ≡ told 20 no_win_text))
    ⊎ ((budget < game_bound s) × (end ≡ told 30 spent_text)))

-- goes on with the two numbers and the form of a formula's text
abbrev pub FormulaThen : List ℕ → (ℕ → ℕ → Formula → End → Type 0) → End → Type 0
FormulaThen bytes next end =
    ((f : QFault) × QdimacsFails bytes f × (end ≡ refused 2 (notes.formula_note f)))
    ⊎ ((variables clauses : ℕ) × (form : Formula) × Qdimacs bytes variables clauses form × next variables clauses form end)

-- what deciding a form in so many steps may end as
abbrev pub FormulaSolveEnds : ℕ → ℕ → ℕ → Formula → End → Type 0
FormulaSolveEnds budget variables clauses form end =
    ((first : List Bool) × IsValue form quant.Exists true first × (end ≡ told 10 (answer_text verdict.True variables clauses form.prefix first)))
    ⊎ (((first : List Bool) × IsValue form quant.All false first × (end ≡ told 20 (answer_text verdict.False variables clauses form.prefix first)))
    ⊎ ((budget < bound form) × (end ≡ told 30 (answer_text verdict.Spent variables clauses form.prefix []))))

-- ---- certificates

-- a certificate of the setup: one node a place, numbered breadth first, as its one text of version 2
pub record Certifies (s : Setup) (text : List ℕ) : Type 0 where
  pub nodes : List Node
  pub shared : IsShared s nodes
  pub written : text ≡ ctext nodes
  pub read : CertText text nodes

-- what certifying a setup in so many steps may end as; where nothing is written, the note tells why
abbrev pub CertifyEnds : ℕ → Setup → End → Type 0
CertifyEnds budget s end =
    ((text : List ℕ) × Certifies s text × (end ≡ told 10 text))
    ⊎ (((win s.game s.first s.board s.depth ≡ false) × (end ≡ refused 20 no_win_text))
    ⊎ ((budget < certify_bound s) × (end ≡ refused 30 spent_text)))

-- goes on with the nodes of a text
abbrev pub CertThen : List ℕ → (List Node → End → Type 0) → End → Type 0
CertThen bytes next end =
    ((f : CertReadFault) × CertFails bytes f × (end ≡ refused 6 (notes.cert_text_note f)))
    ⊎ ((nodes : List Node) × CertText bytes nodes × next nodes end)

-- goes on where they are valid
abbrev pub ValidThen : Setup → List Node → (End → Type 0) → End → Type 0
ValidThen s nodes next end =
    ((f : CertFault) × (cert_fault s nodes ≡ Some f) × (end ≡ refused 6 (notes.cert_note f)))
    ⊎ ((valid s nodes ≡ true) × next end)

abbrev pub AcceptedThen : List ℕ → (Setup → List Node → End → Type 0) → Setup → End → Type 0
AcceptedThen c next s end = CertThen c (λ nodes. ValidThen s nodes (next s nodes)) end

-- what a valid certificate shows, and what is told of it
abbrev pub CheckEnds : Setup → List Node → End → Type 0
CheckEnds s nodes end = (win s.game s.first s.board s.depth ≡ true) × Says accepted_text end

-- the shared form of a valid certificate, as its text
abbrev pub RecertifyEnds : Setup → List Node → End → Type 0
RecertifyEnds s nodes end = (shared : List Node) × IsSharedForm s nodes shared × CertText (ctext shared) shared × Says (ctext shared) end

-- ---- play

-- a play ends with its transcript, and the note tells why it ends early
abbrev pub PlayTold : Told → End → Type 0
PlayTold t end = elim t.end [
  | ends.Reached plies ↦ Says t.text end
  | ends.Gone ↦ end ≡ record { status = 7; out = t.text; note = notes.gone_note }
  | ends.BadReply number count ↦ end ≡ record { status = 8; out = t.text; note = notes.reply_note number count }
  | ends.WriteFault ↦ ⊥
]

-- what a play under a valid certificate ends as, by White's replies: against replies that are among the moves shown it reaches
-- Black's goal within the depth, if there are enough of them
pub record PlayEnds (replies : List ℕ) (s : Setup) (nodes : List Node) (end : End) : Type 0 where
  pub told : PlayTold (plays s nodes replies) end
  pub won : in_range s nodes replies ≡ true → ReachesOrGone s.depth (plays s nodes replies).end
  pub reached : in_range s nodes replies ≡ true → s.depth ≤ 2 * length replies → Reaches s.depth (plays s nodes replies).end

-- ---- trial games

-- what two games end as, of which the small one is decided in so many steps
abbrev pub SmallEnds : Setup → Setup → ℕ → End → Type 0
SmallEnds big s budget end =
    ((win s.game s.first s.board s.depth ≡ true) × (end ≡ told 0 (trial_text big s win_text)))
    ⊎ (((win s.game s.first s.board s.depth ≡ false) × (end ≡ told 0 (trial_text big s no_win_text)))
    ⊎ ((budget < game_bound s) × (end ≡ told 30 (trial_text big s spent_text))))

-- what the games of a number end as
abbrev pub TrialEnds : ℕ → ℕ → End → Type 0
TrialEnds number budget end = SmallEnds (setup_of occupying (large number)) (setup_of occupying (small number)) budget end

-- ---- the table of ends

-- what a command may end as, by the contents of its files, by its numbers, and by White's replies
abbrev pub ContentEnds : Command → List (List ℕ) → List ℕ → List ℕ → End → Type 0
ContentEnds Compile (d ∷ p ∷ []) [] replies end = GameThen d p (CompileEnds d p) end
ContentEnds Solve (d ∷ p ∷ []) (n ∷ []) replies end = GameThen d p (SolveEnds n) end
ContentEnds SolveFormula (f ∷ []) (n ∷ []) replies end = FormulaThen f (FormulaSolveEnds n) end
ContentEnds Certify (d ∷ p ∷ []) (n ∷ []) replies end = GameThen d p (CertifyEnds n) end
ContentEnds Check (d ∷ p ∷ c ∷ []) [] replies end = GameThen d p (AcceptedThen c CheckEnds) end
ContentEnds Recertify (d ∷ p ∷ c ∷ []) [] replies end = GameThen d p (AcceptedThen c RecertifyEnds) end
ContentEnds Play (d ∷ p ∷ c ∷ []) (who ∷ number ∷ []) replies end = GameThen d p (AcceptedThen c (PlayEnds replies)) end
ContentEnds Trial [] (number ∷ n ∷ []) replies end = TrialEnds number n end
ContentEnds FormatDomain (d ∷ []) [] replies end = DomainThen d (λ tree. Says (domain_text tree)) end
ContentEnds FormatProblem (p ∷ []) [] replies end = ProblemThen p (λ tree. Says (problem_text tree)) end
ContentEnds Help [] [] replies end = Says help_text end
ContentEnds Version [] [] replies end = Says version_text end
ContentEnds _ _ _ replies end = ⊥

-- the status is one that tells that the request was carried out
abbrev pub is_carried_out : ℕ → Bool
is_carried_out status = status == 0 || (status == 7 || (status == 8 || (status == 10 || (status == 20 || status == 30))))

-- the texts state a game and a certificate that is valid for it
pub record Accepts (d p c : List ℕ) (s : Setup) (nodes : List Node) : Type 0 where
  pub dom : DomainText
  pub prob : ProblemText
  pub states : States d p dom prob (Ok s)
  pub read : CertText c nodes
  pub valid : valid s nodes ≡ true

-- what a command that is carried out ends as
abbrev pub Results : Command → List (List ℕ) → List ℕ → List ℕ → End → Type 0
Results Compile (d ∷ p ∷ []) [] replies end = (s : Setup) × CompileEnds d p s end
Results Solve (d ∷ p ∷ []) (n ∷ []) replies end = (dom : DomainText) × (prob : ProblemText) × (s : Setup) × States d p dom prob (Ok s) × SolveEnds n s end
Results SolveFormula (f ∷ []) (n ∷ []) replies end = (variables clauses : ℕ) × (form : Formula) × Qdimacs f variables clauses form × FormulaSolveEnds n variables clauses form end
Results Certify (d ∷ p ∷ []) (n ∷ []) replies end = (dom : DomainText) × (prob : ProblemText) × (s : Setup) × States d p dom prob (Ok s) × CertifyEnds n s end
Results Check (d ∷ p ∷ c ∷ []) [] replies end = (s : Setup) × (nodes : List Node) × Accepts d p c s nodes × CheckEnds s nodes end
Results Recertify (d ∷ p ∷ c ∷ []) [] replies end = (s : Setup) × (nodes : List Node) × Accepts d p c s nodes × RecertifyEnds s nodes end
Results Play (d ∷ p ∷ c ∷ []) (who ∷ number ∷ []) replies end = (s : Setup) × (nodes : List Node) × Accepts d p c s nodes × PlayEnds replies s nodes end
Results Trial [] (number ∷ n ∷ []) replies end = TrialEnds number n end
Results FormatDomain (d ∷ []) [] replies end = (tree : DomainText) × Reads domain d tree × Says (domain_text tree) end
Results FormatProblem (p ∷ []) [] replies end = (tree : ProblemText) × Reads problem p tree × Says (problem_text tree) end
Results Help [] [] replies end = Says help_text end
Results Version [] [] replies end = Says version_text end
Results _ _ _ replies end = ⊥

-- ---- files

-- a length keeps to a limit, if there is one
abbrev pub IsWithin : Option ℕ → ℕ → Type 0
IsWithin None n = Unit {0}
IsWithin (Some most) n = n ≤ most

-- it is told that the file of a word is longer than its limit
abbrev pub TellsLong : ℕ → Option ℕ → ℕ → End → Type 0
TellsLong word limit n end = (most : ℕ) × (limit ≡ Some most) × (most < n) × (end ≡ refused 2 (notes.too_long word most))

-- Goes on with the file that the word of this number names. Where reads may fail (`faulty`), the read of a file that is held may too.
abbrev pub FileThen : Bool → ℕ → Option ℕ → Option (List ℕ) → (List ℕ → End → Type 0) → End → Type 0
FileThen faulty word limit None next end = end ≡ refused 3 (notes.read_fault word)
FileThen faulty word limit (Some file) next end =
    (IsWithin limit (length file) × next file end)
    ⊎ (TellsLong word limit (length file) end
    ⊎ (IsTrue faulty × (end ≡ refused 3 (notes.read_fault word))))

-- goes on with the files of as many words, the first of which has this number
abbrev pub FilesThen : Bool → ℕ → List (Option ℕ) → List (Option (List ℕ)) → (List (List ℕ) → End → Type 0) → End → Type 0
FilesThen faulty word [] [] next end = next [] end
FilesThen faulty word (limit ∷ limits) (file ∷ files) next end =
    FileThen faulty word limit file (λ bytes. FilesThen faulty (word + 1) limits files (λ contents. next (bytes ∷ contents))) end
FilesThen _ _ _ _ next end = ⊥

-- ---- every request

-- what stands under the names, for all that is told of files: nothing told, it may be anything
abbrev pub Finds : Option Files → List (List ℕ) → List (Option (List ℕ)) → Type 0
Finds None names found = length found ≡ length names
Finds (Some files) names found = found ≡ map (get files) names

-- what a request may end as, by what stands under the names of its files
abbrev pub RequestEnds : Bool → Option Request → List ℕ → List (Option (List ℕ)) → End → Type 0
RequestEnds faulty None replies found end = end ≡ refused 1 notes.no_such_request
RequestEnds faulty (Some r) replies found end = FilesThen faulty 2 (limits_of r.command) found (λ contents. ContentEnds r.command contents r.numbers replies) end

abbrev pub MayEnd : Bool → Option Files → Option Request → List ℕ → End → Type 0
MayEnd faulty held request replies end = (found : List (Option (List ℕ))) × Finds held (files_of request) found × RequestEnds faulty request replies found end

-- a request that is carried out ends as this: the result of the contents of its files
abbrev pub IsResult : Option Files → Option Request → List ℕ → End → Type 0
IsResult held None replies end = ⊥
IsResult held (Some r) replies end = (contents : List (List ℕ)) × Finds held r.files (map Some contents) × Results r.command contents r.numbers replies end
