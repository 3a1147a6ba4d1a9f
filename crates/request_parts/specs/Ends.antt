-- How a request ended, against what it may end as.
use Rattle.std.specs.Prelude.{ℕ, Bool, true, false, ◌≡◌, ◌≢◌, ◌≤◌, ◌⊎◌, List, [], ◌∷◌, length, map, Option, None, Some, Result, Ok, Err, codes}
use Rattle.std.specs.FinMap.{get}
use Rattle.bddl_model.specs.declared.tokens.LexFault.TheVariants as lex
use Rattle.bddl_model.specs.declared.fault.ReadFault.{ReadFault}
use Rattle.bddl_model.specs.declared.fault.ReadFault.TheVariants as fault
use Rattle.bddl_model.specs.declared.certificate.Node.{Node}
use Rattle.bddl_model.specs.Notes as notes
use Rattle.bddl_model.specs.Setup.{Setup}
use Rattle.bddl_model.specs.Verdicts.{no_win_text, spent_text}
use Rattle.bddl_model.specs.Truth.{Formula}
use Rattle.bddl_model.specs.Files.{Files}
use Rattle.bddl_model.specs.Outcome.{End, refused, FileThen, FilesThen, IsWithin}
use Rattle.io_edge.specs.Outside.{with_bytes, WithFront}
use Rattle.request_parts.specs.declared.refusal.Close.{Close}
use Rattle.request_parts.specs.declared.refusal.Close.TheVariants as close
use Rattle.request_parts.specs.declared.refusal.GameText.{GameText}
use Rattle.request_parts.specs.declared.refusal.GameText.TheVariants as game_text
use Rattle.request_parts.specs.declared.refusal.Content.{Content}
use Rattle.request_parts.specs.declared.refusal.Content.TheVariants as content
use Rattle.request_parts.specs.declared.refusal.FileEnd.TheVariants as file_end
use Rattle.request_parts.specs.declared.refusal.Refusal.{Refusal}
use Rattle.request_parts.specs.declared.refusal.Refusal.TheVariants as refusal
use Rattle.request_parts.specs.declared.refusal.Stop.{Stop}
use Rattle.request_parts.specs.declared.refusal.Stop.TheVariants as stop

-- ---- what is told

-- the status and the note of a request that was carried out
abbrev pub close_status : Close → ℕ
close_status close.Done = 0
close_status close.Yes = 10
close_status close.No = 20
close_status close.Spent = 30
close_status close.NoStrategy = 20
close_status close.NotFound = 30
close_status close.Gone = 7
close_status (close.BadReply number count) = 8

abbrev pub close_note : Close → List ℕ
close_note close.NoStrategy = no_win_text
close_note close.NotFound = spent_text
close_note close.Gone = notes.gone_note
close_note (close.BadReply number count) = notes.reply_note number count
close_note c = []

-- how it ends that wrote this text
abbrev pub closed : Close → List ℕ → End
closed c text = record { status = close_status c; out = text; note = close_note c }

abbrev pub text_name : GameText → List ℕ
text_name game_text.Domain = codes "domain"
text_name game_text.Problem = codes "problem"

abbrev pub content_told : Content → End
content_told (content.Text text place f) = refused 2 (notes.place_note (text_name text) place (notes.fault_words f))
content_told (content.Check f) = refused 2 (notes.check_note f.fault)
content_told (content.Formula f) = refused 2 (notes.formula_note f.fault)
content_told (content.CertText f) = refused 6 (notes.cert_text_note f.fault)
content_told (content.Cert f) = refused 6 (notes.cert_note f.fault)

abbrev pub refusal_told : Refusal → End
refusal_told refusal.NoRequest = refused 1 notes.no_such_request
refusal_told (refusal.File word file_end.ReadFault) = refused 3 (notes.read_fault word)
refusal_told (refusal.File word (file_end.TooLong most)) = refused 2 (notes.too_long word most)
refusal_told (refusal.Content c) = content_told c

-- ---- faults of texts

-- the byte that a fault of the lexer names is one of the text, or just behind it
abbrev pub NamesAByte : List ℕ → ReadFault → Type 0
NamesAByte bytes (fault.Lex (lex.BadByte at)) = at ≤ length bytes
NamesAByte bytes (fault.Lex (lex.NameTooLong at)) = at ≤ length bytes
NamesAByte bytes (fault.Lex (lex.NumberTooLong at)) = at ≤ length bytes
NamesAByte bytes f = Unit {0}

-- what a fault of a text stops a request with
abbrev pub text_stop : GameText → List ℕ → ReadFault → Stop Content
text_stop text bytes (fault.Lex lex.NoMemory) = stop.NoMemory
text_stop text bytes fault.NoMemory = stop.NoMemory
text_stop text bytes f = stop.Refused (content.Text text (notes.fault_place bytes f) f)

-- ---- a request without its report

-- nothing was written, or a front of a text that may come out
abbrev pub CutShort : (End → Type 0) → Option (List ℕ) → Option (List ℕ) → Type 0
CutShort ends old new = (new ≡ old) ⊎ ((end : End) × ends end × WithFront old new end.out)

-- what was written to out by a request that may end so, by what is told of its refusal
abbrev pub Writes : {R : Type 0} → (R → End) → (End → Type 0) → Option (List ℕ) → Option (List ℕ) → Result Close (Stop R) → Type 0
Writes told ends old new (Ok c) = (text : List ℕ) × ends (closed c text) × (new ≡ with_bytes old text)
Writes told ends old new (Err (stop.Refused r)) = (new ≡ old) × ends (told r)
Writes told ends old new (Err stop.WriteFault) = CutShort ends old new
Writes told ends old new (Err stop.NoMemory) = CutShort ends old new

-- a request that may end so stops before it writes
abbrev pub StopsAt : {R : Type 0} → (R → End) → (End → Type 0) → Stop R → Type 0
StopsAt told ends (stop.Refused r) = ends (told r)
StopsAt told ends stop.WriteFault = ⊥
StopsAt told ends stop.NoMemory = Unit {0}

-- nothing goes on
abbrev pub Nothing : {A : Type 0} → A → End → Type 0
Nothing x end = ⊥

abbrev pub NoCertificate : Setup → List Node → End → Type 0
NoCertificate s nodes end = ⊥

abbrev pub NoFormula : ℕ → ℕ → Formula → End → Type 0
NoFormula variables clauses form end = ⊥

-- a write failed
abbrev pub is_write_fault : {T R : Type 0} → Result T (Stop R) → Bool
is_write_fault (Ok x) = false
is_write_fault (Err (stop.Refused r)) = false
is_write_fault (Err stop.WriteFault) = true
is_write_fault (Err stop.NoMemory) = false

-- a named file could not be read
abbrev pub is_read_fault : {T : Type 0} → Result T (Stop Refusal) → Bool
is_read_fault (Ok x) = false
is_read_fault (Err (stop.Refused (refusal.File word file_end.ReadFault))) = true
is_read_fault (Err (stop.Refused r)) = false
is_read_fault (Err stop.WriteFault) = false
is_read_fault (Err stop.NoMemory) = false

-- ---- files

-- what stands under a name, for all that is told of files
abbrev pub FindsOne : Option Files → List ℕ → Option (List ℕ) → Type 0
FindsOne None name found = Unit {0}
FindsOne (Some files) name found = found ≡ get files name

-- the contents keep to the limits, and there are as many
abbrev pub AreWithin : List (Option ℕ) → List (List ℕ) → Type 0
AreWithin [] [] = Unit {0}
AreWithin (limit ∷ limits) (bytes ∷ contents) = IsWithin limit (length bytes) × AreWithin limits contents
AreWithin _ _ = ⊥

-- a file was read whole, or why it was not
abbrev pub ReadsFile : {T : Type 0} → (T → List ℕ) → Bool → ℕ → Option ℕ → Option (List ℕ) → Result T (Stop Refusal) → Type 0
ReadsFile bytes_of faulty word limit found (Ok file) = (found ≡ Some (bytes_of file)) × IsWithin limit (length (bytes_of file))
ReadsFile bytes_of faulty word limit found (Err s) = StopsAt refusal_told (FileThen faulty word limit found Nothing) s

-- all files were read whole, or why one was not
abbrev pub ReadsFiles : {T : Type 0} → (T → List (List ℕ)) → Bool → List (Option ℕ) → List (Option (List ℕ)) → Result T (Stop Refusal) → Type 0
ReadsFiles contents_of faulty limits found (Ok files) = (found ≡ map Some (contents_of files)) × AreWithin limits (contents_of files)
ReadsFiles contents_of faulty limits found (Err s) = StopsAt refusal_told (FilesThen faulty 2 limits found Nothing) s

-- the reading of files stops for a file, or for want of memory
abbrev pub IsFileStop : Stop Refusal → Type 0
IsFileStop (stop.Refused (refusal.File word end)) = Unit {0}
IsFileStop stop.NoMemory = Unit {0}
IsFileStop _ = ⊥

-- ---- the whole call

-- the call's status and what it wrote are an end
abbrev pub EndsAs : End → Option (List ℕ) → Option (List ℕ) → Option (List ℕ) → Option (List ℕ) → ℕ → Type 0
EndsAs end out_old out_new note_old note_new status =
    (status ≡ end.status) × (out_new ≡ with_bytes out_old end.out) × (note_new ≡ with_bytes note_old end.note)

-- Statuses 4 and 5 cut a call short: nothing was written, or fronts of what an end has. All others are an end.
pub record Answers (ends : End → Type 0) (out_old out_new note_old note_new : Option (List ℕ)) (status : ℕ) : Type 0 where
  pub whole : status ≢ 4 → status ≢ 5 → (end : End) × ends end × EndsAs end out_old out_new note_old note_new status
  pub cut : (status ≡ 4) ⊎ (status ≡ 5) → ((out_new ≡ out_old) × (note_new ≡ note_old)) ⊎ ((end : End) × ends end × WithFront out_old out_new end.out × WithFront note_old note_new end.note)

-- the status is that of a call that isn't cut short
abbrev pub NotCut : ℕ → Type 0
NotCut status = (status ≢ 4) × (status ≢ 5)

-- the note of an end was written whole, or a front of it
abbrev pub Tells : End → Option (List ℕ) → Option (List ℕ) → ℕ → Type 0
Tells end old new status = ((status ≡ end.status) × (new ≡ with_bytes old end.note)) ⊎ (((status ≡ 4) ⊎ (status ≡ 5)) × WithFront old new end.note)
