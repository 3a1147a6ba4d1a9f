-- From what a request wrote to what the whole call answers.
use Rattle.std.proofs.Common.{ℕ, ◌≡◌, ◌<◌, Bool, true, false, List, [], ◌∷◌, get_or, length, map, Option, None, Some, Result, Ok, Err, ◌⊎◌, inl, inr, refl, sym, ap, ap₂, subst, ◌∙◌, arith}
use Rattle.std.proofs.lemmas.List.{append-nil}
use Rattle.bddl_model.specs.Files.{Files}
use Rattle.bddl_model.specs.Request.{Request, limits_of}
use Rattle.bddl_model.specs.declared.command.Command.{Command}
use Rattle.bddl_model.specs.Outcome.{End, ContentEnds, FilesThen, Finds, IsResult, MayEnd, is_carried_out}
use Rattle.io_edge.specs.Outside.{Counts, Rose, with_bytes, WithFront}
use Rattle.io_edge.proofs.Fronts.{with_bytes_none}
use Rattle.request_parts.specs.Ends.{Answers, AreWithin, CutShort, IsFileStop, NotCut, Nothing, StopsAt, Tells, Writes, close_status, closed, content_told, is_read_fault, is_write_fault, refusal_told}
use Rattle.request_parts.specs.Stops.{stop_of_content}
use Rattle.request_parts.specs.declared.refusal.Close.{Close}
use Rattle.request_parts.specs.declared.refusal.Close.TheVariants as close
use Rattle.request_parts.specs.declared.refusal.Content.{Content}
use Rattle.request_parts.specs.declared.refusal.Content.TheVariants as content
use Rattle.request_parts.specs.declared.refusal.FileEnd.TheVariants as file_end
use Rattle.request_parts.specs.declared.refusal.Refusal.{Refusal}
use Rattle.request_parts.specs.declared.refusal.Refusal.TheVariants as refusal
use Rattle.request_parts.specs.declared.refusal.Stop.{Stop}
use Rattle.request_parts.specs.declared.refusal.Stop.TheVariants as stop
use Rattle.request_parts.proofs.Files.{files_go_on, files_then}
use Rattle.bddl_requests.proofs.Results.{result_of_request}
use Rattle.request_parts.proofs.Stopping.{stops_in, stops_writing}

-- ---- by the contents of files

-- the contents, which are two
pub two_files : {V : Type 0} (bytes_of : V → List ℕ) (files : List V) (v w : V) (d p : List ℕ) → length (map bytes_of files) ≡ 2 → v ≡ get_or files 0 v → w ≡ get_or files 1 w → d ≡ bytes_of v → p ≡ bytes_of w → map bytes_of files ≡ d ∷ p ∷ []
two_files bytes_of [] v w d p e h k x y = absurd (omega arith)
two_files bytes_of (f ∷ []) v w d p e h k x y = absurd (omega arith)
two_files bytes_of (f ∷ g ∷ []) v w d p e h k x y = ap₂ (λ a b. a ∷ b ∷ []) (sym (x ∙ ap bytes_of h)) (sym (y ∙ ap bytes_of k))
two_files bytes_of (f ∷ g ∷ i ∷ more) v w d p e h k x y = absurd (omega arith)

-- the contents, which are three
pub three_files : {V : Type 0} (bytes_of : V → List ℕ) (files : List V) (u v w : V) (d p c : List ℕ) → length (map bytes_of files) ≡ 3 → u ≡ get_or files 0 u → v ≡ get_or files 1 v → w ≡ get_or files 2 w → d ≡ bytes_of u → p ≡ bytes_of v → c ≡ bytes_of w → map bytes_of files ≡ d ∷ p ∷ c ∷ []
three_files bytes_of [] u v w d p c e h k l x y z = absurd (omega arith)
three_files bytes_of (f ∷ []) u v w d p c e h k l x y z = absurd (omega arith)
three_files bytes_of (f ∷ g ∷ []) u v w d p c e h k l x y z = absurd (omega arith)
three_files bytes_of (f ∷ g ∷ i ∷ []) u v w d p c e h k l x y z = ap₂ (λ a bs. a ∷ bs) (sym (x ∙ ap bytes_of h)) (ap₂ (λ a b. a ∷ b ∷ []) (sym (y ∙ ap bytes_of k)) (sym (z ∙ ap bytes_of l)))
three_files bytes_of (f ∷ g ∷ i ∷ j ∷ more) u v w d p c e h k l x y z = absurd (omega arith)

-- the content, which is one
pub one_file : {V : Type 0} (bytes_of : V → List ℕ) (files : List V) (v : V) (d : List ℕ) → length (map bytes_of files) ≡ 1 → v ≡ get_or files 0 v → d ≡ bytes_of v → map bytes_of files ≡ d ∷ []
one_file bytes_of [] v d e h x = absurd (omega arith)
one_file bytes_of (f ∷ []) v d e h x = ap (λ a. a ∷ []) (sym (x ∙ ap bytes_of h))
one_file bytes_of (f ∷ g ∷ more) v d e h x = absurd (omega arith)

pub nothing_left : {X : Type 0} (xs : List X) → length xs ≡ 0 → xs ≡ []
nothing_left [] e = refl
nothing_left (x ∷ xs) e = absurd (omega arith)

one_left : (ns : List ℕ) (n : ℕ) → length ns ≡ 1 → n ≡ get_or ns 0 n → ns ≡ n ∷ []
one_left [] n e h = absurd (omega arith)
one_left (m ∷ []) n e h = ap (λ k. k ∷ []) (sym h)
one_left (m ∷ k ∷ ns) n e h = absurd (omega arith)

two_left : (ns : List ℕ) (n m : ℕ) → length ns ≡ 2 → n ≡ get_or ns 0 n → m ≡ get_or ns 1 m → ns ≡ n ∷ m ∷ []
two_left [] n m e h k = absurd (omega arith)
two_left (a ∷ []) n m e h k = absurd (omega arith)
two_left (a ∷ b ∷ []) n m e h k = ap₂ (λ a b. a ∷ b ∷ []) (sym h) (sym k)
two_left (a ∷ b ∷ c ∷ ns) n m e h k = absurd (omega arith)

module _ (known asked : Command) (contents cs : List (List ℕ)) (numbers replies : List ℕ) (old new : Option (List ℕ)) (r : Result Close (Stop Content)) (e : asked ≡ known) (f : contents ≡ cs) where
  pub written_with : (ns : List ℕ) → numbers ≡ ns → Writes content_told (ContentEnds known cs ns replies) old new r → Writes content_told (ContentEnds asked contents numbers replies) old new r
  written_with ns g h =
      subst (λ k. Writes content_told (ContentEnds k contents numbers replies) old new r) (sym e)
      (subst (λ cs. Writes content_told (ContentEnds known cs numbers replies) old new r) (sym f)
      (subst (λ ns. Writes content_told (ContentEnds known cs ns replies) old new r) (sym g) h))

  -- a command without numbers
  pub written_by : length numbers ≡ 0 → Writes content_told (ContentEnds known cs [] replies) old new r → Writes content_told (ContentEnds asked contents numbers replies) old new r
  written_by g = written_with [] (nothing_left numbers g)

  -- a command with one
  pub written_by_number : (n : ℕ) → length numbers ≡ 1 → n ≡ get_or numbers 0 n → Writes content_told (ContentEnds known cs (n ∷ []) replies) old new r → Writes content_told (ContentEnds asked contents numbers replies) old new r
  written_by_number n g h = written_with (n ∷ []) (one_left numbers n g h)

  -- with two
  pub written_by_numbers : (n m : ℕ) → length numbers ≡ 2 → n ≡ get_or numbers 0 n → m ≡ get_or numbers 1 m → Writes content_told (ContentEnds known cs (n ∷ m ∷ []) replies) old new r → Writes content_told (ContentEnds asked contents numbers replies) old new r
  written_by_numbers n m g h k = written_with (n ∷ m ∷ []) (two_left numbers n m g h k)

-- ---- from there to the request

cut_in : (ends more : End → Type 0) (old new : Option (List ℕ)) → ((end : End) → ends end → more end) → CutShort ends old new → CutShort more old new
cut_in ends more old new wider (inl same) = inl same
cut_in ends more old new wider (inr (end, e, w)) = inr (end, wider end e, w)

-- what is written where less may come out
content_written : (ends more : End → Type 0) (old new : Option (List ℕ)) (s : Stop Content) → ((end : End) → ends end → more end) → Writes content_told ends old new (Err s) → Writes refusal_told more old new (Err (stop_of_content s))
content_written ends more old new (stop.Refused c) wider h = (h.0, wider (content_told c) h.1)
content_written ends more old new stop.WriteFault wider h = cut_in ends more old new wider h
content_written ends more old new stop.NoMemory wider h = cut_in ends more old new wider h

module _ (faulty : Bool) (held : Option Files) (asked : Option Request) (r : Request) (is : asked ≡ Some r) (limits : List (Option ℕ)) (same : limits ≡ limits_of r.command) (replies : List ℕ) where
  -- what a request may end as, by its files
  may_end : (found : List (Option (List ℕ))) → Finds held r.files found → (end : End) → FilesThen faulty 2 limits found (λ contents. ContentEnds r.command contents r.numbers replies) end → MayEnd faulty held asked replies end
  may_end found finds end h = subst (λ q. MayEnd faulty held q replies end) (sym is) (found, finds, subst (λ ls. FilesThen faulty 2 ls found (λ contents. ContentEnds r.command contents r.numbers replies) end) same h)

  -- a file that was not read
  pub request_unread : (s : Stop Refusal) (old : Option (List ℕ)) → (found : List (Option (List ℕ))) × Finds held r.files found × StopsAt refusal_told (FilesThen faulty 2 limits found Nothing) s → Writes refusal_told (MayEnd faulty held asked replies) old old (Err s)
  request_unread s old (found, finds, h) =
      stops_writing refusal_told (MayEnd faulty held asked replies) s old
      (stops_in refusal_told (FilesThen faulty 2 limits found Nothing) (MayEnd faulty held asked replies) s
      (λ end e. may_end found finds end (files_then faulty 2 limits found (λ contents. ContentEnds r.command contents r.numbers replies) end e)) h)

  -- all files were read
  module _ (contents : List (List ℕ)) (read : (found : List (Option (List ℕ))) × Finds held r.files found × ((found ≡ map Some contents) × AreWithin limits contents)) (old new : Option (List ℕ)) where
    goes_on : (end : End) → ContentEnds r.command contents r.numbers replies end → MayEnd faulty held asked replies end
    goes_on end e = may_end read.0 read.1 end (subst (λ fs. FilesThen faulty 2 limits fs (λ cs. ContentEnds r.command cs r.numbers replies) end) (sym read.2.0) (files_go_on faulty 2 limits contents (λ cs. ContentEnds r.command cs r.numbers replies) end read.2.1 e))

    pub request_done : (c : Close) → Writes content_told (ContentEnds r.command contents r.numbers replies) old new (Ok c) → Writes refusal_told (MayEnd faulty held asked replies) old new (Ok c)
    request_done c (text, e, w) = (text, goes_on (closed c text) e, w)

    pub request_stopped : (s : Stop Content) → Writes content_told (ContentEnds r.command contents r.numbers replies) old new (Err s) → Writes refusal_told (MayEnd faulty held asked replies) old new (Err (stop_of_content s))
    request_stopped s h = content_written (ContentEnds r.command contents r.numbers replies) (MayEnd faulty held asked replies) old new s goes_on h

pub no_write : (T : Type 0) (s : Stop Refusal) (n : ℕ) → IsFileStop s → Counts n n (is_write_fault {T = T} (Err s))
no_write T (stop.Refused r) n h = refl
no_write T stop.WriteFault n h = absurd h
no_write T stop.NoMemory n h = refl

-- words that are no request
pub no_request : (faulty : Bool) (held : Option Files) (replies : List ℕ) (old : Option (List ℕ)) → Writes refusal_told (MayEnd faulty held None replies) old old (Err (stop.Refused refusal.NoRequest))
no_request faulty None replies old = (refl, ([], refl, refl))
no_request faulty (Some files) replies old = (refl, ([], refl, refl))

-- ---- the whole call

front_of_nothing : (old new : Option (List ℕ)) (text : List ℕ) → new ≡ old → WithFront old new text
front_of_nothing old new text same = ([], text, refl, same ∙ sym (with_bytes_none old))

whole_front : (old new : Option (List ℕ)) (text : List ℕ) → new ≡ with_bytes old text → WithFront old new text
whole_front old new text e = (text, [], append-nil text, e)

-- an end whose text was written and whose note was told, whole or in part
pub told_answers : (ends : End → Type 0) (end : End) (out_old out_new note_old note_new : Option (List ℕ)) (status : ℕ) → ends end → out_new ≡ with_bytes out_old end.out → NotCut end.status → Tells end note_old note_new status
    → Answers ends out_old out_new note_old note_new status
told_answers ends end out_old out_new note_old note_new status e written whole (inl (is, told)) = record {
  whole = λ four five. (end, e, (is, written, told));
  cut = λ short. absurd (elim short [ inl four ↦ whole.0 (sym is ∙ four) | inr five ↦ whole.1 (sym is ∙ five) ]);
}
told_answers ends end out_old out_new note_old note_new status e written whole (inr (short, front)) = record {
  whole = λ four five. absurd (elim short [ inl h ↦ four h | inr h ↦ five h ]);
  cut = λ h. inr (end, e, whole_front out_old out_new end.out written, front);
}

pub cut_answers : (ends : End → Type 0) (out_old out_new noted : Option (List ℕ)) (status : ℕ) → (status ≡ 4) ⊎ (status ≡ 5) → CutShort ends out_old out_new → Answers ends out_old out_new noted noted status
cut_answers ends out_old out_new noted status short (inl same) = record {
  whole = λ four five. absurd (elim short [ inl h ↦ four h | inr h ↦ five h ]);
  cut = λ h. inl (same, refl);
}
cut_answers ends out_old out_new noted status short (inr (end, e, f)) = record {
  whole = λ four five. absurd (elim short [ inl h ↦ four h | inr h ↦ five h ]);
  cut = λ h. inr (end, e, f, front_of_nothing noted noted end.note refl);
}

-- ---- refusals

-- a refusal writes nothing, and its status tells what it is
refusal_writes_nothing : (r : Refusal) → ((refusal_told r).out ≡ []) × (is_carried_out (refusal_told r).status ≡ false)
refusal_writes_nothing refusal.NoRequest = (refl, refl)
refusal_writes_nothing (refusal.File word file_end.ReadFault) = (refl, refl)
refusal_writes_nothing (refusal.File word (file_end.TooLong most)) = (refl, refl)
refusal_writes_nothing (refusal.Content (content.Text text place f)) = (refl, refl)
refusal_writes_nothing (refusal.Content (content.Check f)) = (refl, refl)
refusal_writes_nothing (refusal.Content (content.Formula f)) = (refl, refl)
refusal_writes_nothing (refusal.Content (content.CertText f)) = (refl, refl)
refusal_writes_nothing (refusal.Content (content.Cert f)) = (refl, refl)

pub nothing_is_written : (r : Refusal) (old new : Option (List ℕ)) → new ≡ old → new ≡ with_bytes old (refusal_told r).out
nothing_is_written r old new same = same ∙ sym (with_bytes_none old) ∙ ap (with_bytes old) (sym (refusal_writes_nothing r).0)

pub status_of_words : (r : Refusal) → (refusal_told r).status ≡ 1 → r ≡ refusal.NoRequest
status_of_words refusal.NoRequest e = refl
status_of_words (refusal.File word file_end.ReadFault) e = absurd (omega arith)
status_of_words (refusal.File word (file_end.TooLong most)) e = absurd (omega arith)
status_of_words (refusal.Content (content.Text text place f)) e = absurd (omega arith)
status_of_words (refusal.Content (content.Check f)) e = absurd (omega arith)
status_of_words (refusal.Content (content.Formula f)) e = absurd (omega arith)
status_of_words (refusal.Content (content.CertText f)) e = absurd (omega arith)
status_of_words (refusal.Content (content.Cert f)) e = absurd (omega arith)

pub status_of_read : (T : Type 0) (r : Refusal) (before after : ℕ) → Counts before after (is_read_fault {T = T} (Err (stop.Refused r))) → ((refusal_told r).status ≡ 3 → Rose before after) × (before < after → (refusal_told r).status ≡ 3)
status_of_read T refusal.NoRequest before after h = ((λ e. absurd (omega arith)), λ lt. absurd (omega arith))
status_of_read T (refusal.File word file_end.ReadFault) before after h = ((λ e. h.1), λ lt. refl)
status_of_read T (refusal.File word (file_end.TooLong most)) before after h = ((λ e. absurd (omega arith)), λ lt. absurd (omega arith))
status_of_read T (refusal.Content (content.Text text place f)) before after h = ((λ e. absurd (omega arith)), λ lt. absurd (omega arith))
status_of_read T (refusal.Content (content.Check f)) before after h = ((λ e. absurd (omega arith)), λ lt. absurd (omega arith))
status_of_read T (refusal.Content (content.Formula f)) before after h = ((λ e. absurd (omega arith)), λ lt. absurd (omega arith))
status_of_read T (refusal.Content (content.CertText f)) before after h = ((λ e. absurd (omega arith)), λ lt. absurd (omega arith))
status_of_read T (refusal.Content (content.Cert f)) before after h = ((λ e. absurd (omega arith)), λ lt. absurd (omega arith))

-- the refusal of words that are no request
pub words_refused : (result : Result Close (Stop Refusal)) (s : Stop Refusal) (r : Refusal) → result ≡ Err s → s ≡ stop.Refused r → (result ≡ Err (stop.Refused refusal.NoRequest)) ⊎ (result ≡ Err stop.NoMemory) → (refusal_told r).status ≡ 1
words_refused result s r h is (inl e) =
    let same : r ≡ refusal.NoRequest = (let err = sym h ∙ e in cc) in
    ap (λ x. (refusal_told x).status) same
words_refused result s r h is (inr e) = absurd (let err = sym h ∙ e in cc)

-- what a status other than 4 and 5 says of the telling
pub told_status : (end : End) (old new : Option (List ℕ)) (status n : ℕ) → NotCut n → Tells end old new status → status ≡ n → (end.status ≡ n) × (new ≡ with_bytes old end.note)
told_status end old new status n whole (inl (is, told)) e = (sym is ∙ e, told)
told_status end old new status n whole (inr (inl four, front)) e = absurd (whole.0 (sym e ∙ four))
told_status end old new status n whole (inr (inr five, front)) e = absurd (whole.1 (sym e ∙ five))

below_four : (n : ℕ) → n < 4 → NotCut n
below_four n few = ((λ four. omega (arith, few, four)), λ five. omega (arith, few, five))

pub six : NotCut 6
six = ((λ four. omega (arith, four)), λ five. omega (arith, five))

no_carried : (n m : ℕ) → is_carried_out n ≡ true → n ≡ m → is_carried_out m ≡ false → ⊥
no_carried n m carried same other =
    let both : true ≡ false = sym carried ∙ ap is_carried_out same ∙ other in
    cc

pub refusal_is_no_result : {X : Type 0} (r : Refusal) (old new : Option (List ℕ)) (status : ℕ) → Tells (refusal_told r) old new status → is_carried_out status ≡ true → X
refusal_is_no_result r old new status (inl (is, told)) carried = absurd (no_carried status (refusal_told r).status carried is (refusal_writes_nothing r).1)
refusal_is_no_result r old new status (inr (inl four, front)) carried = absurd (no_carried status 4 carried four refl)
refusal_is_no_result r old new status (inr (inr five, front)) carried = absurd (no_carried status 5 carried five refl)

pub refusal_status : (r : Refusal) (old new : Option (List ℕ)) (status n : ℕ) → n < 4 → Tells (refusal_told r) old new status → status ≡ n → (refusal_told r).status ≡ n
refusal_status r old new status n few h e = (told_status (refusal_told r) old new status n (below_four n few) h e).0

-- a status that was told, or 4 or 5
pub told_or_cut : (end : End) (old new : Option (List ℕ)) (status n : ℕ) → Tells end old new status → end.status ≡ n → (status ≡ n) ⊎ (status ≡ 4) ⊎ (status ≡ 5)
told_or_cut end old new status n (inl (is, told)) e = inl (is ∙ e)
told_or_cut end old new status n (inr (inl four, front)) e = inr (inl four)
told_or_cut end old new status n (inr (inr five, front)) e = inr (inr five)

-- ---- requests that were carried out

close_carries : (c : Close) → is_carried_out (close_status c) ≡ true
close_carries close.Done = refl
close_carries close.Yes = refl
close_carries close.No = refl
close_carries close.Spent = refl
close_carries close.NoStrategy = refl
close_carries close.NotFound = refl
close_carries close.Gone = refl
close_carries (close.BadReply number count) = refl

pub carried_out : (held : Option Files) (asked : Option Request) (replies : List ℕ) (c : Close) (old new : Option (List ℕ)) (noted now : Option (List ℕ)) (status : ℕ) → (written : Writes refusal_told (MayEnd true held asked replies) old new (Ok c)) → Tells (closed c written.0) noted now status → is_carried_out status ≡ true
    → (end : End) × IsResult held asked replies end × (status ≡ end.status) × (new ≡ with_bytes old end.out) × (now ≡ with_bytes noted end.note)
carried_out held asked replies c old new noted now status (text, e, w) (inl (is, told)) carried =
    (closed c text, result_of_request held asked replies (closed c text) (close_carries c) e, is, w, told)
carried_out held asked replies c old new noted now status (text, e, w) (inr (inl four, front)) carried = absurd (no_carried status 4 carried four refl)
carried_out held asked replies c old new noted now status (text, e, w) (inr (inr five, front)) carried = absurd (no_carried status 5 carried five refl)

-- its status is no other one
pub close_is_no_end : {X : Type 0} (c : Close) (text : List ℕ) (old new : Option (List ℕ)) (status n : ℕ) → NotCut n → is_carried_out n ≡ false → Tells (closed c text) old new status → status ≡ n → X
close_is_no_end c text old new status n whole other told e =
    absurd (no_carried (close_status c) n (close_carries c) (told_status (closed c text) old new status n whole told e).0 other)

pub close_is_no_refusal : {X : Type 0} (c : Close) (text : List ℕ) (old new : Option (List ℕ)) (status n : ℕ) → n < 4 → is_carried_out n ≡ false → Tells (closed c text) old new status → status ≡ n → X
close_is_no_refusal c text old new status n few other told e = close_is_no_end c text old new status n (below_four n few) other told e
