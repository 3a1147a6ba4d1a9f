-- Whole texts: what is answered at their end, and what the answers say.
use Rattle.std.proofs.Common.{◌≡◌, ℕ, ◌+◌, ◌<◌, ◌&&◌, not, Bool, false, List, [], ◌++◌, map, get_or, Option, None, Some, Result, Ok, Err, refl, sym, ap, ap₂, subst, ◌∙◌, inl, inr, ◌⊎◌, arith}
use Rattle.std.specs.Prelude.{IfOk, IfErr, zero, suc}
use Rattle.std.specs.List.{flat_map, filter, range_with_len}
use Rattle.std.proofs.lemmas.List.{append-nil}
use Rattle.bddl_model.specs.declared.fault.QFault.{QFault}
use Rattle.bddl_model.specs.declared.fault.QFault.TheVariants as fault
use Rattle.bddl_model.specs.declared.formula.Quant.TheVariants.{Exists}
use Rattle.bddl_model.specs.Truth.{Formula}
use Rattle.bddl_model.specs.Forms.{has_number, prefix_variables, literal_variables, AllFitPrefix}
use Rattle.bddl_model.specs.FormulaText.{FormulaText}
use Rattle.bddl_model.specs.FormulaWords.{words_of, last_line}
use Rattle.bddl_model.specs.Qdimacs.{IsProper, bound_variables, bound_of, set_bounds, free_variables, form_of, Qdimacs}
use Rattle.bddl_model.specs.FormulaPlaces.{FormulaPlace, nothing, in_clauses, IsProperPlace}
use Rattle.bddl_model.specs.FormulaFaults.{end_fault, QdimacsFails}
use Rattle.bddl_model.specs.FormulaReading.{FormulaRead, steps, reading, ended, finished}
use Rattle.bddl_model.proofs.FormulaReading.{steps_keep, ends_well, reading_is_exact, fault_is_exact}
use Rattle.bddl_model.proofs.WrittenForms.{bounds_variables}
use Rattle.qdimacs_io.specs.declared.read.QdimacsRead.{QdimacsRead}
use Rattle.qdimacs_io.specs.MarkSets.{table}
use Rattle.qdimacs_io.specs.States.{State, first_state, states, state_of, state_end, form_at, read_of, free_marks, Fails}
use Rattle.qdimacs_io.specs.Answers.{Reads, UnlessNoMemory, read_view}
use Rattle.qdimacs_io.proofs.Tables.{table_at}
use Rattle.qdimacs_io.proofs.Following.{states_follow, end_state, view_result}
use Rattle.qdimacs_io.proofs.TextForms.{form_fits}

-- ---- faults

cases_result : {A B : Type 0} (r : Result A B) → ((x : A) × (r ≡ Ok x)) ⊎ ((e : B) × (r ≡ Err e))
cases_result (Ok x) = inl (x, refl)
cases_result (Err e) = inr (e, refl)

fails_from : {A : Type 0} (r : Result A QFault) (f : QFault) → r ≡ Err f → Fails r f
fails_from r fault.NoMemory h = tt
fails_from r (fault.NoProblemLine n) h = h
fails_from r (fault.BadWord n) h = h
fails_from r (fault.OutOfRange n l) h = h
fails_from r (fault.BoundTwice n v) h = h
fails_from r (fault.AfterMatrix n) h = h
fails_from r (fault.EndsEarly n) h = h
fails_from r (fault.TooManyVariables n s) h = h
fails_from r (fault.CountDiffers s f) h = h

fails_cases : {A : Type 0} (r : Result A QFault) (f : QFault) → Fails r f → (f ≡ fault.NoMemory) ⊎ (r ≡ Err f)
fails_cases r fault.NoMemory h = inl refl
fails_cases r (fault.NoProblemLine n) h = inr h
fails_cases r (fault.BadWord n) h = inr h
fails_cases r (fault.OutOfRange n l) h = inr h
fails_cases r (fault.BoundTwice n v) h = inr h
fails_cases r (fault.AfterMatrix n) h = inr h
fails_cases r (fault.EndsEarly n) h = inr h
fails_cases r (fault.TooManyVariables n s) h = inr h
fails_cases r (fault.CountDiffers s f) h = inr h

-- ---- a word that can't stand where it does

pub word_fails : (bytes : List ℕ) (f : QFault) → Fails (states (Ok first_state) (words_of bytes)) f → Fails (reading bytes) f
word_fails bytes f h = elim (fails_cases (states (Ok first_state) (words_of bytes)) f h) [
  | inl memory ↦ rw memory tt
  | inr wrong ↦ elim (cases_result (steps (Ok nothing) (words_of bytes))) [
    | inl right ↦ absurd (let z : Ok (state_of right.0) ≡ Err f = sym (states_follow nothing (words_of bytes) tt ∙ ap view_result right.1) ∙ wrong in cc)
    | inr stops ↦
        let z : Err stops.0 ≡ Err f = sym (states_follow nothing (words_of bytes) tt ∙ ap view_result stops.1) ∙ wrong in
        let same : stops.0 ≡ f = cc in
        fails_from (reading bytes) f (ap (ended (last_line bytes)) stops.1 ∙ ap (λ g. Err g) same)
  ]
]

-- ---- the end of the text

-- all words are right: the place that the state is of
abbrev AtPlace : List ℕ → State → Type 0
AtPlace bytes s = (p : FormulaPlace) × (steps (Ok nothing) (words_of bytes) ≡ Ok p) × (state_of p ≡ s)

at_place : (bytes : List ℕ) (s : State) → states (Ok first_state) (words_of bytes) ≡ Ok s → AtPlace bytes s
at_place bytes s e = elim (cases_result (steps (Ok nothing) (words_of bytes))) [
  | inl right ↦ (right.0, right.1, (let z : Ok (state_of right.0) ≡ Ok s = sym (states_follow nothing (words_of bytes) tt ∙ ap view_result right.1) ∙ e in cc))
  | inr wrong ↦ absurd (let z : Err wrong.0 ≡ Ok s = sym (states_follow nothing (words_of bytes) tt ∙ ap view_result wrong.1) ∙ e in cc)
]

end_at_place : (n last : ℕ) (s : State) (p : FormulaPlace) (o : Option QFault) → n ≡ last → state_of p ≡ s → state_end n s ≡ o → end_fault last p ≡ o
end_at_place n last s p o same is end = sym (ap (λ (k : ℕ). state_end k s) same ∙ ap (state_end last) (sym is) ∙ end_state last p) ∙ end

pub end_fails : (bytes : List ℕ) (s : State) (n : ℕ) (f : QFault) → states (Ok first_state) (words_of bytes) ≡ Ok s → n ≡ last_line bytes → state_end n s ≡ Some f → Fails (reading bytes) f
end_fails bytes s n f e last end =
    let a = at_place bytes s e in
    let wrong = end_at_place n (last_line bytes) s a.0 (Some f) last a.2 end in
    fails_from (reading bytes) f (ap (ended (last_line bytes)) a.1 ∙ ap (λ o. finished o a.0) wrong)

-- ---- a text that ends well

same_filter : (f g : ℕ → Bool) (from n : ℕ) → ((v : ℕ) → v < from + n → f v ≡ g v) → filter f (range_with_len from n) ≡ filter g (range_with_len from n)
same_filter f g from zero same = refl
same_filter f g from (suc n) same = rw (same from (omega arith), same_filter f g (from + 1) n (λ v low. same v (omega arith))) refl

form_is : (t : FormulaText) → form_at (state_of (in_clauses t [])) ≡ form_of t
form_is t = ap (λ (vs : List ℕ). with_free_variables vs) free
  where
    with_free_variables : List ℕ → Formula
    with_free_variables vs = record (form_of t) { prefix = map (bound_of Exists) vs ++ flat_map set_bounds t.sets }

    marks : List Bool
    marks = table (t.variables + 1) (has_number (flat_map literal_variables t.clauses ++ []))

    one : (v : ℕ) → v < 1 + t.variables → (get_or marks v false && not (has_number (prefix_variables (flat_map set_bounds t.sets)) v)) ≡ (has_number (flat_map literal_variables t.clauses) v && not (has_number (bound_variables t.sets) v))
    one v low =
        ap₂ (λ a b. a && not b)
        (table_at (t.variables + 1) (has_number (flat_map literal_variables t.clauses ++ [])) v (omega arith) ∙ ap (λ (vs : List ℕ). has_number vs v) (append-nil (flat_map literal_variables t.clauses)))
        (ap (λ (vs : List ℕ). has_number vs v) (bounds_variables t.sets))

    free : free_marks t.variables marks (flat_map set_bounds t.sets) ≡ free_variables t
    free = same_filter (λ v. get_or marks v false && not (has_number (prefix_variables (flat_map set_bounds t.sets)) v)) (λ v. has_number (flat_map literal_variables t.clauses) v && not (has_number (bound_variables t.sets) v)) 1 t.variables one

-- the text that the state is of
abbrev IsOf : List ℕ → State → Type 0
IsOf bytes s = (t : FormulaText) × IsProper t × (steps (Ok nothing) (words_of bytes) ≡ Ok (in_clauses t [])) × (end_fault (last_line bytes) (in_clauses t []) ≡ None) × (state_of (in_clauses t []) ≡ s)

is_of : (bytes : List ℕ) (s : State) (n : ℕ) → states (Ok first_state) (words_of bytes) ≡ Ok s → n ≡ last_line bytes → state_end n s ≡ None → IsOf bytes s
is_of bytes s n e last end =
    let a = at_place bytes s e in
    let right = end_at_place n (last_line bytes) s a.0 None last a.2 end in
    let kept = steps_keep nothing a.0 (words_of bytes) tt a.1 in
    let whole = ends_well (last_line bytes) a.0 kept.1 right in (
      whole.0,
      (subst (λ (q : FormulaPlace). IsProperPlace q) whole.1 kept.1).0,
      a.1 ∙ ap (λ q. Ok q) whole.1,
      subst (λ (q : FormulaPlace). end_fault (last_line bytes) q ≡ None) whole.1 right,
      ap state_of (sym whole.1) ∙ a.2,
    )

pub whole_fits : (bytes : List ℕ) (s : State) (n : ℕ) → states (Ok first_state) (words_of bytes) ≡ Ok s → n ≡ last_line bytes → state_end n s ≡ None → AllFitPrefix (form_at s).prefix s.kept
whole_fits bytes s n e last end =
    let of = is_of bytes s n e last end in
    subst (λ (r : State). AllFitPrefix (form_at r).prefix r.kept) of.4 (subst (λ (f : Formula). AllFitPrefix f.prefix f.clauses) (sym (form_is of.0)) (form_fits of.0 of.1))

pub whole_read : (bytes : List ℕ) (s : State) (n : ℕ) → states (Ok first_state) (words_of bytes) ≡ Ok s → n ≡ last_line bytes → state_end n s ≡ None → reading bytes ≡ Ok (read_of s)
whole_read bytes s n e last end =
    let of = is_of bytes s n e last end in
    ap (ended (last_line bytes)) of.2 ∙ ap (λ o. finished o (in_clauses of.0 [])) of.3
    ∙ ap (λ (f : Formula). Ok (read_with of.0 f)) (sym (form_is of.0))
    ∙ ap (λ (r : State). Ok (read_of r)) of.4
  where
    read_with : FormulaText → Formula → FormulaRead
    read_with t f = record { variables = t.variables; clauses = t.said; form = f }

-- ---- what the answers say

pub form_told : (bytes : List ℕ) (r : Result QdimacsRead QFault) → Reads (reading bytes) r → IfOk r (λ read. Qdimacs bytes read.variables read.clauses read.form)
form_told bytes (Ok read) h = (reading_is_exact bytes (read_view read)).0 h
form_told bytes (Err f) h = tt

pub fault_told : (bytes : List ℕ) (r : Result QdimacsRead QFault) → Reads (reading bytes) r → IfErr r (λ f. (f ≡ fault.NoMemory) ⊎ QdimacsFails bytes f)
fault_told bytes (Ok read) h = tt
fault_told bytes (Err f) h = elim (fails_cases (reading bytes) f h) [
  | inl memory ↦ inl memory
  | inr wrong ↦ inr ((fault_is_exact bytes f).0 wrong)
]

same_read : (a b : QdimacsRead) → read_view a ≡ read_view b → a ≡ b
same_read a b h = ap (λ (r : FormulaRead). stored r) h
  where
    stored : FormulaRead → QdimacsRead
    stored r = record { form = r.form; variables = r.variables; clauses = r.clauses }

pub only_form : (bytes : List ℕ) (r : Result QdimacsRead QFault) → Reads (reading bytes) r → (read : QdimacsRead) → Qdimacs bytes read.variables read.clauses read.form → UnlessNoMemory r (Ok read)
only_form bytes r h read q = go r h ((reading_is_exact bytes (read_view read)).1 q)
  where
    go : (r : Result QdimacsRead QFault) → Reads (reading bytes) r → reading bytes ≡ Ok (read_view read) → UnlessNoMemory r (Ok read)
    go (Ok other) h is = let z : Ok (read_view other) ≡ Ok (read_view read) = sym h ∙ is in let same : read_view other ≡ read_view read = cc in inl (ap (λ x. Ok x) (same_read other read same))
    go (Err f) h is = elim (fails_cases (reading bytes) f h) [
      | inl memory ↦ inr (ap (λ g. Err g) memory)
      | inr wrong ↦ absurd (let z : Err f ≡ Ok (read_view read) = sym wrong ∙ is in cc)
    ]

pub exact_fault : (bytes : List ℕ) (r : Result QdimacsRead QFault) → Reads (reading bytes) r → (f : QFault) → QdimacsFails bytes f → UnlessNoMemory r (Err f)
exact_fault bytes r h f q = go r h ((fault_is_exact bytes f).1 q)
  where
    go : (r : Result QdimacsRead QFault) → Reads (reading bytes) r → reading bytes ≡ Err f → UnlessNoMemory r (Err f)
    go (Ok other) h is = absurd (let z : Ok (read_view other) ≡ Err f = sym h ∙ is in cc)
    go (Err g) h is = elim (fails_cases (reading bytes) g h) [
      | inl memory ↦ inr (ap (λ g. Err g) memory)
      | inr wrong ↦ let z : Err g ≡ Err f = sym wrong ∙ is in let same : g ≡ f = cc in inl (ap (λ g. Err g) same)
    ]
