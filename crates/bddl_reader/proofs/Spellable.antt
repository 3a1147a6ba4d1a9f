-- What is read can be spelled.
use Rattle.std.proofs.Common.{◌≡◌, ℕ, zero, suc, ◌+◌, ◌*◌, ◌-◌, ◌^◌, ◌<◌, ◌≤◌, nat_le, Bool, true, false, ◌&&◌, bytes_eq, List, [], ◌∷◌, length, Option, Some, None, Result, Ok, Err, refl, subst, arith, inl, inr, if◌then◌else◌}
use Rattle.std.specs.Prelude.{IfOk, codes}
use Rattle.std.specs.List.{list_all}
use Rattle.std.proofs.Math.Nat.{pow-le-pow_right, pow-suc, mul-le-mul_right}
use Rattle.std.proofs.lemmas.Bool.{cases_Bool, and_parts, and_from, leb-true, lt-ltb}
use Rattle.bddl_model.specs.declared.tokens.TokenKind.{TokenKind}
use Rattle.bddl_model.specs.declared.tokens.TokenKind.TheVariants.{VarX, VarY, Name, Number}
use Rattle.bddl_model.specs.declared.fault.ReadFault.{ReadFault}
use Rattle.bddl_model.specs.declared.game.Mark.{Mark}
use Rattle.bddl_model.specs.declared.texts.TermText.{TermText}
use Rattle.bddl_model.specs.declared.texts.TermText.TheVariants as terms
use Rattle.bddl_model.specs.declared.texts.AtomText.{AtomText}
use Rattle.bddl_model.specs.declared.texts.TestText.{TestText}
use Rattle.bddl_model.specs.declared.texts.InitAtom.{InitAtom}
use Rattle.bddl_model.specs.declared.texts.ActionText.{ActionText}
use Rattle.bddl_model.specs.declared.texts.DomainText.{DomainText}
use Rattle.bddl_model.specs.declared.texts.ProblemText.{ProblemText}
use Rattle.bddl_model.specs.Bytes.{is_digit, digits_from, digits_value}
use Rattle.bddl_model.specs.Tokens.{Lexeme}
use Rattle.bddl_model.specs.GrammarWords.{one, many}
use Rattle.bddl_model.specs.Meanings.{is_name, name_in, a_name, number_in, a_number, Sign, up, down, signed, Start, whole, variable, whole_number, end_named, x_start_in, y_start_in, TestStart, plain, negation}
use Rattle.bddl_model.specs.Grammar.{shift, behind_start, xterm, yterm, behind_mark, atom, behind_test_start, test, cell, atoms, tests, cells, action, domain, problem}
use Rattle.bddl_model.specs.Canonical.{is_short, term_can_be_spelled, atom_can_be_spelled, atoms_can_be_spelled, tests_can_be_spelled, cell_can_be_spelled, action_can_be_spelled, domain_can_be_spelled, problem_can_be_spelled}
use Rattle.bddl_model.specs.Reading.{Reads}
use Rattle.bddl_reader.proofs.Exact.{Text}

-- ---- numbers and names

one_digit_more : (n digit power : ℕ) → digit ≤ 9 → (10 * n + digit + 1) * power ≤ (n + 1) * (10 * power)
one_digit_more n digit power small =
    let wider : 10 * n + digit + 1 ≤ 10 * (n + 1) = omega arith in
    omega (arith, mul-le-mul_right power wider)

digits_below : (n : ℕ) (ds : List ℕ) (m : ℕ) → digits_from n ds ≡ Some m → m < (n + 1) * 10 ^ length ds
digits_below n [] m read = let same : n ≡ m = cc in omega arith
digits_below n (d ∷ ds) m read =
    elim (cases_Bool (is_digit d)) [
      | inl digit ↦
          let below = digits_below (10 * n + (d - 48)) ds m (rw digit at read) in
          let most = leb-true d 57 (and_parts (nat_le 48 d) (nat_le d 57) digit).1 in
          let more = one_digit_more n (d - 48) (10 ^ length ds) (omega arith) in
          rw (pow-suc 10 (length ds)) (omega arith)
      | inr other ↦ absurd (let none = rw other at read in cc)
    ]

value_short : (ds : List ℕ) (n : ℕ) → digits_value ds ≡ Some n → is_short n ≡ true
value_short ds n read =
    elim (cases_Bool (nat_le 1 (length ds) && nat_le (length ds) 9)) [
      | inl few ↦
          let below = digits_below 0 ds n (rw few at read) in
          let most = leb-true (length ds) 9 (and_parts (nat_le 1 (length ds)) (nat_le (length ds) 9) few).1 in
          let some : 0 < 10 = omega arith in
          let power : 10 ^ length ds ≤ 10 ^ 9 = pow-le-pow_right some most in
          lt-ltb n 1000000000 (omega arith)
      | inr other ↦ absurd (let none = rw other at read in cc)
    ]

number_short : (kind : TokenKind) (text : List ℕ) (n : ℕ) → number_in kind text ≡ Some n → is_short n ≡ true
number_short Number text n read = value_short text n read
number_short _ text n read = absurd cc

name_is : (kind : TokenKind) (text name : List ℕ) → name_in kind text ≡ Some name → is_name name ≡ true
name_is Name text name read =
    elim (cases_Bool (is_name text)) [
      | inl named_so ↦ let same = rw named_so at read in let e : text ≡ name = cc in subst (λ z. is_name z ≡ true) e named_so
      | inr other ↦ absurd (let none = rw other at read in cc)
    ]
name_is _ text name read = absurd cc

one_number : (ws : List Lexeme) (n : ℕ) → one a_number ws n → is_short n ≡ true
one_number ws n (w, single, means) = number_short w.kind w.text n means

one_name : (ws : List Lexeme) (name : List ℕ) → one a_name ws name → is_name name ≡ true
one_name ws name (w, single, means) = name_is w.kind w.text name means

-- ---- terms

signed_can : (sign : Sign) (n : ℕ) → is_short n ≡ true → term_can_be_spelled (terms.Shift (signed sign n)) ≡ true
signed_can up n can = can
signed_can down zero can = refl
signed_can down (suc n) can = can

shift_can : (ws : List Lexeme) (t : TermText) → shift ws t → term_can_be_spelled t ≡ true
shift_can ws t (inl (sign, a, b, splits, sign_read, (n, c, d, splits_more, number_read, (ended, is)))) = rw is (signed_can sign n (one_number c n number_read))
shift_can ws t (inr (ended, is)) = rw is refl

-- a term that is whole
abbrev WholeCan : Start → Type 0
WholeCan (whole t) = term_can_be_spelled t ≡ true
WholeCan variable = Unit {0}

number_can : (text : List ℕ) (s : Start) → whole_number (digits_value text) ≡ Some s → WholeCan s
number_can text s means = go (digits_value text) refl means
  where
    go : (o : Option ℕ) → digits_value text ≡ o → whole_number o ≡ Some s → WholeCan s
    go None read e = absurd cc
    go (Some n) read e = let same : whole (terms.Number n) ≡ s = cc in subst WholeCan same (value_short text n read)

end_can : (least greatest text : List ℕ) (s : Start) → end_named least greatest text ≡ Some s → WholeCan s
end_can least greatest text s means =
    elim (cases_Bool (bytes_eq text least)) [
      | inl is_least ↦ let e = rw is_least at means in let same : whole terms.Least ≡ s = cc in subst WholeCan same refl
      | inr other ↦ elim (cases_Bool (bytes_eq text greatest)) [
        | inl is_greatest ↦ let e = rw (other, is_greatest) at means in let same : whole terms.Greatest ≡ s = cc in subst WholeCan same refl
        | inr none ↦ absurd (let e = rw (other, none) at means in cc)
      ]
    ]

variable_can : (test : Bool) (s : Start) → (if test then Some variable else None) ≡ Some s → WholeCan s
variable_can true s means = let same : variable ≡ s = cc in subst WholeCan same tt
variable_can false s means = absurd cc

x_start_can : (kind : TokenKind) (text : List ℕ) (s : Start) → x_start_in kind text ≡ Some s → WholeCan s
x_start_can VarX text s means = variable_can (bytes_eq text (codes "?x")) s means
x_start_can Number text s means = number_can text s means
x_start_can Name text s means = end_can (codes "xmin") (codes "xmax") text s means
x_start_can _ text s means = absurd cc

y_start_can : (kind : TokenKind) (text : List ℕ) (s : Start) → y_start_in kind text ≡ Some s → WholeCan s
y_start_can VarY text s means = variable_can (bytes_eq text (codes "?y")) s means
y_start_can Number text s means = number_can text s means
y_start_can Name text s means = end_can (codes "ymin") (codes "ymax") text s means
y_start_can _ text s means = absurd cc

behind_can : (s : Start) (ws : List Lexeme) (t : TermText) → WholeCan s → behind_start s ws t → term_can_be_spelled t ≡ true
behind_can (whole v) ws t can (ended, is) = rw is can
behind_can variable ws t can read = shift_can ws t read

x_can : (ws : List Lexeme) (t : TermText) → xterm ws t → term_can_be_spelled t ≡ true
x_can ws t (s, a, b, splits, (w, single, means), read) = behind_can s b t (x_start_can w.kind w.text s means) read

y_can : (ws : List Lexeme) (t : TermText) → yterm ws t → term_can_be_spelled t ≡ true
y_can ws t (s, a, b, splits, (w, single, means), read) = behind_can s b t (y_start_can w.kind w.text s means) read

-- ---- marks at cells

many_can : {A : Type 0} (P : Text Lexeme A) (can : A → Bool) → ((ws : List Lexeme) (x : A) → P ws x → can x ≡ true) → (ws : List Lexeme) (xs : List A) → many P ws xs → list_all can xs ≡ true
many_can P can each ws [] read = refl
many_can P can each ws (x ∷ xs) (a, b, splits, first, more) = and_from (can x) (list_all can xs) (each a x first) (many_can P can each b xs more)

behind_mark_can : (mark : Mark) (ws : List Lexeme) (a : AtomText) → behind_mark mark ws a → atom_can_be_spelled a ≡ true
behind_mark_can mark ws a read =
    let at_x = read.5 in
    let at_y = at_x.5.5 in
    rw at_y.5.5.1 (and_from (term_can_be_spelled at_x.0) (term_can_be_spelled at_y.0) (x_can at_x.1 at_x.0 at_x.4) (y_can at_y.1 at_y.0 at_y.4))

atom_can : (ws : List Lexeme) (a : AtomText) → atom ws a → atom_can_be_spelled a ≡ true
atom_can ws a read = behind_mark_can read.0 read.2 a read.5

behind_test_start_can : (s : TestStart) (ws : List Lexeme) (t : TestText) → behind_test_start s ws t → atom_can_be_spelled t.atom ≡ true
behind_test_start_can (plain mark) ws t read = rw read.5.1 (behind_mark_can mark read.1 read.0 read.4)
behind_test_start_can negation ws t read =
    let at_atom = read.5 in
    rw at_atom.5.5.1 (atom_can at_atom.1 at_atom.0 at_atom.4)

test_can : (ws : List Lexeme) (t : TestText) → test ws t → atom_can_be_spelled t.atom ≡ true
test_can ws t read = behind_test_start_can read.0 read.2 t read.5

cell_can : (ws : List Lexeme) (a : InitAtom) → cell ws a → cell_can_be_spelled a ≡ true
cell_can ws a read =
    let at_x = read.5.5 in
    let at_y = at_x.5.5 in
    rw at_y.5.5.1 (and_from (is_short at_x.0) (is_short at_y.0) (one_number at_x.1 at_x.0 at_x.4) (one_number at_y.1 at_y.0 at_y.4))

atoms_can : (ws : List Lexeme) (xs : List AtomText) → atoms ws xs → atoms_can_be_spelled xs ≡ true
atoms_can ws xs read =
    let found = read.5 in
    rw found.5.5.1 (many_can atom atom_can_be_spelled atom_can found.1 found.0 found.4)

tests_can : (ws : List Lexeme) (xs : List TestText) → tests ws xs → tests_can_be_spelled xs ≡ true
tests_can ws xs read =
    let found = read.5 in
    rw found.5.5.1 (many_can test (λ t. atom_can_be_spelled t.atom) test_can found.1 found.0 found.4)

cells_can : (ws : List Lexeme) (xs : List InitAtom) → cells ws xs → list_all cell_can_be_spelled xs ≡ true
cells_can ws xs read =
    let found = read.5 in
    rw found.5.5.1 (many_can cell cell_can_be_spelled cell_can found.1 found.0 found.4)

-- ---- domains and problems

action_can : (ws : List Lexeme) (a : ActionText) → action ws a → action_can_be_spelled a ≡ true
action_can ws a read =
    let name = read.5 in
    let before = name.5.5.5 in
    let effects = before.5.5 in
    rw effects.5.1 (and_from (is_name name.0) (tests_can_be_spelled before.0 && atoms_can_be_spelled effects.0) (one_name name.1 name.0 name.4) (
    and_from (tests_can_be_spelled before.0) (atoms_can_be_spelled effects.0) (tests_can before.1 before.0 before.4) (atoms_can effects.1 effects.0 effects.4)))

actions_can : (ws : List Lexeme) (xs : List ActionText) → many action ws xs → list_all action_can_be_spelled xs ≡ true
actions_can = many_can action action_can_be_spelled action_can

goals_can : (ws : List Lexeme) (lines : List (List TestText)) → many tests ws lines → list_all tests_can_be_spelled lines ≡ true
goals_can = many_can tests tests_can_be_spelled tests_can

pub domain_can : (ws : List Lexeme) (d : DomainText) → domain ws d → domain_can_be_spelled d ≡ true
domain_can ws d read =
    let black = read.5 in
    let white = black.5.5 in
    rw white.5.5.1 (and_from (list_all action_can_be_spelled black.0) (list_all action_can_be_spelled white.0) (actions_can black.1 black.0 black.4) (actions_can white.1 white.0 white.4))

pub problem_can : (ws : List Lexeme) (p : ProblemText) → problem ws p → problem_can_be_spelled p ≡ true
problem_can ws p read =
    let width = read.5 in
    let height = width.5 in
    let init = height.5.5 in
    let depth = init.5.5 in
    let black = depth.5.5.5 in
    let white = black.5.5 in
    rw white.5.5.1 (all_can (one_number width.1 width.0 width.4) (one_number height.1 height.0 height.4) (cells_can init.1 init.0 init.4) (one_number depth.1 depth.0 depth.4) (goals_can black.1 black.0 black.4) (goals_can white.1 white.0 white.4))
  where
    all_can : {a b c d e f : Bool} → a ≡ true → b ≡ true → c ≡ true → d ≡ true → e ≡ true → f ≡ true → (a && (b && (c && (d && (e && f))))) ≡ true
    all_can a_is b_is c_is d_is e_is f_is = rw (a_is, b_is, c_is, d_is, e_is, f_is) refl

-- ---- texts

pub domain_answered : (bytes : List ℕ) (r : Result DomainText ReadFault) → IfOk r (Reads domain bytes) → IfOk r (λ d. domain_can_be_spelled d ≡ true)
domain_answered bytes (Ok d) found = domain_can found.0 d found.2
domain_answered bytes (Err f) found = tt

pub problem_answered : (bytes : List ℕ) (r : Result ProblemText ReadFault) → IfOk r (Reads problem bytes) → IfOk r (λ p. problem_can_be_spelled p ≡ true)
problem_answered bytes (Ok p) found = problem_can found.0 p found.2
problem_answered bytes (Err f) found = tt
