-- The canonical texts spell their trees, a lemma for each line of the grammar.
use Rattle.std.proofs.Common.{◌≡◌, ℕ, zero, suc, ◌<◌, Bool, true, false, ◌&&◌, List, ◌++◌, map, Option, Some, refl, append_assoc}
use Rattle.std.specs.Prelude.{codes, pos, negsuc, ℤ}
use Rattle.std.specs.List.{flat_map, list_all}
use Rattle.std.specs.Fmt.{decimal}
use Rattle.std.proofs.lemmas.Bool.{and_parts, ltb-true}
use Rattle.bddl_model.specs.declared.game.Mark.{Mark}
use Rattle.bddl_model.specs.declared.game.Mark.TheVariants.{Free, Black, White}
use Rattle.bddl_model.specs.declared.game.Side.{Side}
use Rattle.bddl_model.specs.declared.game.Side.TheVariants as sides
use Rattle.bddl_model.specs.declared.tokens.TokenKind.{TokenKind}
use Rattle.bddl_model.specs.declared.tokens.TokenKind.TheVariants.{Left, Right, Comma, Plus, Minus, VarX, VarY, Hash, Colon, Name, Number}
use Rattle.bddl_model.specs.declared.texts.TermText.{TermText}
use Rattle.bddl_model.specs.declared.texts.TermText.TheVariants as terms
use Rattle.bddl_model.specs.declared.texts.AtomText.{AtomText}
use Rattle.bddl_model.specs.declared.texts.TestText.{TestText}
use Rattle.bddl_model.specs.declared.texts.InitAtom.{InitAtom}
use Rattle.bddl_model.specs.declared.texts.ActionText.{ActionText}
use Rattle.bddl_model.specs.declared.texts.DomainText.{DomainText}
use Rattle.bddl_model.specs.declared.texts.ProblemText.{ProblemText}
use Rattle.bddl_model.specs.Tokens.{Lexeme, IsLexeme, is_gap}
use Rattle.bddl_model.specs.GrammarWords.{one, many, optional}
use Rattle.bddl_model.specs.Meanings.{is, is_name, a_name, a_number, a_mark, a_side, a_sign, up, down, x_start, y_start, variable, whole, plain, negation, test_start}
use Rattle.bddl_model.specs.Grammar.{left, right, comma, shift, xterm, yterm, behind_mark, atom, test, cell, atoms, tests, cells, parameters, action, domain, problem}
use Rattle.bddl_model.specs.Canonical.{mark_text, shift_text, x_text, y_text, atom_text, test_text, cell_text, listed, atoms_text, tests_text, action_text, domain_text, goals_text, first_text, problem_text, is_short, shift_is_short, term_can_be_spelled, atom_can_be_spelled, atoms_can_be_spelled, tests_can_be_spelled, cell_can_be_spelled, action_can_be_spelled, domain_can_be_spelled, problem_can_be_spelled}
use Rattle.bddl_model.specs.Reading.{Reads}
use Rattle.bddl_model.proofs.PlainTokens.{number_is}
use Rattle.bddl_lexer.proofs.WrittenTokens.{EndsWord, name_token, decimal_token}
use Rattle.bddl_reader.proofs.Exact.{Anything}
use Rattle.bddl_reader.proofs.Spelled.{Spells, respelled, spells_done, spells_one, spells_then, spells_seq, spells_end, spells_none, spells_some, before_gap, spells_line, spells_many, spells_joined, reads_spelled}

-- ---- single tokens

short : (n : ℕ) → is_short n ≡ true → n < 1000000000
short n can = ltb-true n 1000000000 can

-- a token that ends by itself, a name, and a number
spells_token : {A : Type 0} {B : List ℕ → Type 0} (meaning : Lexeme → Option A) (kind : TokenKind) (text : List ℕ) (x : A) → meaning (record { kind = kind; text = text }) ≡ Some x → ((rest : List ℕ) → IsLexeme (record { kind = kind; text = text }) rest) → Spells (one meaning) B text x
spells_token meaning kind text x means is = spells_one meaning (record { kind = kind; text = text }) x means (λ rest behind. is rest)

spells_name : {A : Type 0} (meaning : Lexeme → Option A) (text : List ℕ) (x : A) → is_name text ≡ true → meaning (record { kind = Name; text = text }) ≡ Some x → Spells (one meaning) EndsWord text x
spells_name meaning text x can means = spells_one meaning (record { kind = Name; text = text }) x means (λ rest ends. name_token text rest can ends)

spells_number : {A : Type 0} (meaning : Lexeme → Option A) (n : ℕ) (x : A) → is_short n ≡ true → meaning (record { kind = Number; text = decimal n }) ≡ Some x → Spells (one meaning) EndsWord (decimal n) x
spells_number meaning n x can means = spells_one meaning (record { kind = Number; text = decimal n }) x means (λ rest ends. decimal_token n rest (short n can) ends)

spelled_left : Spells left Anything (codes "(") tt
spelled_left = spells_token _ Left (codes "(") tt refl (λ rest. refl)

spelled_right : Spells right Anything (codes ")") tt
spelled_right = spells_token _ Right (codes ")") tt refl (λ rest. refl)

spelled_comma : Spells comma Anything (codes ",") tt
spelled_comma = spells_token _ Comma (codes ",") tt refl (λ rest. refl)

spelled_mark : (mark : Mark) → Spells (one a_mark) EndsWord (mark_text mark) mark
spelled_mark Free = spells_name a_mark (codes "open") Free refl refl
spelled_mark Black = spells_name a_mark (codes "black") Black refl refl
spelled_mark White = spells_name a_mark (codes "white") White refl refl

spelled_name : (name : List ℕ) → is_name name ≡ true → Spells (one a_name) EndsWord name name
spelled_name name can = spells_name a_name name name can (rw can refl)

spelled_number : (n : ℕ) → is_short n ≡ true → Spells (one a_number) EndsWord (decimal n) n
spelled_number n can = spells_number a_number n n can (number_is n (short n can))

-- a word, and white space behind it
spelled_word : (kind : TokenKind) (text gap : List ℕ) → is kind text (record { kind = kind; text = text }) ≡ Some tt → is_gap false false gap ≡ true → ((rest : List ℕ) → IsLexeme (record { kind = kind; text = text }) (gap ++ rest)) → Spells (one (is kind text)) Anything (text ++ gap) tt
spelled_word kind text gap means white is_token = before_gap (spells_one (is kind text) (record { kind = kind; text = text }) tt means (λ rest is_so. is_so)) gap white is_token

-- ---- terms

spelled_shift : (k : ℤ) → shift_is_short k ≡ true → Spells shift EndsWord (shift_text k) (terms.Shift k)
spelled_shift (pos zero) can = spells_none a_sign _ (terms.Shift (pos 0))
spelled_shift (pos (suc k)) can = spells_some _ (spells_seq (spells_token a_sign Plus (codes "+") up refl (λ rest. refl)) (spells_end (spelled_number (suc k) can) (spells_done (terms.Shift (pos (suc k))))))
spelled_shift (negsuc k) can = spells_some _ (spells_seq (spells_token a_sign Minus (codes "-") down refl (λ rest. refl)) (spells_end (spelled_number (suc k) can) (spells_done (terms.Shift (negsuc k)))))

spelled_x : (t : TermText) → term_can_be_spelled t ≡ true → Spells xterm EndsWord (x_text t) t
spelled_x (terms.Shift k) can = spells_seq (spells_token x_start VarX (codes "?x") variable refl (λ rest. refl)) (spelled_shift k can)
spelled_x (terms.Number n) can = spells_end (spells_number x_start n (whole (terms.Number n)) can (rw (number_is n (short n can)) refl)) (spells_done (terms.Number n))
spelled_x terms.Least can = spells_end (spells_name x_start (codes "xmin") (whole terms.Least) refl refl) (spells_done terms.Least)
spelled_x terms.Greatest can = spells_end (spells_name x_start (codes "xmax") (whole terms.Greatest) refl refl) (spells_done terms.Greatest)

spelled_y : (t : TermText) → term_can_be_spelled t ≡ true → Spells yterm EndsWord (y_text t) t
spelled_y (terms.Shift k) can = spells_seq (spells_token y_start VarY (codes "?y") variable refl (λ rest. refl)) (spelled_shift k can)
spelled_y (terms.Number n) can = spells_end (spells_number y_start n (whole (terms.Number n)) can (rw (number_is n (short n can)) refl)) (spells_done (terms.Number n))
spelled_y terms.Least can = spells_end (spells_name y_start (codes "ymin") (whole terms.Least) refl refl) (spells_done terms.Least)
spelled_y terms.Greatest can = spells_end (spells_name y_start (codes "ymax") (whole terms.Greatest) refl refl) (spells_done terms.Greatest)

-- ---- marks at cells

spelled_behind_mark : (a : AtomText) → atom_can_be_spelled a ≡ true → Spells (behind_mark a.mark) Anything (codes "(" ++ (x_text a.x ++ (codes "," ++ (y_text a.y ++ codes ")")))) a
spelled_behind_mark a can =
    let p = and_parts (term_can_be_spelled a.x) (term_can_be_spelled a.y) can in
    spells_seq spelled_left (spells_then (spelled_x a.x p.0) (spells_seq spelled_comma (spells_then (spelled_y a.y p.1) (spells_end spelled_right (spells_done a)) (λ rest behind. refl))) (λ rest behind. refl))

spelled_atom : (a : AtomText) → atom_can_be_spelled a ≡ true → Spells atom Anything (atom_text a) a
spelled_atom a can = spells_then (spelled_mark a.mark) (spelled_behind_mark a can) (λ rest behind. refl)

spelled_start : (mark : Mark) → Spells (one test_start) EndsWord (mark_text mark) (plain mark)
spelled_start Free = spells_name test_start (codes "open") (plain Free) refl refl
spelled_start Black = spells_name test_start (codes "black") (plain Black) refl refl
spelled_start White = spells_name test_start (codes "white") (plain White) refl refl

spelled_test_of : (a : AtomText) (negated : Bool) → atom_can_be_spelled a ≡ true → Spells test Anything (test_text (record { atom = a; negated = negated })) (record { atom = a; negated = negated })
spelled_test_of a false can = spells_then (spelled_start a.mark) (spells_end (spelled_behind_mark a can) (spells_done _)) (λ rest behind. refl)
spelled_test_of a true can = spells_then (spells_name test_start (codes "NOT") negation refl refl) (spells_seq spelled_left (spells_seq (spelled_atom a can) (spells_end spelled_right (spells_done _)))) (λ rest behind. refl)

spelled_test : (t : TestText) → atom_can_be_spelled t.atom ≡ true → Spells test Anything (test_text t) t
spelled_test t can = spelled_test_of t.atom t.negated can

spelled_cell : (a : InitAtom) → cell_can_be_spelled a ≡ true → Spells cell Anything (cell_text a) a
spelled_cell a can =
    let p = and_parts (is_short a.x) (is_short a.y) can in
    spells_then (spelled_mark a.mark) (spells_seq spelled_left (spells_then (spelled_number a.x p.0) (spells_seq spelled_comma (spells_then (spelled_number a.y p.1) (spells_end spelled_right (spells_done a)) (λ rest behind. refl))) (λ rest behind. refl))) (λ rest behind. refl)

spelled_atoms : (xs : List AtomText) → atoms_can_be_spelled xs ≡ true → Spells atoms Anything (atoms_text xs) xs
spelled_atoms xs can = spells_seq spelled_left (spells_seq (spells_joined (record { item = spelled_atom }) xs can) (spells_end spelled_right (spells_done xs)))

spelled_tests : (xs : List TestText) → tests_can_be_spelled xs ≡ true → Spells tests Anything (tests_text xs) xs
spelled_tests xs can = spells_seq spelled_left (spells_seq (spells_joined (record { item = spelled_test }) xs can) (spells_end spelled_right (spells_done xs)))

spelled_cells : (xs : List InitAtom) → list_all cell_can_be_spelled xs ≡ true → Spells cells Anything (listed (map cell_text xs)) xs
spelled_cells xs can = spells_seq spelled_left (spells_seq (spells_joined (record { item = spelled_cell }) xs can) (spells_end spelled_right (spells_done xs)))

spelled_goals : (lines : List (List TestText)) → list_all tests_can_be_spelled lines ≡ true → Spells (many tests) Anything (goals_text lines) lines
spelled_goals lines can = spells_many (record { item = λ xs each. spells_line (spelled_tests xs each) }) lines can

-- ---- domains

spelled_parameters : Spells parameters Anything (codes ":parameters (?x, ?y)\n") tt
spelled_parameters =
    spells_seq (spelled_word Colon (codes ":parameters") (codes " ") refl refl (λ rest. refl)) (spells_seq spelled_left (
    spells_seq (spells_token _ VarX (codes "?x") tt refl (λ rest. refl)) (spells_seq (before_gap spelled_comma (codes " ") refl (λ rest. tt)) (
    spells_seq (spells_token _ VarY (codes "?y") tt refl (λ rest. refl)) (spells_line spelled_right)))))

action_pieces : (word name parameters before_word before effect_word effects feed : List ℕ)
    → word ++ ((name ++ feed) ++ (parameters ++ (before_word ++ ((before ++ feed) ++ (effect_word ++ (effects ++ feed))))))
    ≡ ((word ++ name) ++ feed) ++ (parameters ++ (((before_word ++ before) ++ feed) ++ ((effect_word ++ effects) ++ feed)))
action_pieces word name parameters before_word before effect_word effects feed = simp append_assoc

spelled_action : (a : ActionText) → action_can_be_spelled a ≡ true → Spells action Anything (action_text a) a
spelled_action a can =
    let p = and_parts (is_name a.name) (tests_can_be_spelled a.before && atoms_can_be_spelled a.effects) can in
    let q = and_parts (tests_can_be_spelled a.before) (atoms_can_be_spelled a.effects) p.1 in
    respelled (action_pieces (codes ":action ") a.name (codes ":parameters (?x, ?y)\n") (codes ":precondition ") (tests_text a.before) (codes ":effect ") (atoms_text a.effects) (codes "\n")) (
    spells_seq (spelled_word Colon (codes ":action") (codes " ") refl refl (λ rest. refl)) (
    spells_seq (before_gap (spelled_name a.name p.0) (codes "\n") refl (λ rest. refl)) (spells_seq spelled_parameters (
    spells_seq (spelled_word Colon (codes ":precondition") (codes " ") refl refl (λ rest. refl)) (spells_seq (spells_line (spelled_tests a.before q.0)) (
    spells_seq (spelled_word Colon (codes ":effect") (codes " ") refl refl (λ rest. refl)) (spells_end (spells_line (spelled_atoms a.effects q.1)) (
    spells_done a))))))))

spelled_actions : (xs : List ActionText) → list_all action_can_be_spelled xs ≡ true → Spells (many action) Anything (flat_map action_text xs) xs
spelled_actions xs can = spells_many (record { item = spelled_action }) xs can

spelled_domain : (d : DomainText) → domain_can_be_spelled d ≡ true → Spells domain Anything (domain_text d) d
spelled_domain d can =
    let p = and_parts (list_all action_can_be_spelled d.black) (list_all action_can_be_spelled d.white) can in
    spells_seq (spelled_word Hash (codes "#blackactions") (codes "\n") refl refl (λ rest. refl)) (spells_seq (spelled_actions d.black p.0) (
    spells_seq (spelled_word Hash (codes "#whiteactions") (codes "\n") refl refl (λ rest. refl)) (spells_end (spelled_actions d.white p.1) (
    spells_end (spells_done tt) (spells_done d)))))

-- ---- problems

spelled_first : (side : Side) → Spells (optional (is Hash (codes "#first")) (λ u. one a_side) sides.Black) Anything (first_text side) side
spelled_first sides.Black = spells_none (is Hash (codes "#first")) _ sides.Black
spelled_first sides.White = spells_some sides.Black (spells_seq (spelled_word Hash (codes "#first") (codes " ") refl refl (λ rest. refl)) (before_gap (spells_name a_side (codes "white") sides.White refl refl) (codes "\n") refl (λ rest. refl)))

six_parts : (a b c d e f : Bool) → (a && (b && (c && (d && (e && f))))) ≡ true → (a ≡ true) × (b ≡ true) × (c ≡ true) × (d ≡ true) × (e ≡ true) × (f ≡ true)
six_parts a b c d e f all =
    let from_b = and_parts a (b && (c && (d && (e && f)))) all in
    let from_c = and_parts b (c && (d && (e && f))) from_b.1 in
    let from_d = and_parts c (d && (e && f)) from_c.1 in
    let from_e = and_parts d (e && f) from_d.1 in
    let last = and_parts e f from_e.1 in
    (from_b.0, from_c.0, from_d.0, from_e.0, last.0, last.1)

problem_pieces : (word width space height feed init_word init depth_word depth goals : List ℕ)
    → word ++ ((width ++ space) ++ ((height ++ feed) ++ (init_word ++ ((init ++ feed) ++ (depth_word ++ ((depth ++ feed) ++ goals))))))
    ≡ ((word ++ (width ++ (space ++ height))) ++ feed) ++ (((init_word ++ init) ++ feed) ++ (((depth_word ++ depth) ++ feed) ++ goals))
problem_pieces word width space height feed init_word init depth_word depth goals = simp append_assoc

spelled_problem : (p : ProblemText) → problem_can_be_spelled p ≡ true → Spells problem Anything (problem_text p) p
spelled_problem p can =
    let (width, height, init, depth, black, white) = six_parts (is_short p.width) (is_short p.height) (list_all cell_can_be_spelled p.init) (is_short p.depth) (list_all tests_can_be_spelled p.black) (list_all tests_can_be_spelled p.white) can in
    respelled (problem_pieces (codes "#boardsize ") (decimal p.width) (codes " ") (decimal p.height) (codes "\n") (codes "#init ") (listed (map cell_text p.init)) (codes "#depth ") (decimal p.depth) (first_text p.first ++ (codes "#blackgoals\n" ++ (goals_text p.black ++ (codes "#whitegoals\n" ++ goals_text p.white))))) (
    spells_seq (spelled_word Hash (codes "#boardsize") (codes " ") refl refl (λ rest. refl)) (
    spells_seq (before_gap (spelled_number p.width width) (codes " ") refl (λ rest. refl)) (spells_seq (before_gap (spelled_number p.height height) (codes "\n") refl (λ rest. refl)) (
    spells_seq (spelled_word Hash (codes "#init") (codes " ") refl refl (λ rest. refl)) (spells_seq (spells_line (spelled_cells p.init init)) (
    spells_seq (spelled_word Hash (codes "#depth") (codes " ") refl refl (λ rest. refl)) (spells_seq (before_gap (spelled_number p.depth depth) (codes "\n") refl (λ rest. refl)) (spells_seq (spelled_first p.first) (
    spells_seq (spelled_word Hash (codes "#blackgoals") (codes "\n") refl refl (λ rest. refl)) (spells_seq (spelled_goals p.black black) (
    spells_seq (spelled_word Hash (codes "#whitegoals") (codes "\n") refl refl (λ rest. refl)) (spells_end (spelled_goals p.white white) (
    spells_end (spells_done tt) (spells_done p))))))))))))))

-- ---- whole texts

pub domain_reads : (d : DomainText) → domain_can_be_spelled d ≡ true → Reads domain (domain_text d) d
domain_reads d can = reads_spelled domain (domain_text d) d (spelled_domain d can)

pub problem_reads : (p : ProblemText) → problem_can_be_spelled p ≡ true → Reads problem (problem_text p) p
problem_reads p can = reads_spelled problem (problem_text p) p (spelled_problem p can)
