-- Each line of the grammar is read exactly.
use Rattle.std.proofs.Common.{◌≡◌, ℕ, true, false, List, [], ◌++◌, Option, Some, None, refl, inl, inr}
use Rattle.std.specs.Prelude.{bytes_eq, codes, pos}
use Rattle.std.proofs.lemmas.Bool.{cases_Bool}
use Rattle.std.proofs.lemmas.Slice.Eq.{bytes_eq-Decides}
use Rattle.bddl_model.specs.declared.tokens.TokenKind.{TokenKind}
use Rattle.bddl_model.specs.declared.tokens.TokenKind.TheVariants.{Left, Right, Comma, Plus, Minus, VarX, VarY, Hash, Colon, Name, Number}
use Rattle.bddl_model.specs.declared.game.Mark.{Mark}
use Rattle.bddl_model.specs.declared.game.Mark.TheVariants.{Free}
use Rattle.bddl_model.specs.declared.game.Side.TheVariants.{Black}
use Rattle.bddl_model.specs.declared.texts.TermText.TheVariants as terms
use Rattle.bddl_model.specs.Tokens.{Lexeme}
use Rattle.bddl_model.specs.GrammarWords.{done, one, follow, many, optional}
use Rattle.bddl_model.specs.Meanings.{is, a_name, a_number, a_mark, mark_in, a_side, a_sign, sign_in, signed, Start, whole, variable, x_start, y_start, TestStart, plain, negation, test_start, test_start_in}
use Rattle.bddl_model.specs.Grammar.{left, right, comma, colon, shift, behind_start, xterm, yterm, behind_mark, atom, behind_test_start, test, cell, enclosed, atoms, tests, parameters, action, domain, cells, problem}
use Rattle.bddl_reader.specs.declared.terms.Coordinate.TheVariants as coordinates
use Rattle.bddl_reader.specs.ListReaders.{Reader, one_at, listed}
use Rattle.bddl_reader.specs.GrammarReaders.{left_at, right_at, comma_at, colon_at, shift_at, behind_start_at, term_at, behind_mark_at, atom_at, behind_test_start_at, test_at, cell_at, enclosed_at, atoms_at, tests_at, cells_at, lines_at, parameters_at, action_at, actions_at, domain_at, first_at, problem_at}
use Rattle.bddl_reader.proofs.Exact.{Text, Exact, Anything, exact_weaker, exact_done, exact_one, exact_seq, exact_then}
use Rattle.bddl_reader.proofs.ExactOptional.{BeginsWithNone, exact_optional, exact_before}
use Rattle.bddl_reader.proofs.ExactMany.{exact_listed}
use Rattle.bddl_reader.proofs.ExactWhole.{IsEnd, exact_ended, ended_is_nothing}

-- ---- single tokens

exact_left : Exact left Anything left_at
exact_left = exact_one _ (record { kind = Left; text = codes "(" }) tt refl

exact_right : Exact right Anything right_at
exact_right = exact_one _ (record { kind = Right; text = codes ")" }) tt refl

exact_comma : Exact comma Anything comma_at
exact_comma = exact_one _ (record { kind = Comma; text = codes "," }) tt refl

exact_number : Exact (one a_number) Anything (one_at a_number)
exact_number = exact_one a_number (record { kind = Number; text = codes "0" }) 0 refl

exact_name : Exact (one a_name) Anything (one_at a_name)
exact_name = exact_one a_name (record { kind = Name; text = codes "a" }) (codes "a") refl

exact_mark : Exact (one a_mark) Anything (one_at a_mark)
exact_mark = exact_one a_mark (record { kind = Name; text = codes "open" }) Free refl

-- ---- a token of one kind has no meaning of another

right_is_no_mark : (kind : TokenKind) (text : List ℕ) (u : Unit {0}) → is Right (codes ")") (record { kind = kind; text = text }) ≡ Some u → mark_in kind text ≡ None
right_is_no_mark Name text u means = absurd cc
right_is_no_mark _ text u means = refl

right_begins_no_test : (kind : TokenKind) (text : List ℕ) (u : Unit {0}) → is Right (codes ")") (record { kind = kind; text = text }) ≡ Some u → test_start_in kind text ≡ None
right_begins_no_test Name text u means = absurd cc
right_begins_no_test _ text u means = refl

comma_is_no_sign : (kind : TokenKind) (text : List ℕ) (u : Unit {0}) → is Comma (codes ",") (record { kind = kind; text = text }) ≡ Some u → sign_in kind text ≡ None
comma_is_no_sign Plus text u means = absurd cc
comma_is_no_sign Minus text u means = absurd cc
comma_is_no_sign _ text u means = refl

right_is_no_sign : (kind : TokenKind) (text : List ℕ) (u : Unit {0}) → is Right (codes ")") (record { kind = kind; text = text }) ≡ Some u → sign_in kind text ≡ None
right_is_no_sign Plus text u means = absurd cc
right_is_no_sign Minus text u means = absurd cc
right_is_no_sign _ text u means = refl

hash_is_no_colon : (kind : TokenKind) (wanted other text : List ℕ) (u : Unit {0}) → is Hash wanted (record { kind = kind; text = text }) ≡ Some u → is Colon other (record { kind = kind; text = text }) ≡ None
hash_is_no_colon Colon wanted other text u means = absurd cc
hash_is_no_colon _ wanted other text u means = refl

hash_is_no_left : (kind : TokenKind) (wanted other text : List ℕ) (u : Unit {0}) → is Hash wanted (record { kind = kind; text = text }) ≡ Some u → is Left other (record { kind = kind; text = text }) ≡ None
hash_is_no_left Left wanted other text u means = absurd cc
hash_is_no_left _ wanted other text u means = refl

-- `#blackgoals` is not `#first`
goals_are_no_first : (kind : TokenKind) (text : List ℕ) (u : Unit {0}) → is Hash (codes "#blackgoals") (record { kind = kind; text = text }) ≡ Some u → is Hash (codes "#first") (record { kind = kind; text = text }) ≡ None
goals_are_no_first Hash text u means =
    elim (cases_Bool (bytes_eq text (codes "#blackgoals"))) [
      | inl goals ↦ rw ((bytes_eq-Decides text (codes "#blackgoals")).0 goals) refl
      | inr other ↦ absurd (let none = rw other at means in cc)
    ]
goals_are_no_first _ text u means = absurd cc

-- ---- marks at cells

exact_shift : Exact shift (BeginsWithNone a_sign) shift_at
exact_shift = exact_optional a_sign (λ s. follow (one a_number) (λ n. done (terms.Shift (signed s n)))) _ (terms.Shift (pos 0)) (λ s. exact_seq exact_number (λ n. exact_done (terms.Shift (signed s n))))

exact_behind_start : (s : Start) → Exact (behind_start s) (BeginsWithNone a_sign) (behind_start_at s)
exact_behind_start (whole t) = exact_weaker (exact_done t) (λ rest none. tt)
exact_behind_start variable = exact_shift

pub exact_xterm : Exact xterm (BeginsWithNone a_sign) (term_at coordinates.X)
exact_xterm = exact_seq (exact_one x_start (record { kind = VarX; text = codes "?x" }) variable refl) exact_behind_start

pub exact_yterm : Exact yterm (BeginsWithNone a_sign) (term_at coordinates.Y)
exact_yterm = exact_seq (exact_one y_start (record { kind = VarY; text = codes "?y" }) variable refl) exact_behind_start

exact_behind_mark : (mark : Mark) → Exact (behind_mark mark) Anything (behind_mark_at mark)
exact_behind_mark mark =
    exact_seq exact_left (λ l. exact_before exact_xterm (λ x. exact_seq exact_comma (λ c. exact_before exact_yterm (λ y. exact_seq exact_right (λ r.
    exact_done (record { mark = mark; x = x; y = y }))) (λ t u means. right_is_no_sign t.kind t.text u means))) (λ t u means. comma_is_no_sign t.kind t.text u means))

pub exact_atom : Exact atom Anything atom_at
exact_atom = exact_seq exact_mark exact_behind_mark

exact_behind_test_start : (s : TestStart) → Exact (behind_test_start s) Anything (behind_test_start_at s)
exact_behind_test_start (plain mark) = exact_seq (exact_behind_mark mark) (λ a. exact_done (record { atom = a; negated = false }))
exact_behind_test_start negation = exact_seq exact_left (λ l. exact_seq exact_atom (λ a. exact_seq exact_right (λ r. exact_done (record { atom = a; negated = true }))))

pub exact_test : Exact test Anything test_at
exact_test = exact_seq (exact_one test_start (record { kind = Name; text = codes "NOT" }) negation refl) exact_behind_test_start

pub exact_cell : Exact cell Anything cell_at
exact_cell =
    exact_seq exact_mark (λ mark. exact_seq exact_left (λ l. exact_seq exact_number (λ x. exact_seq exact_comma (λ c. exact_seq exact_number (λ y. exact_seq exact_right (λ r.
    exact_done (record { mark = mark; x = x; y = y })))))))

-- items that begin with no `)`
exact_enclosed : {A B : Type 0} (start : Lexeme → Option B) (Q : B → Text Lexeme A) (item : Reader Lexeme A) → Exact (follow (one start) Q) Anything item
    → ((t : Lexeme) (u : Unit {0}) → is Right (codes ")") t ≡ Some u → start t ≡ None) → Exact (enclosed (follow (one start) Q)) Anything (enclosed_at (listed start item))
exact_enclosed start Q item given apart = exact_seq exact_left (λ l. exact_before (exact_listed start Q item given) (λ found. exact_seq exact_right (λ r. exact_done found)) apart)

exact_atoms : Exact atoms Anything atoms_at
exact_atoms = exact_enclosed a_mark _ atom_at exact_atom (λ t u means. right_is_no_mark t.kind t.text u means)

pub exact_tests : Exact tests Anything tests_at
exact_tests = exact_enclosed test_start _ test_at exact_test (λ t u means. right_begins_no_test t.kind t.text u means)

exact_cells : Exact cells Anything cells_at
exact_cells = exact_enclosed a_mark _ cell_at exact_cell (λ t u means. right_is_no_mark t.kind t.text u means)

exact_lines : Exact (many tests) (BeginsWithNone (is Left (codes "("))) lines_at
exact_lines = exact_listed (is Left (codes "(")) _ tests_at exact_tests

-- ---- domains

exact_parameters : Exact parameters Anything parameters_at
exact_parameters =
    exact_seq (exact_one _ (record { kind = Colon; text = codes ":parameters" }) tt refl) (λ a. exact_seq exact_left (λ b.
    exact_seq (exact_one _ (record { kind = VarX; text = codes "?x" }) tt refl) (λ c. exact_seq exact_comma (λ d.
    exact_seq (exact_one _ (record { kind = VarY; text = codes "?y" }) tt refl) (λ e. exact_right)))))

exact_action_word : Exact (colon (codes ":action")) Anything (colon_at (codes ":action"))
exact_action_word = exact_one _ (record { kind = Colon; text = codes ":action" }) tt refl

pub exact_action : Exact action Anything action_at
exact_action =
    exact_seq exact_action_word (λ a. exact_seq exact_name (λ name. exact_seq exact_parameters (λ b.
    exact_seq (exact_one _ (record { kind = Colon; text = codes ":precondition" }) tt refl) (λ c. exact_seq exact_tests (λ before.
    exact_seq (exact_one _ (record { kind = Colon; text = codes ":effect" }) tt refl) (λ d. exact_seq exact_atoms (λ effects.
    exact_done (record { name = name; before = before; effects = effects }))))))))

exact_actions : Exact (many action) (BeginsWithNone (is Colon (codes ":action"))) actions_at
exact_actions = exact_listed (is Colon (codes ":action")) _ action_at exact_action

end_begins_none : {B : Type 0} (start : Lexeme → Option B) (rest : List Lexeme) → rest ≡ [] → BeginsWithNone start rest
end_begins_none start rest ended = rw ended tt

pub exact_domain : Exact domain IsEnd domain_at
exact_domain =
    exact_seq (exact_one _ (record { kind = Hash; text = codes "#blackactions" }) tt refl) (λ a.
    exact_before exact_actions (λ black.
    exact_seq (exact_one _ (record { kind = Hash; text = codes "#whiteactions" }) tt refl) (λ b.
    exact_then exact_actions (λ white. exact_ended (record { black = black; white = white })) (λ white text y rest spells ended. end_begins_none (is Colon (codes ":action")) (text ++ rest) (ended_is_nothing text y rest _ spells ended))))
    (λ t u means. hash_is_no_colon t.kind _ _ t.text u means))

-- ---- problems

exact_side : Exact (one a_side) Anything (one_at a_side)
exact_side = exact_one a_side (record { kind = Name; text = codes "black" }) Black refl

exact_first : Exact (optional (is Hash (codes "#first")) (λ u. one a_side) Black) (BeginsWithNone (is Hash (codes "#first"))) first_at
exact_first = exact_optional (is Hash (codes "#first")) (λ u. one a_side) (λ u. one_at a_side) Black (λ u. exact_side)

pub exact_problem : Exact problem IsEnd problem_at
exact_problem =
    exact_seq (exact_one _ (record { kind = Hash; text = codes "#boardsize" }) tt refl) (λ a. exact_seq exact_number (λ width. exact_seq exact_number (λ height.
    exact_seq (exact_one _ (record { kind = Hash; text = codes "#init" }) tt refl) (λ b. exact_seq exact_cells (λ init.
    exact_seq (exact_one _ (record { kind = Hash; text = codes "#depth" }) tt refl) (λ c. exact_seq exact_number (λ depth. exact_before exact_first (λ first.
    exact_seq (exact_one _ (record { kind = Hash; text = codes "#blackgoals" }) tt refl) (λ d.
    exact_before exact_lines (λ black.
    exact_seq (exact_one _ (record { kind = Hash; text = codes "#whitegoals" }) tt refl) (λ e.
    exact_then exact_lines (λ white. exact_ended (record { width = width; height = height; init = init; depth = depth; first = first; black = black; white = white })) (λ white text y rest spells ended. end_begins_none (is Left (codes "(")) (text ++ rest) (ended_is_nothing text y rest _ spells ended))))
    (λ t u means. hash_is_no_left t.kind _ _ t.text u means))) (λ t u means. goals_are_no_first t.kind t.text u means))))))))
