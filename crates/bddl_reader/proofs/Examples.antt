-- Small texts and what they say.
use Rattle.std.proofs.Common.{ℕ, true, List, [], ◌∷◌, ◌++◌, refl, arith}
use Rattle.std.specs.Prelude.{codes, pos, negsuc}
use Rattle.bddl_model.specs.declared.tokens.TokenKind.{TokenKind}
use Rattle.bddl_model.specs.declared.tokens.TokenKind.TheVariants.{Left, Right, Comma, Plus, Minus, VarX, VarY, Hash, Colon, Name, Number}
use Rattle.bddl_model.specs.declared.tokens.Token.{Token}
use Rattle.bddl_model.specs.declared.game.Mark.TheVariants as marks
use Rattle.bddl_model.specs.declared.game.Side.TheVariants.{White}
use Rattle.bddl_model.specs.declared.texts.TermText.TheVariants as terms
use Rattle.bddl_model.specs.declared.fault.ReadFault.TheVariants as fault
use Rattle.bddl_model.specs.Tokens.{Lexeme, Tokens, AreTokens, lexemes}
use Rattle.bddl_model.specs.Grammar.{xterm, yterm, atom, test, action, domain, problem}
use Rattle.bddl_model.specs.Reading.{Reads, ReadFails}
use Rattle.bddl_reader.specs.ListReaders.{many_at}
use Rattle.bddl_reader.proofs.ExactWhole.{whole_takes, whole_stuck}
use Rattle.bddl_reader.proofs.Lines.{exact_xterm, exact_yterm, exact_atom, exact_test, exact_action, exact_domain, exact_problem}

abbrev lexeme : TokenKind → List ℕ → Lexeme
lexeme kind text = record { kind = kind; text = text }

abbrev var_x : Lexeme
var_x = lexeme VarX (codes "?x")

abbrev var_y : Lexeme
var_y = lexeme VarY (codes "?y")

abbrev left : Lexeme
left = lexeme Left (codes "(")

abbrev right : Lexeme
right = lexeme Right (codes ")")

abbrev comma : Lexeme
comma = lexeme Comma (codes ",")

abbrev plus : Lexeme
plus = lexeme Plus (codes "+")

abbrev minus : Lexeme
minus = lexeme Minus (codes "-")

-- ---- `?x`, `?x+0` and `?x-0` have one tree

x_alone : xterm (var_x ∷ []) (terms.Shift (pos 0))
x_alone = whole_takes exact_xterm (var_x ∷ []) _ refl

x_plus_nothing : xterm (var_x ∷ plus ∷ lexeme Number (codes "0") ∷ []) (terms.Shift (pos 0))
x_plus_nothing = whole_takes exact_xterm (var_x ∷ plus ∷ lexeme Number (codes "0") ∷ []) _ refl

x_minus_nothing : xterm (var_x ∷ minus ∷ lexeme Number (codes "0") ∷ []) (terms.Shift (pos 0))
x_minus_nothing = whole_takes exact_xterm (var_x ∷ minus ∷ lexeme Number (codes "0") ∷ []) _ refl

-- ---- `?y-2`, and leading zeros in `?x+012` and `007`

y_minus_two : yterm (var_y ∷ minus ∷ lexeme Number (codes "2") ∷ []) (terms.Shift (negsuc 1))
y_minus_two = whole_takes exact_yterm (var_y ∷ minus ∷ lexeme Number (codes "2") ∷ []) _ refl

x_plus_twelve : xterm (var_x ∷ plus ∷ lexeme Number (codes "012") ∷ []) (terms.Shift (pos 12))
x_plus_twelve = whole_takes exact_xterm (var_x ∷ plus ∷ lexeme Number (codes "012") ∷ []) _ refl

seven : xterm (lexeme Number (codes "007") ∷ []) (terms.Number 7)
seven = whole_takes exact_xterm (lexeme Number (codes "007") ∷ []) _ refl

-- ---- `xmin` and `ymax`

x_least : xterm (lexeme Name (codes "xmin") ∷ []) terms.Least
x_least = whole_takes exact_xterm (lexeme Name (codes "xmin") ∷ []) _ refl

y_greatest : yterm (lexeme Name (codes "ymax") ∷ []) terms.Greatest
y_greatest = whole_takes exact_yterm (lexeme Name (codes "ymax") ∷ []) _ refl

-- ---- `black(?x+1,3)`

abbrev black_beside : List Lexeme
black_beside = lexeme Name (codes "black") ∷ left ∷ var_x ∷ plus ∷ lexeme Number (codes "1") ∷ comma ∷ lexeme Number (codes "3") ∷ right ∷ []

black_beside_is : atom black_beside (record { mark = marks.Black; x = terms.Shift (pos 1); y = terms.Number 3 })
black_beside_is = whole_takes exact_atom black_beside _ refl

-- ---- `NOT(black(?x+1,3))`

abbrev not_beside : List Lexeme
not_beside = lexeme Name (codes "NOT") ∷ left ∷ (black_beside ++ right ∷ [])

not_beside_is : test not_beside (record { atom = record { mark = marks.Black; x = terms.Shift (pos 1); y = terms.Number 3 }; negated = true })
not_beside_is = whole_takes exact_test not_beside _ refl

-- ---- `:action pass :parameters (?x,?y) :precondition () :effect ()`

abbrev passing : List Lexeme
passing =
    lexeme Colon (codes ":action") ∷ lexeme Name (codes "pass") ∷ lexeme Colon (codes ":parameters") ∷ left ∷ var_x ∷ comma ∷ var_y ∷ right
    ∷ lexeme Colon (codes ":precondition") ∷ left ∷ right ∷ lexeme Colon (codes ":effect") ∷ left ∷ right ∷ []

passing_is : action passing (record { name = codes "pass"; before = []; effects = [] })
unfolding many_at
passing_is = whole_takes exact_action passing _ refl

-- ---- `#boardsize 2 1 #init () #depth 4 #first white #blackgoals #whitegoals`

abbrev white_begins : List Lexeme
white_begins =
    lexeme Hash (codes "#boardsize") ∷ lexeme Number (codes "2") ∷ lexeme Number (codes "1") ∷ lexeme Hash (codes "#init") ∷ left ∷ right
    ∷ lexeme Hash (codes "#depth") ∷ lexeme Number (codes "4") ∷ lexeme Hash (codes "#first") ∷ lexeme Name (codes "white")
    ∷ lexeme Hash (codes "#blackgoals") ∷ lexeme Hash (codes "#whitegoals") ∷ []

white_begins_is : problem white_begins (record { width = 2; height = 1; init = []; depth = 4; first = White; black = []; white = [] })
unfolding many_at
white_begins_is = whole_takes exact_problem white_begins _ refl

-- ---- a domain without actions, with a comment, as bytes

abbrev no_actions : List Lexeme
no_actions = lexeme Hash (codes "#blackactions") ∷ lexeme Hash (codes "#whiteactions") ∷ []

no_actions_tokens : Tokens (codes "#blackactions #whiteactions ;none") no_actions
no_actions_tokens =
    (codes " ;none", (([], codes " #whiteactions ;none", refl, refl, refl, (codes " ", codes " ;none", refl, refl, refl, refl))), refl)

no_actions_read : Reads domain (codes "#blackactions #whiteactions ;none") (record { black = []; white = [] })
unfolding many_at
no_actions_read = (no_actions, no_actions_tokens, whole_takes exact_domain no_actions _ refl)

-- ---- the empty text ends early, at its first place

nothing_ends_early : ReadFails domain [] (fault.EndsEarly (record { line = 1; column = 1 }))
nothing_ends_early =
    let stuck = whole_stuck exact_domain [] 0 refl in
    ([], ([], refl, refl), stuck.before, stuck.none, refl)

-- ---- no domain goes on with the `)` of `#blackactions )`

abbrev closed_early : List Token
closed_early = record { kind = Hash; start = 0; end = 13 } ∷ record { kind = Right; start = 14; end = 15 } ∷ []

closed_early_tokens : AreTokens (codes "#blackactions )") closed_early
closed_early_tokens = (
  (omega arith, refl, omega arith, omega arith, refl, (omega arith, refl, omega arith, omega arith, refl, tt)),
  ([], ([], codes " )", refl, refl, refl, (codes " ", [], refl, refl, refl, refl)), refl),
)

closed_early_fails : ReadFails domain (codes "#blackactions )") (fault.Unexpected 1 (record { line = 1; column = 15 }))
unfolding many_at
closed_early_fails =
    let stuck = whole_stuck exact_domain (lexemes (codes "#blackactions )") closed_early) 1 refl in
    (closed_early, record { kind = Right; start = 14; end = 15 }, closed_early_tokens, refl, refl, stuck.before, stuck.next (omega arith))
