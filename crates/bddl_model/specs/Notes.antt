-- The lines that tell why a request was not carried out.
use Rattle.std.specs.Prelude.{ℕ, List, [], ◌++◌, codes}
use Rattle.std.specs.Fmt.{decimal, signed_decimal}
use Rattle.bddl_model.specs.declared.texts.Place.{Place}
use Rattle.bddl_model.specs.declared.tokens.LexFault.{LexFault}
use Rattle.bddl_model.specs.declared.tokens.LexFault.TheVariants as lex
use Rattle.bddl_model.specs.declared.fault.ReadFault.{ReadFault}
use Rattle.bddl_model.specs.declared.fault.ReadFault.TheVariants as fault
use Rattle.bddl_model.specs.declared.fault.QFault.{QFault}
use Rattle.bddl_model.specs.declared.fault.QFault.TheVariants as formula
use Rattle.bddl_model.specs.declared.certificate.CertReadFault.{CertReadFault}
use Rattle.bddl_model.specs.declared.certificate.CertReadFault.TheVariants as cert_text
use Rattle.bddl_model.specs.declared.certificate.CertFault.{CertFault}
use Rattle.bddl_model.specs.declared.certificate.CertFault.TheVariants as cert
use Rattle.bddl_model.specs.declared.game.Side.{Side}
use Rattle.bddl_model.specs.declared.game.Side.TheVariants.{Black, White}
use Rattle.bddl_model.specs.declared.check.Item.{Item}
use Rattle.bddl_model.specs.declared.check.Item.TheVariants as item
use Rattle.bddl_model.specs.declared.check.Axis.{Axis}
use Rattle.bddl_model.specs.declared.check.Axis.TheVariants.{Width, Height}
use Rattle.bddl_model.specs.declared.check.Part.{Part}
use Rattle.bddl_model.specs.declared.check.Part.TheVariants as part
use Rattle.bddl_model.specs.declared.check.CheckFault.{CheckFault}
use Rattle.bddl_model.specs.declared.check.CheckFault.TheVariants as check
use Rattle.bddl_model.specs.Game.{greatest_side}
use Rattle.bddl_model.specs.Reading.{place_at}

abbrev pub no_such_request : List ℕ
no_such_request = codes "no such request\n"

-- words count from 1, the request's own being the first
abbrev pub read_fault : ℕ → List ℕ
read_fault word = codes "word " ++ (decimal word ++ codes ": read fault\n")

abbrev pub too_long : ℕ → ℕ → List ℕ
too_long word limit = codes "word " ++ (decimal word ++ (codes ": longer than " ++ (decimal limit ++ codes " bytes\n")))

-- ---- texts that can't be read

abbrev pub lexical_words : LexFault → List ℕ
lexical_words (lex.BadByte at) = codes "bad byte"
lexical_words (lex.NameTooLong at) = codes "name too long"
lexical_words (lex.NumberTooLong at) = codes "number too long"
lexical_words lex.NoMemory = []

abbrev pub lexical_place : List ℕ → LexFault → Place
lexical_place bytes (lex.BadByte at) = place_at bytes at
lexical_place bytes (lex.NameTooLong at) = place_at bytes at
lexical_place bytes (lex.NumberTooLong at) = place_at bytes at
lexical_place bytes lex.NoMemory = place_at bytes 0

abbrev pub fault_words : ReadFault → List ℕ
fault_words (fault.Lex f) = lexical_words f
fault_words (fault.Unexpected token place) = codes "unexpected word"
fault_words (fault.EndsEarly place) = codes "text ends early"
fault_words fault.NoMemory = []

abbrev pub fault_place : List ℕ → ReadFault → Place
fault_place bytes (fault.Lex f) = lexical_place bytes f
fault_place bytes (fault.Unexpected token place) = place
fault_place bytes (fault.EndsEarly place) = place
fault_place bytes fault.NoMemory = place_at bytes 0

-- the text's kind, its line and column, and what is wrong there
abbrev pub place_note : List ℕ → Place → List ℕ → List ℕ
place_note text place words = text ++ (codes ":" ++ (decimal place.line ++ (codes ":" ++ (decimal place.column ++ (codes ": " ++ (words ++ codes "\n"))))))

abbrev pub domain_fault : List ℕ → ReadFault → List ℕ
domain_fault bytes f = place_note (codes "domain") (fault_place bytes f) (fault_words f)

abbrev pub problem_fault : List ℕ → ReadFault → List ℕ
problem_fault bytes f = place_note (codes "problem") (fault_place bytes f) (fault_words f)

-- ---- texts that are no formula

abbrev pub line_note : ℕ → List ℕ → List ℕ
line_note line words = codes "qdimacs:" ++ (decimal line ++ (codes ": " ++ (words ++ codes "\n")))

-- the line, and what is wrong there; want of memory is no fault of a text
abbrev pub formula_note : QFault → List ℕ
formula_note (formula.NoProblemLine line) = line_note line (codes "no problem line")
formula_note (formula.BadWord line) = line_note line (codes "bad word")
formula_note (formula.OutOfRange line literal) = line_note line (codes "literal " ++ (signed_decimal literal ++ codes " is out of range"))
formula_note (formula.BoundTwice line var) = line_note line (codes "variable " ++ (decimal var ++ codes " is bound twice"))
formula_note (formula.AfterMatrix line) = line_note line (codes "quantifier after a clause")
formula_note (formula.EndsEarly line) = line_note line (codes "text ends early")
formula_note (formula.TooManyVariables line said) = line_note line (decimal said ++ codes " variables are over 16777215")
formula_note (formula.CountDiffers said found) = codes "qdimacs: count differs: said " ++ (decimal said ++ (codes ", found " ++ (decimal found ++ codes "\n")))
formula_note formula.NoMemory = []

-- ---- certificates that have a fault

abbrev pub node_note : ℕ → List ℕ → List ℕ
node_note node words = codes "certificate: node " ++ (decimal node ++ (codes ": " ++ (words ++ codes "\n")))

-- of its text; want of memory is no fault of a text
abbrev pub cert_text_note : CertReadFault → List ℕ
cert_text_note cert_text.NotHeader = codes "certificate: bad header\n"
cert_text_note (cert_text.NotALine node) = node_note node (codes "bad line")
cert_text_note (cert_text.EndsEarly node) = node_note node (codes "text ends early")
cert_text_note (cert_text.BadNext node) = node_note node (codes "next node is not later")
cert_text_note (cert_text.Unused node) = node_note node (codes "not used")
cert_text_note (cert_text.NotReached node) = node_note node (codes "not reached")
cert_text_note (cert_text.CountDiffers said found) = codes "certificate: count differs: said " ++ (decimal said ++ (codes ", found " ++ (decimal found ++ codes "\n")))
cert_text_note cert_text.NoMemory = []

-- of one of its nodes; want of memory is no fault of a certificate
abbrev pub cert_note : CertFault → List ℕ
cert_note (cert.TwoPlaces node) = node_note node (codes "two places")
cert_note (cert.WrongSide node) = node_note node (codes "wrong side")
cert_note (cert.WhiteGoalStands node) = node_note node (codes "white goal stands")
cert_note (cert.PliesSpent node) = node_note node (codes "plies spent")
cert_note (cert.IllegalMove node) = node_note node (codes "illegal move")
cert_note (cert.GoalDoesNotStand node) = node_note node (codes "goal does not stand")
cert_note (cert.Stuck node) = node_note node (codes "white is stuck")
cert_note (cert.RepliesDiffer node place) = node_note node (codes "replies differ at " ++ decimal place)
cert_note cert.NoMemory = []

-- ---- plays that end early

abbrev pub gone_note : List ℕ
gone_note = codes "opponent gone\n"

-- a reply that is none of the moves that were shown, and how many there were
abbrev pub reply_note : ℕ → ℕ → List ℕ
reply_note number count = codes "reply " ++ (decimal number ++ (codes " of " ++ (decimal count ++ codes "\n")))

-- ---- games that have a fault

abbrev pub side_name : Side → List ℕ
side_name Black = codes "black"
side_name White = codes "white"

abbrev pub axis_name : Axis → List ℕ
axis_name Width = codes "width"
axis_name Height = codes "height"

-- the item's kind and its number
abbrev pub item_text : Item → List ℕ
item_text (item.Action side n) = side_name side ++ (codes " action " ++ decimal n)
item_text (item.Init n) = codes "init atom " ++ decimal n
item_text (item.Line side n) = side_name side ++ (codes " goal " ++ decimal n)

abbrev pub limit_words : Part → List ℕ
limit_words part.Before = codes "preconditions are over 8"
limit_words part.Effects = codes "effects are over 4"
limit_words part.Line = codes "atoms are over 16"

-- what is wrong; want of memory is no fault of a game
abbrev pub check_words : CheckFault → List ℕ
check_words (check.SizeOutOfRange axis said) = axis_name axis ++ (codes " " ++ (decimal said ++ (codes " is not 1 to " ++ decimal greatest_side)))
check_words (check.DepthOutOfRange said) = codes "depth " ++ (decimal said ++ codes " is over 31")
check_words (check.TooManyActions side found) = side_name side ++ (codes " actions: " ++ (decimal found ++ codes " are over 8"))
check_words (check.TooManyAtoms i p found) = item_text i ++ (codes ": " ++ (decimal found ++ (codes " " ++ limit_words p)))
check_words (check.SameName i earlier) = item_text i ++ (codes ": same name as action " ++ decimal earlier)
check_words (check.NumberOffBoard i said) = item_text i ++ (codes ": number " ++ (decimal said ++ codes " is off the board"))
check_words (check.NeverOnBoard i) = item_text i ++ codes ": never on the board"
check_words (check.CellTwice i x y) = item_text i ++ (codes ": cell " ++ (decimal x ++ (codes " " ++ (decimal y ++ codes " is named twice"))))
check_words (check.TooManyLines side found) = side_name side ++ (codes " goals: " ++ (decimal found ++ codes " are over 256"))
check_words check.NoMemory = []

abbrev pub check_note : CheckFault → List ℕ
check_note f = codes "check: " ++ (check_words f ++ codes "\n")
