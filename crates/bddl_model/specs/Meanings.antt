-- What single tokens mean. What no text can hold as a token means nothing.
use Rattle.std.specs.Prelude.{ℕ, Bool, true, false, ◌&&◌, List, length, Option, Some, None, codes, if◌then◌else◌, ℤ, pos, neg_ℤ, bytes_eq, nat_le}
use Rattle.std.specs.List.{list_all}
use Rattle.bddl_model.specs.declared.tokens.TokenKind.{TokenKind}
use Rattle.bddl_model.specs.declared.tokens.TokenKind.TheVariants.{Left, Right, Comma, Plus, Minus, VarX, VarY, Hash, Colon, Name, Number}
use Rattle.bddl_model.specs.declared.game.Mark.{Mark}
use Rattle.bddl_model.specs.declared.game.Mark.TheVariants as marks
use Rattle.bddl_model.specs.declared.game.Side.{Side}
use Rattle.bddl_model.specs.declared.game.Side.TheVariants as sides
use Rattle.bddl_model.specs.declared.texts.TermText.{TermText}
use Rattle.bddl_model.specs.declared.texts.TermText.TheVariants as terms
use Rattle.bddl_model.specs.Bytes.{is_name_byte, digits_value}
use Rattle.bddl_model.specs.Tokens.{Lexeme, begins_with_letter}

abbrev pub same_kind : TokenKind → TokenKind → Bool
same_kind Left Left = true
same_kind Right Right = true
same_kind Comma Comma = true
same_kind Plus Plus = true
same_kind Minus Minus = true
same_kind VarX VarX = true
same_kind VarY VarY = true
same_kind Hash Hash = true
same_kind Colon Colon = true
same_kind Name Name = true
same_kind Number Number = true
same_kind _ _ = false

-- this very token
abbrev pub is : TokenKind → List ℕ → Lexeme → Option (Unit {0})
is kind text w = if same_kind w.kind kind && bytes_eq w.text text then Some tt else None

-- a letter, and name bytes, at most 32 in all
abbrev pub is_name : List ℕ → Bool
is_name text = begins_with_letter text && (list_all is_name_byte text && nat_le (length text) 32)

abbrev pub name_in : TokenKind → List ℕ → Option (List ℕ)
name_in Name text = if is_name text then Some text else None
name_in _ text = None

abbrev pub a_name : Lexeme → Option (List ℕ)
a_name w = name_in w.kind w.text

abbrev pub number_in : TokenKind → List ℕ → Option ℕ
number_in Number text = digits_value text
number_in _ text = None

abbrev pub a_number : Lexeme → Option ℕ
a_number w = number_in w.kind w.text

abbrev pub mark_named : List ℕ → Option Mark
mark_named text = if bytes_eq text (codes "open") then Some marks.Free else (if bytes_eq text (codes "black") then Some marks.Black else (if bytes_eq text (codes "white") then Some marks.White else None))

abbrev pub mark_in : TokenKind → List ℕ → Option Mark
mark_in Name text = mark_named text
mark_in _ text = None

abbrev pub a_mark : Lexeme → Option Mark
a_mark w = mark_in w.kind w.text

abbrev pub side_in : TokenKind → List ℕ → Option Side
side_in Name text = if bytes_eq text (codes "black") then Some sides.Black else (if bytes_eq text (codes "white") then Some sides.White else None)
side_in _ text = None

abbrev pub a_side : Lexeme → Option Side
a_side w = side_in w.kind w.text

-- ---- tests

-- how a test begins: with the mark of its atom, or it is negated
pub data TestStart : Type 0 where
  plain : Mark → TestStart
  negation : TestStart

abbrev pub plain_start : Option Mark → Option TestStart
plain_start None = None
plain_start (Some m) = Some (plain m)

abbrev pub test_start_in : TokenKind → List ℕ → Option TestStart
test_start_in Name text = if bytes_eq text (codes "NOT") then Some negation else plain_start (mark_named text)
test_start_in _ text = None

abbrev pub test_start : Lexeme → Option TestStart
test_start w = test_start_in w.kind w.text

-- ---- terms

pub data Sign : Type 0 where
  up : Sign
  down : Sign

abbrev pub sign_in : TokenKind → List ℕ → Option Sign
sign_in Plus text = if bytes_eq text (codes "+") then Some up else None
sign_in Minus text = if bytes_eq text (codes "-") then Some down else None
sign_in _ text = None

abbrev pub a_sign : Lexeme → Option Sign
a_sign w = sign_in w.kind w.text

-- by how much a shift moves
abbrev pub signed : Sign → ℕ → ℤ
signed up n = pos n
signed down n = neg_ℤ (pos n)

-- how a term begins: it is whole, or the variable, behind which a shift may stand
pub data Start : Type 0 where
  whole : TermText → Start
  variable : Start

abbrev pub whole_number : Option ℕ → Option Start
whole_number None = None
whole_number (Some n) = Some (whole (terms.Number n))

abbrev pub end_named : List ℕ → List ℕ → List ℕ → Option Start
end_named least greatest text = if bytes_eq text least then Some (whole terms.Least) else (if bytes_eq text greatest then Some (whole terms.Greatest) else None)

abbrev pub x_start_in : TokenKind → List ℕ → Option Start
x_start_in VarX text = if bytes_eq text (codes "?x") then Some variable else None
x_start_in Number text = whole_number (digits_value text)
x_start_in Name text = end_named (codes "xmin") (codes "xmax") text
x_start_in _ text = None

abbrev pub x_start : Lexeme → Option Start
x_start w = x_start_in w.kind w.text

abbrev pub y_start_in : TokenKind → List ℕ → Option Start
y_start_in VarY text = if bytes_eq text (codes "?y") then Some variable else None
y_start_in Number text = whole_number (digits_value text)
y_start_in Name text = end_named (codes "ymin") (codes "ymax") text
y_start_in _ text = None

abbrev pub y_start : Lexeme → Option Start
y_start w = y_start_in w.kind w.text
