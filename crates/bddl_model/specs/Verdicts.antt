-- What is told of a game or a formula that was decided, or whose steps were spent.
use Rattle.std.specs.Prelude.{ℕ, ◌≡◌, Bool, true, false, not, length, List, [], ◌∷◌, ◌++◌, codes}
use Rattle.std.specs.Fmt.{decimal}
use Rattle.bddl_model.specs.declared.formula.Bound.{Bound}
use Rattle.bddl_model.specs.declared.formula.Quant.{Quant}
use Rattle.bddl_model.specs.declared.formula.Verdict.{Verdict}
use Rattle.bddl_model.specs.declared.formula.Verdict.TheVariants.{True, False, Spent}
use Rattle.bddl_model.specs.Setup.{Setup}
use Rattle.bddl_model.specs.Size.{gate_limit, inputs_of}
use Rattle.bddl_model.specs.Truth.{Formula, form_value, clauses_true, no_values}
use Rattle.bddl_model.specs.Fine.{first_block, value_under}

-- ---- of a game

abbrev pub win_text : List ℕ
win_text = codes "win\n"

abbrev pub no_win_text : List ℕ
no_win_text = codes "no win\n"

abbrev pub spent_text : List ℕ
spent_text = codes "spent\n"

abbrev pub accepted_text : List ℕ
accepted_text = codes "accepted\n"

-- ---- of two trial games

-- the size and the depth of the large one, its inputs, and the limit of its gates; the depth of the small one, and what was decided
abbrev pub trial_text : Setup → Setup → List ℕ → List ℕ
trial_text large small decided =
    codes "large " ++ (decimal large.game.width ++ (codes " " ++ (decimal large.game.height ++ (codes " " ++ (decimal large.depth
    ++ (codes "\ninputs " ++ (decimal (inputs_of large)
    ++ (codes "\nlimit " ++ (decimal (gate_limit large)
    ++ (codes "\ngates within limit\nsmall " ++ (decimal small.depth ++ (codes " " ++ decided))))))))))))

-- ---- of a formula

-- the form has this value; each variable of its first block has a value, if the block is of this quantifier; and under these values the rest has the form's
pub record IsValue (f : Formula) (q : Quant) (b : Bool) (first : List Bool) : Type 0 where
  pub form : form_value f ≡ b
  pub block : length first ≡ first_block q f.prefix
  pub rest : value_under f.prefix (clauses_true f.clauses) first no_values ≡ b

abbrev pub result_word : Verdict → List ℕ
result_word True = codes "1"
result_word False = codes "0"
result_word Spent = codes "-1"

-- the result, and the two numbers of the file's problem line
abbrev pub result_line : Verdict → ℕ → ℕ → List ℕ
result_line verdict variables clauses = codes "s cnf " ++ (result_word verdict ++ (codes " " ++ (decimal variables ++ (codes " " ++ (decimal clauses ++ codes "\n")))))

abbrev pub minus_if : Bool → List ℕ
minus_if true = codes "-"
minus_if false = []

-- a variable, with a minus where it is false
abbrev pub value_line : ℕ → Bool → List ℕ
value_line v value = codes "V " ++ (minus_if (not value) ++ (decimal v ++ codes " 0\n"))

-- a line for each of the first variables of a prefix that has a value here
abbrev pub value_lines : List Bound → List Bool → List ℕ
value_lines [] values = []
value_lines (b ∷ bs) [] = []
value_lines (b ∷ bs) (v ∷ values) = value_line b.var.0 v ++ value_lines bs values

abbrev pub answer_text : Verdict → ℕ → ℕ → List Bound → List Bool → List ℕ
answer_text verdict variables clauses prefix values = result_line verdict variables clauses ++ value_lines prefix values
