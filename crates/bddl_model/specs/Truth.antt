-- The truth of a quantified formula, by recursion on its prefix.
use Rattle.std.specs.Prelude.{ℕ, Bool, true, false, not, ◌&&◌, ◌||◌, ◌==◌, List, [], ◌∷◌, if◌then◌else◌}
use Rattle.std.specs.List.{list_any, list_all}
use Rattle.bddl_model.specs.declared.formula.Quant.{Quant}
use Rattle.bddl_model.specs.declared.formula.Quant.TheVariants.{Exists, All}
use Rattle.bddl_model.specs.declared.formula.Bound.{Bound}
use Rattle.bddl_model.specs.declared.formula.Lit.{Lit}

-- clauses under a prefix, whose outermost quantifier stands first
pub record Formula : Type 0 where
  pub prefix : List Bound
  pub clauses : List (List Lit)

-- a value for each variable, by its number
abbrev pub Assignment : Type 0
Assignment = ℕ → Bool

-- the assignment with this value of one variable
abbrev pub assign : ℕ → Bool → Assignment → Assignment
assign v b a w = if w == v then b else a w

-- what a quantifier asks of its variable's two values
abbrev pub join : Quant → Bool → Bool → Bool
join Exists x y = x || y
join All x y = x && y

-- the value of a test under these quantifiers, where the assignment tells the variables further out
abbrev pub value : List Bound → (Assignment → Bool) → Assignment → Bool
value [] matrix a = matrix a
value (b ∷ rest) matrix a = join b.quant (value rest matrix (assign b.var.0 true a)) (value rest matrix (assign b.var.0 false a))

abbrev pub literal_true : Assignment → Lit → Bool
literal_true a l = if l.negated then not (a l.var.0) else a l.var.0

-- the literal that is true where this one isn't
abbrev pub negation : Lit → Lit
negation l = record l { negated = not l.negated }

-- some literal is true
abbrev pub clause_true : Assignment → List Lit → Bool
clause_true a c = list_any (literal_true a) c

-- each clause is true
abbrev pub clauses_true : List (List Lit) → Assignment → Bool
clauses_true cs a = list_all (clause_true a) cs

-- before any quantifier; a variable that none binds counts as false
abbrev pub no_values : Assignment
no_values v = false

abbrev pub form_value : Formula → Bool
form_value f = value f.prefix (clauses_true f.clauses) no_values
