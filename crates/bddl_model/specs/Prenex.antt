-- Blocks that bind the variables from 1 on, and the same with neighbours of one quantifier as one.
use Rattle.std.specs.Prelude.{ℕ, ◌≡◌, ◌+◌, ◌==◌, List, [], ◌∷◌, ◌++◌, if◌then◌else◌}
use Rattle.std.specs.List.{range_with_len}
use Rattle.bddl_model.specs.declared.formula.Quant.TheVariants.{Exists}
use Rattle.bddl_model.specs.declared.formula.Block.{Block}
use Rattle.bddl_model.specs.Forms.{prefix_variables}
use Rattle.bddl_model.specs.FormulaText.{QuantSet, same_quant}
use Rattle.bddl_model.specs.Layout.{span, block, prefix_of}

-- they bind the variables from 1 to n, in order
abbrev pub Cover : List Block → ℕ → Type 0
Cover bs n = prefix_variables (prefix_of bs) ≡ range_with_len 1 n

-- ---- neighbours

-- a block joins the one before which it stands, if that has its quantifier
abbrev pub onto_blocks : Block → List Block → List Block
onto_blocks b [] = b ∷ []
onto_blocks b (c ∷ cs) =
    if same_quant b.quant c.quant then block b.quant (span b.span.from (b.span.len + c.span.len)) ∷ cs
    else b ∷ c ∷ cs

-- without empty blocks, and with neighbours of one quantifier as one
abbrev pub merged : List Block → List Block
merged [] = []
merged (b ∷ bs) = if b.span.len == 0 then merged bs else onto_blocks b (merged bs)

-- a block as a quantifier set
abbrev pub set_of : Block → QuantSet
set_of b = record { quant = b.quant; vars = range_with_len b.span.from b.span.len }

-- ---- the prefix of a circuit

-- behind the inputs so many variables, which are existential
abbrev pub with_gates : List Block → ℕ → ℕ → List Block
with_gates bs inputs gates = bs ++ block Exists (span (inputs + 1) gates) ∷ []
