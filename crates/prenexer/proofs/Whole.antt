-- The prefix of blocks and gates, from the blocks that are merged.
use Rattle.std.proofs.Common.{◌≡◌, ℕ, ◌+◌, List, map, sym, ap, subst, ◌∙◌}
use Rattle.bddl_model.specs.declared.formula.Bound.{Bound}
use Rattle.bddl_model.specs.declared.formula.Block.{Block}
use Rattle.bddl_model.specs.Forms.{prefix_variables}
use Rattle.bddl_model.specs.FormulaText.{sets_of}
use Rattle.bddl_model.specs.Layout.{prefix_of}
use Rattle.bddl_model.specs.Prenex.{Cover, merged, set_of, with_gates}
use Rattle.std.specs.List.{range_with_len}
use Rattle.prenexer.proofs.Prenexing.{covers_gates, covered_prefix, covered_sets}

module _ (bs : List Block) (inputs gates : ℕ) (covers : Cover bs inputs) (whole : List Block) (w : whole ≡ with_gates bs inputs gates) where
  pub whole_covers : Cover whole (inputs + gates)
  whole_covers = subst (λ (cs : List Block). Cover cs (inputs + gates)) (sym w) (covers_gates bs inputs gates covers)

  module _ (joined : List Block) (j : joined ≡ merged whole) where
    joined_prefix : prefix_of joined ≡ prefix_of whole
    joined_prefix = ap prefix_of j ∙ covered_prefix whole (inputs + gates) whole_covers

    pub joined_covers : Cover joined (inputs + gates)
    joined_covers = ap prefix_variables joined_prefix ∙ whole_covers

    pub in_order : (p : List Bound) → p ≡ prefix_of joined → p ≡ prefix_of (with_gates bs inputs gates)
    in_order p e = e ∙ joined_prefix ∙ ap prefix_of w

    pub all_covered : (p : List Bound) → p ≡ prefix_of joined → prefix_variables p ≡ range_with_len 1 (inputs + gates)
    all_covered p e = ap prefix_variables e ∙ joined_covers

    pub in_sets : (p : List Bound) → p ≡ prefix_of joined → sets_of p ≡ map set_of (merged (with_gates bs inputs gates))
    in_sets p e = ap sets_of (in_order p e) ∙ covered_sets (with_gates bs inputs gates) (inputs + gates) (covers_gates bs inputs gates covers)
