-- The sets of a prefix, block by block, and the head that they stand in.
use Rattle.std.proofs.Common.{ℕ, ◌≡◌, ◌+◌, ◌≤◌, suc, List, [], ◌∷◌, ◌++◌, length, take, drop, refl, sym, ap, ◌∙◌, arith}
use Rattle.std.specs.Prelude.{flat_map}
use Rattle.std.specs.List.{prefix_len, slice_index_or}
use Rattle.bddl_model.specs.declared.formula.Quant.{Quant}
use Rattle.bddl_model.specs.declared.formula.Quant.TheVariants.{Exists, All}
use Rattle.bddl_model.specs.declared.formula.Bound.{Bound}
use Rattle.bddl_model.specs.Forms.{prefix_variables}
use Rattle.bddl_model.specs.FormulaText.{QuantSet, line_text, head_line, set_line, same_quant, onto_sets, sets_of, greatest_variable, head_text}

abbrev pub set_of : Quant → List Bound → QuantSet
set_of q bs = record { quant = q; vars = prefix_variables bs }

abbrev run : Quant → List Bound → ℕ
run q bs = prefix_len (λ b. same_quant q b.quant) bs

-- the first variables as one set, and the sets of the others
abbrev cut : Quant → ℕ → List Bound → List QuantSet
cut q n bs = set_of q (take n bs) ∷ sets_of (drop n bs)

abbrev bound : Quant → ℕ → Bound
bound q v = record { quant = q; var = record { 0 = v } }

one_more : (n : ℕ) → suc n ≡ 1 + n
one_more n = omega arith

run_onto : (p q : Quant) (v w : ℕ) (bs : List Bound) → sets_of (bound q w ∷ bs) ≡ cut q (suc (run q bs)) (bound q w ∷ bs)
    → sets_of (bound p v ∷ bound q w ∷ bs) ≡ cut p (suc (run p (bound q w ∷ bs))) (bound p v ∷ bound q w ∷ bs)
run_onto Exists Exists v w bs e = ap (onto_sets (bound Exists v)) e ∙ ap (λ n. cut Exists (suc n) (bound Exists v ∷ bound Exists w ∷ bs)) (one_more (run Exists bs))
run_onto All All v w bs e = ap (onto_sets (bound All v)) e ∙ ap (λ n. cut All (suc n) (bound All v ∷ bound All w ∷ bs)) (one_more (run All bs))
run_onto Exists All v w bs e = ap (onto_sets (bound Exists v)) e ∙ ap (λ sets. set_of Exists (bound Exists v ∷ []) ∷ sets) (sym e)
run_onto All Exists v w bs e = ap (onto_sets (bound All v)) e ∙ ap (λ sets. set_of All (bound All v ∷ []) ∷ sets) (sym e)

sets_next : (b : Bound) (bs : List Bound) → sets_of (b ∷ bs) ≡ cut b.quant (suc (run b.quant bs)) (b ∷ bs)
sets_next b [] = refl
sets_next b (c ∷ bs) = run_onto b.quant c.quant b.var.0 c.var.0 bs (sets_next c bs)

abbrev pub blocks_text : List Bound → List ℕ
blocks_text bs = flat_map (λ s. line_text (set_line s)) (sets_of bs)

run_some : (q : Quant) (v : ℕ) (bs : List Bound) → run q (bound q v ∷ bs) ≡ 1 + run q bs
run_some Exists v bs = refl
run_some All v bs = refl

-- the line of the first block, and those of the others
pub blocks_text_next : (left front back : List Bound) (d : Bound) (n : ℕ) → 1 ≤ length left → n ≡ prefix_len (λ b. same_quant (slice_index_or left 0 d).quant b.quant) left → front ≡ take n left → back ≡ drop n left
    → blocks_text left ≡ line_text (set_line (set_of (slice_index_or left 0 d).quant front)) ++ blocks_text back
blocks_text_next [] front back d n some is in_front behind = absurd (omega arith)
blocks_text_next (b ∷ bs) front back d n some is in_front behind =
    let length_is : suc (run b.quant bs) ≡ n = one_more (run b.quant bs) ∙ sym (is ∙ run_some b.quant b.var.0 bs) in
    rw (in_front, behind) (ap (flat_map (λ s. line_text (set_line s))) (sets_next b bs ∙ ap (λ m. cut b.quant m (b ∷ bs)) length_is))

-- the problem line, and then the blocks
pub head_text_is : (prefix bounds : List Bound) (v clauses : ℕ) → bounds ≡ prefix → v ≡ greatest_variable bounds → head_text prefix clauses ≡ line_text (head_line v clauses) ++ blocks_text bounds
head_text_is prefix bounds v clauses same greatest = rw (greatest, same) refl
