-- Lines, word by word and as they are defined.
use Rattle.std.proofs.Common.{ℕ, ◌≡◌, ◌+◌, ◌<◌, ◌≤◌, List, [], ◌∷◌, ◌++◌, length, map, drop, refl, sym, ap, ◌∙◌, append_assoc}
use Rattle.std.specs.Prelude.{flat_map, codes}
use Rattle.std.specs.Fmt.{decimal}
use Rattle.std.specs.List.{slice_index_or}
use Rattle.std.proofs.lemmas.List.{drop_all, drop_more}
use Rattle.std.proofs.lemmas.List.Folds.{flat_map-map}
use Rattle.bddl_model.specs.declared.formula.Quant.{Quant}
use Rattle.bddl_model.specs.declared.formula.Bound.{Bound}
use Rattle.bddl_model.specs.Forms.{prefix_variables}
use Rattle.bddl_model.specs.FormulaText.{joined, line_text, letter_of, head_line, set_line}

-- words, each with a space behind it
abbrev pub spaced : {A : Type 0} → (A → List ℕ) → List A → List ℕ
spaced word xs = flat_map (λ x. word x ++ codes " ") xs

-- and the 0 that ends their line
abbrev pub ended : {A : Type 0} → (A → List ℕ) → List A → List ℕ
ended word xs = spaced word xs ++ codes "0\n"

joined-last : (ws : List (List ℕ)) (last : List ℕ) → joined (ws ++ last ∷ []) ≡ spaced (λ w. w) ws ++ last
joined-last [] last = refl
joined-last (w ∷ []) last = sym (append_assoc (w ++ codes " ") [] last ∙ append_assoc w (codes " ") last)
joined-last (w ∷ v ∷ ws) last =
    ap (λ t. w ++ 32 ∷ t) (joined-last (v ∷ ws) last) ∙ sym (append_assoc w (codes " ") (spaced (λ w. w) (v ∷ ws) ++ last)) ∙ sym (append_assoc (w ++ codes " ") (spaced (λ w. w) (v ∷ ws)) last)

line_text-last : (ws : List (List ℕ)) → line_text (ws ++ codes "0" ∷ []) ≡ ended (λ w. w) ws
line_text-last ws = ap (λ t. t ++ 10 ∷ []) (joined-last ws (codes "0")) ∙ append_assoc (spaced (λ w. w) ws) (codes "0") (10 ∷ [])

pub line_is : {A : Type 0} (word : A → List ℕ) (xs : List A) → line_text (map word xs ++ codes "0" ∷ []) ≡ ended word xs
line_is word xs = line_text-last (map word xs) ∙ ap (λ t. t ++ codes "0\n") (flat_map-map (λ w. w ++ codes " ") word xs)

abbrev pub number_of : Bound → List ℕ
number_of b = decimal b.var.0

pub block_is : (q : Quant) (bs : List Bound) → line_text (set_line (record { quant = q; vars = prefix_variables bs })) ≡ (letter_of q ++ codes " ") ++ ended number_of bs
block_is q bs =
    line_text-last (letter_of q ∷ map decimal (prefix_variables bs))
    ∙ append_assoc (letter_of q ++ codes " ") (spaced (λ w. w) (map decimal (prefix_variables bs))) (codes "0\n")
    ∙ ap (λ t. (letter_of q ++ codes " ") ++ (t ++ codes "0\n")) (flat_map-map (λ w. w ++ codes " ") decimal (prefix_variables bs) ∙ flat_map-map (λ v. decimal v ++ codes " ") (λ b. b.var.0) bs)

pub head_is : (v c : ℕ) → codes "p cnf " ++ (decimal v ++ (codes " " ++ (decimal c ++ codes "\n"))) ≡ line_text (head_line v c)
head_is v c = simp append_assoc

-- ---- from one to the next

pub ended_next : {A : Type 0} (word : A → List ℕ) (xs : List A) (i : ℕ) (d : A) → i < length xs → ended word (drop i xs) ≡ (word (slice_index_or xs i d) ++ codes " ") ++ ended word (drop (i + 1) xs)
ended_next word xs i d within =
    ap (ended word) (drop_more xs i d within) ∙ append_assoc (word (slice_index_or xs i d) ++ codes " ") (spaced word (drop (i + 1) xs)) (codes "0\n")

pub ended_none : {A : Type 0} (word : A → List ℕ) (xs : List A) (i : ℕ) → length xs ≤ i → ended word (drop i xs) ≡ codes "0\n"
ended_none word xs i past = ap (ended word) (drop_all i xs past)
