-- Lines as they are written, part by part.
use Rattle.std.proofs.Common.{◌≡◌, ℕ, ◌+◌, ◌<◌, List, [], ◌∷◌, ◌++◌, length, drop, refl, sym, ap, ◌∙◌, append_assoc}
use Rattle.std.specs.Prelude.{flat_map, codes}
use Rattle.std.specs.Fmt.{decimal, digits}
use Rattle.std.specs.List.{slice_index_or}
use Rattle.std.proofs.lemmas.Grind.{flat_map-append}
use Rattle.std.proofs.lemmas.List.{drop_more}
use Rattle.bddl_model.specs.declared.certificate.Answered.{Answered}
use Rattle.bddl_model.specs.declared.certificate.Node.{Node}
use Rattle.bddl_model.specs.declared.certificate.Node.TheVariants.{Black, White}
use Rattle.bddl_model.specs.FormulaText.{joined, line_text}
use Rattle.bddl_model.specs.CertificateText.{numbered, answer_words, header_text, node_text, nodes_text, cert_text, ctext}
use Rattle.cert_text.specs.Writing.{spaced, spaced_answer}

line_is : (w : List ℕ) (ws : List (List ℕ)) → line_text (w ∷ ws) ≡ w ++ (spaced ws ++ 10 ∷ [])
line_is w [] = refl
line_is w (x ∷ ws) =
    append_assoc w (32 ∷ joined (x ∷ ws)) (10 ∷ [])
    ∙ ap (λ (l : List ℕ). w ++ (32 ∷ l)) (line_is x ws ∙ sym (append_assoc x (spaced ws) (10 ∷ [])))

answers_are : (all : List Answered) → spaced (flat_map (answer_words numbered) all) ≡ flat_map spaced_answer all
answers_are [] = refl
answers_are (a ∷ all) = flat_map-append (λ (w : List ℕ). 32 ∷ w) (answer_words numbered a) (flat_map (answer_words numbered) all) ∙ ap (λ l. spaced_answer a ++ l) (answers_are all)

pub header_is : (count : ℕ) → codes "bddlcert 2 " ++ (decimal count ++ codes "\n") ≡ header_text numbered count
unfolding digits
header_is count = refl

pub black_is : (a : Answered) → node_text numbered (Black a.mv a.next) ≡ codes "b" ++ (spaced_answer a ++ codes "\n")
black_is a = line_is (codes "b") (answer_words numbered a)

-- what is left behind the first part of a line
pub ended : (text : List ℕ) → text ++ codes "\n" ≡ text ++ codes "\n"
ended text = refl

pub white_is : (replies : List Answered) → node_text numbered (White replies) ≡ (codes "w " ++ decimal (length replies)) ++ (flat_map spaced_answer replies ++ codes "\n")
white_is replies =
    line_is (codes "w") (decimal (length replies) ∷ flat_map (answer_words numbered) replies)
    ∙ ap (λ (l : List ℕ). codes "w " ++ l) (append_assoc (decimal (length replies)) (spaced (flat_map (answer_words numbered) replies)) (10 ∷ [])
    ∙ ap (λ l. decimal (length replies) ++ (l ++ codes "\n")) (answers_are replies))

pub cert_is : (nodes : List Node) → ctext nodes ≡ header_text numbered (length nodes) ++ nodes_text numbered nodes
unfolding cert_text
cert_is nodes = refl
