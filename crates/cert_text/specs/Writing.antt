-- Words of lines as they are written, each with a space before it.
use Rattle.std.specs.Prelude.{ℕ, List, ◌∷◌, flat_map}
use Rattle.bddl_model.specs.declared.certificate.Answered.{Answered}
use Rattle.bddl_model.specs.CertificateText.{numbered, answer_words}

abbrev pub spaced : List (List ℕ) → List ℕ
spaced words = flat_map (λ word. 32 ∷ word) words

abbrev pub spaced_answer : Answered → List ℕ
spaced_answer a = spaced (answer_words numbered a)
