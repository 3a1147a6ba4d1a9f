-- A summary is its lines.
use Rattle.std.proofs.Common.{ℕ, ◌≡◌, List, ◌++◌, codes, ap, ◌∙◌, append_assoc}
use Rattle.std.specs.Fmt.{decimal}
use Rattle.bddl_model.specs.Setup.{Setup}
use Rattle.bddl_model.specs.Size.{gate_limit, inputs_of}
use Rattle.bddl_model.specs.Verdicts.{trial_text}
use Rattle.bddl_requests.specs.Summaries.{form_lines, large_line, lines, small_line}

joined : (w h d i l depth v : List ℕ)
    → (codes "large " ++ (w ++ (codes " " ++ (h ++ (codes " " ++ d))))) ++ (codes "\n" ++ ((codes "inputs " ++ (i ++ (codes "\nlimit " ++ (l ++ codes "\ngates within limit")))) ++ (codes "\n" ++ (codes "small " ++ (depth ++ (codes " " ++ v))))))
    ≡ codes "large " ++ (w ++ (codes " " ++ (h ++ (codes " " ++ (d ++ (codes "\ninputs " ++ (i ++ (codes "\nlimit " ++ (l ++ (codes "\ngates within limit\nsmall " ++ (depth ++ (codes " " ++ v))))))))))))
joined w h d i l depth v =
    let small = codes "\n" ++ (codes "small " ++ (depth ++ (codes " " ++ v))) in
    let form = codes "\nlimit " ++ (l ++ codes "\ngates within limit") in
    let rest = codes "\n" ++ ((codes "inputs " ++ (i ++ form)) ++ small) in
    ap (λ t. codes "large " ++ t) (append_assoc w (codes " " ++ (h ++ (codes " " ++ d))) rest)
    ∙ ap (λ t. codes "large " ++ (w ++ (codes " " ++ t))) (append_assoc h (codes " " ++ d) rest)
    ∙ ap (λ t. codes "large " ++ (w ++ (codes " " ++ (h ++ (codes " " ++ (d ++ (codes "\ninputs " ++ t))))))) (append_assoc i form small)
    ∙ ap (λ t. codes "large " ++ (w ++ (codes " " ++ (h ++ (codes " " ++ (d ++ (codes "\ninputs " ++ (i ++ (codes "\nlimit " ++ t))))))))) (append_assoc l (codes "\ngates within limit") small)

pub parts_are_summary : (big small : Setup) (verdict : List ℕ) (inputs limit : ℕ) → inputs ≡ inputs_of big → limit ≡ gate_limit big → (first second third : List ℕ)
    → first ≡ large_line big → second ≡ form_lines inputs limit → third ≡ small_line small verdict → lines first second third ≡ trial_text big small verdict
parts_are_summary big small verdict inputs limit i l first second third a b c =
    rw (a, b, c, i, l) (joined (decimal big.game.width) (decimal big.game.height) (decimal big.depth) (decimal (inputs_of big)) (decimal (gate_limit big)) (decimal small.depth) verdict)
