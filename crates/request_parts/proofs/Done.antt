-- An end of a request that is carried out is no refusal.
use Rattle.std.proofs.Common.{ℕ, false, true, ◌≡◌, List, sym, ap, ◌∙◌}
use Rattle.bddl_model.specs.Outcome.{End, refused, is_carried_out}

pub not_refused : (end : End) (status : ℕ) (note : List ℕ) → is_carried_out end.status ≡ true → is_carried_out status ≡ false → end ≡ refused status note → ⊥
not_refused end status note carried other e =
    let same : true ≡ false = sym carried ∙ ap (λ (x : End). is_carried_out x.status) e ∙ other in
    cc
