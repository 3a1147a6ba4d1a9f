-- Reading answers one after the other, as a loop does.
use Rattle.std.proofs.Common.{◌≡◌, ℕ, zero, suc, ◌-◌, ◌<◌, List, [], ◌∷◌, ◌++◌, Option, None, Some, refl, sym, ap, ◌∙◌, append_assoc, append-nil, arith}
use Rattle.bddl_model.specs.declared.certificate.Answered.{Answered}
use Rattle.bddl_model.specs.CertificateText.{Version}
use Rattle.cert_text.specs.Reading.{and_then, answer_at, answers_at}

abbrev pub with_front : List Answered → Option (List Answered × List ℕ) → Option (List Answered × List ℕ)
with_front front read = and_then read (λ x. Some (front ++ x.0, x.1))

regroup : (front : List Answered) (a : Answered) (read : Option (List Answered × List ℕ)) → with_front front (and_then read (λ x. Some (a ∷ x.0, x.1))) ≡ with_front (front ++ a ∷ []) read
regroup front a None = refl
regroup front a (Some x) = ap (λ (l : List Answered). Some (l, x.1)) (sym (append_assoc front (a ∷ []) x.0))

module _ (v : Version) where
  pub step : (n : ℕ) (bytes : List ℕ) → answers_at v (suc n) bytes ≡ and_then (answer_at v bytes) (λ r. and_then (answers_at v n r.1) (λ x. Some (r.0 ∷ x.0, x.1)))
  unfolding answers_at
  step n bytes = refl

  pub none : (bytes : List ℕ) → answers_at v 0 bytes ≡ Some ([], bytes)
  unfolding answers_at
  none bytes = refl

  pub goes_on : (left : ℕ) (front : List Answered) (bytes rest : List ℕ) (a : Answered) (total : Option (List Answered × List ℕ)) → 0 < left → answer_at v bytes ≡ Some (a, rest)
      → with_front front (answers_at v left bytes) ≡ total → with_front (front ++ a ∷ []) (answers_at v (left - 1) rest) ≡ total
  goes_on zero front bytes rest a total lt e h = absurd (omega arith)
  goes_on (suc n) front bytes rest a total lt e h =
      let less : suc n - 1 ≡ n = omega arith in
      let one : answers_at v (suc n) bytes ≡ and_then (answers_at v n rest) (λ x. Some (a ∷ x.0, x.1)) = step n bytes ∙ ap (λ o. and_then o (λ r. and_then (answers_at v n r.1) (λ x. Some (r.0 ∷ x.0, x.1)))) e in
      rw less (sym (regroup front a (answers_at v n rest)) ∙ sym (ap (with_front front) one) ∙ h)

  pub stuck : (left : ℕ) (front : List Answered) (bytes : List ℕ) (total : Option (List Answered × List ℕ)) → 0 < left → answer_at v bytes ≡ None → with_front front (answers_at v left bytes) ≡ total → total ≡ None
  stuck zero front bytes total lt e h = absurd (omega arith)
  stuck (suc n) front bytes total lt e h =
      let one : answers_at v (suc n) bytes ≡ None = step n bytes ∙ ap (λ o. and_then o (λ r. and_then (answers_at v n r.1) (λ x. Some (r.0 ∷ x.0, x.1)))) e in
      sym h ∙ ap (with_front front) one

  pub is_done : (left : ℕ) (front : List Answered) (bytes : List ℕ) (total : Option (List Answered × List ℕ)) → left ≡ 0 → with_front front (answers_at v left bytes) ≡ total → total ≡ Some (front, bytes)
  is_done left front bytes total e h =
      let g : with_front front (answers_at v 0 bytes) ≡ total = rw e at h in
      sym g ∙ ap (with_front front) (none bytes) ∙ ap (λ (l : List Answered). Some (l, bytes)) (append-nil front)
