-- Clauses that are cut from one list: where they stand, and with one more.
use Rattle.std.proofs.Common.{◌≡◌, ℕ, zero, suc, ◌-◌, ◌≤◌, ◌<◌, List, [], ◌∷◌, ◌++◌, length, take, drop, get_or, refl, ap, ap₂, ◌∙◌, arith, length-append, length-drop}
use Rattle.std.proofs.lemmas.List.{take_all, take-append-le, drop-append-le}
use Rattle.std.proofs.Math.Seq.{drop-append_seam}
use Rattle.bddl_model.specs.declared.formula.Lit.{Lit}
use Rattle.qbf_form.specs.Stored.{cut, start_from, EndsAt}

pub length_cut : (start : ℕ) (ends : List ℕ) (ls : List Lit) → length (cut start ends ls) ≡ length ends
length_cut start [] ls = refl
length_cut start (e ∷ ends) ls = ap suc (length_cut e ends ls)

-- ---- one clause

pub starts_at_end : (start : ℕ) (ends : List ℕ) (n : ℕ) → n < length ends → get_or ends n 0 ≡ start_from start ends (suc n)
starts_at_end start [] n h = absurd (omega arith)
starts_at_end start (e ∷ ends) zero h = refl
starts_at_end start (e ∷ ends) (suc n) h = starts_at_end e ends n (omega arith)

ends_behind : (last start : ℕ) (ends : List ℕ) → EndsAt last start ends → start ≤ last
ends_behind last start [] h = omega arith
ends_behind last start (e ∷ ends) h = let first = h.0 in let later = ends_behind last e ends h.1 in omega arith

pub clause_within : (last start : ℕ) (ends : List ℕ) (n : ℕ) → EndsAt last start ends → n < length ends → (start_from start ends n ≤ get_or ends n 0) × (get_or ends n 0 ≤ last)
clause_within last start [] n h few = absurd (omega arith)
clause_within last start (e ∷ ends) zero h few = (h.0, ends_behind last e ends h.1)
clause_within last start (e ∷ ends) (suc n) h few = clause_within last e ends n h.1 (omega arith)

pub clause_at : (start : ℕ) (ends : List ℕ) (ls : List Lit) (n : ℕ) → n < length ends → get_or (cut start ends ls) n [] ≡ take (get_or ends n 0 - start_from start ends n) (drop (start_from start ends n) ls)
clause_at start [] ls n h = absurd (omega arith)
clause_at start (e ∷ ends) ls zero h = refl
clause_at start (e ∷ ends) ls (suc n) h = clause_at e ends ls n (omega arith)

-- ---- one more clause

pub ends_more : (last next start : ℕ) (ends : List ℕ) → EndsAt last start ends → last ≤ next → EndsAt next start (ends ++ next ∷ [])
ends_more last next start [] h more = (let same = h in omega arith, refl)
ends_more last next start (e ∷ ends) h more = (h.0, ends_more last next e ends h.1 more)

part_kept : (start end : ℕ) (ls c : List Lit) → start ≤ end → end ≤ length ls → take (end - start) (drop start (ls ++ c)) ≡ take (end - start) (drop start ls)
part_kept start end ls c order within =
    ap (λ l. take (end - start) l) (drop-append-le start ls c (omega arith))
    ∙ take-append-le (end - start) (drop start ls) c (let rest = length-drop start ls in omega arith)

pub cut_more : (start : ℕ) (ends : List ℕ) (ls c : List Lit) → EndsAt (length ls) start ends → cut start (ends ++ length (ls ++ c) ∷ []) (ls ++ c) ≡ cut start ends ls ++ c ∷ []
cut_more start [] ls c h =
    let all = length-append ls c in
    ap (λ l. l ∷ []) (ap (λ l. take (length (ls ++ c) - start) l) (ap (λ n. drop n (ls ++ c)) h ∙ drop-append_seam ls c) ∙ take_all (length (ls ++ c) - start) c (let same = h in omega arith))
cut_more start (e ∷ ends) ls c h =
    ap₂ (λ d ds. d ∷ ds) (part_kept start e ls c h.0 (ends_behind (length ls) e ends h.1)) (cut_more e ends ls c h.1)

-- a clause added, as the code adds it
pub ends_kept : (ends new_ends : List ℕ) (ls new_ls c : List Lit) → EndsAt (length ls) 0 ends → new_ls ≡ ls ++ c → new_ends ≡ ends ++ length new_ls ∷ [] → EndsAt (length new_ls) 0 new_ends
ends_kept ends new_ends ls new_ls c keeps more end = rw (end, more) (ends_more (length ls) (length (ls ++ c)) 0 ends keeps (let all = length-append ls c in omega arith))

pub cut_kept : (ends new_ends : List ℕ) (ls new_ls c : List Lit) → EndsAt (length ls) 0 ends → new_ls ≡ ls ++ c → new_ends ≡ ends ++ length new_ls ∷ [] → cut 0 new_ends new_ls ≡ cut 0 ends ls ++ c ∷ []
cut_kept ends new_ends ls new_ls c keeps more end = rw (end, more) (cut_more 0 ends ls c keeps)
