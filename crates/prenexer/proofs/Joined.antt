-- A block behind merged ones: it joins the last one, or stands behind it.
use Rattle.std.proofs.Common.{◌≡◌, ℕ, zero, suc, ◌+◌, ◌-◌, ◌<◌, ◌≤◌, true, false, List, [], ◌∷◌, ◌++◌, length, take, slice_index_or, slice_set, refl, sym, ap, ◌∙◌, arith, eq-eqb, ne_eqb}
use Rattle.bddl_model.specs.declared.formula.Quant.{Quant}
use Rattle.bddl_model.specs.declared.formula.Quant.TheVariants.{Exists, All}
use Rattle.bddl_model.specs.declared.formula.Block.{Block}
use Rattle.bddl_model.specs.FormulaText.{same_quant}
use Rattle.bddl_model.specs.Layout.{span, block}
use Rattle.bddl_model.specs.Prenex.{Cover, merged}
use Rattle.bddl_model.proofs.Covering.{counted-range}
use Rattle.prenexer.proofs.Prenexing.{behind_blocks, variables_in, covered_length, merged_length}
use Rattle.std.proofs.lemmas.List.{take_more}
use Rattle.std.proofs.lemmas.List.Sums.{sum_by_push, sum_by-take-le}
use Rattle.bddl_model.specs.contracts.formula.Quant as quant
use denote.Enum.Bare.{sameb}

-- as the code compares them
pub same_quants : (q r : Quant) → sameb quant.the_type q r ≡ same_quant q r
same_quants Exists Exists = refl
same_quants Exists All = refl
same_quants All Exists = refl
same_quants All All = refl

pub empty_behind : (b : Block) → b.span.len ≡ 0 → (cs : List Block) → behind_blocks cs b ≡ cs
empty_behind b none [] = rw (eq-eqb b.span.len 0 none) refl
empty_behind b none (c ∷ []) = rw (eq-eqb b.span.len 0 none) refl
empty_behind b none (c ∷ d ∷ cs) = ap (λ l. c ∷ l) (empty_behind b none (d ∷ cs))

module _ (b last : Block) (some : b.span.len ≡ 0 → ⊥) where
  joined_at : (i : ℕ) (cs : List Block) → length cs ≡ suc i → last ≡ slice_index_or cs i last → same_quant last.quant b.quant ≡ true
      → slice_set cs i (block last.quant (span last.span.from (last.span.len + b.span.len))) ≡ behind_blocks cs b
  joined_at i [] n e h = absurd (omega arith)
  joined_at zero (c ∷ []) n e h = rw (ne_eqb b.span.len 0 some, ap (λ (q : Quant). same_quant q b.quant) (sym (ap (λ (l : Block). l.quant) e)) ∙ h) (ap (λ (l : Block). block l.quant (span l.span.from (l.span.len + b.span.len)) ∷ []) e)
  joined_at zero (c ∷ d ∷ cs) n e h = absurd (omega arith)
  joined_at (suc i) (c ∷ []) n e h = absurd (omega arith)
  joined_at (suc i) (c ∷ d ∷ cs) n e h = ap (λ l. c ∷ l) (joined_at i (d ∷ cs) (omega arith) e h)

  apart_at : (i : ℕ) (cs : List Block) → length cs ≡ suc i → last ≡ slice_index_or cs i last → same_quant last.quant b.quant ≡ false
      → slice_set cs i last ++ b ∷ [] ≡ behind_blocks cs b
  apart_at i [] n e h = absurd (omega arith)
  apart_at zero (c ∷ []) n e h = rw (ne_eqb b.span.len 0 some, ap (λ (q : Quant). same_quant q b.quant) (sym (ap (λ (l : Block). l.quant) e)) ∙ h) (ap (λ (l : Block). l ∷ b ∷ []) e)
  apart_at zero (c ∷ d ∷ cs) n e h = absurd (omega arith)
  apart_at (suc i) (c ∷ []) n e h = absurd (omega arith)
  apart_at (suc i) (c ∷ d ∷ cs) n e h = ap (λ l. c ∷ l) (apart_at i (d ∷ cs) (omega arith) e h)

  pub joined_last : (cs : List Block) (n : ℕ) → n ≡ length cs → 0 < n → last ≡ slice_index_or cs (n - 1) last → same_quant last.quant b.quant ≡ true
      → slice_set cs (n - 1) (block last.quant (span last.span.from (last.span.len + b.span.len))) ≡ behind_blocks cs b
  joined_last cs n e low h same = joined_at (n - 1) cs (omega arith) h same

  pub apart_last : (cs : List Block) (n : ℕ) → n ≡ length cs → 0 < n → last ≡ slice_index_or cs (n - 1) last → same_quant last.quant b.quant ≡ false
      → slice_set cs (n - 1) last ++ b ∷ [] ≡ behind_blocks cs b
  apart_last cs n e low h differs = apart_at (n - 1) cs (omega arith) h differs

pub first_of_all : (b : Block) → (b.span.len ≡ 0 → ⊥) → (cs : List Block) (n : ℕ) → n ≡ length cs → (0 < n → ⊥) → cs ++ b ∷ [] ≡ behind_blocks cs b
first_of_all b some [] n e none = rw (ne_eqb b.span.len 0 some) refl
first_of_all b some (c ∷ cs) n e none = absurd (none (omega arith))

-- the merged blocks so far and the next one bind numbers in range
pub room_for_next : (bs : List Block) (n most : ℕ) → n ≤ most → Cover bs n → (i : ℕ) (next : Block) → i < length bs → (done : List Block) → done ≡ merged (take i bs)
    → variables_in done + (slice_index_or bs i next).span.len ≤ most
room_for_next bs n most few covers i next lt done e =
    let b = slice_index_or bs i next in
    let so_far : variables_in done ≡ variables_in (take i bs) = ap variables_in e ∙ merged_length (take i bs) in
    let more : variables_in (take (i + 1) bs) ≡ variables_in (take i bs) + b.span.len = ap variables_in (take_more bs i next lt) ∙ sum_by_push (λ (c : Block). c.span.len) (take i bs) b in
    let all : variables_in bs ≡ n = covered_length bs 1 n (covers ∙ sym (counted-range 1 n)) in
    omega (arith, so_far, more, all, sum_by-take-le (λ (c : Block). c.span.len) bs (i + 1))
