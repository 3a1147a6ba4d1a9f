-- One word after the other.
use Rattle.std.proofs.Common.{ℕ, zero, suc, ◌≡◌, ◌+◌, refl, ap, ◌∙◌, arith}
use Rattle.rand_core.specs.Pcg32Seed.{pcg32_seed}
use Rattle.rand_core.specs.Steps.{stream_of}
use Rattle.rand_core.specs.Stream.{next_u32}
use Rattle.rand_pcg.specs.Lcg.{Lcg, next, next_state, state_after}
use Rattle.rand_pcg.specs.Pcg.{multiplier_64, output_xsh_rr, pcg32_of_seed}
use Rattle.bddl_make.specs.Draws.{words_from}
use Rattle.bddl_model.specs.Trial.{drawn}

pub first_drawn : (number : ℕ) → pcg32_of_seed (pcg32_seed 16 number) ≡ drawn number 0
unfolding state_after
first_drawn number = refl

one_more : (increment k state : ℕ) → next_state 64 multiplier_64 increment (state_after 64 multiplier_64 increment k state) ≡ state_after 64 multiplier_64 increment (suc k) state
unfolding state_after
one_more increment zero state = refl
one_more increment (suc k) state = one_more increment k (next_state 64 multiplier_64 increment state)

next_drawn : (number k : ℕ) → next 64 multiplier_64 (drawn number k) ≡ drawn number (k + 1)
next_drawn number k =
    let e : suc k ≡ k + 1 = omega arith in
    ap (λ s. record (drawn number k) { state = s }) (one_more (drawn number k).increment k (pcg32_of_seed (pcg32_seed 16 number)).state) ∙ ap (λ j. drawn number j) e

-- the next word, and the words behind it
pub word_drawn : (number k word : ℕ) (old new : Lcg) → words_from old ≡ words_from (drawn number k) → (word, words_from new) ≡ next_u32 (words_from old)
    → (word ≡ output_xsh_rr (drawn number k).state) × (words_from new ≡ words_from (drawn number (k + 1)))
unfolding stream_of next_u32
word_drawn number k word old new same e =
    let both = e ∙ ap (λ s. next_u32 s) same in
    (ap (λ p. p.0) both, ap (λ p. p.1) both ∙ ap (λ g. words_from g) (next_drawn number k))
