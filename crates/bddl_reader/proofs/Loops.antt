-- Items that a loop reads one after the other.
use Rattle.std.proofs.Common.{◌≡◌, ℕ, zero, suc, ◌<◌, Bool, true, false, List, [], ◌∷◌, ◌++◌, length, Option, Result, Ok, Err, refl, sym, ap, ◌∙◌, append_assoc, arith, Bor}
use Rattle.std.specs.Prelude.{IfOk}
use Rattle.std.proofs.lemmas.List.{append-nil, length-append, length-map}
use Rattle.bddl_model.specs.declared.tokens.Token.{Token}
use Rattle.bddl_model.specs.Tokens.{Lexeme, lexemes, lexeme_of}
use Rattle.bddl_model.specs.GrammarWords.{one, follow}
use Rattle.bddl_reader.specs.declared.stop.Stop.{Stop}
use Rattle.bddl_reader.specs.declared.stop.Stop.TheVariants.{NoMemory, Stuck}
use Rattle.bddl_reader.specs.ListReaders.{Reader, and_then, many_at, all_at}
use Rattle.bddl_reader.specs.Gives.{Gives, Stops}
use Rattle.bddl_reader.proofs.Exact.{Text, Exact, Anything}
use Rattle.bddl_reader.proofs.ExactMany.{item_has_token, many_step, many_end, listed_repeats}

shorter : {A B : Type 0} (start : Lexeme → Option B) (Q : B → Text Lexeme A) (item : Reader Lexeme A) → Exact (follow (one start) Q) Anything item
    → (bytes : List ℕ) (ts rest : List Token) (x : A) → item (lexemes bytes ts) ≡ Ok (x, lexemes bytes rest) → length rest < length ts
shorter start Q item given bytes ts rest x took =
    let a = given.takes (lexemes bytes ts) x (lexemes bytes rest) took in
    let token = item_has_token (listed_repeats start Q item given) a.front x a.spells in
    omega (arith, ap length a.splits, length-append a.front (lexemes bytes rest), token, length-map ts (lexeme_of bytes), length-map rest (lexeme_of bytes))

-- fewer tokens are left behind an item
pub leaves_fewer : {A B : Type 0} (start : Lexeme → Option B) (Q : B → Text Lexeme A) (item : Reader Lexeme A) → Exact (follow (one start) Q) Anything item
    → (bytes : List ℕ) (ts : List Token) (r : Result (A × Bor (List Token)) Stop) → Gives (λ x. (x.0, lexemes bytes x.1.now)) r (item (lexemes bytes ts)) → IfOk r (λ x. length x.1.now < length ts)
leaves_fewer start Q item given bytes ts (Ok x) gives = shorter start Q item given bytes ts x.1.now x.0 gives
leaves_fewer start Q item given bytes ts (Err stop) gives = tt

-- what is still read, behind what was read before
pub behind : {W A : Type 0} → List A → Result (List A × List W) ℕ → Result (List A × List W) ℕ
behind front still = and_then still (λ x. Ok (front ++ x.0, x.1))

behind_nothing : {W A : Type 0} (still : Result (List A × List W) ℕ) → behind [] still ≡ still
unfolding behind
behind_nothing (Ok rs) = refl
behind_nothing (Err left) = refl

regroup : {W A : Type 0} (front : List A) (x : A) (still : Result (List A × List W) ℕ) → behind front (and_then still (λ rs. Ok (x ∷ rs.0, rs.1))) ≡ behind (front ++ x ∷ []) still
unfolding behind
regroup {A = A} front x (Ok rs) = ap (λ (xs : List A). Ok (xs, rs.1)) (simp append_assoc)
regroup front x (Err left) = refl

-- the items that were read and those that are left are all of them, and there is a turn for each token that is left
pub record StillReads {W A : Type 0} (stops : List W → Bool) (item : Reader W A) (front : List A) (ts : List W) (total : Result (List A × List W) ℕ) : Type 0 where
  pub turns : ℕ
  pub enough : length ts < turns
  pub left : behind front (many_at stops item turns ts) ≡ total

pub begins : {W A : Type 0} (stops : List W → Bool) (item : Reader W A) (ts : List W) → StillReads stops item [] ts (all_at stops item ts)
begins stops item ts = record {
  turns = suc (length ts);
  enough = omega arith;
  left = behind_nothing (all_at stops item ts);
}

goes_on_from : {W A : Type 0} (stops : List W → Bool) (item : Reader W A) (turns : ℕ) (front : List A) (ts : List W) (x : A) (rest : List W) (total : Result (List A × List W) ℕ)
    → stops ts ≡ false → item ts ≡ Ok (x, rest) → length rest < length ts → length ts < turns → behind front (many_at stops item turns ts) ≡ total → StillReads stops item (front ++ x ∷ []) rest total
goes_on_from stops item zero front ts x rest total going took fewer enough left = absurd (omega arith)
goes_on_from stops item (suc turns) front ts x rest total going took fewer enough left =
    let one_step : many_at stops item (suc turns) ts ≡ and_then (many_at stops item turns rest) (λ rs. Ok (x ∷ rs.0, rs.1)) = many_step stops item turns ts going ∙ rw took refl in
    record { turns = turns; enough = omega arith; left = sym (ap (behind front) one_step ∙ regroup front x (many_at stops item turns rest)) ∙ left }

pub goes_on : {A : Type 0} {stops : List Lexeme → Bool} {item : Reader Lexeme A} {front : List A} {total : Result (List A × List Lexeme) ℕ} (bytes : List ℕ) (ts rest : List Token) → StillReads stops item front (lexemes bytes ts) total
    → (x : A) → stops (lexemes bytes ts) ≡ false → item (lexemes bytes ts) ≡ Ok (x, lexemes bytes rest) → length rest < length ts → StillReads stops item (front ++ x ∷ []) (lexemes bytes rest) total
goes_on {stops = stops} {item = item} {front = front} {total = total} bytes ts rest still x going took fewer =
    goes_on_from stops item still.turns front (lexemes bytes ts) x (lexemes bytes rest) total going took (omega (arith, length-map ts (lexeme_of bytes), length-map rest (lexeme_of bytes))) still.enough still.left

fails_at : {W A : Type 0} (stops : List W → Bool) (item : Reader W A) (turns left : ℕ) (front : List A) (ts : List W) → stops ts ≡ false → item ts ≡ Err left → length ts < turns
    → behind front (many_at stops item turns ts) ≡ Err left
unfolding behind
fails_at stops item zero left front ts going stopped enough = absurd (omega arith)
fails_at stops item (suc turns) left front ts going stopped enough =
    let one_step : many_at stops item (suc turns) ts ≡ Err left = many_step stops item turns ts going ∙ rw stopped refl in
    ap (behind front) one_step

pub fails : {W A : Type 0} {stops : List W → Bool} {item : Reader W A} {front : List A} {ts : List W} {total : Result (List A × List W) ℕ} → StillReads stops item front ts total
    → (stop : Stop) → stops ts ≡ false → Stops stop (item ts) → Stops stop total
fails still NoMemory going stopped = tt
fails {stops = stops} {item = item} {front = front} {ts = ts} still (Stuck left) going stopped =
    sym still.left ∙ fails_at stops item still.turns left front ts going stopped still.enough

is_done_at : {W A : Type 0} (stops : List W → Bool) (item : Reader W A) (turns : ℕ) (front : List A) (ts : List W) → stops ts ≡ true → length ts < turns
    → behind front (many_at stops item turns ts) ≡ Ok (front, ts)
unfolding behind
is_done_at stops item zero front ts ended enough = absurd (omega arith)
is_done_at {W} {A} stops item (suc turns) front ts ended enough =
    ap (behind front) (many_end stops item turns ts ended) ∙ ap (λ (xs : List A). Ok (xs, ts)) (append-nil front)

pub is_done : {W A : Type 0} {stops : List W → Bool} {item : Reader W A} {front : List A} {ts : List W} {total : Result (List A × List W) ℕ} → StillReads stops item front ts total
    → stops ts ≡ true → total ≡ Ok (front, ts)
is_done {stops = stops} {item = item} {front = front} {ts = ts} still ended =
    sym still.left ∙ is_done_at stops item still.turns front ts ended still.enough
