-- The words of a plain text are the tokens of what it says.
use Rattle.std.proofs.Common.{◌≡◌, ℕ, ◌+◌, ◌*◌, ◌-◌, ◌%◌, ◌/◌, ◌^◌, ◌<◌, ◌≤◌, Bool, true, false, nat_le, List, [], ◌∷◌, ◌++◌, length, map, Some, refl, sym, ap, if◌then◌else◌, ◌∙◌, arith, append_assoc, codes}
use Rattle.std.specs.List.{flat_map}
use Rattle.std.specs.Fmt.{decimal}
use Rattle.std.proofs.lemmas.Grind.{flat_map-append}
use Rattle.std.proofs.lemmas.Bool.{ne_eqb, le-leb, leb-true, and_from, and_parts}
use Rattle.std.proofs.lemmas.List.{append-nil, map-append}
use Rattle.std.proofs.lemmas.Fmt.{decimal_by_steps, decimal_nonempty, length-decimal-le}
use Rattle.bddl_model.specs.declared.formula.Quant.{Quant}
use Rattle.bddl_model.specs.declared.formula.Quant.TheVariants.{Exists, All}
use Rattle.bddl_model.specs.declared.formula.Lit.{Lit}
use Rattle.bddl_model.specs.Bytes.{is_white, is_digit, digits_from, digits_value}
use Rattle.bddl_model.specs.FormulaWords.{Word, words_of, problem, cnf, quantifier, number, token_of, plain, negative}
use Rattle.bddl_model.specs.Forms.{in_range, AllPass, AllInRange, literal_variables}
use Rattle.bddl_model.specs.Qdimacs.{natural, literal, set_tokens, clause_tokens, text_tokens, bound_variables, IsProper, Says}
use Rattle.bddl_model.specs.FormulaText.{FormulaText, QuantSet, letter_of, literal_text, line_text, head_line, set_line, clause_line, clause_text, greatest_variable, sets_of, written_text, qtext}
use Rattle.bddl_model.specs.Truth.{Formula}
use Rattle.bddl_model.proofs.NumberLists.{AllPass-append, ranges_parts}
use Rattle.bddl_model.proofs.PlainTexts.{NoWhite, IsWord, AllWords, NoComment, IsLine, AllLines, words_read}

abbrev pub AllDigits : List ℕ → Type 0
AllDigits ds = AllPass is_digit ds

digit_is : (d : ℕ) → d < 10 → is_digit (48 + d) ≡ true
digit_is d h = and_from (nat_le 48 (48 + d)) (nat_le (48 + d) 57) (le-leb 48 (48 + d) (omega arith)) (le-leb (48 + d) 57 (omega arith))

last_small : (n : ℕ) → n % 10 < 10
last_small n = omega arith

pub decimal_digits : (n : ℕ) → n < 2 ^ 64 → AllDigits (decimal n)
decimal_digits n h = decimal_by_steps (λ n ds. AllDigits ds) (λ n small. (digit_is n small, tt)) (λ n ds big so. AllPass-append is_digit ds ((48 + n % 10) ∷ []) so (digit_is (n % 10) (last_small n), tt)) n h

-- reading goes on behind the digits of n with n
pub decimal_value : (n : ℕ) → n < 2 ^ 64 → (rest : List ℕ) → digits_from 0 (decimal n ++ rest) ≡ digits_from n rest
decimal_value n h = decimal_by_steps (λ n ds. (rest : List ℕ) → digits_from 0 (ds ++ rest) ≡ digits_from n rest) one more n h
  where
    one : (n : ℕ) → n < 10 → (rest : List ℕ) → digits_from 0 ((48 + n) ∷ rest) ≡ digits_from n rest
    one n small rest = rw (digit_is n small) (ap (λ (m : ℕ). digits_from m rest) (omega arith))

    more : (n : ℕ) (ds : List ℕ) → 10 ≤ n → ((rest : List ℕ) → digits_from 0 (ds ++ rest) ≡ digits_from (n / 10) rest) → (rest : List ℕ) → digits_from 0 ((ds ++ (48 + n % 10) ∷ []) ++ rest) ≡ digits_from n rest
    more n ds big so rest =
        ap (digits_from 0) (append_assoc ds ((48 + n % 10) ∷ []) rest) ∙ so ((48 + n % 10) ∷ rest) ∙ rw (digit_is (n % 10) (last_small n)) (ap (λ (m : ℕ). digits_from m rest) (let q : 10 * (n / 10) + (48 + n % 10 - 48) ≡ n = omega arith in q))

pub number_is : (n : ℕ) → n < 1000000000 → digits_value (decimal n) ≡ Some n
number_is n h =
    let some = decimal_nonempty n (omega arith) in
    let few = length-decimal-le 9 n (omega arith) (omega arith) (omega arith) in
    let v : digits_from 0 (decimal n) ≡ Some n = ap (digits_from 0) (sym (append-nil (decimal n))) ∙ decimal_value n (omega arith) [] in
    rw (le-leb 1 (length (decimal n)) some, le-leb (length (decimal n)) 9 few) v

digit_range : (d : ℕ) → is_digit d ≡ true → (48 ≤ d) × (d ≤ 57)
digit_range d h = let p = and_parts (nat_le 48 d) (nat_le d 57) h in (leb-true 48 d p.0, leb-true d 57 p.1)

-- a word of digits is a number
digits_token : (ds : List ℕ) (n : ℕ) → AllDigits ds → 0 < length ds → digits_value ds ≡ Some n → token_of ds ≡ number false n
digits_token [] n all some is = absurd (omega arith)
digits_token (d ∷ ds) n all some is =
    let r = digit_range d all.0 in
    rw (ne_eqb d 112 (λ e. omega (arith, r.0, r.1)), ne_eqb d 99 (λ e. omega (arith, r.0, r.1)), ne_eqb d 97 (λ e. omega (arith, r.0, r.1)), ne_eqb d 101 (λ e. omega (arith, r.0, r.1)), ne_eqb d 45 (λ e. omega (arith, r.0, r.1))) (ap plain is)

decimal_token : (n : ℕ) → n < 1000000000 → token_of (decimal n) ≡ natural n
decimal_token n h = digits_token (decimal n) n (decimal_digits n (omega arith)) (decimal_nonempty n (omega arith)) (number_is n h)

negative_token : (n : ℕ) → 1 ≤ n → n < 1000000000 → token_of (45 ∷ decimal n) ≡ number true n
negative_token n some h = ap negative (number_is n h) ∙ rw (ne_eqb n 0 (λ e. omega arith)) refl

pub in_range_is : (most v : ℕ) → in_range most v ≡ true → (1 ≤ v) × (v ≤ most)
in_range_is most v h = let p = and_parts (nat_le 1 v) (nat_le v most) h in (leb-true 1 v p.0, leb-true v most p.1)

literal_token : (most : ℕ) (l : Lit) → most < 1000000000 → in_range most l.var.0 ≡ true → token_of (literal_text l) ≡ literal l
literal_token most l small h = let r = in_range_is most l.var.0 h in go l.negated r.0 (omega arith)
  where
    go : (b : Bool) → 1 ≤ l.var.0 → l.var.0 < 1000000000 → token_of (if b then 45 ∷ decimal l.var.0 else decimal l.var.0) ≡ number b l.var.0
    go true some lt = negative_token l.var.0 some lt
    go false some lt = decimal_token l.var.0 lt

vars_tokens : (most : ℕ) (vs : List ℕ) → most < 1000000000 → AllInRange most vs → map token_of (map decimal vs ++ codes "0" ∷ []) ≡ map natural vs ++ natural 0 ∷ []
vars_tokens most [] small h = refl
vars_tokens most (v ∷ vs) small h = let r = in_range_is most v h.0 in rw (decimal_token v (omega (arith, r.1))) (ap (λ l. natural v ∷ l) (vars_tokens most vs small h.1))

letter_token : (q : Quant) → token_of (letter_of q) ≡ quantifier q
letter_token Exists = refl
letter_token All = refl

clause_tokens_are : (most : ℕ) (ls : List Lit) → most < 1000000000 → AllInRange most (literal_variables ls) → map token_of (clause_line ls) ≡ clause_tokens ls
clause_tokens_are most [] small h = refl
clause_tokens_are most (l ∷ ls) small h = rw (literal_token most l small h.0) (ap (λ x. literal l ∷ x) (clause_tokens_are most ls small h.1))

map_flat : (ls : List (List (List ℕ))) → map token_of (flat_map (λ l. l) ls) ≡ flat_map (map token_of) ls
map_flat [] = refl
map_flat (l ∷ ls) = map-append token_of l (flat_map (λ l. l) ls) ∙ ap (λ x. map token_of l ++ x) (map_flat ls)

sets_tokens : (most : ℕ) (sets : List QuantSet) → most < 1000000000 → AllInRange most (bound_variables sets) → flat_map (map token_of) (map set_line sets) ≡ flat_map set_tokens sets
sets_tokens most [] small h = refl
sets_tokens most (s ∷ sets) small h =
    let r = ranges_parts most s.vars (bound_variables sets) h in
    rw (letter_token s.quant, vars_tokens most s.vars small r.0, sets_tokens most sets small r.1) refl

all_clauses_tokens : (most : ℕ) (cs : List (List Lit)) → most < 1000000000 → AllInRange most (flat_map literal_variables cs) → flat_map (map token_of) (map clause_line cs) ≡ flat_map clause_tokens cs
all_clauses_tokens most [] small h = refl
all_clauses_tokens most (c ∷ cs) small h =
    let r = ranges_parts most (literal_variables c) (flat_map literal_variables cs) h in
    rw (clause_tokens_are most c small r.0, all_clauses_tokens most cs small r.1) refl

-- ---- the lines are lines

digits_word : (ds : List ℕ) → AllDigits ds → NoWhite ds
digits_word [] h = tt
digits_word (d ∷ ds) h = (digit_white d h.0, digits_word ds h.1)
  where
    digit_white : (d : ℕ) → is_digit d ≡ true → is_white d ≡ false
    digit_white d h = let r = digit_range d h in rw (ne_eqb d 32 (λ e. omega (arith, r.0)), ne_eqb d 9 (λ e. omega (arith, r.0)), ne_eqb d 13 (λ e. omega (arith, r.0)), ne_eqb d 10 (λ e. omega (arith, r.0))) refl

is_word : (ds : List ℕ) → AllDigits ds → 0 < length ds → IsWord ds
is_word [] h some = absurd (omega arith)
is_word (d ∷ ds) h some = digits_word (d ∷ ds) h

decimal_word : (n : ℕ) → n < 2 ^ 64 → IsWord (decimal n)
decimal_word n h = is_word (decimal n) (decimal_digits n h) (decimal_nonempty n h)

no_comment : (ds : List ℕ) → AllDigits ds → 0 < length ds → NoComment ds
no_comment [] h some = absurd (omega arith)
no_comment (d ∷ ds) h some = let r = digit_range d h.0 in ne_eqb d 99 (λ e. omega (arith, r.1))

literal_word : (l : Lit) → l.var.0 < 2 ^ 64 → IsWord (literal_text l) × NoComment (literal_text l)
literal_word l h = go l.negated
  where
    go : (b : Bool) → IsWord (if b then 45 ∷ decimal l.var.0 else decimal l.var.0) × NoComment (if b then 45 ∷ decimal l.var.0 else decimal l.var.0)
    go true = ((refl, digits_word (decimal l.var.0) (decimal_digits l.var.0 h)), refl)
    go false = (decimal_word l.var.0 h, no_comment (decimal l.var.0) (decimal_digits l.var.0 h) (decimal_nonempty l.var.0 h))

vars_words : (most : ℕ) (vs : List ℕ) → most < 1000000000 → AllInRange most vs → AllWords (map decimal vs ++ codes "0" ∷ [])
vars_words most [] small h = ((refl, tt), tt)
vars_words most (v ∷ vs) small h = let r = in_range_is most v h.0 in (decimal_word v (omega (arith, r.1)), vars_words most vs small h.1)

clause_words : (most : ℕ) (ls : List Lit) → most < 1000000000 → AllInRange most (literal_variables ls) → AllWords (clause_line ls)
clause_words most [] small h = ((refl, tt), tt)
clause_words most (l ∷ ls) small h = let r = in_range_is most l.var.0 h.0 in ((literal_word l (omega (arith, r.1))).0, clause_words most ls small h.1)

clause_is_line : (most : ℕ) (ls : List Lit) → most < 1000000000 → AllInRange most (literal_variables ls) → IsLine (clause_line ls)
clause_is_line most [] small h = (refl, (refl, tt), tt)
clause_is_line most (l ∷ ls) small h = let r = in_range_is most l.var.0 h.0 in let w = literal_word l (omega (arith, r.1)) in (w.1, w.0, clause_words most ls small h.1)

set_is_line : (most : ℕ) (s : QuantSet) → most < 1000000000 → AllInRange most s.vars → IsLine (set_line s)
set_is_line most s small h = go s.quant
  where
    go : (q : Quant) → IsLine (letter_of q ∷ map decimal s.vars ++ codes "0" ∷ [])
    go Exists = (refl, (refl, tt), vars_words most s.vars small h)
    go All = (refl, (refl, tt), vars_words most s.vars small h)

lines_from : (xs ys : List (List (List ℕ))) → AllLines xs → AllLines ys → AllLines (xs ++ ys)
lines_from [] ys a b = b
lines_from (x ∷ xs) ys a b = (a.0, lines_from xs ys a.1 b)

sets_lines : (most : ℕ) (sets : List QuantSet) → most < 1000000000 → AllInRange most (bound_variables sets) → AllLines (map set_line sets)
sets_lines most [] small h = tt
sets_lines most (s ∷ sets) small h = let r = ranges_parts most s.vars (bound_variables sets) h in (set_is_line most s small r.0, sets_lines most sets small r.1)

clauses_lines : (most : ℕ) (cs : List (List Lit)) → most < 1000000000 → AllInRange most (flat_map literal_variables cs) → AllLines (map clause_line cs)
clauses_lines most [] small h = tt
clauses_lines most (c ∷ cs) small h = let r = ranges_parts most (literal_variables c) (flat_map literal_variables cs) h in (clause_is_line most c small r.0, clauses_lines most cs small r.1)

-- ---- the whole text

abbrev text_lines : FormulaText → List (List (List ℕ))
text_lines t = head_line t.variables t.said ∷ map set_line t.sets ++ map clause_line t.clauses

abbrev plain_text : FormulaText → List ℕ
plain_text t = flat_map line_text (text_lines t)

flat_of_lines : {A : Type 0} (line : A → List (List ℕ)) (xs : List A) → flat_map line_text (map line xs) ≡ flat_map (λ x. line_text (line x)) xs
flat_of_lines line [] = refl
flat_of_lines line (x ∷ xs) = ap (λ t. line_text (line x) ++ t) (flat_of_lines line xs)

pub qtext_is_plain : (f : Formula) → qtext f ≡ plain_text (written_text f)
qtext_is_plain f =
    append_assoc (line_text (head_line (greatest_variable f.prefix) (length f.clauses))) (flat_map (λ s. line_text (set_line s)) (sets_of f.prefix)) (flat_map clause_text f.clauses)
    ∙ ap (λ t. line_text (head_line (greatest_variable f.prefix) (length f.clauses)) ++ t) lines
  where
    lines : flat_map (λ s. line_text (set_line s)) (sets_of f.prefix) ++ flat_map clause_text f.clauses ≡ flat_map line_text (map set_line (sets_of f.prefix) ++ map clause_line f.clauses)
    lines = sym (flat_map-append line_text (map set_line (sets_of f.prefix)) (map clause_line f.clauses) ∙ rw (flat_of_lines set_line (sets_of f.prefix), flat_of_lines clause_line f.clauses) refl)

-- a proper text is read back from its plain text
pub plain_says : (t : FormulaText) → IsProper t → t.said < 1000000000 → Says (plain_text t) t
plain_says t proper few = record {
  words = map_texts (words_of (plain_text t)) ∙ ap (map token_of) (words_read (text_lines t) lines) ∙ map_flat (text_lines t) ∙ tokens;
  proper = proper;
}
  where
    small : t.variables < 1000000000
    small = let p = proper.variables in omega arith

    lines : AllLines (text_lines t)
    lines = (
      (refl, (refl, tt), ((refl, (refl, (refl, tt))), (decimal_word t.variables (omega (arith, small)), (decimal_word t.said (omega (arith, few)), tt)))),
      lines_from (map set_line t.sets) (map clause_line t.clauses) (sets_lines t.variables t.sets small proper.bound_range) (clauses_lines t.variables t.clauses small proper.literals_range),
    )

    map_texts : (ws : List Word) → map (λ (w : Word). token_of w.text) ws ≡ map token_of (map (λ (w : Word). w.text) ws)
    map_texts [] = refl
    map_texts (w ∷ ws) = ap (λ l. token_of w.text ∷ l) (map_texts ws)

    tokens : flat_map (map token_of) (text_lines t) ≡ text_tokens t
    tokens = rw (decimal_token t.variables small, decimal_token t.said few) (ap (λ l. problem ∷ cnf ∷ natural t.variables ∷ natural t.said ∷ l) (flat_map-append (map token_of) (map set_line t.sets) (map clause_line t.clauses) ∙ rw (sets_tokens t.variables t.sets small proper.bound_range, all_clauses_tokens t.variables t.clauses small proper.literals_range) refl))
