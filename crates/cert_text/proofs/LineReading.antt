-- The line of a node is read back from its text, and from nothing else.
use Rattle.std.proofs.Common.{◌≡◌, ℕ, zero, suc, ◌<◌, ◌^◌, nat_eq, List, [], ◌∷◌, ◌++◌, length, map, Option, None, Some, refl, sym, ap, ◌∙◌, arith, inl, inr, append_assoc}
use Rattle.std.specs.Prelude.{All, codes, flat_map}
use Rattle.std.specs.Fmt.{decimal}
use Rattle.std.proofs.lemmas.Bool.{cases_Bool, eqb-true}
use Rattle.std.proofs.lemmas.List.Elements.{All-nil, All-cons, All-head, All-tail}
use Rattle.bddl_model.specs.declared.game.Move.{Move}
use Rattle.bddl_model.specs.declared.certificate.Answered.{Answered}
use Rattle.bddl_model.specs.declared.certificate.Node.{Node}
use Rattle.bddl_model.specs.declared.certificate.Node.TheVariants.{Goal, Black, White}
use Rattle.bddl_model.specs.FormulaText.{joined, line_text}
use Rattle.bddl_model.specs.CertificateText.{Version, ordered, numbered, answer_words, node_text, IsShort, IsShortNode}
use Rattle.bddl_model.specs.CertificateFaults.{NoLine}
use Rattle.cert_text.specs.Reading.{and_then, byte_at, spaced_at, move_at, next_at, answer_at, answers_at, goal_at, black_at, white_at, line_at}
use Rattle.cert_text.proofs.Words.{parts, same_read, in_front, steps, byte_sound}
use Rattle.cert_text.proofs.NumberReading.{EndsNumber, spaced_text, spaced_back, spaced_sound}
use Rattle.cert_text.proofs.Answering as answering

-- ---- texts in front of these bytes

abbrev move_text : Move → List ℕ → List ℕ
move_text m rest = spaced_text m.action (spaced_text m.x (spaced_text m.y rest))

abbrev next_text : Version → ℕ → List ℕ → List ℕ
next_text ordered n rest = rest
next_text numbered n rest = spaced_text n rest

abbrev answer_text : Version → Answered → List ℕ → List ℕ
answer_text v a rest = move_text a.mv (next_text v a.next.0 rest)

abbrev pub answers_text : Version → List Answered → List ℕ → List ℕ
answers_text v [] rest = rest
answers_text v (a ∷ all) rest = answer_text v a (answers_text v all rest)

abbrev pub line_front : Version → Node → List ℕ → List ℕ
line_front v Goal rest = 103 ∷ 10 ∷ rest
line_front v (Black mv next) rest = 98 ∷ answer_text v (record { mv = mv; next = next }) (10 ∷ rest)
line_front v (White replies) rest = 119 ∷ spaced_text (length replies) (answers_text v replies (10 ∷ rest))

-- ---- what is kept of a node: the number of the next one only where it is said

abbrev pub kept : Version → Answered → Answered
kept ordered a = record { mv = a.mv; next = record { 0 = 0 } }
kept numbered a = a

abbrev pub kept_node : Version → Node → Node
kept_node v Goal = Goal
kept_node v (Black mv next) = let a : Answered = kept v (record { mv = mv; next = next }) in Black a.mv a.next
kept_node v (White replies) = White (map (kept v) replies)

-- ---- read back

next_back : (v : Version) (n : ℕ) (rest : List ℕ) → n < 2 ^ 64 → EndsNumber rest → (m : ℕ) × (next_at v (next_text v n rest) ≡ Some (m, rest)) × ((mv : Move) → ◌≡◌ {A = Answered} (record { mv = mv; next = record { 0 = m } }) (kept v (record { mv = mv; next = record { 0 = n } })))
next_back ordered n rest fits e = (0, refl, λ mv. refl)
next_back numbered n rest fits e = (n, spaced_back 18446744073709551616 n rest (omega arith) (omega arith) e, λ mv. refl)

next_ends : (v : Version) (n : ℕ) (rest : List ℕ) → EndsNumber rest → EndsNumber (next_text v n rest)
next_ends ordered n rest e = e
next_ends numbered n rest e = refl

answer_back : (v : Version) (a : Answered) (rest : List ℕ) → IsShort a → EndsNumber rest → answer_at v (answer_text v a rest) ≡ Some (kept v a, rest)
unfolding answer_at move_at
answer_back v a rest short e =
    let n = next_back v a.next.0 rest short.next e in
    rw (spaced_back 1000000000 a.mv.action (spaced_text a.mv.x (spaced_text a.mv.y (next_text v a.next.0 rest))) (omega arith) short.action refl)
    (rw (spaced_back 1000000000 a.mv.x (spaced_text a.mv.y (next_text v a.next.0 rest)) (omega arith) short.x refl)
    (rw (spaced_back 1000000000 a.mv.y (next_text v a.next.0 rest) (omega arith) short.y (next_ends v a.next.0 rest e))
    (rw n.1 (ap (λ (b : Answered). Some (b, rest)) (n.2 a.mv)))))

answers_end : (v : Version) (all : List Answered) (rest : List ℕ) → EndsNumber rest → EndsNumber (answers_text v all rest)
answers_end v [] rest e = e
answers_end v (a ∷ all) rest e = refl

answers_back : (v : Version) (all : List Answered) (rest : List ℕ) → All IsShort all → EndsNumber rest → answers_at v (length all) (answers_text v all rest) ≡ Some (map (kept v) all, rest)
answers_back v [] rest short e = answering.none v rest
answers_back v (a ∷ all) rest short e =
    answering.step v (length all) (answers_text v (a ∷ all) rest)
    ∙ rw (answer_back v a (answers_text v all rest) (All-head IsShort a all short) (answers_end v all rest e)) (rw (answers_back v all rest (All-tail IsShort a all short) e) refl)

goal_back : (rest : List ℕ) → goal_at (10 ∷ rest) ≡ Some (Goal, rest)
unfolding goal_at
goal_back rest = refl

black_back : (v : Version) (a : Answered) (rest : List ℕ) → IsShort a → black_at v (answer_text v a (10 ∷ rest)) ≡ Some (Black (kept v a).mv (kept v a).next, rest)
unfolding black_at
black_back v a rest short = rw (answer_back v a (10 ∷ rest) short refl) refl

white_back : (v : Version) (replies : List Answered) (rest : List ℕ) → IsShortNode (White replies) → white_at v (spaced_text (length replies) (answers_text v replies (10 ∷ rest))) ≡ Some (White (map (kept v) replies), rest)
unfolding white_at
white_back v replies rest short =
    rw (spaced_back 1000000000 (length replies) (answers_text v replies (10 ∷ rest)) (omega arith) short.few (answers_end v replies (10 ∷ rest) refl))
    (rw (answers_back v replies (10 ∷ rest) short.short refl) refl)

pub front_back : (v : Version) (node : Node) (rest : List ℕ) → IsShortNode node → line_at v (line_front v node rest) ≡ Some (kept_node v node, rest)
unfolding line_at
front_back v Goal rest short = goal_back rest
front_back v (Black mv next) rest short = black_back v (record { mv = mv; next = next }) rest (All-head IsShort (record { mv = mv; next = next }) [] short.short)
front_back v (White replies) rest short = white_back v replies rest short

-- ---- nothing else is read

next_sound : (v : Version) (bytes rest : List ℕ) (n : ℕ) → next_at v bytes ≡ Some (n, rest) → (bytes ≡ next_text v n rest) × (n < 2 ^ 64)
next_sound ordered bytes rest n h = let p = parts 0 n bytes rest h in (p.1, (let e = p.0 in omega arith))
next_sound numbered bytes rest n h = let s = spaced_sound 18446744073709551616 bytes n rest (omega arith) (omega arith) h in (s.0, (let small = s.1 in omega arith))

abbrev MoveRead : Move → List ℕ → List ℕ → Type 0
MoveRead m bytes rest = (bytes ≡ move_text m rest) × (m.action < 1000000000) × (m.x < 1000000000) × (m.y < 1000000000)

joined_numbers : (bytes a b rest : List ℕ) (action x y : ℕ) → bytes ≡ spaced_text action a → a ≡ spaced_text x b → b ≡ spaced_text y rest → bytes ≡ spaced_text action (spaced_text x (spaced_text y rest))
joined_numbers bytes a b rest action x y p q r = p ∙ rw (q, r) refl

move_sound : (bytes rest : List ℕ) (m : Move) → move_at bytes ≡ Some (m, rest) → MoveRead m bytes rest
unfolding move_at
move_sound bytes rest m h =
    let made : ℕ → ℕ → ℕ → Move = λ a x y. record { action = a; x = x; y = y } in
    let first = steps (spaced_at 1000000000) (λ a b. and_then (spaced_at 1000000000 b) (λ r. and_then (spaced_at 1000000000 r.1) (λ q. Some (made a r.0 q.0, q.1)))) bytes rest m h in
    let second = steps (spaced_at 1000000000) (λ x b. and_then (spaced_at 1000000000 b) (λ q. Some (made first.0 x q.0, q.1))) first.1 rest m first.3 in
    let third = steps (spaced_at 1000000000) (λ y b. Some (made first.0 second.0 y, b)) second.1 rest m second.3 in
    let a = spaced_sound 1000000000 bytes first.0 first.1 (omega arith) (omega arith) first.2 in
    let x = spaced_sound 1000000000 first.1 second.0 second.1 (omega arith) (omega arith) second.2 in
    let y = spaced_sound 1000000000 second.1 third.0 third.1 (omega arith) (omega arith) third.2 in
    same_read (λ x l. MoveRead x bytes l) (made first.0 second.0 third.0) m third.1 rest third.3 (joined_numbers bytes first.1 second.1 third.1 first.0 second.0 third.0 a.0 x.0 y.0, a.1, x.1, y.1)

answer_sound : (v : Version) (bytes rest : List ℕ) (a : Answered) → answer_at v bytes ≡ Some (a, rest) → (bytes ≡ answer_text v a rest) × IsShort a
unfolding answer_at
answer_sound v bytes rest a h =
    let made : Move → ℕ → Answered = λ mv n. record { mv = mv; next = record { 0 = n } } in
    let first = steps move_at (λ mv b. and_then (next_at v b) (λ q. Some (made mv q.0, q.1))) bytes rest a h in
    let second = steps (next_at v) (λ n b. Some (made first.0 n, b)) first.1 rest a first.3 in
    let m : MoveRead first.0 bytes first.1 = move_sound bytes first.1 first.0 first.2 in
    let n = next_sound v first.1 second.1 second.0 second.2 in
    same_read (λ x l. (bytes ≡ answer_text v x l) × IsShort x) (made first.0 second.0) a second.1 rest second.3 (m.0 ∙ ap (move_text first.0) n.0, record { action = m.1; x = m.2; y = m.3; next = n.1 })

abbrev AnswersRead : Version → ℕ → List ℕ → List Answered → List ℕ → Type 0
AnswersRead v k bytes all rest = (bytes ≡ answers_text v all rest) × (k ≡ length all) × All IsShort all

answers_sound : (v : Version) (k : ℕ) (bytes rest : List ℕ) (all : List Answered) → answers_at v k bytes ≡ Some (all, rest) → AnswersRead v k bytes all rest
answers_sound v zero bytes rest all h =
    same_read (λ x l. AnswersRead v zero bytes x l) [] all bytes rest (sym (answering.none v bytes) ∙ h) (refl, refl, All-nil IsShort)
answers_sound v (suc k) bytes rest all h =
    let made : Answered → List Answered → List Answered = λ a l. a ∷ l in
    let first = steps (answer_at v) (λ a b. and_then (answers_at v k b) (λ x. Some (made a x.0, x.1))) bytes rest all (sym (answering.step v k bytes) ∙ h) in
    let second = steps (answers_at v k) (λ l b. Some (made first.0 l, b)) first.1 rest all first.3 in
    let a = answer_sound v bytes first.1 first.0 first.2 in
    let l = answers_sound v k first.1 second.1 second.0 second.2 in
    same_read (λ x l. AnswersRead v (suc k) bytes x l) (made first.0 second.0) all second.1 rest second.3 (in_front (answer_text v first.0) bytes first.1 (answers_text v second.0 second.1) a.0 l.0, ap suc l.1, All-cons IsShort first.0 second.0 a.1 l.2)

abbrev LineRead : Version → List ℕ → Node → List ℕ → Type 0
LineRead v bytes node rest = (bytes ≡ line_front v node rest) × IsShortNode node

goal_sound : (v : Version) (bytes rest : List ℕ) (node : Node) → goal_at bytes ≡ Some (node, rest) → LineRead v (103 ∷ bytes) node rest
unfolding goal_at
goal_sound v bytes rest node h =
    let s = steps (byte_at 10) (λ u b. Some (Goal, b)) bytes rest node h in
    same_read (λ x l. LineRead v (103 ∷ bytes) x l) Goal node s.1 rest s.3 (ap (λ (l : List ℕ). 103 ∷ l) (byte_sound 10 bytes s.1 s.0 s.2), record { few = omega arith; short = All-nil IsShort })

black_sound : (v : Version) (bytes rest : List ℕ) (node : Node) → black_at v bytes ≡ Some (node, rest) → LineRead v (98 ∷ bytes) node rest
unfolding black_at
black_sound v bytes rest node h =
    let first = steps (answer_at v) (λ a b. and_then (byte_at 10 b) (λ q. Some (Black a.mv a.next, q.1))) bytes rest node h in
    let second = steps (byte_at 10) (λ u b. Some (Black first.0.mv first.0.next, b)) first.1 rest node first.3 in
    let a = answer_sound v bytes first.1 first.0 first.2 in
    same_read (λ x l. LineRead v (98 ∷ bytes) x l) (Black first.0.mv first.0.next) node second.1 rest second.3 (ap (λ (l : List ℕ). 98 ∷ l) (in_front (answer_text v first.0) bytes first.1 (10 ∷ second.1) a.0 (byte_sound 10 first.1 second.1 second.0 second.2)), record { few = omega arith; short = All-cons IsShort first.0 [] a.1 (All-nil IsShort) })

counted_answers : (v : Version) (all : List Answered) (bytes a b rest : List ℕ) (k : ℕ) → bytes ≡ spaced_text k a → k ≡ length all → a ≡ answers_text v all b → b ≡ 10 ∷ rest → bytes ≡ spaced_text (length all) (answers_text v all (10 ∷ rest))
counted_answers v all bytes a b rest k h count said ended = h ∙ rw (count, said, ended) refl

white_sound : (v : Version) (bytes rest : List ℕ) (node : Node) → white_at v bytes ≡ Some (node, rest) → LineRead v (119 ∷ bytes) node rest
unfolding white_at
white_sound v bytes rest node h =
    let first = steps (spaced_at 1000000000) (λ k b. and_then (answers_at v k b) (λ r. and_then (byte_at 10 r.1) (λ q. Some (White r.0, q.1)))) bytes rest node h in
    let second = steps (answers_at v first.0) (λ l b. and_then (byte_at 10 b) (λ q. Some (White l, q.1))) first.1 rest node first.3 in
    let third = steps (byte_at 10) (λ u b. Some (White second.0, b)) second.1 rest node second.3 in
    let n = spaced_sound 1000000000 bytes first.0 first.1 (omega arith) (omega arith) first.2 in
    let l = answers_sound v first.0 first.1 second.1 second.0 second.2 in
    let ended : second.1 ≡ 10 ∷ third.1 = byte_sound 10 second.1 third.1 third.0 third.2 in
    let few : length second.0 < 1000000000 = let small = n.1 in let count = l.1 in omega arith in
    same_read (λ x l. LineRead v (119 ∷ bytes) x l) (White second.0) node third.1 rest third.3 (in_front (λ (t : List ℕ). 119 ∷ t) (119 ∷ bytes) bytes (spaced_text (length second.0) (answers_text v second.0 (10 ∷ third.1))) refl (counted_answers v second.0 bytes first.1 second.1 third.1 first.0 n.0 l.1 l.0 ended), record { few = few; short = l.2 })

front_sound : (v : Version) (bytes rest : List ℕ) (node : Node) → line_at v bytes ≡ Some (node, rest) → LineRead v bytes node rest
unfolding line_at
front_sound v [] rest node h = absurd cc
front_sound v (b ∷ bytes) rest node h = elim (cases_Bool (nat_eq b 103)) [
  | inl g ↦ rw (eqb-true b 103 g) (goal_sound v bytes rest node (rw g at h))
  | inr not_g ↦ elim (cases_Bool (nat_eq b 98)) [
    | inl k ↦ rw (eqb-true b 98 k) (black_sound v bytes rest node (rw (not_g, k) at h))
    | inr not_b ↦ elim (cases_Bool (nat_eq b 119)) [
      | inl w ↦ rw (eqb-true b 119 w) (white_sound v bytes rest node (rw (not_g, not_b, w) at h))
      | inr not_w ↦ absurd (let z : None ≡ Some (node, rest) = rw (not_g, not_b, not_w) at h in cc)
    ]
  ]
]

-- ---- the texts as they are defined

-- words, each with a space before it
abbrev spaced_words : List (List ℕ) → List ℕ → List ℕ
spaced_words [] rest = rest
spaced_words (w ∷ ws) rest = 32 ∷ (w ++ spaced_words ws rest)

pub words_spaced : (w : List ℕ) (ws : List (List ℕ)) (rest : List ℕ) → line_text (w ∷ ws) ++ rest ≡ w ++ spaced_words ws (10 ∷ rest)
words_spaced w [] rest = append_assoc w (10 ∷ []) rest
words_spaced w (x ∷ ws) rest =
    ap (λ l. l ++ rest) (append_assoc w (32 ∷ joined (x ∷ ws)) (10 ∷ []))
    ∙ append_assoc w (32 ∷ (joined (x ∷ ws) ++ 10 ∷ [])) rest
    ∙ ap (λ (l : List ℕ). w ++ (32 ∷ l)) (words_spaced x ws rest)

spaced_append : (ws xs : List (List ℕ)) (rest : List ℕ) → spaced_words (ws ++ xs) rest ≡ spaced_words ws (spaced_words xs rest)
spaced_append [] xs rest = refl
spaced_append (w ∷ ws) xs rest = ap (λ l. 32 ∷ (w ++ l)) (spaced_append ws xs rest)

answer_is : (v : Version) (a : Answered) (rest : List ℕ) → spaced_words (answer_words v a) rest ≡ answer_text v a rest
answer_is ordered a rest = refl
answer_is numbered a rest = refl

answers_are : (v : Version) (all : List Answered) (rest : List ℕ) → spaced_words (flat_map (answer_words v) all) rest ≡ answers_text v all rest
answers_are v [] rest = refl
answers_are v (a ∷ all) rest =
    spaced_append (answer_words v a) (flat_map (answer_words v) all) rest
    ∙ answer_is v a (spaced_words (flat_map (answer_words v) all) rest) ∙ ap (answer_text v a) (answers_are v all rest)

pub front_is : (v : Version) (node : Node) (rest : List ℕ) → node_text v node ++ rest ≡ line_front v node rest
front_is v Goal rest = refl
front_is v (Black mv next) rest = words_spaced (codes "b") (answer_words v (record { mv = mv; next = next })) rest ∙ ap (λ (l : List ℕ). 98 ∷ l) (answer_is v (record { mv = mv; next = next }) (10 ∷ rest))
front_is v (White replies) rest = words_spaced (codes "w") (decimal (length replies) ∷ flat_map (answer_words v) replies) rest ∙ ap (λ l. 119 ∷ (32 ∷ (decimal (length replies) ++ l))) (answers_are v replies (10 ∷ rest))

pub line_back : (v : Version) (node : Node) (rest : List ℕ) → IsShortNode node → line_at v (node_text v node ++ rest) ≡ Some (kept_node v node, rest)
line_back v node rest short = ap (line_at v) (front_is v node rest) ∙ front_back v node rest short

pub line_sound : (v : Version) (bytes rest : List ℕ) (node : Node) → line_at v bytes ≡ Some (node, rest) → (bytes ≡ node_text v node ++ rest) × IsShortNode node
line_sound v bytes rest node h = let s = front_sound v bytes rest node h in (s.0 ∙ sym (front_is v node rest), s.1)

pub no_line : (v : Version) (bytes : List ℕ) → line_at v bytes ≡ None → NoLine v bytes
no_line v bytes h node rest short e = let z : ◌≡◌ {A = Option (Node × List ℕ)} None (Some (kept_node v node, rest)) = sym h ∙ ap (line_at v) e ∙ line_back v node rest short in cc

pub no_line_read : (v : Version) (bytes : List ℕ) → NoLine v bytes → line_at v bytes ≡ None
no_line_read v bytes h = go (line_at v bytes) refl
  where
    go : (read : Option (Node × List ℕ)) → line_at v bytes ≡ read → line_at v bytes ≡ None
    go None e = e
    go (Some r) e = let s = line_sound v bytes r.1 r.0 e in absurd (h r.0 r.1 s.1 s.0)
