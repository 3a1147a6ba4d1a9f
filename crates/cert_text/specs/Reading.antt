-- Reading the header of a certificate's text, and lines of nodes, from the front of bytes.
use Rattle.std.specs.Prelude.{◌≡◌, ℕ, zero, suc, ◌+◌, ◌-◌, ◌*◌, Bool, true, ◌&&◌, List, [], ◌∷◌, Option, Some, None, Result, Ok, Err, codes, nat_lt, nat_le, ◌==◌, if◌then◌else◌}
use Rattle.bddl_model.specs.declared.game.Move.{Move}
use Rattle.bddl_model.specs.declared.certificate.Answered.{Answered}
use Rattle.bddl_model.specs.declared.certificate.Node.{Node}
use Rattle.bddl_model.specs.declared.certificate.Node.TheVariants as nodes
use Rattle.bddl_model.specs.CertificateText.{Version, ordered, numbered}
use Rattle.cert_text.specs.declared.header.Version.{Version as HeaderVersion}
use Rattle.cert_text.specs.declared.header.Version.TheVariants.{Ordered, Numbered}
use Rattle.cert_text.specs.declared.stop.Stop.{Stop}
use Rattle.cert_text.specs.declared.stop.Stop.TheVariants as stop

abbrev pub version_of : HeaderVersion → Version
version_of Ordered = ordered
version_of Numbered = numbered

-- ---- values at the front of bytes, each with the bytes behind it

abbrev pub Read : Type 0 → Type 0
Read A = List ℕ → Option (A × List ℕ)

abbrev pub and_then : {A B : Type 0} → Option A → (A → Option B) → Option B
and_then None f = None
and_then (Some x) f = f x

infixl 10 ◌>>=◌
abbrev pub ◌>>=◌ : {A B : Type 0} → Read A → (A → Read B) → Read B
(p >>= q) bytes = and_then (p bytes) (λ r. q r.0 r.1)

abbrev pub done_at : {A : Type 0} → A → Read A
done_at v bytes = Some (v, bytes)

abbrev pub known_at : {A : Type 0} → Option A → Read A
known_at None bytes = None
known_at (Some v) bytes = Some (v, bytes)

abbrev pub byte_at : ℕ → Read (Unit {0})
byte_at c [] = None
byte_at c (b ∷ bytes) = if b == c then Some (tt, bytes) else None

abbrev pub word_at : List ℕ → Read (Unit {0})
word_at [] bytes = Some (tt, bytes)
word_at (c ∷ cs) [] = None
word_at (c ∷ cs) (b ∷ bytes) = if b == c then word_at cs bytes else None

-- ---- numbers

abbrev pub is_digit : ℕ → Bool
is_digit b = nat_le 48 b && nat_le b 57

-- more digits of a number below the limit
abbrev pub digits_at : ℕ → ℕ → Read ℕ
digits_at limit value [] = Some (value, [])
digits_at limit value (b ∷ bytes) = if is_digit b then (if nat_lt (10 * value + (b - 48)) limit then digits_at limit (10 * value + (b - 48)) bytes else None) else Some (value, b ∷ bytes)

-- a number below the limit, without a leading zero
unfoldable pub number_at : ℕ → Read ℕ
number_at limit [] = None
number_at limit (b ∷ bytes) = if b == 48 then Some (0, bytes) else if is_digit b then digits_at limit (b - 48) bytes else None

-- a space and a number
unfoldable pub spaced_at : ℕ → Read ℕ
spaced_at limit = do
  _ ← byte_at 32
  number_at limit

-- ---- the header

abbrev pub version_numbered : ℕ → Option Version
version_numbered n = if n == 1 then Some ordered else if n == 2 then Some numbered else None

-- no node is a count of one version only
abbrev pub counts : Version → ℕ → Bool
counts ordered count = true
counts numbered count = nat_le 1 count

abbrev pub counted : Version → ℕ → Option (Version × ℕ)
counted v count = if counts v count then Some (v, count) else None

unfoldable pub header_at : Read (Version × ℕ)
header_at = do
  _ ← word_at (codes "bddlcert")
  n ← spaced_at 18446744073709551616
  v ← known_at (version_numbered n)
  count ← spaced_at 18446744073709551616
  _ ← byte_at 10
  known_at (counted v count)

-- ---- lines

unfoldable pub move_at : Read Move
move_at = do
  action ← spaced_at 1000000000
  x ← spaced_at 1000000000
  y ← spaced_at 1000000000
  done_at (record { action = action; x = x; y = y })

-- the number of the next node, which only one of the versions says
abbrev pub next_at : Version → Read ℕ
next_at ordered = done_at 0
next_at numbered = spaced_at 18446744073709551616

unfoldable pub answer_at : Version → Read Answered
answer_at v = do
  mv ← move_at
  next ← next_at v
  done_at (record { mv = mv; next = record { 0 = next } })

unfoldable pub answers_at : Version → ℕ → Read (List Answered)
answers_at v zero = done_at []
answers_at v (suc k) = do
  a ← answer_at v
  rest ← answers_at v k
  done_at (a ∷ rest)

unfoldable pub goal_at : Read Node
goal_at = do
  _ ← byte_at 10
  done_at nodes.Goal

unfoldable pub black_at : Version → Read Node
black_at v = do
  a ← answer_at v
  _ ← byte_at 10
  done_at (nodes.Black a.mv a.next)

unfoldable pub white_at : Version → Read Node
white_at v = do
  k ← spaced_at 1000000000
  replies ← answers_at v k
  _ ← byte_at 10
  done_at (nodes.White replies)

-- the line of a node
unfoldable pub line_at : Version → Read Node
line_at v [] = None
line_at v (b ∷ bytes) = if b == 103 then goal_at bytes else if b == 98 then black_at v bytes else if b == 119 then white_at v bytes else None

-- ---- what code finds

-- the same, where no memory is wanted
abbrev pub Finds : {X Y : Type 0} → (X → Y) → Option X → Option Y → Type 0
Finds view None read = read ≡ None
Finds view (Some x) read = read ≡ Some (view x)

abbrev pub Fails : {Y : Type 0} → Stop → Option Y → Type 0
Fails stop.NoMemory read = Unit {0}
Fails stop.Stuck read = read ≡ None

-- the same, unless memory runs out
abbrev pub Gives : {X Y : Type 0} → (X → Y) → Result X Stop → Option Y → Type 0
Gives view (Ok x) read = read ≡ Some (view x)
Gives view (Err e) read = Fails e read
