-- Bytes that go to a sink one behind the other.
use Rattle.std.proofs.Common.{ℕ, ◌≡◌, List, [], ◌++◌, Option, None, Some, refl, sym, ap, ◌∙◌, append_assoc, append-nil}
use Rattle.std.specs.Io.KnownBytes.{Appends}
use Rattle.io_edge.specs.Outside.{with_bytes, WithFront}

pub with_bytes_none : (old : Option (List ℕ)) → with_bytes old [] ≡ old
with_bytes_none None = refl
with_bytes_none (Some w) = ap Some (append-nil w)

pub with_bytes_more : (old : Option (List ℕ)) (a b : List ℕ) → with_bytes (with_bytes old a) b ≡ with_bytes old (a ++ b)
with_bytes_more None a b = refl
with_bytes_more (Some w) a b = ap Some (append_assoc w a b)

pub written_more : (old mid new : Option (List ℕ)) (a b : List ℕ) → mid ≡ with_bytes old a → new ≡ with_bytes mid b → new ≡ with_bytes old (a ++ b)
written_more old mid new a b e f = f ∙ ap (λ m. with_bytes m b) e ∙ with_bytes_more old a b

-- behind bytes that were written a front of the next ones
pub front_then : (a b : List ℕ) (old mid new : Option (List ℕ)) → mid ≡ with_bytes old a → WithFront mid new b → WithFront old new (a ++ b)
front_then a b old mid new e f =
    (a ++ f.0, f.1, append_assoc a f.0 f.1 ∙ ap (λ l. a ++ l) f.2, written_more old mid new a f.0 e f.3)

-- a front of the first bytes is one of all
pub front_first : (a b : List ℕ) (old new : Option (List ℕ)) → WithFront old new a → WithFront old new (a ++ b)
front_first a b old new f = (f.0, f.1 ++ b, sym (append_assoc f.0 f.1 b) ∙ ap (λ l. l ++ b) f.2, f.3)

-- what a writer tells of two pieces
pub appends_more : (old mid new : Option (List ℕ)) (a b : List ℕ) → Appends old mid a → Appends mid new b → Appends old new (a ++ b)
appends_more None mid new a b e f = tt
appends_more (Some x) None new a b e f = absurd e
appends_more (Some x) (Some y) None a b e f = absurd f
appends_more (Some x) (Some y) (Some z) a b e f = f ∙ ap (λ l. l ++ b) e ∙ append_assoc x a b
