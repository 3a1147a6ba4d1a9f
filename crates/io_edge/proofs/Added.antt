-- A text that goes into a buffer part by part: what went in, and what is still to come.
use Rattle.std.proofs.Common.{ℕ, ◌≡◌, ◌+◌, ◌<◌, List, [], ◌++◌, drop, flat_map, length, slice_index_or, Option, Result, Ok, Err, refl, sym, ap, subst, ◌∙◌, append_assoc}
use Rattle.std.specs.Prelude.{IsErr}
use Rattle.std.proofs.lemmas.List.{drop_more}
use Rattle.io_edge.specs.Outside.{WithFront}
use Rattle.io_edge.specs.Puts.{Adds}
use Rattle.io_edge.specs.declared.sink.SinkEnd.{SinkEnd}
use Rattle.io_edge.specs.declared.sink.SinkEnd.TheVariants.{Failed}
use Rattle.io_edge.proofs.Steps.{adds_nothing, adds_then, adds_stops}

-- all of the text but the rest went in
pub record Added (text rest : List ℕ) (old : Option (List ℕ)) (held_old : List ℕ) (new : Option (List ℕ)) (held_new : List ℕ) : Type 0 where
  pub part : List ℕ
  pub went : Adds part old held_old new held_new (Ok tt)
  pub whole : part ++ rest ≡ text

pub added_nothing : (text : List ℕ) (old : Option (List ℕ)) (held : List ℕ) → Added text text old held old held
added_nothing text old held = record { part = []; went = adds_nothing old held; whole = refl }

module _ (text before more rest : List ℕ) (next : before ≡ more ++ rest) (old mid new : Option (List ℕ)) (held_old held_mid held_new : List ℕ) (so_far : Added text before old held_old mid held_mid) where
  whole : (so_far.part ++ more) ++ rest ≡ text
  whole = append_assoc so_far.part more rest ∙ ap (λ t. so_far.part ++ t) (sym next) ∙ so_far.whole

  -- the next part goes in
  pub added_more : Adds more mid held_mid new held_new (Ok tt) → Added text rest old held_old new held_new
  added_more m = record {
    part = so_far.part ++ more;
    went = adds_then so_far.part more old mid new held_old held_mid held_new (Ok tt) so_far.went m;
    whole = whole;
  }

  -- the next part is refused
  pub added_stops : (r : Result Unit SinkEnd) → IsErr r → WithFront mid new (held_mid ++ more) × (held_new ≡ []) → Adds text old held_old new held_new r
  added_stops r stopped f =
      let here = adds_then so_far.part more old mid new held_old held_mid held_new (Err Failed) so_far.went f in
      subst (λ t. Adds t old held_old new held_new r) whole (adds_stops (so_far.part ++ more) rest old new held_old held_new r stopped here)

-- the last part comes to what it comes to
pub added_last : (text rest last : List ℕ) → rest ≡ last → (old mid new : Option (List ℕ)) (held_old held_mid held_new : List ℕ) (r : Result Unit SinkEnd)
    → Added text rest old held_old mid held_mid → Adds last mid held_mid new held_new r → Adds text old held_old new held_new r
added_last text rest last e old mid new held_old held_mid held_new r a m =
    subst (λ t. Adds t old held_old new held_new r) (ap (λ t. a.part ++ t) (sym e) ∙ a.whole) (adds_then a.part last old mid new held_old held_mid held_new r a.went m)

-- the same text by another account
pub adds_same : (a b : List ℕ) → a ≡ b → (old new : Option (List ℕ)) (held_old held_new : List ℕ) (r : Result Unit SinkEnd) → Adds a old held_old new held_new r → Adds b old held_old new held_new r
adds_same a b e old new held_old held_new r m = subst (λ t. Adds t old held_old new held_new r) e m

-- ---- the text of a list

pub flat_map_next : {A : Type 0} (text : A → List ℕ) (xs : List A) (i : ℕ) (d x : A) → i < length xs → x ≡ slice_index_or xs i d → flat_map text (drop i xs) ≡ text x ++ flat_map text (drop (i + 1) xs)
flat_map_next text xs i d x within e = ap (flat_map text) (drop_more xs i d within) ∙ ap (λ y. text y ++ flat_map text (drop (i + 1) xs)) (sym e)
