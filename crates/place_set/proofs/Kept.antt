-- A key that is put among keys, seen as places.
use Rattle.std.proofs.Common.{◌≡◌, ◌≢◌, ℕ, ◌<◌, ◌≤◌, Bool, true, false, ◌&&◌, ◌||◌, List, [], ◌∷◌, ◌++◌, length, slice_get, AllPairs, Some, if◌then◌else◌, nat_eq, option_map, refl, sym, ap, ◌∙◌, subst, arith, get_or}
use Rattle.std.specs.Bool.{Decides}
use Rattle.std.specs.Cmp.{unsigned_Decides}
use Rattle.std.specs.Cmp.Lexicographic.{pointwise}
use Rattle.std.specs.List.{list_any, IsDistinct, AllByRecursion}
use Rattle.std.proofs.lemmas.Bool.Decides.{Decides-and}
use Rattle.std.proofs.lemmas.Bool.{false≢true}
use Rattle.std.proofs.lemmas.Slice.Eq.{slice_eq-Decides}
use Rattle.std.proofs.lemmas.Map.Made.{AllPairs-from_IsDistinct}
use Rattle.std.proofs.lemmas.Option.{slice_get-get_or, get_or_from_slice_get, slice_get-map, slice_get_within}
use Rattle.std.proofs.lemmas.List.{get_or_append_left, length-map}
use Rattle.std.proofs.lemmas.List.Folds.{list_any_at}
use Rattle.indexmap.specs.IndexSet.{insert_key}
use Rattle.bddl_model.specs.declared.game.Side.{Side}
use Rattle.bddl_model.specs.declared.game.Side.TheVariants as sides
use Rattle.bddl_model.specs.declared.game.Mark.{Mark}
use Rattle.bddl_model.specs.declared.game.Mark.TheVariants as marks
use Rattle.bddl_model.specs.contracts.game.Side as side
use Rattle.bddl_model.specs.contracts.game.Mark as mark
use Rattle.bddl_model.specs.Board.{Board}
use Rattle.bddl_model.specs.Certificate.{Place}
use Rattle.place_set.specs.declared.set.StoredPlace.{StoredPlace}
use Rattle.place_set.specs.Stored.{place_of, places_of}
use denote.Enum.Bare.{sameb}

-- ---- equality of places, as the code compares them

sides_decided : (a b : Side) → Decides (sameb side.the_type a b) (a ≡ b)
sides_decided sides.Black sides.Black = ((λ _. refl), (λ _. refl))
sides_decided sides.Black sides.White = ((λ h. absurd cc), (λ h. absurd cc))
sides_decided sides.White sides.Black = ((λ h. absurd cc), (λ h. absurd cc))
sides_decided sides.White sides.White = ((λ _. refl), (λ _. refl))

marks_decided : (a b : Mark) → Decides (sameb mark.the_type a b) (a ≡ b)
marks_decided marks.Free marks.Free = ((λ _. refl), (λ _. refl))
marks_decided marks.Free marks.Black = ((λ h. absurd cc), (λ h. absurd cc))
marks_decided marks.Free marks.White = ((λ h. absurd cc), (λ h. absurd cc))
marks_decided marks.Black marks.Free = ((λ h. absurd cc), (λ h. absurd cc))
marks_decided marks.Black marks.Black = ((λ _. refl), (λ _. refl))
marks_decided marks.Black marks.White = ((λ h. absurd cc), (λ h. absurd cc))
marks_decided marks.White marks.Free = ((λ h. absurd cc), (λ h. absurd cc))
marks_decided marks.White marks.Black = ((λ h. absurd cc), (λ h. absurd cc))
marks_decided marks.White marks.White = ((λ _. refl), (λ _. refl))

abbrev pub same_marks : Board → Board → Bool
same_marks xs ys = pointwise (sameb mark.the_type) xs ys

abbrev pub same : Place → Place → Bool
same p q = sameb side.the_type p.side q.side && (nat_eq p.left q.left && same_marks p.board q.board)

same_decides : (p q : Place) → Decides (same p q) (p ≡ q)
same_decides p q =
    let boards = slice_eq-Decides marks_decided p.board q.board (same_marks p.board q.board) refl in
    let rest = Decides-and (nat_eq p.left q.left) (same_marks p.board q.board) (unsigned_Decides p.left q.left) boards in
    let d = Decides-and (sameb side.the_type p.side q.side) (nat_eq p.left q.left && same_marks p.board q.board) (sides_decided p.side q.side) rest in (
      (λ h. let e = d.0 h in place_is p q e.0 e.1.0 e.1.1),
      (λ e. d.1 (ap (λ (x : Place). x.side) e, (ap (λ (x : Place). x.left) e, ap (λ (x : Place). x.board) e))),
    )
  where
    place_is : (p q : Place) → p.side ≡ q.side → p.left ≡ q.left → p.board ≡ q.board → p ≡ q
    place_is p q a b c =
        ap (λ s. record { side = s; board = p.board; left = p.left }) a
        ∙ ap (λ n. record { side = q.side; board = p.board; left = n }) b
        ∙ ap (λ m. record { side = q.side; board = m; left = q.left }) c

-- ---- keys as places

abbrev pub same_stored : StoredPlace → StoredPlace → Bool
same_stored p q = same (place_of p) (place_of q)

none_mapped : (k : StoredPlace) (keys : List StoredPlace) → AllByRecursion (λ y. same_stored k y ≡ false) keys → AllByRecursion (λ y. same (place_of k) y ≡ false) (places_of keys)
none_mapped k [] h = tt
none_mapped k (x ∷ keys) h = (h.0, none_mapped k keys h.1)

distinct_mapped : (keys : List StoredPlace) → IsDistinct same_stored keys → IsDistinct same (places_of keys)
unfolding IsDistinct
distinct_mapped [] h = tt
distinct_mapped (k ∷ keys) h = (none_mapped k keys h.0, distinct_mapped keys h.1)

pub keys_apart : (keys : List StoredPlace) → IsDistinct same_stored keys → AllPairs (λ p q. p ≢ q) (places_of keys)
keys_apart keys h = AllPairs-from_IsDistinct same_decides (places_of keys) (distinct_mapped keys h)

any_mapped : (k : StoredPlace) (keys : List StoredPlace) → list_any (same_stored k) keys ≡ list_any (same (place_of k)) (places_of keys)
any_mapped k [] = refl
any_mapped k (x ∷ keys) = ap (λ b. same_stored k x || b) (any_mapped k keys)

places-append : (xs ys : List StoredPlace) → places_of (xs ++ ys) ≡ places_of xs ++ places_of ys
places-append [] ys = refl
places-append (x ∷ xs) ys = ap (λ l. place_of x ∷ l) (places-append xs ys)

-- ---- a key more

pub stored_place : (keys : List StoredPlace) (n : ℕ) (k x : StoredPlace) → slice_get keys n ≡ Some x → same_stored k x ≡ true → slice_get (places_of keys) n ≡ Some (place_of k)
stored_place keys n k x h e = slice_get-map place_of keys n ∙ ap (option_map place_of) h ∙ ap Some (sym ((same_decides (place_of k) (place_of x)).0 e))

module _ (old : List StoredPlace) (k : StoredPlace) (new : List StoredPlace) (n : ℕ) (put : new ≡ insert_key same_stored old k) (here : slice_get (places_of new) n ≡ Some (place_of k)) (within : n < length new) where
  known : n < length (places_of old) → list_any (same_stored k) old ≡ false → ⊥
  known inside absent = false≢true (sym absent ∙ any_mapped k old ∙ list_any_at (same (place_of k)) (places_of old) n (place_of k) (slice_get_within (places_of old) n (place_of k) there) ((same_decides (place_of k) (get_or (places_of old) n (place_of k))).1 (sym (get_or_from_slice_get (places_of old) n (place_of k) (place_of k) there))))
    where
      whole : places_of new ≡ places_of old ++ place_of k ∷ []
      whole = ap places_of (put ∙ ap (λ b. if b then old else old ++ k ∷ []) absent) ∙ places-append old (k ∷ [])

      there : slice_get (places_of old) n ≡ Some (place_of k)
      there =
          slice_get-get_or (places_of old) n (place_of k) inside
          ∙ ap Some (sym (get_or_append_left (places_of old) (place_of k ∷ []) (place_of k) n inside)
          ∙ get_or_from_slice_get (places_of old ++ place_of k ∷ []) n (place_of k) (place_of k) (subst (λ l. slice_get l n ≡ Some (place_of k)) whole here))

  pub met : n < length (places_of old) → places_of new ≡ places_of old
  met low = go (list_any (same_stored k) old) refl put
    where
      go : (b : Bool) → list_any (same_stored k) old ≡ b → new ≡ (if b then old else old ++ k ∷ []) → places_of new ≡ places_of old
      go true a e = ap places_of e
      go false a e = absurd (known low a)

  pub next : length (places_of old) ≤ n → places_of new ≡ places_of old ++ place_of k ∷ []
  next high = go (list_any (same_stored k) old) refl put
    where
      go : (b : Bool) → list_any (same_stored k) old ≡ b → new ≡ (if b then old else old ++ k ∷ []) → places_of new ≡ places_of old ++ place_of k ∷ []
      go true a e = absurd (omega (arith, high, within, ap length e, length-map old place_of))
      go false a e = ap places_of e ∙ places-append old (k ∷ [])
