-- Files that are read in the order of their words, each up to one byte past its limit.
use Rattle.std.proofs.Common.{ℕ, suc, ◌≡◌, ◌+◌, ◌<◌, Bool, true, false, List, [], ◌∷◌, ◌++◌, length, map, take, drop, Option, None, Some, inl, inr, refl, sym, ap, ap₂, subst, subst₂, ◌∙◌, arith, get_or, length-append, length-take, take-append-drop}
use Rattle.std.specs.Option.{option_map}
use Rattle.std.specs.FinMap.{get}
use Rattle.std.proofs.lemmas.List.{take_more, drop_more, length_push, map-append, map_more}
use Rattle.bddl_model.specs.Files.{Files, file_at}
use Rattle.bddl_model.specs.Notes.{read_fault, too_long}
use Rattle.bddl_model.specs.Outcome.{End, refused, is_carried_out, FileThen, FilesThen, Finds, IsWithin}
use Rattle.io_edge.specs.Outside.{Delivers, cut_file}
use Rattle.request_parts.specs.Ends.{AreWithin, FindsOne, Nothing, StopsAt, refusal_told}
use Rattle.request_parts.specs.declared.refusal.Refusal.{Refusal}
use Rattle.request_parts.specs.declared.refusal.Stop.{Stop}
use Rattle.request_parts.specs.declared.refusal.Stop.TheVariants as stop
use Rattle.request_parts.proofs.Done.{not_refused}

-- ---- one file

delivered : (most : ℕ) (file : Option (List ℕ)) (bytes : List ℕ) → option_map (cut_file (Some most)) file ≡ Some bytes → (whole : List ℕ) × (file ≡ Some whole) × (bytes ≡ take (most + 1) whole)
delivered most None bytes e = absurd cc
delivered most (Some whole) bytes e = (whole, refl, cc)

cut_is_shorter : (n : ℕ) (bytes whole : List ℕ) → bytes ≡ take (n + 1) whole → n < length bytes → n < length whole
cut_is_shorter n bytes whole e long =
    let cut = length-take (n + 1) whole in
    let same : length bytes ≡ length (take (n + 1) whole) = ap length e in
    omega arith

pub long_read : (faulty : Bool) (held : Option Files) (word : ℕ) (name : List ℕ) (most : ℕ) (bytes : List ℕ) → Delivers held name (Some most) bytes → most < length bytes
    → (found : Option (List ℕ)) × FindsOne held name found × FileThen faulty word (Some most) found Nothing (refused 2 (too_long word most))
long_read faulty None word name most bytes d long = (Some bytes, tt, inr (inl (most, refl, long, refl)))
long_read faulty (Some files) word name most bytes d long =
    let x = delivered most (get files name) bytes d in
    (Some x.0, sym x.1, inr (inl (most, refl, cut_is_shorter most bytes x.0 x.2 long, refl)))

pub failed_read : (faulty : Bool) (held : Option Files) (word : ℕ) (name : List ℕ) (limit : Option ℕ) → (faulty ≡ false → file_at held name ≡ None)
    → (found : Option (List ℕ)) × FindsOne held name found × FileThen faulty word limit found Nothing (refused 3 (read_fault word))
failed_read faulty None word name limit missing = (None, tt, refl)
failed_read faulty (Some files) word name limit missing = at faulty missing (get files name) refl
  where
    at : (faulty : Bool) → (faulty ≡ false → get files name ≡ None) → (file : Option (List ℕ)) → get files name ≡ file
        → (found : Option (List ℕ)) × FindsOne (Some files) name found × FileThen faulty word limit found Nothing (refused 3 (read_fault word))
    at faulty missing None e = (None, sym e, refl)
    at true missing (Some file) e = (Some file, sym e, inr (inr (refl, refl)))
    at false missing (Some file) e = absurd (let none = sym (missing refl) ∙ e in cc)

pub some_found : (held : Option Files) (name : List ℕ) → (found : Option (List ℕ)) × FindsOne held name found × Unit {0}
some_found None name = (None, tt, tt)
some_found (Some files) name = (get files name, refl, tt)

-- ---- all files

pub finds_more : (held : Option Files) (names : List (List ℕ)) (name : List ℕ) (found : List (Option (List ℕ))) (f : Option (List ℕ))
    → Finds held names found → FindsOne held name f → Finds held (names ++ name ∷ []) (found ++ f ∷ [])
finds_more None names name found f h one = length_push found f ∙ ap (λ n. n + 1) h ∙ sym (length_push names name)
finds_more (Some files) names name found f h one = ap₂ (λ fs g. fs ++ g ∷ []) h one ∙ sym (map-append (get files) names (name ∷ []))

pub within_more : (limits : List (Option ℕ)) (contents : List (List ℕ)) (limit : Option ℕ) (bytes : List ℕ)
    → AreWithin limits contents → IsWithin limit (length bytes) → AreWithin (limits ++ limit ∷ []) (contents ++ bytes ∷ [])
within_more [] [] limit bytes h one = (one, tt)
within_more [] (c ∷ contents) limit bytes h one = absurd h
within_more (l ∷ limits) [] limit bytes h one = absurd h
within_more (l ∷ limits) (c ∷ contents) limit bytes h one = (h.0, within_more limits contents limit bytes h.1 one)

-- what stands under names, as far as it is told
others : Option Files → List (List ℕ) → List (Option (List ℕ))
others None names = map (λ name. None) names
others (Some files) names = map (get files) names

finds_others : (held : Option Files) (names : List (List ℕ)) → Finds held names (others held names)
unfolding others
finds_others None [] = refl
finds_others None (n ∷ names) = ap suc (finds_others None names)
finds_others (Some files) names = refl

pub all_found : (held : Option Files) (names : List (List ℕ)) → (found : List (Option (List ℕ))) × Finds held names found × Unit {0}
all_found held names = (others held names, finds_others held names, tt)

-- ---- the steps of a request

-- what a step that goes on with nothing may end as, it may end as in any case
file_then : (faulty : Bool) (word : ℕ) (limit : Option ℕ) (file : Option (List ℕ)) (next : List ℕ → End → Type 0) (end : End) → FileThen faulty word limit file Nothing end → FileThen faulty word limit file next end
file_then faulty word limit None next end h = h
file_then faulty word limit (Some file) next end (inl h) = absurd h.1
file_then faulty word limit (Some file) next end (inr h) = inr h

-- the files before were read, and this one was not
pub files_stop :
    (faulty : Bool) (word : ℕ) (limits : List (Option ℕ)) (contents : List (List ℕ)) (limit : Option ℕ) (file : Option (List ℕ)) (more : List (Option ℕ)) (rest : List (Option (List ℕ))) (next : List (List ℕ) → End → Type 0) (end : End)
    → AreWithin limits contents → FileThen faulty (word + length contents) limit file Nothing end
    → FilesThen faulty word (limits ++ limit ∷ more) (map Some contents ++ file ∷ rest) next end
files_stop faulty word [] [] limit file more rest next end h stop = file_then faulty word limit file _ end (subst (λ w. FileThen faulty w limit file Nothing end) (omega arith) stop)
files_stop faulty word [] (c ∷ contents) limit file more rest next end h stop = absurd h
files_stop faulty word (l ∷ limits) [] limit file more rest next end h stop = absurd h
files_stop faulty word (l ∷ limits) (c ∷ contents) limit file more rest next end h stop =
    inl (h.0, files_stop faulty (word + 1) limits contents limit file more rest (λ cs. next (c ∷ cs)) end h.1 (subst (λ w. FileThen faulty w limit file Nothing end) (omega arith) stop))

-- all were read
pub files_go_on : (faulty : Bool) (word : ℕ) (limits : List (Option ℕ)) (contents : List (List ℕ)) (next : List (List ℕ) → End → Type 0) (end : End) → AreWithin limits contents → next contents end → FilesThen faulty word limits (map Some contents) next end
files_go_on faulty word [] [] next end h go = go
files_go_on faulty word [] (c ∷ contents) next end h go = absurd h
files_go_on faulty word (l ∷ limits) [] next end h go = absurd h
files_go_on faulty word (l ∷ limits) (c ∷ contents) next end h go = inl (h.0, files_go_on faulty (word + 1) limits contents (λ cs. next (c ∷ cs)) end h.1 go)

-- a step that goes on with nothing stops in any case
pub files_then : (faulty : Bool) (word : ℕ) (limits : List (Option ℕ)) (found : List (Option (List ℕ))) (next : List (List ℕ) → End → Type 0) (end : End) → FilesThen faulty word limits found Nothing end → FilesThen faulty word limits found next end
files_then faulty word [] [] next end h = absurd h
files_then faulty word [] (f ∷ found) next end h = absurd h
files_then faulty word (l ∷ limits) [] next end h = absurd h
files_then faulty word (l ∷ limits) (None ∷ found) next end h = h
files_then faulty word (l ∷ limits) (Some file ∷ found) next end (inl h) = inl (h.0, files_then faulty (word + 1) limits found (λ cs. next (file ∷ cs)) end h.1)
files_then faulty word (l ∷ limits) (Some file ∷ found) next end (inr h) = inr h

-- where the request is carried out, all were read
pub files_were_read : (word : ℕ) (limits : List (Option ℕ)) (found : List (Option (List ℕ))) (next : List (List ℕ) → End → Type 0) (end : End) → is_carried_out end.status ≡ true → FilesThen true word limits found next end
    → (contents : List (List ℕ)) × (found ≡ map Some contents) × next contents end
files_were_read word [] [] next end carried h = ([], refl, h)
files_were_read word [] (f ∷ found) next end carried h = absurd h
files_were_read word (l ∷ limits) [] next end carried h = absurd h
files_were_read word (l ∷ limits) (None ∷ found) next end carried h = absurd (not_refused end 3 _ carried refl h)
files_were_read word (l ∷ limits) (Some file ∷ found) next end carried (inl h) =
    let rest = files_were_read (word + 1) limits found (λ cs. next (file ∷ cs)) end carried h.1 in
    (file ∷ rest.0, ap (λ fs. Some file ∷ fs) rest.1, rest.2)
files_were_read word (l ∷ limits) (Some file ∷ found) next end carried (inr (inl h)) = absurd (not_refused end 2 _ carried refl h.3)
files_were_read word (l ∷ limits) (Some file ∷ found) next end carried (inr (inr h)) = absurd (not_refused end 3 _ carried refl h.1)

-- ---- one file after the other

pub within_length : (limits : List (Option ℕ)) (contents : List (List ℕ)) → AreWithin limits contents → length contents ≡ length limits
within_length [] [] h = refl
within_length [] (c ∷ contents) h = absurd h
within_length (l ∷ limits) [] h = absurd h
within_length (l ∷ limits) (c ∷ contents) h = ap suc (within_length limits contents h.1)

finds_both : (held : Option Files) (a b : List (List ℕ)) (f g : List (Option (List ℕ))) → Finds held a f → Finds held b g → Finds held (a ++ b) (f ++ g)
finds_both None a b f g h i = length-append f g ∙ ap₂ (λ m n. m + n) h i ∙ sym (length-append a b)
finds_both (Some files) a b f g h i = ap₂ (λ x y. x ++ y) h i ∙ sym (map-append (get files) a b)

module _ {V : Type 0} (bytes_of : V → List ℕ) (held : Option Files) (limits : List (Option ℕ)) (names : List V) (i : ℕ) (contents : List (List ℕ)) (d : Option ℕ) (n : V) (same : n ≡ get_or names i n)
    (in_limits : i < length limits) (in_names : i < length names) (found : Finds held (map bytes_of (take i names)) (map Some contents)) (within : AreWithin (take i limits) contents) where
  read_so_far : length contents ≡ i
  read_so_far = let taken = length-take i limits in let same = within_length (take i limits) contents within in omega arith

  pub one_more : (f : Option (List ℕ)) (bytes : List ℕ) → FindsOne held (bytes_of n) f → (f ≡ Some bytes) × IsWithin (get_or limits i d) (length bytes)
      → Finds held (map bytes_of (take (i + 1) names)) (map Some (contents ++ bytes ∷ [])) × AreWithin (take (i + 1) limits) (contents ++ bytes ∷ [])
  one_more f bytes one h = (
    subst₂ (Finds held) (sym (map_more bytes_of names i n in_names)) (sym (map-append Some contents (bytes ∷ []))) (finds_more held (map bytes_of (take i names)) (bytes_of (get_or names i n)) (map Some contents) (Some bytes) found (subst (FindsOne held (bytes_of (get_or names i n))) h.0 (subst (λ v. FindsOne held (bytes_of v) f) same one))),
    subst (λ ls. AreWithin ls (contents ++ bytes ∷ [])) (sym (take_more limits i d in_limits)) (within_more (take i limits) contents (get_or limits i d) bytes within h.1),
  )

  pub one_stops : (faulty : Bool) (s : Stop Refusal) → (f : Option (List ℕ)) × FindsOne held (bytes_of n) f × StopsAt refusal_told (FileThen faulty (i + 2) (get_or limits i d) f Nothing) s
      → (all : List (Option (List ℕ))) × Finds held (map bytes_of names) all × StopsAt refusal_told (FilesThen faulty 2 limits all Nothing) s
  one_stops faulty stop.NoMemory h = all_found held (map bytes_of names)
  one_stops faulty stop.WriteFault h = absurd h.2
  one_stops faulty (stop.Refused r) (f, one, h) = (map Some contents ++ f ∷ others held behind, all, stops)
    where
      behind : List (List ℕ)
      behind = map bytes_of (drop (i + 1) names)

      parted : map bytes_of (take i names) ++ bytes_of (get_or names i n) ∷ behind ≡ map bytes_of names
      parted = sym (map-append bytes_of (take i names) (get_or names i n ∷ drop (i + 1) names)) ∙ ap (λ ns. map bytes_of (take i names ++ ns)) (sym (drop_more names i n in_names)) ∙ ap (map bytes_of) (take-append-drop i names)

      all : Finds held (map bytes_of names) (map Some contents ++ f ∷ others held behind)
      all =
          let later = finds_both held (bytes_of (get_or names i n) ∷ []) behind (f ∷ []) (others held behind) (alone held (subst (λ v. FindsOne held (bytes_of v) f) same one)) (finds_others held behind) in
          subst (λ ns. Finds held ns (map Some contents ++ f ∷ others held behind)) parted (finds_both held (map bytes_of (take i names)) (bytes_of (get_or names i n) ∷ behind) (map Some contents) (f ∷ others held behind) found later)
        where
          alone : (held : Option Files) → FindsOne held (bytes_of (get_or names i n)) f → Finds held (bytes_of (get_or names i n) ∷ []) (f ∷ [])
          alone None one = refl
          alone (Some files) one = ap (λ g. g ∷ []) one

      limits_parted : take i limits ++ get_or limits i d ∷ drop (i + 1) limits ≡ limits
      limits_parted = ap (λ ls. take i limits ++ ls) (sym (drop_more limits i d in_limits)) ∙ take-append-drop i limits

      stops : FilesThen faulty 2 limits (map Some contents ++ f ∷ others held behind) Nothing (refusal_told r)
      stops =
          let word : i + 2 ≡ 2 + length contents = (let e = read_so_far in omega arith) in
          subst (λ ls. FilesThen faulty 2 ls (map Some contents ++ f ∷ others held behind) Nothing (refusal_told r)) limits_parted
          (files_stop faulty 2 (take i limits) contents (get_or limits i d) f (drop (i + 1) limits) (others held behind) Nothing (refusal_told r) within (subst (λ w. FileThen faulty w (get_or limits i d) f Nothing (refusal_told r)) word h))
