-- What is kept while nodes are found to stand at places, and which node is the least at each.
use Rattle.std.proofs.Common.{◌≡◌, ℕ, ◌<◌, List, [], ◌∷◌, ◌++◌, length, length-append, slice_get, Some, inl, inr, refl, sym, ap, ◌∙◌, subst, arith}
use Rattle.std.specs.Prelude.{All}
use Rattle.std.specs.List.{slice_index_or}
use Rattle.std.proofs.lemmas.Bool.{cases_lt}
use Rattle.std.proofs.lemmas.List.Elements.{All-head, All-tail}
use Rattle.std.proofs.lemmas.Option.{slice_get_within, slice_get-get_or}
use Rattle.bddl_model.specs.declared.certificate.Answered.{Answered}
use Rattle.bddl_model.specs.declared.game.Side.TheVariants.{White}
use Rattle.bddl_model.specs.Game.{Game}
use Rattle.bddl_model.specs.Certificate.{Place, behind}
use Rattle.bddl_laws.proofs.BreadthFirst.{slice_get-append}
use Rattle.cert_checker.specs.declared.least.Placing.{Placing}
use Rattle.cert_checker.specs.Placing.{of_node, Stands, AllStand}

abbrev pub Matches : Placing → Type 0
Matches t = length t.least.items ≡ length t.places

-- no place goes, and the node stands where it stood
pub record Keeps (node : ℕ) (old new : Placing) : Type 0 where
  pub count : length new.of.items ≡ length old.of.items
  pub matches : Matches new
  pub number : of_node new node ≡ of_node old node
  pub places : (k : ℕ) (q : Place) → slice_get old.places k ≡ Some q → slice_get new.places k ≡ Some q

module _ (old : Placing) (m : ℕ) (p : Place) (new : Placing) (matches : Matches old) (stands : Stands old m p new) where
  abbrev here : ℕ
  here = of_node new m

  pub place_kept : (k : ℕ) (q : Place) → slice_get old.places k ≡ Some q → slice_get new.places k ≡ Some q
  place_kept k q found = elim (cases_lt here (length old.places)) [
    | inl low ↦ (let same = stands.met low in rw same found)
    | inr high ↦ (let grown = stands.next high in rw grown (slice_get-append old.places (p ∷ []) k q found))
  ]

  pub still_matches : Matches new
  still_matches = elim (cases_lt here (length old.places)) [
    | inl low ↦ stands.lowers.met (omega (arith, low, matches)) ∙ matches ∙ sym (ap length (stands.met low))
    | inr high ↦
        let least = stands.lowers.next (omega (arith, high, matches)) in
        let places = ap length (stands.next high) ∙ length-append old.places (p ∷ []) in
        let e : length new.least.items ≡ length new.places = omega (arith, least, places, matches) in
        e
  ]

  pub one_keeps : (node : ℕ) → node < m → Keeps node old new
  one_keeps node less = record {
    count = stands.count;
    matches = still_matches;
    number = stands.others node (λ same. omega (arith, less, same));
    places = place_kept;
  }

pub start_keeps : (node : ℕ) (t : Placing) → Matches t → Keeps node t t
start_keeps node t matches = record { count = refl; matches = matches; number = refl; places = λ k q found. found }

pub keeps_all : (node : ℕ) (old mid new : Placing) → Keeps node old mid → Keeps node mid new → Keeps node old new
keeps_all node old mid new first second = record {
  count = second.count ∙ first.count;
  matches = second.matches;
  number = second.number ∙ first.number;
  places = λ k q found. second.places k q (first.places k q found);
}

pub all_keep : (g : Game) (node : ℕ) (p : Place) (all : List Answered) (old new : Placing) → Matches old → All (λ a. node < a.next.0) all → AllStand g p all old new → Keeps node old new
all_keep g node p [] old new matches later are = subst (Keeps node old) (sym are) (start_keeps node old matches)
all_keep g node p (a ∷ rest) old new matches later (mid, stands, are) =
    let first = one_keeps old a.next.0 (behind g p a.mv) mid matches stands node (All-head (λ b. node < b.next.0) a rest later) in
    keeps_all node old mid new first (all_keep g node p rest mid new first.matches (All-tail (λ b. node < b.next.0) a rest later) are)

-- one answer more
pub one_more_stands : (g : Game) (p : Place) (all : List Answered) (a : Answered) (old mid new : Placing) → AllStand g p all old mid → Stands mid a.next.0 (behind g p a.mv) new → AllStand g p (all ++ a ∷ []) old new
one_more_stands g p [] a old mid new are stands = (new, subst (λ t. Stands t a.next.0 (behind g p a.mv) new) are stands, refl)
one_more_stands g p (b ∷ rest) a old mid new (next, first, are) stands = (next, first, one_more_stands g p rest a next mid new are stands)

abbrev no_place : Place
no_place = record { side = White; board = []; left = 0 }

abbrev pub no_answer : Answered
no_answer = record { mv = record { action = 0; x = 0; y = 0 }; next = record { 0 = 0 } }

pub first_place : (node : ℕ) (t : Placing) → of_node t node < length t.places → (p : Place) × (slice_get t.places (of_node t node) ≡ Some p)
first_place node t within = (slice_index_or t.places (of_node t node) no_place, slice_get-get_or t.places (of_node t node) no_place within)

-- where the node stood, it stands still
pub stands_still : (node : ℕ) (old new : Placing) → Keeps node old new → (p : Place) → slice_get old.places (of_node old node) ≡ Some p → slice_get new.places (of_node new node) ≡ Some p
stands_still node old new keeps p found = ap (slice_get new.places) keeps.number ∙ keeps.places (of_node old node) p found

-- where the node stands now, it stood before
pub stood_there : (node : ℕ) (old new : Placing) → Keeps node old new → of_node old node < length old.places → (p : Place) → slice_get new.places (of_node new node) ≡ Some p → slice_get old.places (of_node old node) ≡ Some p
stood_there node old new keeps within p found =
    let q = slice_index_or old.places (of_node old node) no_place in
    let before = slice_get-get_or old.places (of_node old node) no_place within in
    let now = keeps.places (of_node old node) q before in
    same q p before now (ap (slice_get new.places) (sym keeps.number) ∙ found)
  where
    same : (q p : Place) → slice_get old.places (of_node old node) ≡ Some q → slice_get new.places (of_node old node) ≡ Some q → slice_get new.places (of_node old node) ≡ Some p → slice_get old.places (of_node old node) ≡ Some p
    same q p before now found = cc

pub number_stays : (node : ℕ) (old new : Placing) → Keeps node old new → of_node old node < length old.places → of_node new node < length new.places
number_stays node old new keeps within =
    let number = keeps.number in
    let kept = slice_get_within new.places (of_node old node) _ (keeps.places (of_node old node) _ (slice_get-get_or old.places (of_node old node) no_place within)) in
    omega (arith, number, kept)
