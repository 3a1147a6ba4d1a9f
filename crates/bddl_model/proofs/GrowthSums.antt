-- A circuit that grows by so many gates for each item of a list.
use Rattle.std.proofs.Common.{◌≡◌, ℕ, ◌≤◌, ◌<◌, ◌+◌, ◌*◌, List, length, get_or, take, ap, ◌∙◌, arith}
use Rattle.std.specs.List.{sum_by}
use Rattle.std.proofs.Math.Nat.{mul-le-mul_left}
use Rattle.std.proofs.lemmas.List.Sums.{sum_by_more, sum_by-take-le}
use Rattle.bddl_model.specs.Circuit.{Circuit}
use Rattle.bddl_model.specs.Growth.{Grows, HasRoom}
use Rattle.bddl_model.proofs.Growth.{grows_then, grows_within}

-- the circuit was a before the items, it is b before this item, and c behind it
module _ {X : Type 0} (unit : ℕ) (f : X → ℕ) (xs : List X) (i : ℕ) (d : X) (a b : Circuit) (lt : i < length xs) (g : Grows (unit * sum_by f (take i xs)) a b) where
  next_item : unit * sum_by f (take (i + 1) xs) ≡ unit * sum_by f (take i xs) + unit * f (get_or xs i d)
  next_item = ap (λ k. unit * k) (sum_by_more f xs i d lt) ∙ distributed unit (sum_by f (take i xs)) (f (get_or xs i d))
    where
      distributed : (u k n : ℕ) → u * (k + n) ≡ u * k + u * n
      distributed u k n = grind arith

  all_items : unit * sum_by f (take (i + 1) xs) ≤ unit * sum_by f xs
  all_items = mul-le-mul_left {m = sum_by f (take (i + 1) xs)} {n = sum_by f xs} unit (sum_by-take-le f xs (i + 1))

  pub item_room : HasRoom a (unit * sum_by f xs) → HasRoom b (unit * f (get_or xs i d))
  item_room room = omega (arith, g.room, next_item, all_items)

  pub item_grows : (c : Circuit) → Grows (unit * f (get_or xs i d)) b c → Grows (unit * sum_by f (take (i + 1) xs)) a c
  item_grows c h = grows_within (grows_then g h) (omega (arith, next_item))

  pub item_within : (c : Circuit) → Grows (unit * f (get_or xs i d)) b c → Grows (unit * sum_by f xs) a c
  item_within c h = grows_within (item_grows c h) all_items
