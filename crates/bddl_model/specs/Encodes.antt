-- What a form keeps to that is compiled from a setup.
use Rattle.std.specs.Prelude.{◌≡◌, ◌+◌, ◌<◌, ◌≤◌, true, length}
use Rattle.bddl_model.specs.Truth.{Formula, form_value}
use Rattle.bddl_model.specs.Forms.{IsForm}
use Rattle.bddl_model.specs.Exact.{IsExactForm}
use Rattle.bddl_model.specs.Size.{inputs_of, is_small}
use Rattle.bddl_model.specs.Tail.{tail_length, GatesApart}
use Rattle.bddl_model.specs.Bounds.{bound, game_bound}
use Rattle.bddl_model.specs.Setup.{Setup}
use Rattle.bddl_model.specs.Win.{win}

pub record Encodes (form : Formula) (s : Setup) : Type 0 where
  pub proper : IsForm form
  -- its clauses are few enough to be counted in a text
  pub few : length form.clauses < 1000000000
  -- its value is that of winning
  pub value : form_value form ≡ win s.game s.first s.board s.depth
  -- it says so of every position
  pub exact : IsExactForm form s
  pub small : is_small form s ≡ true
  -- all variables behind the inputs are gates of the tail, and so a search needs no more steps than the game's bound
  pub gates : length form.prefix ≤ inputs_of s + tail_length form
  pub bounded : bound form ≤ game_bound s
  -- no two of them are one gate
  pub apart : GatesApart form
