-- How far white space and comments go.
use Rattle.std.specs.Prelude.{ℕ, suc, ◌==◌, Bool, true, false, not, List, [], ◌∷◌, if◌then◌else◌}
use Rattle.bddl_model.specs.Bytes.{is_white}

-- how many bytes of white space and comments stand at the front, from inside a comment or not
abbrev pub gap_len : Bool → List ℕ → ℕ
gap_len commenting [] = 0
gap_len true (b ∷ bs) = suc (gap_len (not (b == 10)) bs)
gap_len false (b ∷ bs) = if b == 59 then suc (gap_len true bs) else (if is_white b then suc (gap_len false bs) else 0)
