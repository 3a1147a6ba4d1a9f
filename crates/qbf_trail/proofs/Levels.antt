-- The levels of entries, and the entries up to one.
use Rattle.std.proofs.Common.{◌≡◌, ℕ, suc, ◌+◌, ◌≤◌, List, [], ◌∷◌, ◌++◌, length, refl, ap, arith}
use Rattle.std.proofs.lemmas.Bool.{le-leb}
use Rattle.qbf_trail.specs.declared.entry.Cause.{Cause}
use Rattle.qbf_trail.specs.declared.entry.Cause.TheVariants.{Decision, By}
use Rattle.qbf_trail.specs.declared.entry.Entry.{Entry}
use Rattle.qbf_trail.specs.Entries.{raised, last_level, up_to, HaveLevels}

pub raised_low : (level : ℕ) (cause : Cause) → (level ≤ raised level cause) × (raised 0 cause ≤ raised level cause) × (raised level cause ≤ suc level)
raised_low level Decision = (omega arith, omega arith, omega arith)
raised_low level (By id) = (omega arith, omega arith, omega arith)

pub raised_same : (m n : ℕ) (cause : Cause) → raised m cause ≡ raised n cause → m ≡ n
raised_same m n Decision h = omega arith
raised_same m n (By id) h = h

pub last_push : (level : ℕ) (es : List Entry) (e : Entry) → last_level level (es ++ e ∷ []) ≡ e.level.0
last_push level [] e = refl
last_push level (d ∷ es) e = last_push d.level.0 es e

pub levels_push : (level : ℕ) (es : List Entry) (e : Entry) → HaveLevels level es → e.level.0 ≡ raised (last_level level es) e.cause → HaveLevels level (es ++ e ∷ [])
levels_push level [] e have is = (is, tt)
levels_push level (d ∷ es) e have is = (have.0, levels_push d.level.0 es e have.1 is)

pub levels_front : (level : ℕ) (es : List Entry) (e : Entry) → HaveLevels level (es ++ e ∷ []) → HaveLevels level es × (e.level.0 ≡ raised (last_level level es) e.cause)
levels_front level [] e have = (tt, have.0)
levels_front level (d ∷ es) e have = (let rest = levels_front d.level.0 es e have.1 in ((have.0, rest.0), rest.1))

pub level_low : (level : ℕ) (es : List Entry) → HaveLevels level es → level ≤ last_level level es
level_low level [] have = omega arith
level_low level (e ∷ es) have =
    let first = raised_low level e.cause in
    let rest = level_low e.level.0 es have.1 in
    let is = have.0 in
    omega arith

pub level_high : (level : ℕ) (es : List Entry) → HaveLevels level es → last_level level es ≤ level + length es
level_high level [] have = omega arith
level_high level (e ∷ es) have =
    let first = raised_low level e.cause in
    let rest = level_high e.level.0 es have.1 in
    let is = have.0 in
    omega arith

pub up_to_all : (most level : ℕ) (es : List Entry) → HaveLevels level es → last_level level es ≤ most → up_to most es ≡ es
up_to_all most level [] have low = refl
up_to_all most level (e ∷ es) have low =
    let first : e.level.0 ≤ most = (let rest = level_low e.level.0 es have.1 in omega arith) in
    rw (le-leb e.level.0 most first) (ap (λ r. e ∷ r) (up_to_all most e.level.0 es have.1 low))
