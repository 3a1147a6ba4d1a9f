-- The inputs behind the plies: each claim, attack, number and place can be written, and is read from its own bits.
use Rattle.std.proofs.Common.{◌≡◌, ℕ, ◌≤◌, ◌<◌, ◌+◌, ◌-◌, ◌*◌, ◌^◌, Bool, true, false, List, [], ◌∷◌, length, ◌⊎◌, inl, inr, refl, sym, ap, ap₂, ◌∙◌, arith, None, if◌then◌else◌}
use Rattle.bddl_model.specs.declared.formula.Quant.TheVariants.{Exists, All}
use Rattle.bddl_model.specs.declared.formula.Span.{Span}
use Rattle.bddl_model.specs.declared.game.Side.TheVariants.{Black, White}
use Rattle.bddl_model.specs.declared.game.Test.{Test}
use Rattle.bddl_model.specs.Truth.{Assignment}
use Rattle.bddl_model.specs.Bits.{bits, number_at}
use Rattle.bddl_model.specs.Game.{Game}
use Rattle.bddl_model.specs.Setup.{Setup}
use Rattle.bddl_model.specs.Layout.{Sizes, Inputs, sizes_of, plies_end, bounds, from_to, where_lines, anchor_bits}
use Rattle.bddl_model.specs.Conditions.{Cell, Claim, Attack}
use Rattle.bddl_model.proofs.Assignments.{SameOutside}
use Rattle.bddl_model.proofs.Blocks.{SameBelow}
use Rattle.bddl_model.proofs.Numbers.{writes_number}
use Rattle.bddl_model.specs.Encoding.{line_tests, number_in, cell_in, layout_of, claim_read, attack_read, refuting_read, place_read}
use Rattle.bddl_laws.proofs.Codes.{writes_numbers, number_same_below}
use Rattle.bddl_laws.proofs.GameTests.{IsPlace}

-- a cell that was written is read
cell_is : (g : Game) (b : Assignment) (v n : ℕ) (c : Cell) → number_at b v (bits g.width) ≡ c.x - 1 → number_at b (v + bits g.width) (bits g.height) ≡ c.y - 1 → IsPlace g c
    → cell_in g b (record { from = v; len = n }) ≡ c
cell_is g b v n c e f p =
    ap₂ (λ i j. record { x = i; y = j })
    (let r : number_at b v (bits g.width) + 1 ≡ c.x = omega (arith, e, p.column) in r)
    (let r : number_at b (v + bits g.width) (bits g.height) + 1 ≡ c.y = omega (arith, f, p.row) in r)

pub cell_same : (g : Game) (v n u : ℕ) (a b : Assignment) → v + anchor_bits g ≤ u → SameBelow u a b → cell_in g a (record { from = v; len = n }) ≡ cell_in g b (record { from = v; len = n })
cell_same g v n u a b le s =
    ap₂ (λ i j. record { x = i + 1; y = j + 1 })
    (number_same_below (bits g.width) v u a b (omega arith) s)
    (number_same_below (bits g.height) (v + bits g.width) u a b (omega arith) s)

-- a number is read where it was written
number_moved : (b : Assignment) (n i j k : ℕ) → i ≡ j → number_at b j n ≡ k → number_at b i n ≡ k
number_moved b n i j k e f = ap (λ x. number_at b x n) e ∙ f

pub bit_is_set : (b : Bool) → (if b then 1 else 0) + 2 * 0 ≡ 1 → b ≡ true
bit_is_set true e = refl
bit_is_set false e = absurd (omega arith)

pub bit_is_clear : (b : Bool) → (if b then 1 else 0) + 2 * 0 ≡ 0 → b ≡ false
bit_is_clear true e = absurd (omega arith)
bit_is_clear false e = refl

module _ (s : Setup) where
  abbrev z : Sizes
  z = sizes_of s.game s.depth

  abbrev inputs : Inputs
  inputs = layout_of s

  -- the first input behind the plies
  abbrev pub plies_over : ℕ
  plies_over = plies_end z s.depth s.first 1

  abbrev pub claim_span : Span
  claim_span = from_to inputs.kind inputs.atom

  abbrev pub attack_span : Span
  attack_span = from_to inputs.white_line inputs.white_time

  -- ---- claims

  claim_of : Bool → ℕ → ℕ → Cell → ℕ → Claim
  claim_of kind time line anchor atom = record { illegal = kind; time = time; line = line_tests s.game Black line anchor; atom = atom }

  pub claim_same : (a b : Assignment) → SameBelow inputs.white_line.from a b → claim_read s a ≡ claim_read s b
  unfolding claim_of
  claim_same a b same =
      let u = inputs.white_line.from in
      let kind = same plies_over (omega arith) in
      let time = number_same_below z.time inputs.time.from u a b (omega arith) same in
      let line = number_same_below z.line inputs.line.from u a b (omega arith) same in
      let anchor = cell_same s.game inputs.anchor.from z.anchor u a b (omega arith) same in
      let atom = number_same_below z.atom inputs.atom.from u a b (omega arith) same in
      ap₂ (λ x y. claim_of x y (number_in a inputs.line) (cell_in s.game a inputs.anchor) (number_in a inputs.atom)) kind time
      ∙ ap₂ (λ x y. claim_of (b inputs.kind.from) (number_in b inputs.time) x y (number_in a inputs.atom)) line anchor
      ∙ ap (λ x. claim_of (b inputs.kind.from) (number_in b inputs.time) (number_in b inputs.line) (cell_in s.game b inputs.anchor) x) atom

  pub record WrittenClaim (a : Assignment) (kind time line : ℕ) (anchor : Cell) (atom : ℕ) : Type 0 where
    pub written : Assignment
    pub same : SameOutside (bounds Exists claim_span.from claim_span.len) a written
    pub kind_is : (if written inputs.kind.from then 1 else 0) + 2 * 0 ≡ kind
    pub time_is : number_in written inputs.time ≡ time
    pub line_is : number_in written inputs.line ≡ line
    pub anchor_is : cell_in s.game written inputs.anchor ≡ anchor
    pub atom_is : number_in written inputs.atom ≡ atom

  pub writes_claim : (a : Assignment) (kind time line : ℕ) (anchor : Cell) (atom : ℕ) → kind < 2 → time < 2 ^ z.time → line < 2 ^ z.line → IsPlace s.game anchor → atom < 2 ^ z.atom
      → WrittenClaim a kind time line anchor atom
  writes_claim a kind time line anchor atom k t l p n =
      let w = bits s.game.width in
      let h = bits s.game.height in
      let parts : List (ℕ × ℕ) = (1, kind) ∷ (z.time, time) ∷ (z.line, line) ∷ (w, anchor.x - 1) ∷ (h, anchor.y - 1) ∷ (z.atom, atom) ∷ [] in
      let b = writes_numbers Exists claim_span.len claim_span.from parts a (omega arith) (k, (t, (l, (p.column.1, (p.row.1, (n, tt)))))) in
      let read = b.2 in
      record {
        written = b.0;
        same = b.1;
        kind_is = read.0;
        time_is = read.1.0;
        line_is = read.1.1.0;
        anchor_is = cell_is s.game b.0 inputs.anchor.from z.anchor anchor read.1.1.1.0 read.1.1.1.1.0 p;
        atom_is = number_moved b.0 z.atom inputs.atom.from (inputs.anchor.from + w + h) atom (omega arith) read.1.1.1.1.1.0;
      }

  -- ---- attacks

  attack_of : ℕ → ℕ → Cell → Attack
  attack_of time line anchor = record { line = line_tests s.game White line anchor; time = time }

  no_line : (n : ℕ) (anchor : Cell) → s.game.white_lines ≡ [] → line_tests s.game White n anchor ≡ None
  no_line n anchor empty = rw empty

  -- where White has a line, its block has all the bits
  abbrev HasBits : Type 0
  HasBits = (z.white_anchor ≡ anchor_bits s.game) × (z.white_time ≡ bits (s.depth + 1))

  has_bits : (s.game.white_lines ≡ []) ⊎ HasBits
  has_bits = at s.game.white_lines refl
    where
      at : (ls : List (List Test)) → s.game.white_lines ≡ ls → (ls ≡ []) ⊎ ((where_lines s.game.white_lines (anchor_bits s.game) ≡ anchor_bits s.game) × (where_lines s.game.white_lines (bits (s.depth + 1)) ≡ bits (s.depth + 1)))
      at [] e = inl refl
      at (l ∷ ls) e = inr (ap (λ x. where_lines x (anchor_bits s.game)) e, ap (λ x. where_lines x (bits (s.depth + 1))) e)

  pub attack_same : (a b : Assignment) → SameBelow inputs.refuting.from a b → attack_read s a ≡ attack_read s b
  unfolding attack_of
  attack_same a b same = elim has_bits [
    | inl empty ↦ ap₂ (λ x y. record { line = x; time = y }) (no_line _ _ empty ∙ sym (no_line _ _ empty)) time
    | inr full ↦
        let anchor = cell_same s.game inputs.white_anchor.from z.white_anchor u a b (omega (arith, full)) same in
        ap₂ (λ x y. attack_of x y (cell_in s.game a inputs.white_anchor)) time line ∙ ap (attack_of (number_in b inputs.white_time) (number_in b inputs.white_line)) anchor
  ]
    where
      u : ℕ
      u = inputs.refuting.from

      time : number_in a inputs.white_time ≡ number_in b inputs.white_time
      time = number_same_below z.white_time inputs.white_time.from inputs.refuting.from a b (omega arith) same

      line : number_in a inputs.white_line ≡ number_in b inputs.white_line
      line = number_same_below z.white_line inputs.white_line.from inputs.refuting.from a b (omega arith) same

  pub record WrittenAttack (a : Assignment) (time line : ℕ) (anchor : Cell) : Type 0 where
    pub written : Assignment
    pub same : SameOutside (bounds All attack_span.from attack_span.len) a written
    pub time_is : number_in written inputs.white_time ≡ time
    pub line_is : number_in written inputs.white_line ≡ line
    pub anchor_is : cell_in s.game written inputs.white_anchor ≡ anchor

  pub writes_attack : (a : Assignment) (time line : ℕ) (anchor : Cell) → line < length s.game.white_lines → time < 2 ^ bits (s.depth + 1) → line < 2 ^ z.white_line → IsPlace s.game anchor
      → WrittenAttack a time line anchor
  writes_attack a time line anchor is_line t l p = elim has_bits [
    | inl empty ↦ absurd (let e : length s.game.white_lines ≡ 0 = ap length empty in omega arith)
    | inr full ↦
        let w = bits s.game.width in
        let h = bits s.game.height in
        let parts : List (ℕ × ℕ) = (z.white_line, line) ∷ (w, anchor.x - 1) ∷ (h, anchor.y - 1) ∷ (z.white_time, time) ∷ [] in
        let b = writes_numbers All attack_span.len attack_span.from parts a (omega (arith, full)) (l, (p.column.1, (p.row.1, (omega (arith, t, ap (λ i. 2 ^ i) full.1), tt)))) in
        let read = b.2 in
        record {
          written = b.0;
          same = b.1;
          time_is = number_moved b.0 z.white_time inputs.white_time.from (inputs.white_anchor.from + w + h) time (omega (arith, full)) read.1.1.1.0;
          line_is = read.0;
          anchor_is = cell_is s.game b.0 inputs.white_anchor.from z.white_anchor anchor read.1.0 read.1.1.0 p;
        }
  ]

  -- ---- numbers and places

  pub refuting_same : (a b : Assignment) → SameBelow inputs.place.from a b → refuting_read s a ≡ refuting_read s b
  refuting_same a b same = number_same_below z.refuting inputs.refuting.from inputs.place.from a b (omega arith) same

  pub writes_refuting : (a : Assignment) (n : ℕ) → n < 2 ^ z.refuting → (b : Assignment) × SameOutside (bounds Exists inputs.refuting.from inputs.refuting.len) a b × (refuting_read s b ≡ n)
  writes_refuting a n lt = writes_number Exists z.refuting inputs.refuting.from n a lt

  pub writes_place : (a : Assignment) (p : Cell) → IsPlace s.game p → (b : Assignment) × SameOutside (bounds All inputs.place.from inputs.place.len) a b × (place_read s b ≡ p)
  writes_place a c p =
      let parts : List (ℕ × ℕ) = (bits s.game.width, c.x - 1) ∷ (bits s.game.height, c.y - 1) ∷ [] in
      let b = writes_numbers All inputs.place.len inputs.place.from parts a (omega arith) (p.column.1, (p.row.1, tt)) in
      (b.0, b.1, cell_is s.game b.0 inputs.place.from z.anchor c b.2.0 b.2.1.0 p)
