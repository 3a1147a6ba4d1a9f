-- What an answer says of a form.
use Rattle.std.specs.Prelude.{Bool, List}
use Rattle.qbf_search.specs.declared.answer.Answer.{Answer}
use Rattle.qbf_search.specs.declared.answer.Answer.TheVariants.{True, False, Spent}

abbrev pub IfTrue : Answer → (List Bool → Type 0) → Type 0
IfTrue (True first) P = P first.items
IfTrue _ P = Unit {0}

abbrev pub IfFalse : Answer → (List Bool → Type 0) → Type 0
IfFalse (False first) P = P first.items
IfFalse _ P = Unit {0}

abbrev pub IfSpent : Answer → Type 0 → Type 0
IfSpent Spent P = P
IfSpent _ P = Unit {0}
