use Rattle.std.proofs.Common.{arith, ◌++◌, [], ◌∷◌, ap, ◌∙◌}
use Rattle.qbf_store.proofs.RowWrites.{room_is, room_other, entered_row}
use Rattle.qbf_store.proofs.holders.enter.Goals as goal

pub push_reserved-requires : goal.push_reserved-requires
push_reserved-requires c = rw c.index_mut.ensures.value (room_is c.args.rows.now.items c.args.number c.index_mut.result.now c.requires.room)

pub returns-clause-rows : goal.returns-clause-rows
returns-clause-rows c =
    entered_row c.args.rows.now.items c.args.number c.index_mut.result.now c.push_reserved.new.self c.args.id (omega (arith, c.args.rows.now.ok.0))
    (c.push_reserved.ensures.items ∙ ap (λ r. r.items ++ c.args.id ∷ []) c.index_mut.ensures.value)

pub returns-clause-keeps : goal.returns-clause-keeps
returns-clause-keeps c = λ n other room. room_other c.args.rows.now.items c.args.number n c.push_reserved.new.self other room
