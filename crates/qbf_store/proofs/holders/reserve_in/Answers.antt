use Rattle.std.proofs.Common.{arith, ap, ◌∙◌, subst, vec_len, vec_capacity, ◌≤◌}
use Rattle.qbf_store.proofs.RowWrites.{kept_rows, kept_room, room_set}
use Rattle.qbf_store.proofs.holders.reserve_in.Goals as goal

pub returns-in_err-reserve-clause-rows : goal.returns-in_err-reserve-clause-rows
returns-in_err-reserve-clause-rows c =
    kept_rows c.args.rows.now.items c.args.number c.index_mut.result.now c.reserve.new.self (omega (arith, c.args.rows.now.ok.0)) (c.reserve.ensures.items ∙ ap (λ r. r.items) c.index_mut.ensures.value)

pub returns-in_err-reserve-clause-keeps : goal.returns-in_err-reserve-clause-keeps
returns-in_err-reserve-clause-keeps c =
    kept_room c.args.rows.now.items c.args.number c.index_mut.result.now c.reserve.new.self (omega (arith, c.args.rows.now.ok.0))
    (c.reserve.ensures.len ∙ ap vec_len c.index_mut.ensures.value) (subst (λ r. vec_capacity r ≤ vec_capacity c.reserve.new.self) c.index_mut.ensures.value c.reserve.ensures.capacity)

pub returns-clause-rows : goal.returns-clause-rows
returns-clause-rows c =
    kept_rows c.args.rows.now.items c.args.number c.index_mut.result.now c.reserve.new.self (omega (arith, c.args.rows.now.ok.0)) (c.reserve.ensures.items ∙ ap (λ r. r.items) c.index_mut.ensures.value)

pub returns-clause-keeps : goal.returns-clause-keeps
returns-clause-keeps c =
    kept_room c.args.rows.now.items c.args.number c.index_mut.result.now c.reserve.new.self (omega (arith, c.args.rows.now.ok.0))
    (c.reserve.ensures.len ∙ ap vec_len c.index_mut.ensures.value) (subst (λ r. vec_capacity r ≤ vec_capacity c.reserve.new.self) c.index_mut.ensures.value c.reserve.ensures.capacity)

pub returns-clause-ok : goal.returns-clause-ok
returns-clause-ok c =
    room_set c.args.rows.now.items c.args.number c.reserve.new.self (omega (arith, c.args.rows.now.ok.0)) (let room = c.in_ok-reserve.ensures.ok in let len = c.reserve.ensures.len in omega arith)
