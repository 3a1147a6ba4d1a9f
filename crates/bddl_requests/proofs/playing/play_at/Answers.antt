use Rattle.bddl_requests.proofs.Seats.{all_stay, begins, counts, if_ok, is_steady, others_stay, replies_of}
use Rattle.bddl_requests.proofs.playing.play_at.Goals as goal

pub returns-clause-written : goal.returns-clause-written
returns-clause-written g c replies are =
    c.play.ensures.written replies (replies_of c.args.opponents.now.items c.args.who c.args.opponents.now.len c.requires.seat c.args.opponents.now.ok.0 c.index_mut.result.now c.play.new.opponent c.index_mut.ensures.value _ _ replies are)

pub returns-clause-others : goal.returns-clause-others
returns-clause-others g c =
    others_stay c.args.opponents.now.items c.args.who c.args.opponents.now.len c.requires.seat c.args.opponents.now.ok.0 c.index_mut.result.now c.play.new.opponent c.index_mut.ensures.value

pub returns-clause-refused : goal.returns-clause-refused
returns-clause-refused g c refused =
    let kept = c.play.ensures.refused refused in
    (kept.0, all_stay c.args.opponents.now.items c.args.who c.args.opponents.now.len c.requires.seat c.args.opponents.now.ok.0 c.index_mut.result.now c.play.new.opponent c.index_mut.ensures.value kept.1)

pub returns-clause-began : goal.returns-clause-began
returns-clause-began g c =
    if_ok c.play.result _ _ (begins c.args.opponents.now.items c.args.who c.args.opponents.now.len c.requires.seat c.args.opponents.now.ok.0 c.index_mut.result.now c.play.new.opponent c.index_mut.ensures.value _ c.args.number) c.play.ensures.began

pub returns-clause-missed : goal.returns-clause-missed
returns-clause-missed g c =
    counts c.args.opponents.now.items c.args.who c.args.opponents.now.len c.requires.seat c.args.opponents.now.ok.0 c.index_mut.result.now c.play.new.opponent c.index_mut.ensures.value _ _ c.play.ensures.missed

pub returns-clause-steady : goal.returns-clause-steady
returns-clause-steady g c steady =
    c.play.ensures.steady (is_steady c.args.opponents.now.items c.args.who c.args.opponents.now.len c.requires.seat c.args.opponents.now.ok.0 c.index_mut.result.now c.play.new.opponent c.index_mut.ensures.value _ steady)
