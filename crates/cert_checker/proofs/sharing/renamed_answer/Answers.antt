use Rattle.std.proofs.Common.{◌≡◌, Some, slice_get, refl, sym, ap, ◌∙◌, eqb-true}
use Rattle.std.specs.List.{slice_index_or}
use Rattle.cert_checker.proofs.Renaming.{put_met, put_next}
use Rattle.cert_checker.proofs.sharing.renamed_answer.Goals as goal

pub returns : goal.returns
returns c =
    let k = slice_index_or c.args.least.now c.args.answer.next.0 0 in
    let stored = c.in_ok-number.ensures.stored in
    let here : slice_get c.insert_full.new.self.keys c.in_ok-number.number ≡ Some k = stored.1 ∙ ap (λ y. Some y) (sym (eqb-true k stored.0 stored.2)) in
    record {
      mv = refl;
      there = here;
      met = put_met c.args.order.now.keys k c.insert_full.new.self.keys c.in_ok-number.number c.in_ok-number.ensures.keys here c.in_ok-number.ensures.within;
      next = put_next c.args.order.now.keys k c.insert_full.new.self.keys c.in_ok-number.number c.in_ok-number.ensures.keys here c.in_ok-number.ensures.within;
    }
