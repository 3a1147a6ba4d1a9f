use Rattle.std.proofs.Common.{◌<◌, ◌∙◌, ◌∷◌, [], None, ap, arith, length, map, rules, subst, true}
use Rattle.std.proofs.lemmas.List.{map-append}
use Rattle.std.proofs.lemmas.Result.{err_from_is_err_and}
use Rattle.request_parts.specs.Ends.{FindsOne}
use Rattle.request_parts.proofs.Files.{all_found, one_more, one_stops}
use Rattle.request_parts.proofs.read.read_files.Goals as goal

pub returns-in_err-contents-clause-read : goal.returns-in_err-contents-clause-read
returns-in_err-contents-clause-read g c faulty calm =
    let end = err_from_is_err_and c.from_residual.result c.from_residual.ensures.1 in
    rw (end.1, end.2) (all_found (g.S.Shelf.held c.args.shelf.now) (map (λ w. w.items) c.args.names.now))

pub returns-in_err-push-clause-read : goal.returns-in_err-push-clause-read
returns-in_err-push-clause-read g c faulty calm =
    let end = err_from_is_err_and c.from_residual-in_err-push.result c.from_residual-in_err-push.ensures.1 in
    rw (end.1, end.2) (all_found (g.S.Shelf.held c.args.shelf.now) (map (λ w. w.items) c.args.names.now))

pub returns-in_err-read_file-clause-read : goal.returns-in_err-read_file-clause-read
returns-in_err-read_file-clause-read g c faulty calm =
    let end = err_from_is_err_and c.from_residual-in_err-read_file.result c.from_residual-in_err-read_file.ensures.1 in
    let read = rw (c.deref.ensures.value, c.files.invariant.held) at (c.in_err-read_file.ensures.read faulty (λ e. c.files.invariant.calm (calm e))) in
    let inside : c.files.i < length c.args.limits.now = (let e = c.requires.lengths in let h = c.files-test.true in omega arith) in
    rw (end.1, end.2) (one_stops (λ w. w.items) (g.S.Shelf.held c.args.shelf.now) c.args.limits.now c.args.names.now c.files.i _ None c.index-names-i.result c.index-names-i.is inside c.files-test.true c.files.invariant.found c.files.invariant.within faulty _ read)

pub files-preserved : goal.files-preserved
files-preserved g c =
    let inside : c.files.i < length c.args.limits.now = (let e = c.requires.lengths in let h = c.files-test.true in omega arith) in
    let read = c.in_ok-read_file.ensures.read true (λ e. absurd cc) in
    let named = subst (λ n. FindsOne (g.S.Shelf.held c.files.shelf) n read.0) c.deref.ensures.value read.1 in
    let one = subst (λ h. FindsOne h c.index-names-i.result.items read.0) c.files.invariant.held named in
    let more = one_more (λ w. w.items) (g.S.Shelf.held c.args.shelf.now) c.args.limits.now c.args.names.now c.files.i _ None c.index-names-i.result c.index-names-i.is inside c.files-test.true c.files.invariant.found c.files.invariant.within read.0 c.in_ok-read_file.field-0.items one read.2 in
    let pushed = ap (map (λ w. w.items)) c.in_ok-push.ensures.items ∙ map-append (λ w. w.items) c.files.contents.items (c.in_ok-read_file.field-0 ∷ []) in
    record {
      held = search rules;
      calm = search rules;
      counts = search rules;
      found = rw pushed more.0;
      within = rw pushed more.1;
    }
