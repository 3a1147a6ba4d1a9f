use Rattle.std.proofs.Common.{◌≡◌, map, take, Some}
use Rattle.bddl_model.specs.Outcome.{Finds}
use Rattle.request_parts.specs.Ends.{AreWithin}
use Rattle.request_parts.proofs.read.read_files.Given as goal

-- the files so far were read
abbrev pub invariant-files : goal.invariant-files
invariant-files g l = record {
  held : g.S.Shelf.held l.shelf ≡ g.S.Shelf.held l.fn.shelf;
  calm : g.S.Shelf.calm l.fn.shelf → g.S.Shelf.calm l.shelf;
  counts : g.S.Shelf.faults l.shelf ≡ g.S.Shelf.faults l.fn.shelf;
  found : Finds (g.S.Shelf.held l.fn.shelf) (map (λ w. w.items) (take l.i l.names)) (map Some (map (λ w. w.items) l.contents.items));
  within : AreWithin (take l.i l.limits) (map (λ w. w.items) l.contents.items);
}
