use Rattle.std.proofs.Common.{Err, ap}
use Rattle.request_parts.proofs.Files.{failed_read, long_read, some_found}
use Rattle.request_parts.proofs.read.read_file.Goals as goal

pub returns-in-Err-Failed-clause-read : goal.returns-in-Err-Failed-clause-read
returns-in-Err-Failed-clause-read g c faulty calm =
    rw c.refused.ensures (failed_read faulty (g.S.Shelf.held c.args.shelf.now) c.args.word c.args.name.now c.args.limit (λ e. c.in-Err-Failed.ensures.calm_cause (calm e) (ap Err c.in-Err-Failed.field-0-is)))

pub returns-in-Err-NoMemory-clause-read : goal.returns-in-Err-NoMemory-clause-read
returns-in-Err-NoMemory-clause-read g c faulty calm = some_found (g.S.Shelf.held c.args.shelf.now) c.args.name.now

pub returns-then-len-most-clause-read : goal.returns-then-len-most-clause-read
returns-then-len-most-clause-read g c faulty calm =
    rw (c.refused-then-len-most.ensures, c.in-Some.is) (long_read faulty (g.S.Shelf.held c.args.shelf.now) c.args.word c.args.name.now c.in-Some.most c.read.new.into.items (rw c.in-Some.is at c.in-Ok.ensures.ok) (rw (c.len.ensures, c.read.new.into.ok.0) at c.if-len-most.true))
