-- A request without where its words lie in memory.
use Rattle.std.specs.Prelude.{map}
use Rattle.bddl_model.specs.Request as spec
use Rattle.request_parts.specs.declared.request.Request.{Request}

abbrev pub seen : Request → spec.Request
seen r = record { command = r.command; files = map (λ w. w.items) r.files.now; numbers = r.numbers.items }
