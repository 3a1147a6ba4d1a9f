use Rattle.bddl_model.specs.Forms.{prefix_variables}
use Rattle.qbf_form.proofs.Places.{has_place}
use Rattle.qbf_form.proofs.prefix.Prefix.holds.Goals as goal

pub returns : goal.returns
returns c = has_place (prefix_variables c.args.self.now) c.args.var.0 c.place.result c.place.ensures
