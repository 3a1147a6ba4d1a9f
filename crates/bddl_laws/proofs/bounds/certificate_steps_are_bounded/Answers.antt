use Rattle.bddl_laws.proofs.CertifyBounds.{search_within, replies_within, black_start_within, white_start_within}
use Rattle.bddl_laws.proofs.bounds.certificate_steps_are_bounded.Goals as goal

pub returns : goal.returns
returns c = record { searches = search_within; replies = replies_within; black = black_start_within; white = white_start_within }
