use Rattle.theorem_cache.proofs.Carrying.{accepted_pieces_can_be_kept, accepted_pieces_answer, accepted_pieces_lead_on}
use Rattle.theorem_cache.proofs.laws.accepted_pieces_serve.Goals as goal

pub returns-clause-kept : goal.returns-clause-kept
returns-clause-kept c = accepted_pieces_can_be_kept

pub returns-clause-answered : goal.returns-clause-answered
returns-clause-answered c = accepted_pieces_answer

pub returns-clause-led : goal.returns-clause-led
returns-clause-led c = accepted_pieces_lead_on
