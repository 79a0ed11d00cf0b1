use Rattle.theorem_cache.proofs.Justifying.{leads_stay_leads}
use Rattle.theorem_cache.proofs.laws.what_leads_still_leads.Goals as goal

pub returns : goal.returns
returns c = leads_stay_leads
