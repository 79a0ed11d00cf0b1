use Rattle.cache_laws.proofs.Ends.{no_data_exactly, aliases_alone_lead_on, referrals_are_lame}
use Rattle.cache_laws.proofs.replies.no_data_exactly.Goals as goal

pub returns-clause-no_data : goal.returns-clause-no_data
returns-clause-no_data c = no_data_exactly

pub returns-clause-aliases : goal.returns-clause-aliases
returns-clause-aliases c = aliases_alone_lead_on

pub returns-clause-referral : goal.returns-clause-referral
returns-clause-referral c = referrals_are_lame
