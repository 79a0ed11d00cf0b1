use Rattle.std.proofs.Common.{◌∙◌, sym, ap}
use Rattle.alias_chains.specs.LookingUp.{LookUp}
use Rattle.alias_chains.proofs.Following.{wanted_back}
use Rattle.alias_chains.proofs.looked.LookUp.wanted.Goals as goal

pub returns : goal.returns
returns g c = sym (wanted_back _ _ _ _) ∙ ap (λ (l : LookUp). l.wanted) c.self.view_is
