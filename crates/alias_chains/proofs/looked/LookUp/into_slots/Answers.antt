use Rattle.std.proofs.Common.{◌∙◌, sym, ap}
use Rattle.alias_chains.specs.LookingUp.{LookUp}
use Rattle.alias_chains.proofs.Following.{used_back}
use Rattle.alias_chains.proofs.looked.LookUp.into_slots.Goals as goal

pub returns : goal.returns
returns g c = sym (used_back _ _ _ _) ∙ ap (λ (l : LookUp). l.used) c.self.view_is
