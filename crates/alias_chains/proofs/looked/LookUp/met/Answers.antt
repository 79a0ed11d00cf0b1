use Rattle.std.proofs.Common.{◌∙◌, sym, ap}
use Rattle.alias_chains.specs.LookingUp.{LookUp}
use Rattle.alias_chains.specs.Looked.{kind_of}
use Rattle.alias_chains.proofs.Following.{kind_back}
use Rattle.alias_chains.proofs.looked.LookUp.met.Goals as goal

pub returns : goal.returns
returns g c = sym (kind_back _ _ _ _ c.self.invariant) ∙ ap (λ (l : LookUp). kind_of l.met) c.self.view_is
