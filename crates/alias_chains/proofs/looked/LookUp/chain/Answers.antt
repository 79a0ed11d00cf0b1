use Rattle.std.proofs.Common.{◌≡◌, ◌≤◌, ◌∙◌, length, sym, ap, subst}
use Rattle.alias_chains.specs.LookingUp.{LookUp, missed}
use Rattle.alias_chains.specs.Looked.{chain_of}
use Rattle.alias_chains.proofs.Following.{chain_back, few_back}
use Rattle.alias_chains.proofs.looked.LookUp.chain.Goals as goal

pub returns-clause-chain : goal.returns-clause-chain
returns-clause-chain g c =
    c.as_slice.ensures ∙ sym (chain_back _ _ _ _ c.self.invariant) ∙ ap (λ (l : LookUp). chain_of l) c.self.view_is

pub returns-clause-few : goal.returns-clause-few
returns-clause-few g c =
    subst (λ (l : LookUp). l.met ≡ missed → length l.held ≤ 8) c.self.view_is (few_back _ _ _ _ c.self.invariant)
