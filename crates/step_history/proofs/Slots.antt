-- The slot and the target of a piece, as definitions and as the table computes them.
use Rattle.std.proofs.Common.{◌≡◌, ℕ, List, [], ◌∷◌, None, Some, refl, ap, ◌∙◌}
use Rattle.trust_rank.specs.Values.{Body, rows, no_data, denied, Piece}
use Rattle.trust_rank.specs.Walks.{target_of}
use Rattle.step_history.specs.Answers.{IsAliasTo}

pub alias_to : (p : Piece) (name : List (List ℕ)) → target_of p.body ≡ Some name → IsAliasTo p name
alias_to p name e = by p.body refl e
  where
    by : (body : Body) → p.body ≡ body → target_of body ≡ Some name → IsAliasTo p name
    by (rows []) is e = absurd (let wrong : None ≡ Some name = e in cc)
    by (rows (datum ∷ [])) is e = record { datum = datum; body = is; leads = e }
    by (rows (datum ∷ other ∷ more)) is e = absurd (let wrong : None ≡ Some name = e in cc)
    by (no_data soa) is e = absurd (let wrong : None ≡ Some name = e in cc)
    by (denied soa) is e = absurd (let wrong : None ≡ Some name = e in cc)

pub target_is : (p : Piece) (name : List (List ℕ)) → IsAliasTo p name → target_of p.body ≡ Some name
target_is p name h = ap target_of h.body ∙ h.leads
