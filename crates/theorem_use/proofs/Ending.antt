-- If the standing pieces answer a question, its look-up ends at a set or a denial.
use Rattle.std.proofs.Common.{◌≡◌, ℕ, zero, suc, List, [], ◌∷◌, ◌++◌, refl, Option, None, Some}
use Rattle.dns_message.specs.Values.{Question}
use Rattle.suffix_routes.specs.Values.{Route}
use Rattle.trust_rank.specs.Walks.{target_of}
use Rattle.record_cache.specs.Values.{Held}
use Rattle.negative_cache.specs.Values.{Found, local, rows, alias, no_data, denied, miss}
use Rattle.negative_cache.specs.Finding.{found}
use Rattle.dns_message.specs.Questions.{asked_at}
use Rattle.alias_chains.specs.LookingUp.{LookUp, ends, look_up_on, look_up_after, one_too_many, through, look_up}
use Rattle.theorem_use.specs.Use.{AtTarget, EndsOrLeadsOn, LeadsToEnd}

abbrev pub Ends : LookUp → Type 0
Ends l = (e : Held) × (l.met ≡ ends e)

led_ends : (held : List Held) (q : Question) (onward : Held → List (List ℕ) → LookUp) (On : List (List ℕ) → Type 0) → ((e : Held) (name : List (List ℕ)) → On name → Ends (onward e name))
    → (e : Held) (target : Option (List (List ℕ))) → AtTarget On target → Ends (look_up_on held q onward e target)
led_ends held q onward On goes e None never = absurd (never)
led_ends held q onward On goes e (Some name) on = goes e name on

followed_ends : (held : List Held) (q : Question) (onward : Held → List (List ℕ) → LookUp) (On : List (List ℕ) → Type 0) → ((e : Held) (name : List (List ℕ)) → On name → Ends (onward e name))
    → (f : Found) → EndsOrLeadsOn On f → Ends (look_up_after held q onward f)
followed_ends held q onward On goes (rows e) is = (e, refl)
followed_ends held q onward On goes (alias e) is = led_ends held q onward On goes e (target_of e.piece.body) is
followed_ends held q onward On goes (no_data e) is = (e, refl)
followed_ends held q onward On goes (denied e) is = (e, refl)
followed_ends held q onward On goes local never = absurd (never)
followed_ends held q onward On goes miss never = absurd (never)

pub look_up_ends : (routes : List Route) (n : ℕ) (entries : List Held) (more : ℕ) (held : List Held) (q : Question) → LeadsToEnd routes n entries more q → Ends (look_up routes n entries more held q)
look_up_ends routes n entries zero held q known = followed_ends held q (one_too_many held q) (λ name. ⊥) (λ e name never. absurd (never)) (found routes n entries q) known
look_up_ends routes n entries (suc more) held q known =
    followed_ends held q (λ e target. through e (look_up routes n entries more (held ++ e ∷ []) (asked_at q target)))
    (λ name. LeadsToEnd routes n entries more (asked_at q name))
    (λ e name on. look_up_ends routes n entries more (held ++ e ∷ []) (asked_at q name) on)
    (found routes n entries q) known
