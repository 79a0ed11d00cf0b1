-- The look-up of a client's question among the entries, and the row chosen by its fate.
use Rattle.std.proofs.Common.{◌≡◌, ℕ, List, [], ◌∷◌, inl, inr, refl, sym, ap, ◌∙◌, subst, Option, Some, None}
use Rattle.std.specs.Prelude.{◌&&◌, ◌==◌}
use Rattle.std.specs.List.{AllByRecursion}
use Rattle.std.proofs.lemmas.Bool.{and_parts}
use Rattle.dns_name.specs.Labels.{IsSame, same}
use Rattle.dns_name.proofs.CallerLemmas.{same_decides}
use Rattle.dns_message.specs.Values.{Question}
use Rattle.suffix_routes.specs.Values.{Config, Route}
use Rattle.suffix_routes.specs.Routes.{serving}
use Rattle.suffix_routes.proofs.CallerLemmas.{serving_respects_same}
use Rattle.trust_rank.specs.declared.slot.Slot.{Slot}
use Rattle.trust_rank.specs.Replacing.{same_kind}
use Rattle.trust_rank.specs.Walks.{most_aliases}
use Rattle.record_cache.specs.Values.{Held}
use Rattle.record_cache.specs.Laws.{Among}
use Rattle.negative_cache.specs.Values.{Found, local, rows, alias, no_data, denied, miss}
use Rattle.negative_cache.specs.Finding.{found}
use Rattle.negative_cache.specs.Laws.{Fits, IsTyped}
use Rattle.negative_cache.proofs.CallerLemmas.{found_fits}
use Rattle.suffix_routes.specs.Serving.{serving_route_of}
use Rattle.dns_message.specs.Questions.{asked_at}
use Rattle.step_actions.specs.AliasChains.LookingUp.{LookUp, missing, look_up_after, through, look_up, goes_on}
use Rattle.step_actions.proofs.AliasChains.CallerLemmas.{wants_own}
use Rattle.step_actions.specs.StepTable.State.{State, start}
use Rattle.step_actions.specs.WaitingQuestions.Values.{Waiting}
use Rattle.step_actions.specs.StepTable.Steps.{Fate, with_promoted}
use Rattle.step_actions.specs.StepTable.Clients.{row_of_fate, fate_missed, fate_of, row_of_look_up, row_of_route, waits_with}
use Rattle.step_actions.specs.StepTable.Progress.{IsOnRoute}

-- ---- the finding

all_among : (P : Held → Type 0) (h : Held) (entries : List Held) → AllByRecursion P entries → Among h entries → P h
all_among P h [] all among = absurd among
all_among P h (e ∷ entries) all (inl here) = subst P here all.0
all_among P h (e ∷ entries) all (inr later) = all_among P h entries all.1 later

-- an entry of the question's slot has a name equal to the question's
typed_route : (routes : List Route) (n : ℕ) (entries : List Held) (q : Question) (kind : ℕ) (h : Held) → IsTyped n entries q kind h → IsSame q.name h.piece.slot.key
typed_route routes n entries q kind h typed =
    let outer = and_parts (same q.name h.piece.slot.key && (q.class == h.piece.slot.class)) (same_kind (Some kind) h.piece.slot.kind) typed.slot in
    (same_decides q.name h.piece.slot.key).0 (and_parts (same q.name h.piece.slot.key) (q.class == h.piece.slot.class) outer.0).0

-- ---- a name without a route

module _ (c : Config) (n : ℕ) (entries : List Held) (on : AllByRecursion (IsOnRoute c) entries) (q : Question) (none : serving_route_of c q.name ≡ None) where
  no_entry : (h : Held) → Among h entries → serving_route_of c h.piece.slot.key ≡ serving_route_of c q.name → (f : Found) → f ≡ miss
  no_entry h among same_route f =
      let there : serving_route_of c h.piece.slot.key ≡ Some h.piece.route = all_among (IsOnRoute c) h entries on among in
      let bad : None ≡ Some h.piece.route = sym none ∙ sym same_route ∙ there in
      absurd (cc)

  no_typed : (kind : ℕ) (h : Held) → IsTyped n entries q kind h → (f : Found) → f ≡ miss
  no_typed kind h typed = no_entry h typed.living.among (sym (serving_respects_same c.routes q.name h.piece.slot.key (typed_route c.routes n entries q kind h typed)))

  fits_none : (f : Found) → Fits c.routes n entries q f → f ≡ miss
  fits_none (rows h) fits = no_typed q.kind h fits.0 (rows h)
  fits_none (alias h) fits = no_typed 5 h fits.0 (alias h)
  fits_none (no_data h) fits = no_typed q.kind h fits.0 (no_data h)
  fits_none (denied h) fits = no_entry h fits.living.among (ap (serving c.routes) fits.route) (denied h)
  fits_none local fits = absurd fits
  fits_none miss fits = refl

  -- nothing is found, since an entry has its name's route
  nothing_found : found c.routes n entries q ≡ miss
  nothing_found = fits_none (found c.routes n entries q) (found_fits c.routes n entries q)

  nothing_met : look_up c.routes n entries most_aliases [] q ≡ missing [] q
  nothing_met = ap (look_up_after [] q (λ e target. through e (look_up c.routes n entries 7 (e ∷ []) (asked_at q target)))) nothing_found

-- ---- the look-up of a client's question

-- if no alias was taken, the waiting question is unchanged
pub own_waits : (routes : List Route) (n : ℕ) (entries : List Held) (x : Waiting) (l : LookUp) → x.held ≡ []
    → l ≡ goes_on routes n entries [] x.wanted → l.held ≡ [] → waits_with x l ≡ x
own_waits routes n entries x l own is none = λ i. record x { held = (none ∙ sym own) i; wanted = wants i }
  where
    wants : l.wanted ≡ x.wanted
    wants = ap (λ (k : LookUp). k.wanted) is ∙ wants_own routes n entries x.wanted (sym (ap (λ (k : LookUp). k.held) is) ∙ none)

-- no route is needed before the look-up: a name without a route meets nothing
pub looked_row : (c : Config) (n : ℕ) (words : List ℕ) (x : Waiting) (s : State)
    → AllByRecursion (IsOnRoute c) s.cache.entries
    → row_of_look_up (start c n words s) x (look_up c.routes n s.cache.entries most_aliases [] x.wanted)
    ≡ row_of_route (start c n words s) x (serving_route_of c x.wanted.name)
looked_row c n words x s on = by (serving_route_of c x.wanted.name) refl
  where
    by : (r : Option ℕ) → serving_route_of c x.wanted.name ≡ r
        → row_of_look_up (start c n words s) x (look_up c.routes n s.cache.entries most_aliases [] x.wanted)
        ≡ row_of_route (start c n words s) x r
    by None none = ap (row_of_look_up (start c n words s) x) (nothing_met c n s.cache.entries on x.wanted none)
        ∙ ap (λ (o : Option ℕ). row_of_fate (start c n words s) (fate_missed c n x (missing [] x.wanted) o)) none
    by (Some route) there = refl

-- the used entries are promoted, and the fate is the table's
pub fate_row : (c : Config) (n : ℕ) (words : List ℕ) (x : Waiting) (s : State) (slots : List Slot) (fate : Fate)
    → AllByRecursion (IsOnRoute c) s.cache.entries
    → slots ≡ (look_up c.routes n s.cache.entries most_aliases [] x.wanted).used
    → fate ≡ fate_of c n x (look_up c.routes n s.cache.entries most_aliases [] x.wanted)
    → row_of_fate (start c n words (with_promoted slots s)) fate
    ≡ row_of_route (start c n words s) x (serving_route_of c x.wanted.name)
fate_row c n words x s slots fate on slots_are fate_is =
    (λ i. row_of_fate (start c n words (with_promoted (slots_are i) s)) (fate_is i)) ∙ looked_row c n words x s on
