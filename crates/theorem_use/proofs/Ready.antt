-- If recent pieces answer a question, its look-up among the entries ends at a set or a denial.
use Rattle.std.proofs.Common.{◌≡◌, ◌≢◌, ◌∙◌, ℕ, zero, suc, List, filter, Bool, true, false, refl, sym, ap, subst, inl, inr, ◌⊎◌, Option, Some, None}
use Rattle.std.specs.Prelude.{◌==◌, ◌&&◌, is_none, nat_eq}
use Rattle.std.specs.List.{AllByRecursion}
use Rattle.std.specs.Option.{option_eq}
use Rattle.std.proofs.lemmas.Bool.{cond-true, cond-false, and_parts, and_from, false_from_ne_true, false≢true, eqb-true, eq-eqb, lt-ltb, ltb-true}
use Rattle.dns_name.proofs.CallerLemmas.{is_under_decides}
use Rattle.dns_message.specs.Values.{Question, Record}
use Rattle.dns_message.specs.Questions.{asked_at}
use Rattle.suffix_routes.specs.Values.{Config, AllDiffer}
use Rattle.suffix_routes.specs.Routes.{route_of}
use Rattle.suffix_routes.specs.Serving.{serving_route_of}
use Rattle.suffix_routes.proofs.CallerLemmas.{serving_is}
use Rattle.trust_rank.specs.Values.{Body, rows, no_data, denied}
use Rattle.trust_rank.specs.Walks.{target_of}
use Rattle.trust_rank.specs.Formed.{IsPiece, FitsKind}
use Rattle.record_cache.specs.Values.{Held}
use Rattle.record_cache.specs.Ageing.{is_alive, end_of}
use Rattle.record_cache.specs.Entries.{AreHeld}
use Rattle.record_cache.specs.Laws.{Among}
use Rattle.record_cache.proofs.CallerLemmas.{among_filter}
use Rattle.negative_cache.specs.Values.{Found}
use Rattle.negative_cache.specs.Values as result
use Rattle.negative_cache.specs.Entries.{are_rows, is_set, is_no_data, denies}
use Rattle.negative_cache.specs.Finding.{is_of_type, is_on_route, set_for, alias_for, no_data_for, is_denial_for, denial_for, found_or, found}
use Rattle.step_history.proofs.CacheLaws.CallerLemmas.{one_slot, slot_test, serves_exactly}
use Rattle.step_history.specs.Answers.{IsOf, EndsChain}
use Rattle.step_history.proofs.CallerLemmas.{target_is}
use Rattle.theorem_sound.specs.TheoremCache.Kept.{IsKept}
use Rattle.theorem_sound.proofs.TheoremCache.CallerLemmas.{all_among}
use Rattle.theorem_use.specs.Use.{AtTarget, EndsOrLeadsOn, LeadsToEnd}
use Rattle.theorem_use.specs.Touched.{Touched, carried_in, IsLiving}
use Rattle.theorem_use.specs.Recent.{IsReady, LeadsNowhere, IsReadyEnd, IsReadyAlias, IsAnsweredByRecent}
use Rattle.theorem_use.proofs.Finding.{found_is, none_passes, none_near, entry_alone, one_type}

-- ---- the finding, from the four kinds in order

-- the finding answers or leads on, if an alias leads on and something is found
ends_by : (On : List (List ℕ) → Type 0) (set alias denial error : Option Held)
    → (set ≡ None → (h : Held) → alias ≡ Some h → AtTarget On (target_of h.piece.body))
    → (set ≡ None → alias ≡ None → denial ≡ None → error ≡ None → ⊥)
    → EndsOrLeadsOn On (found_or result.rows set (found_or result.alias alias (found_or result.no_data denial (found_or result.denied error result.miss))))
ends_by On (Some h) alias denial error goes some = tt
ends_by On None (Some h) denial error goes some = goes refl h refl
ends_by On None None (Some h) error goes some = tt
ends_by On None None None (Some h) goes some = tt
ends_by On None None None None goes some = absurd (some refl refl refl refl)

-- data of a set is the set's rows
rows_of : (b : Body) → are_rows b ≡ true → (each : List (List ℕ)) × (b ≡ rows each)
rows_of (rows each) t = (each, refl)
rows_of (no_data soa) t = absurd (false≢true t)
rows_of (denied soa) t = absurd (false≢true t)

-- a denial of a whole name has no type
no_type : (k : Option ℕ) (soa : Option Record) → FitsKind k (denied soa) → k ≡ None
no_type None soa fits = refl
no_type (Some kind) soa fits = absurd fits

eq_refl : (x : ℕ) → nat_eq x x ≡ true
eq_refl x = eq-eqb x x refl

same_place : (a b : Option ℕ) (place : ℕ) → a ≡ Some place → b ≡ Some place → option_eq nat_eq a b ≡ true
same_place a b place is was = subst (λ (z : Option ℕ × Option ℕ). option_eq nat_eq z.0 z.1 ≡ true) (λ i. (sym is i, sym was i)) (eq_refl place)

-- the piece is of the question's slot for this type
typed : (q : Question) (kind : ℕ) (h : Held) → IsOf h.piece q.name q.class (Some kind) → is_of_type q kind h ≡ true
typed q kind h is = slot_test (record { key = q.name; class = q.class; kind = Some kind }) h.piece.slot (record { name = sym is.name; class = sym is.class; kind = sym is.kind })

module _ (c : Config) (differ : AllDiffer c.routes) (m n capacity : ℕ) (ts : List Touched) (es : List Held)
    (held : AreHeld (record { capacity = capacity; entries = es })) (kept : AllByRecursion (IsKept c (carried_in ts) m) es)
    (here : (o : Held) → IsReady c.limits.cache n ts o → Among o es) where
  lives : (o : Held) → IsReady c.limits.cache n ts o → is_alive n o ≡ true
  lives o ready = lt-ltb n (end_of o) ready.alive

  -- the found aliases of a question
  abbrev is_alias_of : Question → Held → Bool
  is_alias_of q h = is_of_type q 5 h && (is_alive n h && is_set h)

  alias_is : (q : Question) (h : Held) → alias_for n es q ≡ Some h → (q.kind ≢ 5) × (Among h es × (is_alias_of q h ≡ true))
  alias_is q h is = by (q.kind == 5) refl
    where
      by : (b : Bool) → (q.kind == 5) ≡ b → (q.kind ≢ 5) × (Among h es × (is_alias_of q h ≡ true))
      by true t = let wrong : None ≡ Some h = sym (cond-true (q.kind == 5) _ _ t) ∙ is in absurd (cc)
      by false f = (λ five. false≢true (sym f ∙ eq-eqb q.kind 5 five), found_is (is_alias_of q) es h (sym (cond-false (q.kind == 5) _ _ f) ∙ is))

  no_alias : (q : Question) (h : Held) → q.kind ≢ 5 → alias_for n es q ≡ None → Among h es → is_alias_of q h ≡ true → ⊥
  no_alias q h other none among is =
      let f : (q.kind == 5) ≡ false = false_from_ne_true (q.kind == 5) (λ t. other (eqb-true q.kind 5 t)) in
      none_passes (is_alias_of q) es (sym (cond-false (q.kind == 5) _ _ f) ∙ none) h among is

  -- ---- the end

  module _ (q : Question) (o : Held) (ready : IsReadyEnd c n ts q o) where
    mine : Among o es
    mine = here o ready.ready

    alive : is_alive n o ≡ true
    alive = lives o ready.ready

    -- a set of the question is found
    set_is_found : (each : List (List ℕ)) → o.piece.body ≡ rows each → set_for n es q q.kind ≡ None → ⊥
    set_is_found each body none =
        none_passes (λ h. is_of_type q q.kind h && (is_alive n h && is_set h)) es none o mine
        (and_from (is_of_type q q.kind o) (is_alive n o && is_set o) (typed q q.kind o (subst (EndsChain q o.piece) body ready.ends))
        (and_from (is_alive n o) (is_set o) alive (ap are_rows body)))

    -- a NODATA, too
    no_data_is_found : (soa : Option Record) → o.piece.body ≡ no_data soa → no_data_for n es q ≡ None → ⊥
    no_data_is_found soa body none =
        none_passes (λ h. is_of_type q q.kind h && (is_alive n h && is_no_data h)) es none o mine
        (and_from (is_of_type q q.kind o) (is_alive n o && is_no_data o) (typed q q.kind o (subst (EndsChain q o.piece) body ready.ends))
        (and_from (is_alive n o) (is_no_data o) alive (ap Rattle.negative_cache.specs.Entries.tells_no_data body)))

    -- and a name error
    error_is_found : (soa : Option Record) → o.piece.body ≡ denied soa → denial_for c.routes n es q ≡ None → ⊥
    error_is_found soa body none = none_near (filter (is_denial_for c.routes n q) es) none o (among_filter (is_denial_for c.routes n q) es o mine denial)
      where
        ends : EndsChain q o.piece (denied soa)
        ends = subst (EndsChain q o.piece) body ready.ends

        formed : IsPiece o.piece
        formed = all_among (λ x. IsPiece x.piece) o es held.formed mine

        error : is_none o.piece.slot.kind ≡ true
        error = ap is_none (no_type o.piece.slot.kind soa (subst (FitsKind o.piece.slot.kind) body formed.body))

        own : serving_route_of c o.piece.slot.key ≡ Some o.piece.route
        own = (all_among (IsKept c (carried_in ts) m) o es kept mine).on_route

        asked : serving_route_of c q.name ≡ Some o.piece.route
        asked = serves_exactly.each c q.name o.piece.route differ ready.on_route

        on_route : is_on_route c.routes q o ≡ true
        on_route = same_place (route_of c.routes o.piece.slot.key) (route_of c.routes q.name) o.piece.route
            (serving_is c.routes (route_of c.routes o.piece.slot.key) o.piece.route own).0 (serving_is c.routes (route_of c.routes q.name) o.piece.route asked).0

        denial : is_denial_for c.routes n q o ≡ true
        denial =
            and_from (is_alive n o && is_on_route c.routes q o) (denies q.name q.class o)
            (and_from (is_alive n o) (is_on_route c.routes q o) alive on_route)
            (and_from (is_none o.piece.slot.kind && (q.class == o.piece.slot.class)) _
            (and_from (is_none o.piece.slot.kind) (q.class == o.piece.slot.class) error (eq-eqb q.class o.piece.slot.class (sym ends.1)))
            ((is_under_decides q.name o.piece.slot.key).1 ends.0))

    -- something is found
    some : set_for n es q q.kind ≡ None → no_data_for n es q ≡ None → denial_for c.routes n es q ≡ None → ⊥
    some no_set no_denial no_error = by o.piece.body refl
      where
        by : (b : Body) → o.piece.body ≡ b → ⊥
        by (rows each) is = set_is_found each is no_set
        by (no_data soa) is = no_data_is_found soa is no_denial
        by (denied soa) is = error_is_found soa is no_error

    -- and without a set no alias is found
    alone : set_for n es q q.kind ≡ None → (h : Held) → alias_for n es q ≡ Some h → ⊥
    alone no_set h is = by ready.alone
      where
        alias : (q.kind ≢ 5) × (Among h es × (is_alias_of q h ≡ true))
        alias = alias_is q h is

        parts : (is_of_type q 5 h ≡ true) × ((is_alive n h && is_set h) ≡ true)
        parts = and_parts (is_of_type q 5 h) (is_alive n h && is_set h) alias.1.1

        inner : (is_alive n h ≡ true) × (is_set h ≡ true)
        inner = and_parts (is_alive n h) (is_set h) parts.1

        living : IsLiving n ts h
        living = ((all_among (IsKept c (carried_in ts) m) h es kept alias.1.0).not_replaced, ltb-true n (end_of h) inner.0)

        of : IsOf h.piece q.name q.class (Some 5)
        of = let one = one_slot (record { key = q.name; class = q.class; kind = Some 5 }) h.piece.slot parts.0 in
            record { name = sym one.name; class = sym one.class; kind = sym one.kind }

        by : ((each : List (List ℕ)) × (o.piece.body ≡ rows each)) ⊎ LeadsNowhere n ts q → ⊥
        by (inl set) = set_is_found set.0 set.1 no_set
        by (inr (inl five)) = alias.0 five
        by (inr (inr none)) = let set = rows_of h.piece.body inner.1 in none h living of set.0 set.1

    end_is_found : (On : List (List ℕ) → Type 0) → EndsOrLeadsOn On (found c.routes n es q)
    end_is_found On = ends_by On (set_for n es q q.kind) (alias_for n es q) (no_data_for n es q) (denial_for c.routes n es q)
        (λ no_set h is. absurd (alone no_set h is)) (λ no_set no_alias no_denial no_error. some no_set no_denial no_error)

  -- ---- an alias

  module _ (q : Question) (o : Held) (name : List (List ℕ)) (ready : IsReadyAlias c n ts q o name) where
    its : Among o es
    its = here o ready.ready

    set : is_set o ≡ true
    set = ap are_rows ready.leads.body

    is_one : is_alias_of q o ≡ true
    is_one = and_from (is_of_type q 5 o) (is_alive n o && is_set o) (typed q 5 o ready.slot) (and_from (is_alive n o) (is_set o) (lives o ready.ready) set)

    alias_is_found : (On : List (List ℕ) → Type 0) → On name → EndsOrLeadsOn On (found c.routes n es q)
    alias_is_found On on = ends_by On (set_for n es q q.kind) (alias_for n es q) (no_data_for n es q) (denial_for c.routes n es q) goes
        (λ no_set none no_denial no_error. no_alias q o ready.other none its is_one)
      where
        goes : set_for n es q q.kind ≡ None → (h : Held) → alias_for n es q ≡ Some h → AtTarget On (target_of h.piece.body)
        goes no_set h is =
            let alias = alias_is q h is in
            let of_h = (and_parts (is_of_type q 5 h) (is_alive n h && is_set h) alias.1.1).0 in
            let same : o ≡ h = entry_alone capacity es held o h its alias.1.0 (one_type q 5 o h (typed q 5 o ready.slot) of_h) in
            subst (AtTarget On) (sym (target_is o.piece name ready.leads) ∙ ap (λ (x : Held). target_of x.piece.body) same) on

  -- ---- the look-up

  pub answered_leads_to_end : (more : ℕ) (q : Question) → IsAnsweredByRecent c n ts more q → LeadsToEnd c.routes n es more q
  answered_leads_to_end zero q (o, ready) = end_is_found q o ready (λ name. ⊥)
  answered_leads_to_end (suc more) q (inl (o, ready)) = end_is_found q o ready (λ name. LeadsToEnd c.routes n es more (asked_at q name))
  answered_leads_to_end (suc more) q (inr (o, name, ready, rest)) =
      alias_is_found q o name ready (λ next. LeadsToEnd c.routes n es more (asked_at q next)) (answered_leads_to_end more (asked_at q name) rest)
