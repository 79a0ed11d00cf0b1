-- A look-up yields a chain justified by the history, and a second look-up yields the same chain.
use Rattle.std.proofs.Common.{◌≡◌, ℕ, zero, suc, ◌+◌, ◌<◌, ◌≤◌, List, [], ◌∷◌, ◌++◌, length, length-append, true, refl, sym, ap, ◌∙◌, subst, inl, inr, arith, Option, Some, None}
use Rattle.std.specs.Prelude.{◌≢◌, ◌==◌, ◌&&◌}
use Rattle.std.specs.List.{AllByRecursion}
use Rattle.std.proofs.lemmas.Bool.{and_parts, eqb-true, ltb-true, false≢true}
use Rattle.dns_name.specs.Labels.{IsUnder, is_under}
use Rattle.dns_name.proofs.CallerLemmas.{is_under_decides}
use Rattle.dns_message.specs.Values.{Question}
use Rattle.dns_message.specs.Messages.{IsSameQuestion}
use Rattle.suffix_routes.specs.Values.{Route}
use Rattle.suffix_routes.specs.Routes.{serving}
use Rattle.suffix_routes.proofs.CallerLemmas.{serving_respects_same}
use Rattle.trust_rank.specs.declared.slot.Slot.{Slot}
use Rattle.trust_rank.specs.Values.{Body, rows, no_data, denied, Piece}
use Rattle.trust_rank.specs.Replacing.{is_name_error}
use Rattle.trust_rank.specs.Formed.{IsPiece, FitsKind}
use Rattle.trust_rank.specs.Walks.{target_of}
use Rattle.record_cache.specs.Values.{Held}
use Rattle.record_cache.specs.Ageing.{end_of}
use Rattle.record_cache.specs.Entries.{promoted, AreHeld}
use Rattle.record_cache.specs.Laws.{Among}
use Rattle.record_cache.proofs.CallerLemmas.{promoted_are_held}
use Rattle.negative_cache.specs.Values.{Found, miss}
use Rattle.negative_cache.specs.Values as found
use Rattle.negative_cache.specs.Entries.{are_rows, tells_no_data}
use Rattle.negative_cache.specs.Finding.{found as found_in}
use Rattle.negative_cache.specs.Laws.{Fits, IsTyped, IsDenial, IsLiving}
use Rattle.negative_cache.proofs.CallerLemmas.{found_fits, equal_questions_find_the_same, promotion_keeps_found}
use Rattle.suffix_routes.specs.Serving.{serving_route_of}
use Rattle.step_history.specs.History.{Look}
use Rattle.step_history.specs.Carried.{Justified}
use Rattle.step_history.specs.Answers.{IsOf, FollowsAliases, EndsChain}
use Rattle.step_history.proofs.CallerLemmas.{alias_to}
use Rattle.step_history.proofs.CacheLaws.CallerLemmas.{one_slot}
use Rattle.dns_message.specs.Questions.{asked_at}
use Rattle.alias_chains.specs.LookingUp.{LookUp, look_up_on, look_up_after, one_too_many, through, look_up, promoted_all}
use Rattle.read_answers.specs.Texts.{CanBeWrittenAt}
use Rattle.theorem_cache.specs.Chains.{IsRightEnd, EndsRight, IsSized}
use Rattle.theorem_cache.proofs.Slots.{slot_turned}
use Rattle.step_table.proofs.CallerLemmas.{All-append}
use Rattle.theorem_cache.proofs.Justifying.{follows_append}

-- ---- a look-up at a name

-- an entry: can be written, is well formed, within its route, and may serve each name of the route
-- while alive
pub record IsUsable (l : Look) (n : ℕ) (h : Held) : Type 0 where
  pub can_write : CanBeWrittenAt n h
  pub formed : IsPiece h.piece
  pub on_route : serving_route_of l.config h.piece.slot.key ≡ Some h.piece.route
  pub serves : (name : List (List ℕ)) → n < end_of h → serving_route_of l.config name ≡ Some h.piece.route → Justified l name h

pub all_among : (P : Held → Type 0) (h : Held) (entries : List Held) → AllByRecursion P entries → Among h entries → P h
all_among P h [] all among = absurd among
all_among P h (e ∷ entries) all (inl here) = subst P here all.0
all_among P h (e ∷ entries) all (inr later) = all_among P h entries all.1 later

-- an alias leading on from the question
abbrev IsRightAlias : Look → ℕ → Question → Held → Type 0
IsRightAlias l n q h = CanBeWrittenAt n h × (q.kind ≢ 5) × Justified l q.name h × IsOf h.piece q.name q.class (Some 5)

abbrev IsRightFind : Look → ℕ → Question → Found → Type 0
IsRightFind l n q found.local = Unit {0}
IsRightFind l n q (found.rows h) = IsRightEnd l n q h
IsRightFind l n q (found.alias h) = IsRightAlias l n q h
IsRightFind l n q (found.no_data h) = IsRightEnd l n q h
IsRightFind l n q (found.denied h) = IsRightEnd l n q h
IsRightFind l n q miss = Unit {0}

pub set_ends : (q : Question) (p : Piece) (b : Body) → are_rows b ≡ true → IsOf p q.name q.class (Some q.kind) → EndsChain q p b
set_ends q p (rows each) set slot = slot
set_ends q p (no_data soa) set slot = absurd (false≢true set)
set_ends q p (denied soa) set slot = absurd (false≢true set)

pub no_data_ends : (q : Question) (p : Piece) (b : Body) → tells_no_data b ≡ true → IsOf p q.name q.class (Some q.kind) → EndsChain q p b
no_data_ends q p (rows each) tells slot = absurd (false≢true tells)
no_data_ends q p (no_data soa) tells slot = slot
no_data_ends q p (denied soa) tells slot = absurd (false≢true tells)

pub denial_ends : (q : Question) (p : Piece) (k : Option ℕ) (b : Body) → p.slot.kind ≡ k → FitsKind k b → is_name_error p ≡ true → IsUnder q.name p.slot.key → p.slot.class ≡ q.class → EndsChain q p b
denial_ends q p (Some kind) b is fits error under class = absurd (false≢true (sym (ap Rattle.std.specs.Prelude.is_none is) ∙ error))
denial_ends q p None (rows each) is fits error under class = absurd fits
denial_ends q p None (no_data soa) is fits error under class = absurd fits
denial_ends q p None (denied soa) is fits error under class = (under, class)

module _ (l : Look) (n : ℕ) (entries : List Held) (usable : AllByRecursion (IsUsable l n) entries) where
  use_of : (h : Held) → IsLiving n entries h → IsUsable l n h × (n < end_of h)
  use_of h living = (all_among (IsUsable l n) h entries usable living.among, ltb-true n (end_of h) living.alive)

  -- an entry of the question's slot serves the question
  typed_serves : (q : Question) (kind : ℕ) (h : Held) → IsTyped n entries q kind h → CanBeWrittenAt n h × Justified l q.name h × IsOf h.piece q.name q.class (Some kind)
  typed_serves q kind h typed =
      let asked : Slot = record { key = q.name; class = q.class; kind = Some kind } in
      let one = one_slot asked h.piece.slot typed.slot in
      let use_it = use_of h typed.living in
      (use_it.0.can_write, use_it.0.serves q.name use_it.1 (serving_respects_same l.config.routes q.name h.piece.slot.key one.name ∙ use_it.0.on_route), slot_turned asked h.piece.slot typed.slot)

  -- a name error above serves the question
  denial_serves : (q : Question) (h : Held) → IsDenial l.config.routes n entries q h → IsRightEnd l n q h
  denial_serves q h denial =
      let outer = and_parts (is_name_error h.piece && (q.class == h.piece.slot.class)) (is_under q.name h.piece.slot.key) denial.denies in
      let inner = and_parts (is_name_error h.piece) (q.class == h.piece.slot.class) outer.0 in
      let use_it = use_of h denial.living in (
        use_it.0.can_write,
        use_it.0.serves q.name use_it.1 (ap (serving l.config.routes) (sym denial.route) ∙ use_it.0.on_route),
        denial_ends q h.piece h.piece.slot.kind h.piece.body refl use_it.0.formed.body inner.0 ((is_under_decides q.name h.piece.slot.key).0 outer.1) (sym (eqb-true q.class h.piece.slot.class inner.1)),
      )

  fits_right : (q : Question) (f : Found) → Fits l.config.routes n entries q f → IsRightFind l n q f
  fits_right q found.local fits = tt
  fits_right q (found.rows h) fits = let serves = typed_serves q q.kind h fits.0 in (serves.0, serves.1, set_ends q h.piece h.piece.body fits.1 serves.2)
  fits_right q (found.alias h) fits = let serves = typed_serves q 5 h fits.0 in (serves.0, fits.2, serves.1, serves.2)
  fits_right q (found.no_data h) fits = let serves = typed_serves q q.kind h fits.0 in (serves.0, serves.1, no_data_ends q h.piece h.piece.body fits.1 serves.2)
  fits_right q (found.denied h) fits = denial_serves q h fits
  fits_right q miss fits = tt

  find_right : (q : Question) → IsRightFind l n q (found_in l.config.routes n entries q)
  find_right q = fits_right q (found_in l.config.routes n entries q) (found_fits l.config.routes n entries q)

  -- ---- a look-up

  -- the look-up's aliases, and the piece at their end
  pub record IsLed (q : Question) (v : LookUp) : Type 0 where
    pub can_write : AllByRecursion (CanBeWrittenAt n) v.held
    pub follows : FollowsAliases l q v.held v.wanted
    pub right_end : EndsRight l n v.wanted v.met

  one_more : (from q : Question) (held : List Held) (h : Held) (name : List (List ℕ)) → FollowsAliases l from held q → IsRightAlias l n q h → target_of h.piece.body ≡ Some name
      → FollowsAliases l from (held ++ h ∷ []) (asked_at q name)
  one_more from q held h name follows right leads = follows_append l from q (asked_at q name) held (h ∷ []) follows (right.1, right.2, right.3, name, alias_to h.piece name leads, refl)

  followed_right : (from q : Question) (held : List Held) (onward : Held → List (List ℕ) → LookUp) → AllByRecursion (CanBeWrittenAt n) held → FollowsAliases l from held q
      → ((h : Held) (name : List (List ℕ)) → IsRightAlias l n q h → target_of h.piece.body ≡ Some name → IsLed from (onward h name))
      → (f : Found) → IsRightFind l n q f → IsLed from (look_up_after held q onward f)
  followed_right from q held onward can_write follows go found.local right = record { can_write = can_write; follows = follows; right_end = tt }
  followed_right from q held onward can_write follows go (found.rows h) right = record { can_write = can_write; follows = follows; right_end = right }
  followed_right from q held onward can_write follows go (found.alias h) right = by (target_of h.piece.body) refl
    where
      by : (t : Option (List (List ℕ))) → target_of h.piece.body ≡ t → IsLed from (look_up_on held q onward h t)
      by None is = record { can_write = can_write; follows = follows; right_end = tt }
      by (Some name) is = go h name right is
  followed_right from q held onward can_write follows go (found.no_data h) right = record { can_write = can_write; follows = follows; right_end = right }
  followed_right from q held onward can_write follows go (found.denied h) right = record { can_write = can_write; follows = follows; right_end = right }
  followed_right from q held onward can_write follows go miss right = record { can_write = can_write; follows = follows; right_end = tt }

  pub look_up_right : (from : Question) (more : ℕ) (held : List Held) (q : Question) → AllByRecursion (CanBeWrittenAt n) held → FollowsAliases l from held q → IsLed from (look_up l.config.routes n entries more held q)
  look_up_right from zero held q can_write follows =
      followed_right from q held (one_too_many held q) can_write follows
      (λ h name right leads. record { can_write = All-append (CanBeWrittenAt n) held (h ∷ []) can_write (right.0, tt); follows = one_more from q held h name follows right leads; right_end = tt })
      (found_in l.config.routes n entries q) (find_right q)
  look_up_right from (suc more) held q can_write follows =
      followed_right from q held (λ h name. through h (look_up l.config.routes n entries more (held ++ h ∷ []) (asked_at q name))) can_write follows
      (λ h name right leads. let rest = look_up_right from more (held ++ h ∷ []) (asked_at q name) (All-append (CanBeWrittenAt n) held (h ∷ []) can_write (right.0, tt)) (one_more from q held h name follows right leads) in record { can_write = rest.can_write; follows = rest.follows; right_end = rest.right_end })
      (found_in l.config.routes n entries q) (find_right q)

-- ---- the number of aliases taken

sized_step : (held : List Held) (q : Question) (onward : Held → List (List ℕ) → LookUp) → length held ≤ 8 → ((h : Held) (name : List (List ℕ)) → IsSized (onward h name).met (length (onward h name).held))
    → (f : Found) → IsSized (look_up_after held q onward f).met (length (look_up_after held q onward f).held)
sized_step held q onward few go found.local = few
sized_step held q onward few go (found.rows h) = few
sized_step held q onward few go (found.alias h) = by (target_of h.piece.body)
  where
    by : (t : Option (List (List ℕ))) → IsSized (look_up_on held q onward h t).met (length (look_up_on held q onward h t).held)
    by None = few
    by (Some name) = go h name
sized_step held q onward few go (found.no_data h) = few
sized_step held q onward few go (found.denied h) = few
sized_step held q onward few go miss = few

-- a look-up from given aliases takes at most eight in all, or fails with nine
pub look_up_sized : (routes : List Route) (n : ℕ) (entries : List Held) (more : ℕ) (held : List Held) (q : Question) → more + length held ≡ 8
    → IsSized (look_up routes n entries more held q).met (length (look_up routes n entries more held q).held)
look_up_sized routes n entries zero held q is = sized_step held q (one_too_many held q) (omega (arith, is)) (λ h name. length-append held (h ∷ []) ∙ (omega (arith, is))) (found_in routes n entries q)
look_up_sized routes n entries (suc more) held q is =
    sized_step held q (λ h name. through h (look_up routes n entries more (held ++ h ∷ []) (asked_at q name))) (omega (arith, is))
    (λ h name. look_up_sized routes n entries more (held ++ h ∷ []) (asked_at q name) (ap (λ (k : ℕ). more + k) (length-append held (h ∷ [])) ∙ (omega (arith, is)))) (found_in routes n entries q)

-- ---- a held alias stays held

more_held : (held : List Held) (q : Question) (onward : Held → List (List ℕ) → LookUp) → 1 ≤ length held → ((h : Held) (name : List (List ℕ)) → 1 ≤ length (onward h name).held) → (f : Found) → 1 ≤ length (look_up_after held q onward f).held
more_held held q onward some go found.local = some
more_held held q onward some go (found.rows h) = some
more_held held q onward some go (found.alias h) = by (target_of h.piece.body)
  where
    by : (t : Option (List (List ℕ))) → 1 ≤ length (look_up_on held q onward h t).held
    by None = some
    by (Some name) = go h name
more_held held q onward some go (found.no_data h) = some
more_held held q onward some go (found.denied h) = some
more_held held q onward some go miss = some

one_held : (held : List Held) (h : Held) → 1 ≤ length (held ++ h ∷ [])
one_held held h = let longer = length-append held (h ∷ []) in omega (arith, longer)

pub still_held : (routes : List Route) (n : ℕ) (entries : List Held) (more : ℕ) (held : List Held) (q : Question) → 1 ≤ length held → 1 ≤ length (look_up routes n entries more held q).held
still_held routes n entries zero held q some = more_held held q (one_too_many held q) some (λ h name. one_held held h) (found_in routes n entries q)
still_held routes n entries (suc more) held q some =
    more_held held q (λ h name. through h (look_up routes n entries more (held ++ h ∷ []) (asked_at q name))) some
    (λ h name. still_held routes n entries more (held ++ h ∷ []) (asked_at q name) (one_held held h)) (found_in routes n entries q)

-- ---- equal look-ups

-- if look-ups at a name agree, so do look-ups along aliases
pub same_look_ups : (routes : List Route) (n : ℕ) (entries others : List Held) → ((q : Question) → found_in routes n entries q ≡ found_in routes n others q)
    → (more : ℕ) (held : List Held) (q : Question) → look_up routes n entries more held q ≡ look_up routes n others more held q
same_look_ups routes n entries others same zero held q = ap (look_up_after held q (one_too_many held q)) (same q)
same_look_ups routes n entries others same (suc more) held q =
    (λ i. look_up_after held q (λ h name. through h (same_look_ups routes n entries others same more (held ++ h ∷ []) (asked_at q name) i)) (same q i))

-- promotions change no look-up, and keep `AreHeld`
pub promotions_keep : (routes : List Route) (n capacity : ℕ) (used : List Slot) (entries : List Held) → AreHeld (record { capacity = capacity; entries = entries })
    → AreHeld (record { capacity = capacity; entries = promoted_all used entries }) × ((q : Question) → found_in routes n (promoted_all used entries) q ≡ found_in routes n entries q)
promotions_keep routes n capacity [] entries held = (held, λ q. refl)
promotions_keep routes n capacity (slot ∷ used) entries held =
    let rest = promotions_keep routes n capacity used (promoted slot entries) (promoted_are_held capacity slot entries held) in
    (rest.0, λ q. rest.1 q ∙ promotion_keeps_found routes n capacity entries q slot held)

-- equal questions are looked up alike
pub record AreAlike (v w : LookUp) : Type 0 where
  pub held : v.held ≡ w.held
  pub met : v.met ≡ w.met

found_alike : (routes : List Route) (n : ℕ) (entries : List Held) (q other : Question) → IsSameQuestion q other → found_in routes n entries q ≡ found_in routes n entries other
found_alike routes n entries q other same =
    equal_questions_find_the_same routes n entries q.kind q.class q.name other.name same.name
    ∙ (λ i. found_in routes n entries (record { name = other.name; kind = same.kind i; class = same.class i }))

alike_step : (held : List Held) (q other : Question) (onward onward' : Held → List (List ℕ) → LookUp) → ((h : Held) (name : List (List ℕ)) → AreAlike (onward h name) (onward' h name))
    → (f : Found) → AreAlike (look_up_after held q onward f) (look_up_after held other onward' f)
alike_step held q other onward onward' go found.local = record { held = refl; met = refl }
alike_step held q other onward onward' go (found.rows h) = record { held = refl; met = refl }
alike_step held q other onward onward' go (found.alias h) = by (target_of h.piece.body)
  where
    by : (t : Option (List (List ℕ))) → AreAlike (look_up_on held q onward h t) (look_up_on held other onward' h t)
    by None = record { held = refl; met = refl }
    by (Some name) = go h name
alike_step held q other onward onward' go (found.no_data h) = record { held = refl; met = refl }
alike_step held q other onward onward' go (found.denied h) = record { held = refl; met = refl }
alike_step held q other onward onward' go miss = record { held = refl; met = refl }

pub look_ups_alike : (routes : List Route) (n : ℕ) (entries : List Held) (more : ℕ) (held : List Held) (q other : Question) → IsSameQuestion q other
    → AreAlike (look_up routes n entries more held q) (look_up routes n entries more held other)
look_ups_alike routes n entries zero held q other same =
    subst (λ (f : Found). AreAlike (look_up routes n entries zero held q) (look_up_after held other (one_too_many held other) f)) (found_alike routes n entries q other same)
    (alike_step held q other (one_too_many held q) (one_too_many held other) (λ h name. record { held = refl; met = refl }) (found_in routes n entries q))
look_ups_alike routes n entries (suc more) held q other same =
    subst (λ (f : Found). AreAlike (look_up routes n entries (suc more) held q) (look_up_after held other (λ h name. through h (look_up routes n entries more (held ++ h ∷ []) (asked_at other name))) f)) (found_alike routes n entries q other same)
    (alike_step held q other (λ h name. through h (look_up routes n entries more (held ++ h ∷ []) (asked_at q name))) (λ h name. through h (look_up routes n entries more (held ++ h ∷ []) (asked_at other name)))
    (λ h name.
    let z : look_up routes n entries more (held ++ h ∷ []) (asked_at q name) ≡ look_up routes n entries more (held ++ h ∷ []) (asked_at other name) = λ i. look_up routes n entries more (held ++ h ∷ []) (record { name = name; kind = same.kind i; class = same.class i }) in
    record { held = ap (λ (v : LookUp). v.held) z; met = ap (λ (v : LookUp). v.met) z })
    (found_in routes n entries q))
