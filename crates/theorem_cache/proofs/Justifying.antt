-- A justified piece stays justified, aliases lead on after aliases, and kept or newly carried
-- pieces are justified.
use Rattle.std.proofs.Common.{◌≡◌, ◌⊎◌, ℕ, zero, suc, ◌<◌, ◌≤◌, List, [], ◌∷◌, ◌++◌, take, false, refl, sym, ap, subst, inl, inr, ⊎_elim, arith, Some}
use Rattle.std.specs.Prelude.{map}
use Rattle.suffix_routes.specs.Values.{Config}
use Rattle.dns_message.specs.Values.{Question}
use Rattle.trust_rank.specs.Values.{Piece}
use Rattle.record_cache.specs.Values.{Held}
use Rattle.record_cache.specs.Ageing.{end_of}
use Rattle.record_cache.specs.Laws.{Among}
use Rattle.step_values.specs.Values.{Step}
use Rattle.suffix_routes.specs.Serving.{serving_route_of}
use Rattle.step_history.proofs.CacheLaws.CallerLemmas.{serves_exactly}
use Rattle.step_history.specs.History.{is_restart, moment_at, InEra, Look, Carries}
use Rattle.step_history.specs.Carried.{then_carried, CarriedInEra, NotReplaced, Justified}
use Rattle.step_history.specs.Answers.{FollowsAliases}
use Rattle.dns_message.specs.Questions.{asked_at}
use Rattle.step_history.proofs.CallerLemmas.{then_carried-append, carried_since, moment_later}
use Rattle.alias_chains.specs.Offering.{held_at}
use Rattle.theorem_cache.specs.Chains.{look_from, GoesOn}
use Rattle.theorem_cache.specs.Laws.{LeadsStayLeads}

-- ---- a step later

among_older : (t : ℕ) (ps : List Piece) (o : Held) (os : List Held) → Among o os → Among o (then_carried t ps os)
among_older t [] o os h = h
among_older t (p ∷ ps) o os h = among_older t ps o (record { piece = p; accepted = t } ∷ os) (inr h)

pub justified_later : (c : Config) (asked s : Step) (before now : List Step) (name : List (List ℕ)) (o : Held) → GoesOn c s now
    → Justified (look_from c asked before now) name o → Justified (look_from c asked before (s ∷ now)) name o
justified_later c asked s before now name o (run, inl nothing) j = record {
  old = j.old;
  new = j.new;
  carried_before = j.carried_before;
  carried_now = inr (inl (run, nothing, j.carried_now));
  on_route = j.on_route;
  counts = j.counts;
}
justified_later c asked s before now name o (run, inr carried) j = record {
  old = j.old;
  new = then_carried t carried.0 j.new;
  carried_before = j.carried_before;
  carried_now = inr (inr (run, carried.0, j.new ++ j.old, carried.1, j.carried_now, sym (then_carried-append t carried.0 j.new j.old)));
  on_route = j.on_route;
  counts = ⊎_elim (λ (k : NotReplaced o j.old × (moment_at (asked ∷ before) < end_of o)). inl k) (λ (a : Among o j.new). inr (among_older t carried.0 o j.new a)) j.counts;
}
  where
    t : ℕ
    t = moment_at (s ∷ now)

pub follows_later : (c : Config) (asked s : Step) (before now : List Step) → GoesOn c s now → (q : Question) (os : List Held) (last : Question)
    → FollowsAliases (look_from c asked before now) q os last → FollowsAliases (look_from c asked before (s ∷ now)) q os last
follows_later c asked s before now on q [] last h = h
follows_later c asked s before now on q (o ∷ os) last h =
    (h.0, justified_later c asked s before now q.name o on h.1, h.2, h.3, h.4, follows_later c asked s before now on (asked_at q h.3) os last h.5)

pub leads_stay_leads : LeadsStayLeads
leads_stay_leads c asked s before now q os last on h = record { few = h.few; follows = follows_later c asked s before now on q os last h.follows }

-- ---- aliases after aliases

pub follows_append : (l : Look) (q mid last : Question) (os more : List Held) → FollowsAliases l q os mid → FollowsAliases l mid more last → FollowsAliases l q (os ++ more) last
follows_append l q mid last [] more h k = subst (λ (x : Question). FollowsAliases l x more last) h k
follows_append l q mid last (o ∷ os) more h k = (h.0, h.1, h.2, h.3, h.4, follows_append l (asked_at q h.3) mid last os more h.5 k)

-- the first of them lead somewhere
pub follows_first : (l : Look) (k : ℕ) (q last : Question) (os : List Held) → FollowsAliases l q os last → (mid : Question) × FollowsAliases l q (take k os) mid
follows_first l zero q last os h = (q, refl)
follows_first l (suc k) q last [] h = (q, refl)
follows_first l (suc k) q last (o ∷ os) h =
    let rest = follows_first l k (asked_at q h.3) last os h.5 in
    (rest.0, (h.0, h.1, h.2, h.3, h.4, rest.1))

-- ---- kept pieces

not_replaced_since : (o : Held) (new os : List Held) → NotReplaced o (new ++ os) → Among o new ⊎ NotReplaced o os
not_replaced_since o [] os h = inr h
not_replaced_since o (x ∷ new) os (inl here) = inl (inl here)
not_replaced_since o (x ∷ new) os (inr h) = ⊎_elim (λ (a : Among o new). inl (inr a)) (λ (k : NotReplaced o os). inr k) (not_replaced_since o new os h.1)

moments_of_era : (upto now : List Step) → InEra upto now → moment_at upto ≤ moment_at now
moments_of_era upto [] era = absurd era
moments_of_era upto (s ∷ past) (inl here) = let e : moment_at upto ≡ moment_at (s ∷ past) = ap moment_at here in omega (arith, e)
moments_of_era upto (s ∷ past) (inr later) =
    let a : moment_at upto ≤ moment_at past = moments_of_era upto past later.1 in
    let b : moment_at past ≤ moment_at (s ∷ past) = moment_later s past later.0 in
    omega (arith, a, b)

-- a carried piece, not replaced and alive now, serves each question of the era for a name on its
-- route
pub kept_is_justified : (c : Config) (asked : Step) (before now : List Step) (name : List (List ℕ)) (all : List Held) (o : Held)
    → InEra (asked ∷ before) now → CarriedInEra c now all → NotReplaced o all → moment_at now < end_of o → serving_route_of c name ≡ Some o.piece.route → Justified (look_from c asked before now) name o
kept_is_justified c asked before now name all o era carried kept alive route =
    let since = carried_since c (asked ∷ before) now all era carried in
    let low : moment_at (asked ∷ before) ≤ moment_at now = moments_of_era (asked ∷ before) now era in
    let then : moment_at (asked ∷ before) < end_of o = omega (arith, low, alive) in
    record {
      old = since.0;
      new = since.1;
      carried_before = since.2;
      carried_now = subst (CarriedInEra c now) since.3 carried;
      on_route = serves_exactly.only c name o.piece.route route;
      counts = ⊎_elim (λ (a : Among o since.1). inr a) (λ (k : NotReplaced o since.0). inl (k, then)) (not_replaced_since o since.1 since.0 (subst (NotReplaced o) since.3 kept));
    }

-- ---- newly carried pieces

among_newest : (t : ℕ) (ps : List Piece) (o : Held) (os : List Held) → Among o (map (held_at t) ps) → Among o (then_carried t ps os)
among_newest t [] o os h = absurd h
among_newest t (p ∷ ps) o os (inl here) = among_older t ps o (record { piece = p; accepted = t } ∷ os) (inl here)
among_newest t (p ∷ ps) o os (inr h) = among_newest t ps o (record { piece = p; accepted = t } ∷ os) h

-- a piece carried by the newest step serves each question of the era for a name on its route
pub new_is_justified : (c : Config) (asked s : Step) (before past : List Step) (ps : List Piece) (os : List Held) (name : List (List ℕ)) (o : Held)
    → InEra (asked ∷ before) past → is_restart s ≡ false → Carries c s past ps → CarriedInEra c past os → Among o (map (held_at (moment_at (s ∷ past))) ps)
    → serving_route_of c name ≡ Some o.piece.route → Justified (look_from c asked before (s ∷ past)) name o
new_is_justified c asked s before past ps os name o era run carries carried among route =
    let since = carried_since c (asked ∷ before) past os era carried in
    let t : ℕ = moment_at (s ∷ past) in
    record {
      old = since.0;
      new = then_carried t ps since.1;
      carried_before = since.2;
      carried_now = inr (inr (run, ps, since.1 ++ since.0, carries, subst (CarriedInEra c past) since.3 carried, sym (then_carried-append t ps since.1 since.0)));
      on_route = serves_exactly.only c name o.piece.route route;
      counts = inr (among_newest t ps o since.1 among);
    }
