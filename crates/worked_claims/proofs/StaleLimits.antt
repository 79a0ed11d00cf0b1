-- The limits of expired chains, computed: eight aliases in all, and not nine; and a replaced set is
-- not sent.
use Rattle.std.proofs.Common.{◌≡◌, ℕ, ◌≤◌, ◌++◌, zero, suc, List, [], ◌∷◌, refl, ap, subst}
use Rattle.std.proofs.Common.{inl, inr, arith}
use Rattle.dns_message.specs.Names.{step as name_step, walk_in, name_within}
use Rattle.dns_message.specs.Data.{name_of_rdata}
use Rattle.dns_message.specs.Values.{Question}
use Rattle.suffix_routes.specs.Routes.{route_of}
use Rattle.record_cache.specs.Values.{Held}
use Rattle.step_values.specs.Values.{from_client, tick, ask_udp, Step}
use Rattle.step_history.specs.History.{Look}
use Rattle.step_history.specs.Carried.{CarriedInEra, NotReplaced}
use Rattle.step_history.proofs.CallerLemmas.{alias_to}
use Rattle.cache_laws.proofs.CallerLemmas.{serves_exactly, replaces_exactly, keeps_place}
use Rattle.step_history.specs.Stale.{JustifiedStale, FollowsStale, StaleChain}
use Rattle.step_table.proofs.Played.{a, address, server}
use Rattle.worked_claims.proofs.Texts.{question_text, client, step_of}
use Rattle.worked_claims.proofs.Silent.{nothing_heard}
use Rattle.worked_claims.proofs.Carried.{one_era}
use Rattle.worked_claims.proofs.Accepted.{asked, answered, held, carried_before, carried_now}
use Rattle.worked_claims.proofs.Aliases as aliases
use Rattle.worked_claims.proofs.SecondReply.{c, heard_again, five_seconds, newer, second_carries}

-- ---- eight aliases in all

-- a.e was an alias of itself, and then has an address
abbrev looped : List Step
looped = heard_again 1040 ∷ aliases.redirected ∷ asked ∷ []

loops_carried : CarriedInEra c (aliases.redirected ∷ asked ∷ []) (aliases.loops 8)
loops_carried = inr (inr (
  refl,
  aliases.alias ∷ aliases.alias ∷ aliases.alias ∷ aliases.alias ∷ aliases.alias ∷ aliases.alias ∷ aliases.alias
      ∷ aliases.alias ∷ [],
  [],
  aliases.carries 1 600,
  carried_before 1 600,
  refl,
))

looped_carried : CarriedInEra c looped (newer 1040 ∷ aliases.loops 8)
looped_carried = inr (inr (
  refl,
  five_seconds ∷ [],
  aliases.loops 8,
  second_carries 1040 1020 (aliases.redirected ∷ asked ∷ []) refl (omega arith),
  loops_carried,
  refl,
))

-- then time passes
abbrev waits : Step
waits = step_of 70000 [] tick []

abbrev seen_looped : Look
seen_looped = record { config = c; asked = asked; before = []; now = waits ∷ looped }

looped_until_now : CarriedInEra c (waits ∷ looped) (newer 1040 ∷ aliases.loops 8)
looped_until_now = inr (inl (refl, nothing_heard c waits looped refl, looped_carried))

loop_past_its_end : JustifiedStale seen_looped a aliases.loop
unfolding route_of
loop_past_its_end = record {
  old = newer 1040 ∷ aliases.loops 8;
  new = [];
  carried_before = looped_carried;
  carried_now = looped_until_now;
  came_before = inr (inl refl);
  not_replaced = inr (keeps_place five_seconds aliases.alias refl, inl refl);
  on_route = serves_exactly.only c a 0 refl;
  is_set = tt;
  has_lifetime = omega arith;
  within = omega arith;
}

address_past_its_end : JustifiedStale seen_looped a (newer 1040)
unfolding route_of
address_past_its_end = record {
  old = newer 1040 ∷ aliases.loops 8;
  new = [];
  carried_before = looped_carried;
  carried_now = looped_until_now;
  came_before = inl refl;
  not_replaced = inl refl;
  on_route = serves_exactly.only c a 0 refl;
  is_set = tt;
  has_lifetime = omega arith;
  within = omega arith;
}

one_more : (os : List Held) → FollowsStale seen_looped (address a) os (address a)
    → FollowsStale seen_looped (address a) (aliases.loop ∷ os) (address a)
unfolding name_of_rdata name_within walk_in name_step
one_more os rest = (
  aliases.no_alias_asked,
  loop_past_its_end,
  record { name = refl; class = refl; kind = refl },
  a,
  alias_to aliases.alias a refl,
  rest,
)

so_many : (n : ℕ) → FollowsStale seen_looped (address a) (aliases.loops n) (address a)
so_many zero = refl
so_many (suc n) = one_more (aliases.loops n) (so_many n)

eight_past_their_ends : StaleChain seen_looped [] (address a) (aliases.loops 8) (newer 1040)
eight_past_their_ends = record {
  last = address a;
  follows = so_many 8;
  few = omega arith;
  justified = address_past_its_end;
  slot = record { name = refl; class = refl; kind = refl };
}

five_behind_three_that_are_held : StaleChain seen_looped (aliases.loops 3) (address a) (aliases.loops 5) (newer 1040)
five_behind_three_that_are_held = record {
  last = address a;
  follows = so_many 5;
  few = omega arith;
  justified = address_past_its_end;
  slot = record { name = refl; class = refl; kind = refl };
}

nine_past_their_ends : (l : Look) (q : Question) (o : Held) → StaleChain l [] q (aliases.loops 9) o → ⊥
nine_past_their_ends l q o h = let few : 9 ≤ 8 = h.few in omega (arith, few)

five_behind_four_that_are_held : (l : Look) (q : Question) (o : Held)
    → StaleChain l (aliases.loops 4) q (aliases.loops 5) o → ⊥
five_behind_four_that_are_held l q o h = let few : 9 ≤ 8 = h.few in omega (arith, few)

-- ---- a replaced set

-- the address expired, and came again for 5 seconds; then all tries fail
abbrev renews : Step
renews = step_of 62000 (1048592 ∷ []) (from_client client (question_text 7 1))
    (ask_udp 1040 server (question_text 16 1) ∷ [])

abbrev renewed : List Step
renewed = heard_again 62020 ∷ renews ∷ answered ∷ asked ∷ []

abbrev seen_renewed : Look
seen_renewed = record { config = c; asked = renews; before = answered ∷ asked ∷ []; now = waits ∷ renewed }

abbrev two_sets : List Held
two_sets = newer 62020 ∷ held ∷ []

renewed_carried : CarriedInEra c renewed two_sets
renewed_carried = inr (inr (
  refl,
  five_seconds ∷ [],
  held ∷ [],
  second_carries 62020 62000 (renews ∷ answered ∷ asked ∷ []) refl (omega arith),
  inr (inl (refl, nothing_heard c renews (answered ∷ asked ∷ []) refl, carried_now 1 600)),
  refl,
))

renewed_until_now : CarriedInEra c (waits ∷ renewed) two_sets
renewed_until_now = inr (inl (refl, nothing_heard c waits renewed refl, renewed_carried))

the_newer_set : JustifiedStale seen_renewed a (newer 62020)
unfolding route_of
the_newer_set = record {
  old = two_sets;
  new = [];
  carried_before = renewed_carried;
  carried_now = renewed_until_now;
  came_before = inl refl;
  not_replaced = inl refl;
  on_route = serves_exactly.only c a 0 refl;
  is_set = tt;
  has_lifetime = omega arith;
  within = omega arith;
}

-- the older set fails by its replacement alone
not_the_older_set : JustifiedStale seen_renewed a held → ⊥
not_the_older_set j = by (subst (NotReplaced held)
    (one_era c (waits ∷ renewed) (j.new ++ j.old) two_sets (tt, tt) j.carried_now renewed_until_now) j.not_replaced)
  where
    by : NotReplaced held two_sets → ⊥
    by (inl same) = let moments : 62020 ≡ 1020 = ap (λ (o : Held). o.accepted) same in omega (arith, moments)
    by (inr behind) = behind.0 (replaces_exactly.only five_seconds held.piece refl)

but_for_its_place : NotReplaced held two_sets → JustifiedStale seen_renewed a held
unfolding route_of
but_for_its_place not_replaced = record {
  old = two_sets;
  new = [];
  carried_before = renewed_carried;
  carried_now = renewed_until_now;
  came_before = inr (inl refl);
  not_replaced = not_replaced;
  on_route = serves_exactly.only c a 0 refl;
  is_set = tt;
  has_lifetime = omega arith;
  within = omega arith;
}
