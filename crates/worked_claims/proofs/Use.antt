-- Answers at once, computed: from a standing denial, of the question's type or of the whole name,
-- until expired, and from nothing else. With the question asked again, standing pieces were not
-- used.
use Rattle.std.proofs.Common.{ℕ, List, [], ◌∷◌, Bool, Some, false, refl, sym, ap, inl, inr, arith}
use Rattle.std.specs.Prelude.{not, is_none}
use Rattle.std.proofs.lemmas.Bool.{true≢false}
use Rattle.dns_message.specs.Data.{name_of_rdata}
use Rattle.dns_message.specs.Names.{step as name_step, walk_in, name_within}
use Rattle.dns_message.specs.Records.{octets_end, question_at}
use Rattle.dns_message.specs.Messages.{first_question}
use Rattle.dns_message.specs.Values.{Question}
use Rattle.suffix_routes.specs.Routes.{route_of}
use Rattle.trust_rank.specs.Values.{rows}
use Rattle.record_cache.specs.Values.{Held}
use Rattle.step_values.specs.Values.{Action, reply_in_action, from_client, ask_udp, Step}
use Rattle.step_table.proofs.Played.{a, b, name_data, address, server, config}
use Rattle.theorem_use.specs.Standing.{standing}
use Rattle.theorem_use.specs.Use.{HasRoom, AsksToLookUp, LeadsToEnd, UsesWhatStands}
use Rattle.theorem_use.proofs.TheoremSound.Served.{served_is}
use Rattle.cache_laws.proofs.CallerLemmas.{serves_exactly}
use Rattle.worked_claims.proofs.Texts.{with_flags, question_text, client, step_of}
use Rattle.worked_claims.proofs.Accepted.{asked}
use Rattle.worked_claims.proofs.Brought.{looks_up}
use Rattle.worked_claims.proofs.ServerDenials.{there_is_none, is_not_there, no_address, name_error, none_carried}
use Rattle.worked_claims.proofs.ServerDenials.{error_carried}

-- ---- the pieces ending a look-up among standing pieces

abbrev Known : ℕ → List Held → Question → Type 0
Known n carried q = LeadsToEnd config.routes n (standing n carried) 8 q

-- at a.e for this type, or in this class
abbrev of_type : ℕ → Question
of_type kind = record (address a) { kind = kind }

abbrev of_class : ℕ → Question
of_class class = record (address a) { class = class }

-- NODATA came at 1020 for 30 seconds
no_data_is_known : Known 31019 (no_address ∷ []) (address a)
unfolding route_of
no_data_is_known = tt

no_data_has_ended : Known 31020 (no_address ∷ []) (address a) → ⊥
unfolding route_of
no_data_has_ended known = known

no_data_of_another_type : Known 2000 (no_address ∷ []) (of_type 28) → ⊥
unfolding route_of
no_data_of_another_type known = known

no_data_of_another_class : Known 2000 (no_address ∷ []) (of_class 3) → ⊥
unfolding route_of
no_data_of_another_class known = known

-- a name error came as well, for each type and for each name under its own
an_error_is_known : Known 31019 (name_error ∷ []) (address a) × Known 31019 (name_error ∷ []) (of_type 28)
    × Known 31019 (name_error ∷ []) (address ((98 ∷ []) ∷ a))
unfolding route_of
an_error_is_known = (tt, tt, tt)

an_error_has_ended : Known 31020 (name_error ∷ []) (address a) → ⊥
unfolding route_of
an_error_has_ended known = known

an_error_of_another_class : Known 2000 (name_error ∷ []) (of_class 3) → ⊥
unfolding route_of
an_error_of_another_class known = known

an_error_of_a_sibling : Known 2000 (name_error ∷ []) (address b) → ⊥
unfolding route_of
an_error_of_a_sibling known = known

-- after an alias of b.e too
abbrev alias : Held
alias = record {
  piece = record {
    owner = b;
    slot = record { key = b; class = 1; kind = Some 5 };
    body = rows (name_data 97 ∷ []);
    lifetime = 60;
    rank = 3;
    route = 0;
  };
  accepted = 1020;
}

behind_an_alias : Known 2000 (alias ∷ no_address ∷ []) (address b) × Known 2000 (alias ∷ name_error ∷ []) (address b)
unfolding name_of_rdata name_within walk_in name_step route_of
behind_an_alias = (tt, tt)

nothing_behind_an_alias : Known 2000 (alias ∷ []) (address b) → ⊥
unfolding name_of_rdata name_within walk_in name_step route_of
nothing_behind_an_alias known = known

-- ---- asked for again

-- the client asks again at 2000, with these actions
abbrev again : List Action → Step
again actions = step_of 2000 (1048592 ∷ []) (from_client client (question_text 7 1)) actions

-- a server is asked
abbrev asks_on : List Action
asks_on = ask_udp 1040 server (question_text 16 1) ∷ []

room_for_none : HasRoom config (there_is_none ∷ asked ∷ []) (no_address ∷ [])
room_for_none = record {
  slots = record { slots = no_address.piece.slot ∷ []; few = omega arith; each = (inl refl, tt) };
  memory = inr (refl, inr (refl, tt));
}

room_for_error : HasRoom config (is_not_there ∷ asked ∷ []) (name_error ∷ [])
room_for_error = record {
  slots = record { slots = name_error.piece.slot ∷ []; few = omega arith; each = (inl refl, tt) };
  memory = inr (refl, inr (refl, tt));
}

abbrev is_reply : List Action → Bool
is_reply [] = false
is_reply (x ∷ more) = not (is_none (reply_in_action x))

-- a known question gets a reply, and is not sent on
a_known_denial_is_used : (w : List (List ℕ)) (is : List ℕ)
    → UsesWhatStands config (again asks_on ∷ there_is_none ∷ asked ∷ []) (is ∷ w) → ⊥
unfolding route_of
a_known_denial_is_used w is uses =
    let looks = looks_up (again asks_on) 7 refl in
    let once = uses.1 client (address a) (no_address ∷ []) looks none_carried room_for_none tt in
    true≢false (sym (ap is_reply once.actions))

a_known_error_is_used : (w : List (List ℕ)) (is : List ℕ)
    → UsesWhatStands config (again asks_on ∷ is_not_there ∷ asked ∷ []) (is ∷ w) → ⊥
unfolding route_of
a_known_error_is_used w is uses =
    let looks = looks_up (again asks_on) 7 refl in
    let once = uses.1 client (address a) (name_error ∷ []) looks error_carried room_for_error tt in
    true≢false (sym (ap is_reply once.actions))

-- ---- asked for again without RD

-- the question with all flags clear (RFC 1035 4.1.1)
abbrev plain_text : List ℕ
plain_text = with_flags 7 0 0 1

abbrev again_plainly : List Action → Step
again_plainly actions = step_of 2000 (1048592 ∷ []) (from_client client plain_text) actions

looks_up_plainly : (actions : List Action) → AsksToLookUp config (again_plainly actions) client (address a)
unfolding first_question question_at octets_end name_within walk_in name_step route_of
looks_up_plainly actions = record {
  octets = plain_text;
  sends = refl;
  taken = refl;
  opcode = refl;
  reads = refl;
  served = served_is (address a) refl;
  route = 0;
  on_route = serves_exactly.only config a 0 refl;
}

-- the standing denial is used without RD, too
a_known_denial_is_used_without_rd : (w : List (List ℕ)) (is : List ℕ)
    → UsesWhatStands config (again_plainly asks_on ∷ there_is_none ∷ asked ∷ []) (is ∷ w) → ⊥
unfolding route_of
a_known_denial_is_used_without_rd w is uses =
    let once = uses.1 client (address a) (no_address ∷ []) (looks_up_plainly asks_on) none_carried room_for_none tt in
    true≢false (sym (ap is_reply once.actions))
