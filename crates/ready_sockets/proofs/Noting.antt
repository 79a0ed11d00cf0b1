-- Sockets that were noted as ready stay noted where more are.
use Rattle.std.proofs.Common.{◌≡◌, refl, ℕ, ◌<◌, inl, inr, List, [], ◌∷◌, ◌∙◌, subst, sym, true}
use Rattle.std.proofs.Common.{arith}
use Rattle.std.proofs.lemmas.Bool.{cases_order}
use Rattle.std.proofs.lemmas.Bool.Decides.{nat_tests}
use Rattle.std.proofs.lemmas.Grind.{common_steps}
use Rattle.std.specs.BTreeSet.{insert_key}
use Rattle.std.specs.Ordering.{nat_cmp}
use Rattle.ready_sockets.specs.declared.origin.Origin.{Origin}
use Rattle.ready_sockets.specs.declared.origin.Origin.TheVariants.{Datagrams, Connections, Client}
use Rattle.ready_sockets.specs.declared.origin.Origin.TheVariants.{Ask, Server}
use Rattle.ready_sockets.specs.declared.readiness.Tokens.{Tokens}
use Rattle.ready_sockets.specs.declared.readiness.Ready.{Ready}
use Rattle.ready_sockets.specs.Trying.{Gains, InServers, InStreams, IsAmong, Noted, NotedStay}
use Rattle.ready_sockets.specs.Trying.{TokensStay}
use Rattle.ready_sockets.specs.Tokens.{token_of}

inserts_before : (first new : ℕ) (keys : List ℕ) → new < first
    → insert_key nat_cmp (first ∷ keys) new ≡ new ∷ first ∷ keys
inserts_before first new keys h = grind (arith, nat_tests, common_steps)

inserts_none : (first new : ℕ) (keys : List ℕ) → new ≡ first → insert_key nat_cmp (first ∷ keys) new
    ≡ first ∷ keys
inserts_none first new keys h = grind (arith, nat_tests, common_steps)

inserts_behind : (first new : ℕ) (keys : List ℕ) → first < new
    → insert_key nat_cmp (first ∷ keys) new ≡ first ∷ insert_key nat_cmp keys new
inserts_behind first new keys h = grind (arith, nat_tests, common_steps)

pub among_with : (token new : ℕ) (keys : List ℕ) → IsAmong token keys
    → IsAmong token (insert_key nat_cmp keys new)
among_with token new [] among = absurd among
among_with token new (first ∷ keys) among = elim (cases_order new first) [
  | inl same ↦ subst (IsAmong token) (sym (inserts_none first new keys same)) among
  | inr order ↦ elim order [
    | inl less ↦ subst (IsAmong token) (sym (inserts_before first new keys less)) (inr among)
    | inr more ↦
        subst (IsAmong token) (sym (inserts_behind first new keys more))
        (elim among [ inl is ↦ inl is | inr behind ↦ inr (among_with token new keys behind) ])
  ]
]

pub tokens_stay : {A : Type 0} (tokens_before : Tokens A) → TokensStay tokens_before tokens_before
tokens_stay tokens_before = record { last = refl; tokens = λ token among. among }

pub tokens_more : {A : Type 0} (token : ℕ) (first before after : Tokens A) → TokensStay first before
    → Gains token before after → TokensStay first after
tokens_more token first before after so_far gains = record {
  last = gains.last ∙ so_far.last;
  tokens = λ other among. elim gains.tokens [
    | inl more ↦
        subst (IsAmong other) (sym more)
        (among_with other token before.tokens.keys (so_far.tokens other among))
    | inr same ↦ subst (IsAmong other) (sym same) (so_far.tokens other among)
  ];
}

pub noted_stay : {A : Type 0} (ready : Ready A) → NotedStay ready ready
noted_stay ready = record {
  datagrams = λ is. is;
  streams = tokens_stay ready.streams;
  servers = tokens_stay ready.servers;
}

in_streams : {A : Type 0} (token : ℕ) (first before after : Ready A) → NotedStay first before
    → InStreams (Gains token) before after → NotedStay first after
in_streams token first before after so_far more = record {
  datagrams = λ is. more.1 ∙ so_far.datagrams is;
  streams = tokens_more token first.streams before.streams after.streams so_far.streams more.0;
  servers = subst (TokensStay first.servers) (sym more.2) so_far.servers;
}

in_servers : {A : Type 0} (token : ℕ) (first before after : Ready A) → NotedStay first before
    → InServers (Gains token) before after → NotedStay first after
in_servers token first before after so_far more = record {
  datagrams = λ is. more.1 ∙ so_far.datagrams is;
  streams = subst (TokensStay first.streams) (sym more.2) so_far.streams;
  servers = tokens_more token first.servers before.servers after.servers so_far.servers more.0;
}

-- One socket more is noted.
pub noted_more : {A : Type 0} (origin : Origin) (first before after : Ready A)
    → NotedStay first before
    → Noted origin before after → NotedStay first after
noted_more Datagrams first before after so_far more =
    let noted : NotedStay first (record before { datagrams = true }) =
    record { datagrams = λ is. refl; streams = so_far.streams; servers = so_far.servers }
    in
    subst (NotedStay first) (sym more) noted
noted_more Connections first before after so_far more = in_streams (token_of Connections) first
    before after so_far more
noted_more (Client conn) first before after so_far more =
    in_streams (token_of (Client conn)) first before after so_far more
noted_more (Ask port) first before after so_far more = in_servers (token_of (Ask port)) first before
    after so_far more
noted_more (Server conn) first before after so_far more =
    in_servers (token_of (Server conn)) first before after so_far more

-- Sockets that were noted stay noted where others are noted after them.
tokens_stay_on : {A : Type 0} (first before after : Tokens A) → TokensStay first before
    → TokensStay before after → TokensStay first after
tokens_stay_on first before after so_far more = record {
  last = more.last ∙ so_far.last;
  tokens = λ token among. more.tokens token (so_far.tokens token among);
}

pub noted_stay_on : {A : Type 0} (first before after : Ready A) → NotedStay first before
    → NotedStay before after → NotedStay first after
noted_stay_on first before after so_far more = record {
  datagrams = λ is. more.datagrams (so_far.datagrams is);
  streams = tokens_stay_on first.streams before.streams after.streams so_far.streams more.streams;
  servers = tokens_stay_on first.servers before.servers after.servers so_far.servers more.servers;
}
