-- `Tried`, the facts about a listed ask, computed for the second ask of an inquiry: the first ask
-- failed, and the next server was asked. Neighbours count a try less or more, or have a wrong
-- identifier, route or server, or a question with a type above 16 bits.
use Rattle.std.proofs.Common.{◌≡◌, ℕ, ◌<◌, ◌≤◌, List, [], ◌∷◌, false, Option, Some, refl, ap, subst, inl, inr}
use Rattle.std.proofs.Common.{arith}
use Rattle.std.specs.Prelude.{suc, get_or}
use Rattle.std.proofs.lemmas.Bool.{true≢false}
use Rattle.dns_name.specs.Labels.{IsLabel, IsName}
use Rattle.dns_message.specs.Header.{header_in}
use Rattle.dns_message.specs.Names.{step as name_step, walk_in, name_within}
use Rattle.dns_message.specs.Records.{octets_end, question_at}
use Rattle.dns_message.specs.Messages.{first_question}
use Rattle.dns_message.specs.Writing.{◌▹◌, each, name_text, written}
use Rattle.dns_message.specs.Values.{Question}
use Rattle.dns_message.specs.Written.{IsQuestion}
use Rattle.suffix_routes.specs.declared.peer.Peer.{Peer}
use Rattle.suffix_routes.specs.Values.{Config, Route}
use Rattle.suffix_routes.specs.Routes.{route_of}
use Rattle.suffix_routes.specs.Serving.{serving_route_of}
use Rattle.outstanding.specs.declared.ask.Path.TheVariants.{Udp}
use Rattle.outstanding.specs.Values.{Ask}
use Rattle.outstanding.specs.Draws.{ask_message}
use Rattle.step_values.specs.Values.{from_client, tick, ask_udp, close_udp, Step}
use Rattle.step_history.specs.Causes.{ClosesAsk, FailedSoFar}
use Rattle.step_history.specs.History.{Reads}
use Rattle.step_table.proofs.Played.{a, address, server, other_server, config}
use Rattle.step_table.specs.Attempts.{peer_at}
use Rattle.theorem_use.specs.TheoremSound.Explains.{Tried}
use Rattle.worked_claims.proofs.Neighbours.{HoldsButFor}
use Rattle.worked_claims.proofs.Texts.{question_text, client, step_of}
use Rattle.worked_claims.proofs.Silent.{nothing_heard}
use Rattle.worked_claims.proofs.Accepted.{asked, ask}
use Rattle.worked_claims.proofs.AskTexts.{reads_follows, question_follows}
use Rattle.worked_claims.proofs.Brought.{question_is}
use Rattle.worked_claims.proofs.Failures.{begun, the_first_closes_none}

-- ---- the ask of a.e at 1000 is over at 2500, and the second server is asked

abbrev pub retries : Step
retries = step_of 2500 (1048592 ∷ []) tick (close_udp 1032 ∷ ask_udp 1040 other_server (question_text 16 1) ∷ [])

abbrev pub past : List Step
past = retries ∷ asked ∷ []

-- a listed ask of a.e: the number of the try, the identifier, the route and the server's address
abbrev try_by : ℕ → ℕ → ℕ → Peer → Ask
try_by used id route peer = record {
  question = address a;
  route = route;
  server = 1;
  peer = peer;
  used = used;
  path = Udp 1040;
  id = id;
  asked = 2500;
}

-- the ask of this history, as the try with this number
abbrev try : ℕ → Ask
try used = try_by used 16 0 other_server

-- all tries before try number `used` failed, and this try may be made
abbrev FailedBefore : Config → ℕ → Type 0
FailedBefore c used = (before : ℕ) × (used ≡ suc before) × (before < c.limits.tries)
    × FailedSoFar c (address a) past before

closes_first : ClosesAsk (address a) retries (asked ∷ [])
unfolding first_question question_at octets_end name_within walk_in name_step
closes_first = record { ask = ask; asked = address a; is_listed = refl; closed = refl; reads = refl; same = refl }

-- the configuration with these routes
abbrev with_routes : List Route → Config
with_routes routes = record config { routes = routes }

pub one_failed : (c : Config) → c.limits.ask_ms ≤ 1500 → FailedSoFar c (address a) past 1
unfolding first_question question_at octets_end name_within walk_in name_step closes_first
one_failed c over = (
  refl,
  inl (
    record {
      closes = closes_first;
      quiet = nothing_heard c retries (asked ∷ []) refl;
      why = inr (inr (refl, omega (arith, over)));
    },
    inr (inl (address a, refl, refl)),
    begun c,
  ),
)

-- on these routes a second try may follow
second_of : (routes : List Route) → FailedBefore (with_routes routes) 2
second_of routes = (1, refl, omega arith, one_failed (with_routes routes) (omega arith))

label : (letter : ℕ) → IsLabel (letter ∷ [])
label letter = record { some = omega arith; short = omega arith }

name_of_a : IsName a
name_of_a = record { each = (label 97, (label 101, tt)); short = omega arith }

-- ---- the ask is the second try

tried_if : (c : Config) (used id route : ℕ) (peer : Peer) → (header_in (written (ask_message id (address a)))).id ≡ id
    → serving_route_of c a ≡ Some route → peer_at c route 1 ≡ Some peer → FailedBefore c used
    → Tried c past (try_by used id route peer)
tried_if c used id route peer identifier on_route server_is failed =
    let question : IsQuestion (address a) = record { name = name_of_a; kind = omega arith; class = omega arith } in
    record {
      question = question;
      reads = reads_follows id (address a) question;
      identifier = identifier;
      on_route = on_route;
      server = server_is;
      before = failed.0;
      used = failed.1;
      few = failed.2;
      failed = failed.3;
    }

tried_so : (used : ℕ) → FailedBefore config used → Tried config past (try used)
unfolding written ◌▹◌ each name_text route_of
tried_so used failed = tried_if config used 16 0 other_server refl refl refl failed

second_try : Tried config past (try 2)
second_try = tried_so 2 (second_of config.routes)

-- as the first try: the ask's step closed the first ask, and so did not begin to ask
pub none_failed : (c : Config) → FailedSoFar c (address a) past 0 → ⊥
unfolding first_question question_at octets_end name_within walk_in name_step
none_failed c h = elim h.1 [
  | inl begins ↦ elim begins.1 [
    | inl none ↦ true≢false (none.0 (address a) refl)
    | inr accepts ↦ nothing_heard c retries (asked ∷ []) refl accepts.pieces accepts.carries
  ]
  | inr left ↦ left.0.0 closes_first
]

as_the_first_try : HoldsButFor (FailedBefore config 1) (Tried config past (try 1))
as_the_first_try = (
  tried_so 1,
  λ h.
      let none : h.before ≡ 0 = omega (arith, h.used) in
      none_failed config (subst (λ (n : ℕ). FailedSoFar config (address a) past n) none h.failed),
)

-- as the third try: no ask came before the first
two_failed : FailedSoFar config (address a) past 2 → ⊥
two_failed h = elim h.1 [
  | inl fails ↦ first fails.2
  | inr left ↦ left.0.0 closes_first
]
  where
    first : FailedSoFar config (address a) (asked ∷ []) 1 → ⊥
    first h = elim h.1 [
      | inl fails ↦ the_first_closes_none (address a) fails.0.closes
      | inr left ↦ left.1
    ]

as_the_third_try : HoldsButFor (FailedBefore config 3) (Tried config past (try 3))
as_the_third_try = (
  tried_so 3,
  λ h.
      let two : h.before ≡ 2 = omega (arith, h.used) in
      two_failed (subst (λ (n : ℕ). FailedSoFar config (address a) past n) two h.failed),
)

-- with a single try, no second one may follow
abbrev with_one_try : Config
with_one_try = record config { limits = record config.limits { tries = 1 } }

as_one_try_too_many : HoldsButFor (1 < 1) (Tried with_one_try past (try 2))
unfolding written ◌▹◌ each name_text route_of
as_one_try_too_many = (
  λ few. tried_if with_one_try 2 16 0 other_server refl refl refl
      (1, refl, few, one_failed with_one_try (omega arith)),
  λ h.
      let one : h.before ≡ 1 = omega (arith, h.used) in
      let few = h.few in
      omega (arith, one, few),
)

-- ---- the ask itself

-- An ask for a type above 16 bits; the ask's text is read as type 1. So `question` and `reads`
-- fail, and neither field fails alone: each follows from the other (`AskTexts`). No octets are read
-- as such a type, so the text in the history has a number above 255.
abbrev odd : Question
odd = record (address a) { kind = 65537 }

abbrev asks_oddly : Step
asks_oddly = step_of 1000 (524296 ∷ []) (from_client client (question_text 7 1))
    (ask_udp 1032 server (question_text 8 65537) ∷ [])

abbrev odd_try : Ask
odd_try = record {
  question = odd;
  route = 0;
  server = 0;
  peer = server;
  used = 1;
  path = Udp 1032;
  id = 8;
  asked = 1000;
}

tried_oddly : IsQuestion odd → Reads (written (ask_message 8 odd)) odd → Tried config (asks_oddly ∷ []) odd_try
unfolding written ◌▹◌ each name_text first_question question_at octets_end name_within walk_in name_step route_of
tried_oddly question reads = record {
  question = question;
  reads = reads;
  identifier = refl;
  on_route = refl;
  server = refl;
  before = 0;
  used = refl;
  few = omega arith;
  failed = (refl, inl (inl (odd, refl, refl), inl tt));
}

of_no_question : HoldsButFor (IsQuestion odd) (Tried config (asks_oddly ∷ []) odd_try)
of_no_question = (
  λ question. tried_oddly question (reads_follows 8 odd question),
  λ h. (let small : 65537 < 65536 = h.question.kind in omega (arith, small)),
)

of_another_question : HoldsButFor (Reads (written (ask_message 8 odd)) odd) (Tried config (asks_oddly ∷ []) odd_try)
unfolding written ◌▹◌ each name_text first_question question_at octets_end name_within walk_in name_step
of_another_question = (
  λ reads. tried_oddly (question_follows 8 odd reads) reads,
  λ h. (let kinds : 1 ≡ 65537 = ap (λ (q : Question). q.kind) (question_is (address a) odd h.reads) in
      omega (arith, kinds)),
)

-- the identifier is larger than two octets, and the text has the rest
of_another_identifier : HoldsButFor (◌≡◌ {A = ℕ} 16 65552) (Tried config past (try_by 2 65552 0 other_server))
unfolding written ◌▹◌ each name_text route_of
of_another_identifier = (
  λ identifier. tried_if config 2 65552 0 other_server identifier refl refl (second_of config.routes),
  λ h. omega (arith, h.identifier),
)

-- a second route, for the names under z, with the same servers
abbrev two_routes : List Route
two_routes = record { suffix = []; deny = false; servers = server ∷ other_server ∷ [] } ∷ record {
  suffix = (122 ∷ []) ∷ [];
  deny = false;
  servers = server ∷ other_server ∷ [];
} ∷ []

of_another_route : HoldsButFor (◌≡◌ {A = Option ℕ} (Some 0) (Some 1))
    (Tried (with_routes two_routes) past (try_by 2 16 1 other_server))
unfolding written ◌▹◌ each name_text route_of
of_another_route = (
  λ on_route. tried_if (with_routes two_routes) 2 16 1 other_server refl on_route refl (second_of two_routes),
  λ h. by h.on_route,
)
  where
    by : ◌≡◌ {A = Option ℕ} (Some 0) (Some 1) → ⊥
    by is = let places : ◌≡◌ {A = ℕ} 0 1 = cc in omega (arith, places)

-- the second server by place, and the first server by address
of_another_server : HoldsButFor (Some other_server ≡ Some server) (Tried config past (try_by 2 16 0 server))
unfolding written ◌▹◌ each name_text route_of
of_another_server = (
  λ peer. tried_if config 2 16 0 server refl refl peer (second_of config.routes),
  λ h. by h.server,
)
  where
    by : Some other_server ≡ Some server → ⊥
    by is =
        let same : other_server ≡ server = cc in
        let octets : 2 ≡ 1 = ap (λ (p : Peer). get_or p.ip 3 0) same in
        omega (arith, octets)
