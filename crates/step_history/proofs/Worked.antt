-- Worked histories, computed: which questions are served, which moments count, until when an ask is
-- open, when more is due, whose server an ask goes to, and when all tries have failed.
use Rattle.std.proofs.Common.{◌≡◌, ℕ, ◌<◌, List, [], ◌∷◌, length, zero, suc, None, Some, true, false, refl, sym, ap, ◌∙◌, subst, arith}
use Rattle.std.specs.Prelude.{slice_get}
use Rattle.std.proofs.lemmas.Bool.{true≢false}
use Rattle.suffix_routes.specs.declared.peer.Peer.{Peer}
use Rattle.suffix_routes.specs.Values.{Config, Route, default_limits}
use Rattle.suffix_routes.specs.Routes.{route_of}
use Rattle.dns_name.specs.Labels.{IsUnder}
use Rattle.cache_laws.specs.Serving.{IsServedBy}
use Rattle.cache_laws.proofs.CallerLemmas.{serves_exactly}
use Rattle.dns_message.specs.Values.{Question}
use Rattle.dns_message.specs.Names.{step as name_step, walk_in, name_within}
use Rattle.dns_message.specs.Records.{octets_end, question_at}
use Rattle.dns_message.specs.Messages.{first_question}
use Rattle.dns_message.specs.Questions.{same_question, is_unserved}
use Rattle.outstanding.specs.declared.ask.Path.TheVariants.{Udp}
use Rattle.step_values.specs.declared.event.Client.{Client}
use Rattle.step_values.specs.declared.event.Client.TheVariants.{Udp as FromUdp}
use Rattle.step_values.specs.Values.{from_client, delivery, tick, restart, ask_udp, close_udp, Step}
use Rattle.record_cache.specs.Values.{Held}
use Rattle.step_history.specs.History.{moment_at, Look, ShownAsk, listed, Matches}
use Rattle.step_history.specs.Answers.{FollowsAliases}
use Rattle.step_history.specs.Accounting.{is_due}
use Rattle.step_history.specs.Asked.{IsRightAsk, IsServerFor}
use Rattle.step_history.specs.Causes.{AllTriesFailed}

-- ---- which questions are served

abbrev of_type : ℕ → Question
of_type kind = record { name = []; kind = kind; class = 1 }

abbrev of_class : ℕ → Question
of_class class = record { name = []; kind = 1; class = class }

-- no type, OPT, the first and the last of the types that only a question has, and every class at
-- once
unserved : (is_unserved (of_type 0) ≡ true) × (is_unserved (of_type 41) ≡ true) × (is_unserved (of_type 128) ≡ true) × (is_unserved (of_type 255) ≡ true) × (is_unserved (of_class 255) ≡ true)
unserved = (refl, refl, refl, refl, refl)

-- their neighbours are served
served : (is_unserved (of_type 1) ≡ false) × (is_unserved (of_type 40) ≡ false) × (is_unserved (of_type 42) ≡ false) × (is_unserved (of_type 127) ≡ false) × (is_unserved (of_type 256) ≡ false) × (is_unserved (of_class 254) ≡ false)
served = (refl, refl, refl, refl, refl, refl)

-- ---- a question for the address of a.example, and its ask

abbrev server : Peer
server = record { ip = 192 ∷ 0 ∷ 2 ∷ 1 ∷ []; port = 53 }

abbrev other_server : Peer
other_server = record { ip = 192 ∷ 0 ∷ 2 ∷ 9 ∷ []; port = 5353 }

abbrev example : List ℕ
example = 101 ∷ 120 ∷ 97 ∷ 109 ∷ 112 ∷ 108 ∷ 101 ∷ []

abbrev for_example : Route
for_example = record { suffix = example ∷ []; deny = false; servers = other_server ∷ [] }

-- names under example have a server of their own
abbrev config : Config
config = record { listen = server; limits = default_limits; routes = record { suffix = []; deny = false; servers = server ∷ [] } ∷ for_example ∷ [] }

abbrev address : Question
address = record { name = (97 ∷ []) ∷ example ∷ []; kind = 1; class = 1 }

abbrev words : List ℕ
words = 524296 ∷ []

abbrev client : Client
client = FromUdp (record { ip = 10 ∷ 0 ∷ 0 ∷ 7 ∷ []; port = 40000 })

abbrev with_identifier : ℕ → List ℕ
with_identifier id = 0 ∷ id ∷ 1 ∷ 0 ∷ 0 ∷ 1 ∷ 0 ∷ 0 ∷ 0 ∷ 0 ∷ 0 ∷ 0 ∷ 1 ∷ 97 ∷ 7 ∷ 101 ∷ 120 ∷ 97 ∷ 109 ∷ 112 ∷ 108 ∷ 101 ∷ 0 ∷ 0 ∷ 1 ∷ 0 ∷ 1 ∷ []

-- asked at 1000, and sent on
abbrev asked : Step
asked = record { input = record { now = 1000; words = words; event = from_client client (with_identifier 7) }; outcome = record { actions = ask_udp 1032 other_server (with_identifier 8) ∷ []; unkept = 0; more = false } }

abbrev ask : ShownAsk
ask = record { path = Udp 1032; server = other_server; octets = with_identifier 8; moment = 1000 }

-- at this moment octets come on the ask's path
abbrev comes : ℕ → List ℕ → Step
comes now octets = record { input = record { now = now; words = words; event = delivery (Udp 1032) other_server octets }; outcome = record { actions = []; unkept = 0; more = false } }

abbrev restarted : Step
restarted = record { input = record { now = 9000; words = words; event = restart }; outcome = record { actions = []; unkept = 0; more = false } }

one_ask : listed (asked ∷ []) ≡ ask ∷ []
one_ask = refl

-- a restart's own moment doesn't count, and no ask outlives it
forgotten : (moment_at (restarted ∷ asked ∷ []) ≡ 0) × (listed (restarted ∷ asked ∷ []) ≡ [])
forgotten = (refl, refl)

-- the ask is open for 1,500 milliseconds
late : (octets : List ℕ) (q : Question) → Matches config (comes 2500 octets) (asked ∷ []) ask octets q → ⊥
late octets q m = let live : 2500 < 2500 = m.is_live in omega (arith, live)

-- ---- whose server it goes to

its_server : IsServerFor config address other_server
unfolding route_of
its_server = record { route = 1; group = for_example; place = 0; route_is = serves_exactly.only config address.name 1 refl; there = refl; server = refl }

-- the server of another route is none of this
of_another_route : IsServerFor config address server → ⊥
of_another_route h = by h.route h.there h.route_is
  where
    under : IsUnder address.name for_example.suffix
    under = ((97 ∷ []) ∷ [], example ∷ [], refl, refl)

    none : (k : ℕ) → slice_get (other_server ∷ []) k ≡ Some server → ⊥
    none zero is = let same : other_server ≡ server = cc in let port : 5353 ≡ 53 = ap (λ (p : Peer). p.port) same in omega (arith, port)
    none (suc k) is = absurd cc

    -- the first route has a shorter suffix
    by : (k : ℕ) → slice_get config.routes k ≡ Some h.group → IsServedBy config address.name k → ⊥
    by zero there is =
        let first : record { suffix = []; deny = false; servers = server ∷ [] } ≡ is.longest.route = (let two = is.longest.there in cc) in
        omega (arith, is.longest.most 1 for_example refl under, ap (λ (r : Route). length r.suffix) first)
    by (suc zero) there is =
        let same : for_example ≡ h.group = cc in
        none h.place (subst (λ (r : Route). slice_get r.servers h.place ≡ Some server) (sym same) h.server)
    by (suc (suc k)) there is = absurd (let no : None ≡ Some h.group = there in cc)

-- ---- when more is due

-- at this moment time passes, and nothing is done
abbrev passes : ℕ → Step
passes now = record { input = record { now = now; words = words; event = tick }; outcome = record { actions = []; unkept = 0; more = false } }

-- a question may wait for this many milliseconds
abbrev patient_for : ℕ → Config
patient_for deadline = record config { limits = record default_limits { deadline_ms = deadline } }

-- an ask is due after 1,500 milliseconds
ask_is_due : (is_due config (passes 2499 ∷ asked ∷ []) [] ≡ false) × (is_due config (passes 2500 ∷ asked ∷ []) [] ≡ true)
ask_is_due = (refl, refl)

-- a question at its deadline, unless it owns a reply
question_is_due : (is_due (patient_for 500) (passes 1499 ∷ asked ∷ []) [] ≡ false) × (is_due (patient_for 500) (passes 1500 ∷ asked ∷ []) [] ≡ true) × (is_due (patient_for 500) (passes 1500 ∷ asked ∷ []) (0 ∷ []) ≡ false)
question_is_due = (refl, refl, refl)

-- ---- when all tries have failed

-- its time is over, and its server is asked once more, from another port
abbrev asked_again : Step
asked_again = record { input = record { now = 2500; words = words; event = tick }; outcome = record { actions = close_udp 1032 ∷ ask_udp 1040 other_server (with_identifier 16) ∷ []; unkept = 0; more = false } }

-- an ask whose path is given up after it is none
given_up_at_once : IsRightAsk config asked_again (asked ∷ []) (Some (record { path = Udp 1040; server = other_server; octets = with_identifier 16 })) (close_udp 1040 ∷ []) → ⊥
given_up_at_once h = true≢false h.1

-- each question has one try
abbrev one_try : Config
one_try = record config { limits = record default_limits { tries = 1 } }

-- the look from the step that sends the ask once more
abbrev still : Look
still = record { config = one_try; asked = asked; before = []; now = asked_again ∷ asked ∷ [] }

-- a question that holds no alias and is still asked has not failed
still_asked : (h : AllTriesFailed still (with_identifier 7)) → h.aliases ≡ [] → ⊥
unfolding first_question question_at octets_end name_within walk_in name_step
still_asked h none =
    let reads : Some address ≡ Some h.question = h.reads in
    let same : address ≡ h.question = cc in
    let last : h.last ≡ h.question = subst (λ (os : List Held). FollowsAliases still h.question os h.last) none h.leads.follows in
    let other : same_question address h.last ≡ false = h.none_left.0 address refl in
    true≢false (subst (λ (q : Question). same_question address q ≡ false) (last ∙ sym same) other)
