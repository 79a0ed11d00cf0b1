-- A history of a question, its reply and a restart.
use Rattle.std.proofs.Common.{◌≡◌, ℕ, List, [], ◌∷◌, false, refl}
use Rattle.suffix_routes.specs.declared.peer.Peer.{Peer}
use Rattle.outstanding.specs.declared.ask.Path.TheVariants.{Udp}
use Rattle.step_values.specs.declared.event.Client.{Client}
use Rattle.step_values.specs.declared.event.Client.TheVariants.{Udp as FromUdp}
use Rattle.step_values.specs.declared.action.Why.TheVariants.{Answered}
use Rattle.step_values.specs.Values.{from_client, delivery, restart, ask_udp, close_udp, send_reply, Step}
use Rattle.step_history.specs.History.{moment_at, listed}
use Rattle.step_history.specs.Sound.{unanswered}

abbrev server : Peer
server = record { ip = 192 ∷ 0 ∷ 2 ∷ 1 ∷ []; port = 53 }

abbrev client : Client
client = FromUdp (record { ip = 10 ∷ 0 ∷ 0 ∷ 7 ∷ []; port = 40000 })

abbrev question : List ℕ
question = 18 ∷ 52 ∷ 1 ∷ 0 ∷ 0 ∷ 1 ∷ 0 ∷ 0 ∷ 0 ∷ 0 ∷ 0 ∷ 0 ∷ 1 ∷ 97 ∷ 7 ∷ 101 ∷ 120 ∷ 97 ∷ 109 ∷ 112 ∷ 108 ∷ 101 ∷ 0 ∷ 0 ∷ 1 ∷ 0 ∷ 1 ∷ []

abbrev query : List ℕ
query = 0 ∷ 8 ∷ 1 ∷ 0 ∷ 0 ∷ 1 ∷ 0 ∷ 0 ∷ 0 ∷ 0 ∷ 0 ∷ 0 ∷ 1 ∷ 97 ∷ 7 ∷ 101 ∷ 120 ∷ 97 ∷ 109 ∷ 112 ∷ 108 ∷ 101 ∷ 0 ∷ 0 ∷ 1 ∷ 0 ∷ 1 ∷ []

abbrev reply_text : List ℕ
reply_text = 0 ∷ 8 ∷ 133 ∷ 0 ∷ 0 ∷ 1 ∷ 0 ∷ 1 ∷ 0 ∷ 0 ∷ 0 ∷ 0 ∷ 1 ∷ 97 ∷ 7 ∷ 101 ∷ 120 ∷ 97 ∷ 109 ∷ 112 ∷ 108 ∷ 101 ∷ 0 ∷ 0 ∷ 1 ∷ 0 ∷ 1 ∷ 192 ∷ 12 ∷ 0 ∷ 1 ∷ 0 ∷ 1 ∷ 0 ∷ 0 ∷ 1 ∷ 44 ∷ 0 ∷ 4 ∷ 198 ∷ 51 ∷ 100 ∷ 5 ∷ []

abbrev answer : List ℕ
answer = 18 ∷ 52 ∷ 129 ∷ 128 ∷ 0 ∷ 1 ∷ 0 ∷ 1 ∷ 0 ∷ 0 ∷ 0 ∷ 0 ∷ 1 ∷ 97 ∷ 7 ∷ 101 ∷ 120 ∷ 97 ∷ 109 ∷ 112 ∷ 108 ∷ 101 ∷ 0 ∷ 0 ∷ 1 ∷ 0 ∷ 1 ∷ 192 ∷ 12 ∷ 0 ∷ 1 ∷ 0 ∷ 1 ∷ 0 ∷ 0 ∷ 1 ∷ 44 ∷ 0 ∷ 4 ∷ 198 ∷ 51 ∷ 100 ∷ 5 ∷ []

abbrev words : List ℕ
words = 524296 ∷ 589833 ∷ 655370 ∷ 720907 ∷ 786444 ∷ 851981 ∷ 917518 ∷ 983055 ∷ []

abbrev first : Step
first = record { input = record { now = 1000; words = words; event = from_client client question }; outcome = record { actions = ask_udp 1032 server query ∷ []; unkept = 0; more = false } }

abbrev second : Step
second = record { input = record { now = 1020; words = words; event = delivery (Udp 1032) server reply_text }; outcome = record { actions = close_udp 1032 ∷ send_reply client answer Answered ∷ []; unkept = 0; more = false } }

abbrev third : Step
third = record { input = record { now = 9000; words = words; event = restart }; outcome = record { actions = []; unkept = 0; more = false } }

moment : moment_at (second ∷ first ∷ []) ≡ 1020
moment = refl

forgotten : moment_at (third ∷ second ∷ first ∷ []) ≡ 0
forgotten = refl

one_ask : listed (first ∷ []) ≡ record { path = Udp 1032; server = server; octets = query; moment = 1000 } ∷ []
one_ask = refl

no_ask : listed (second ∷ first ∷ []) ≡ []
no_ask = refl

unlisted_by_restart : listed (third ∷ first ∷ []) ≡ []
unlisted_by_restart = refl

waits : unanswered (second ∷ first ∷ []) [] ≡ 0 ∷ []
waits = refl

answered : unanswered (second ∷ first ∷ []) (0 ∷ []) ≡ []
answered = refl
