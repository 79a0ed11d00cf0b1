-- Claims about which server is asked, and by which transport.
use Rattle.std.specs.Prelude.{◌≡◌, ◌≢◌, ℕ, ◌+◌, ◌%◌, true, false, List, [], ◌∷◌, length, Option, Some, None, ◌⊎◌, slice_get}
use Rattle.std.specs.List.{AllByRecursion}
use Rattle.dns_message.specs.Header.{header_in}
use Rattle.dns_message.specs.Values.{Question}
use Rattle.suffix_routes.specs.Values.{Config, Route}
use Rattle.outstanding.specs.declared.ask.Path.{Path}
use Rattle.outstanding.specs.declared.ask.Path.TheVariants.{Udp, Tcp}
use Rattle.trust_rank.specs.Values.{Piece}
use Rattle.cache_laws.specs.Serving.{IsServedBy}
use Rattle.step_values.specs.Values.{SentAsk, ask_in, Step}
use Rattle.step_history.specs.History.{is_restart, ShownAsk, Reads, Matches, Accepts}
use Rattle.step_history.specs.Causes.{SendsAsk, FailsAsk, BeginsToAsk}

-- the path is a UDP port
abbrev pub ByUdp : Path → Type 0
ByUdp (Udp port) = Unit {0}
ByUdp (Tcp conn) = ⊥

-- the path is a connection over TCP
abbrev pub ByTcp : Path → Type 0
ByTcp (Udp port) = ⊥
ByTcp (Tcp conn) = Unit {0}

-- The step brings a truncated reply (RFC 1035 4.1.1) to a listed ask by UDP.
pub record BringsCut (c : Config) (s : Step) (past : List Step) : Type 0 where
  pub ask : ShownAsk
  pub asked : Question
  pub octets : List ℕ
  pub matches : Matches c s past ask octets asked
  pub cut : (header_in octets).tc ≡ true
  pub by_udp : ByUdp ask.path

-- Places are places in a group of servers, from 0. Each step has one: that of the server that it
-- asks, if it asks. The newest step that asked q asked the server at this place.
abbrev pub AskedAt : Question → List Step → List ℕ → ℕ → Type 0
AskedAt q [] places place = ⊥
AskedAt q (s ∷ past) [] place = ⊥
AskedAt q (s ∷ past) (own ∷ places) place =
    (SendsAsk q s.outcome.actions × (place ≡ own))
    ⊎ ((SendsAsk q s.outcome.actions → ⊥) × AskedAt q past places place)

-- step s accepted a reply on this route, of the server at this place
pub record AnswersAt (c : Config) (route : ℕ) (s : Step) (past : List Step) (places : List ℕ) (place : ℕ) : Type 0 where
  pub pieces : List Piece
  pub servers : List Piece
  pub accepts : Accepts c s past pieces servers
  pub on_route : accepts.route ≡ route
  pub asked : AskedAt accepts.asked past places place

-- step s accepted no reply on this route
abbrev pub NoneAnswersOn : Config → ℕ → Step → List Step → Type 0
NoneAnswersOn c route s past = (pieces servers : List Piece) (a : Accepts c s past pieces servers) → a.route ≢ route

-- the place of the server of the era's last accepted reply on this route, otherwise the first place
abbrev pub IsPreferred : Config → ℕ → List Step → List ℕ → ℕ → Type 0
IsPreferred c route [] places place = place ≡ 0
IsPreferred c route (s ∷ past) [] place = ⊥
IsPreferred c route (s ∷ past) (own ∷ places) place =
    ((is_restart s ≡ true) × (place ≡ 0))
    ⊎ AnswersAt c route s past places place
    ⊎ ((is_restart s ≡ false) × NoneAnswersOn c route s past × IsPreferred c route past places place)

-- the first ask of an inquiry: by UDP, to the preferred server of the route
pub record AsksFirst (c : Config) (s : Step) (past : List Step) (places : List ℕ) (place : ℕ) (path : Path)
    (q : Question) (route : ℕ) : Type 0 where
  pub begins : BeginsToAsk c q s past
  pub by_udp : ByUdp path
  pub preferred : IsPreferred c route (s ∷ past) (place ∷ places) place

-- The ask after a failed one: after a truncated reply by UDP, the same server over TCP; otherwise
-- the next server of the group by UDP, after the last one the first.
pub record AsksNext (c : Config) (s : Step) (past : List Step) (places : List ℕ) (place : ℕ) (path : Path)
    (q : Question) (servers : ℕ) : Type 0 where
  pub fails : FailsAsk c q s past
  pub failed : ℕ
  pub at : AskedAt q past places failed
  pub turn : (BringsCut c s past × ByTcp path × (place ≡ failed))
      ⊎ ((BringsCut c s past → ⊥) × ByUdp path × (place ≡ (failed + 1) % servers))

-- the ask goes to the server at this place of its route, as the first of its inquiry or the next
pub record TakesTurn (c : Config) (s : Step) (past : List Step) (places : List ℕ) (place : ℕ) (a : SentAsk) : Type 0
  where
    pub question : Question
    pub reads : Reads a.octets question
    pub route : ℕ
    pub group : Route
    pub route_is : IsServedBy c question.name route
    pub there : slice_get c.routes route ≡ Some group
    pub server : slice_get group.servers place ≡ Some a.server
    pub turn : AsksFirst c s past places place a.path question route
        ⊎ AsksNext c s past places place a.path question (length group.servers)

-- `TakesTurn` of the ask, if any
abbrev pub TakesItsTurn : Config → Step → List Step → List ℕ → ℕ → Option SentAsk → Type 0
TakesItsTurn c s past places place None = Unit {0}
TakesItsTurn c s past places place (Some a) = TakesTurn c s past places place a

-- each ask of the history takes its turn, with these places of the steps, the newest first
abbrev pub AsksInTurn : Config → List Step → List ℕ → Type 0
AsksInTurn c [] places = Unit {0}
AsksInTurn c (s ∷ past) [] = ⊥
AsksInTurn c (s ∷ past) (place ∷ places) =
    AsksInTurn c past places
    × AllByRecursion (λ a. TakesItsTurn c s past places place (ask_in a)) s.outcome.actions
