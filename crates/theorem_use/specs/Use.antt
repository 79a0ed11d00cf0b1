-- Claims that a question is answered at once if enough data stands.
use Rattle.std.specs.Prelude.{◌≡◌, ℕ, zero, suc, ◌≤◌, true, List, [], ◌∷◌, length, Option, None, Some, ◌⊎◌}
use Rattle.std.specs.List.{concat, AllByRecursion}
use Rattle.dns_message.specs.Header.{header_in}
use Rattle.dns_message.specs.Values.{Question}
use Rattle.suffix_routes.specs.Values.{Config, Route}
use Rattle.trust_rank.specs.declared.slot.Slot.{Slot}
use Rattle.trust_rank.specs.Walks.{target_of}
use Rattle.record_cache.specs.Values.{Held}
use Rattle.negative_cache.specs.Values.{Found, local, rows, alias, no_data, denied, miss}
use Rattle.negative_cache.specs.Finding.{found}
use Rattle.step_values.specs.declared.event.Client.{Client}
use Rattle.step_values.specs.declared.action.Why.{Why}
use Rattle.step_values.specs.declared.action.Why.TheVariants.{Answered, TooLarge}
use Rattle.step_values.specs.Values.{send_reply, Step}
use Rattle.step_history.specs.History.{is_restart, moment_at, Reads, Sends}
use Rattle.step_values.specs.Requests.{is_taken}
use Rattle.step_history.specs.Carried.{CarriedInEra}
use Rattle.step_history.specs.CacheLaws.Serving.{IsServedBy}
use Rattle.step_history.specs.Questions.{IsUnserved, for_name}
use Rattle.step_history.specs.Sound.{unanswered, RightReply}
use Rattle.theorem_use.specs.Standing.{standing}

-- ---- room

-- the list has this slot
abbrev pub IsOneOf : Slot → List Slot → Type 0
IsOneOf slot [] = ⊥
IsOneOf slot (s ∷ slots) = (s ≡ slot) ⊎ IsOneOf slot slots

-- the carried pieces are of at most `most` slots
pub record HasFewSlots (most : ℕ) (carried : List Held) : Type 0 where
  pub slots : List Slot
  pub few : length slots ≤ most
  pub each : AllByRecursion (λ o. IsOneOf o.piece.slot slots) carried

-- no step of the era was out of memory for an entry
abbrev pub FoundMemory : List Step → Type 0
FoundMemory [] = Unit {0}
FoundMemory (s ∷ past) = (is_restart s ≡ true) ⊎ ((s.outcome.unkept ≡ 0) × FoundMemory past)

-- the cache had room and memory for everything carried in the era
pub record HasRoom (c : Config) (past : List Step) (carried : List Held) : Type 0 where
  pub slots : HasFewSlots c.limits.cache carried
  pub memory : FoundMemory past

-- ---- a question

-- an accepted client's message: opcode 0, and one question whose type, class and name are served
pub record AsksToLookUp (c : Config) (s : Step) (client : Client) (q : Question) : Type 0 where
  pub octets : List ℕ
  pub sends : Sends s.input.event client octets
  pub taken : is_taken octets ≡ true
  pub opcode : (header_in octets).opcode ≡ 0
  pub reads : Reads octets q
  pub served : IsUnserved q → ⊥
  pub route : ℕ
  pub on_route : IsServedBy c q.name route

-- there is a target name, and `onward` holds of the name
abbrev pub AtTarget : (List (List ℕ) → Type 0) → Option (List (List ℕ)) → Type 0
AtTarget onward None = ⊥
AtTarget onward (Some name) = onward name

-- a set or a denial answers, an alias leads on (RFC 1034 3.6.2)
abbrev pub EndsOrLeadsOn : (List (List ℕ) → Type 0) → Found → Type 0
EndsOrLeadsOn onward local = ⊥
EndsOrLeadsOn onward (rows h) = Unit {0}
EndsOrLeadsOn onward (alias h) = AtTarget onward (target_of h.piece.body)
EndsOrLeadsOn onward (no_data h) = Unit {0}
EndsOrLeadsOn onward (denied h) = Unit {0}
EndsOrLeadsOn onward miss = ⊥

-- the standing pieces answer the question after at most this number of aliases
abbrev pub LeadsToEnd : List Route → ℕ → List Held → ℕ → Question → Type 0
LeadsToEnd routes n stood zero q = EndsOrLeadsOn (λ name. ⊥) (found routes n stood q)
LeadsToEnd routes n stood (suc more) q =
    EndsOrLeadsOn (λ name. LeadsToEnd routes n stood more (for_name q name)) (found routes n stood q)

-- the pieces standing at the step's moment answer q after at most eight aliases; so their look-up
-- ends (`look_up_ends`)
abbrev pub IsKnown : Config → Step → List Step → List Held → Question → Type 0
IsKnown c s past carried q = LeadsToEnd c.routes (moment_at (s ∷ past)) (standing (moment_at (s ∷ past)) carried) 8 q

-- The only action is the right reply to the step's question: `Answered` or `TooLarge` (RFC 1035
-- 4.2.2). `is` are the step's owners, `owners` the owners before.
pub record AnswersAtOnce (c : Config) (s : Step) (past : List Step) (owners is : List ℕ) (client : Client)
    (request : List ℕ)
    : Type 0 where
  pub octets : List ℕ
  pub why : Why
  pub actions : s.outcome.actions ≡ send_reply client octets why ∷ []
  pub reason : (why ≡ Answered) ⊎ (why ≡ TooLarge)
  pub owner : is ≡ length past ∷ []
  pub right : RightReply (record { config = c; asked = s; before = past; now = s ∷ past }) client request
      (length (unanswered past owners)) why octets

-- each question that `IsKnown` is answered at once if the cache `HasRoom`; w as in `Sound`
abbrev pub UsesWhatStands : Config → List Step → List (List ℕ) → Type 0
UsesWhatStands c [] w = Unit {0}
UsesWhatStands c (s ∷ past) [] = ⊥
UsesWhatStands c (s ∷ past) (is ∷ w) =
    UsesWhatStands c past w
    × ((client : Client) (q : Question) (carried : List Held) → (asks : AsksToLookUp c s client q)
    → CarriedInEra c past carried
    → HasRoom c past carried → IsKnown c s past carried q → AnswersAtOnce c s past (concat w) is client asks.octets)
