-- Shared by the worked histories: questions for a.e, steps, and the steps of a short history.
use Rattle.std.proofs.Common.{◌≡◌, ℕ, ◌+◌, List, [], ◌∷◌, Some, None, Bool, true, false, cond, Option, ◌⊎◌, inl, inr}
use Rattle.suffix_routes.specs.declared.peer.Peer.{Peer}
use Rattle.step_values.specs.declared.event.Client.{Client}
use Rattle.step_values.specs.declared.event.Client.TheVariants.{Udp as FromUdp, Tcp as FromTcp}
use Rattle.step_values.specs.Values.{Event, Delivered, Action, Step}
use Rattle.step_history.specs.History.{is_restart, InEra, ShownAsk}

-- ---- texts

-- a message with this identifier, these octets of flags, and a question for this type at a.e (RFC
-- 1035 4.1)
abbrev pub with_flags : ℕ → ℕ → ℕ → ℕ → List ℕ
with_flags id high low kind =
    0 ∷ id ∷ high ∷ low ∷ 0 ∷ 1 ∷ 0 ∷ 0 ∷ 0 ∷ 0 ∷ 0 ∷ 0 ∷ 1 ∷ 97 ∷ 1 ∷ 101 ∷ 0 ∷ 0 ∷ kind ∷ 0 ∷ 1 ∷ []

-- a question, with RD alone
abbrev pub question_text : ℕ → ℕ → List ℕ
question_text id kind = with_flags id 1 0 kind

-- a question of opcode 2, with RD alone
abbrev pub status_text : ℕ → List ℕ
status_text id = with_flags id 17 0 1

-- a failure with this result code, repeating the question for an address at a.e
abbrev pub failure_with : ℕ → ℕ → List ℕ
failure_with id code = with_flags id 129 (128 + code) 1

-- ---- clients

abbrev pub peer : ℕ → Peer
peer last = record { ip = 10 ∷ 0 ∷ 0 ∷ last ∷ []; port = 40000 }

abbrev pub client : Client
client = FromUdp (peer 7)

abbrev pub other_client : Client
other_client = FromUdp (peer 8)

abbrev pub stream_client : Client
stream_client = FromTcp 3

-- ---- steps

abbrev pub step_of : ℕ → List ℕ → Event → List Action → Step
step_of now words event actions = record {
  input = record { now = now; words = words; event = event };
  outcome = record { actions = actions; unkept = 0; more = false };
}

-- nothing came from a server
pub no_delivery : {d : Delivered} → ◌≡◌ {A = Option Delivered} None (Some d) → ⊥
no_delivery is = absurd cc

-- a close and a reply are no asks
pub only_closes : ⊥ ⊎ (⊥ ⊎ ⊥) → ⊥
only_closes (inl never) = never
only_closes (inr (inl never)) = never
only_closes (inr (inr never)) = never

-- ---- the steps of a short history

-- the only step of a history
pub in_one : (s x : Step) (before : List Step) → InEra (x ∷ before) (s ∷ []) → (x ≡ s) × (before ≡ [])
in_one s x before (inl same) = (cc, cc)
in_one s x before (inr later) = absurd later.1

-- one of two steps
pub in_two : (s t x : Step) (before : List Step) → InEra (x ∷ before) (s ∷ t ∷ [])
    → ((x ≡ s) × (before ≡ t ∷ [])) ⊎ ((is_restart s ≡ false) × (x ≡ t) × (before ≡ []))
in_two s t x before (inl same) = inl (cc, cc)
in_two s t x before (inr later) = let first = in_one t x before later.1 in inr (later.0, first.0, first.1)

-- ---- the only listed ask

-- a search in a list of one
pub the_only_ask : (v : Bool) (x y : ShownAsk) → cond v (Some x) None ≡ Some y → x ≡ y
the_only_ask true x y is = cc
the_only_ask false x y is = absurd cc

pub none_listed : {x : ShownAsk} → ◌≡◌ {A = Option ShownAsk} None (Some x) → ⊥
none_listed is = absurd cc
