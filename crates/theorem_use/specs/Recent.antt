-- Claims that a question is answered at once if recent pieces answer the question, whatever the era
-- carried before.
use Rattle.std.specs.Prelude.{◌≡◌, ◌≢◌, ℕ, zero, suc, ◌+◌, ◌*◌, ◌<◌, ◌≤◌, List, [], ◌∷◌, ◌++◌, length, None}
use Rattle.std.specs.Prelude.{Some, ◌⊎◌}
use Rattle.std.specs.List.{concat, AllByRecursion}
use Rattle.dns_message.specs.Values.{Question}
use Rattle.step_history.specs.Questions.{for_name}
use Rattle.suffix_routes.specs.Values.{Config}
use Rattle.trust_rank.specs.declared.slot.Slot.{Slot}
use Rattle.trust_rank.specs.Values.{rows}
use Rattle.record_cache.specs.Values.{Held}
use Rattle.step_history.specs.CacheLaws.Replacing.{AreOfOneSlot, Replaces}
use Rattle.step_history.specs.CacheLaws.Serving.{IsServedBy}
use Rattle.step_values.specs.declared.event.Client.{Client}
use Rattle.step_values.specs.Values.{Step}
use Rattle.step_history.specs.History.{moment_at}
use Rattle.step_history.specs.Carried.{NotReplaced}
use Rattle.step_history.specs.Answers.{IsOf, IsAliasTo, EndsChain}
use Rattle.theorem_use.specs.Use.{IsOneOf, AsksToLookUp, AnswersAtOnce}
use Rattle.theorem_use.specs.Touched.{Touched, carried_in, TouchedInEra, IsLiving, Uses}

-- ---- a recent piece

-- o was believed next to these older pieces: no piece of its slot, alive and not replaced when o
-- came, has a higher rank (RFC 2181 5.4.1); a name error is always believed
abbrev pub IsBelieved : Held → List Held → Type 0
IsBelieved o older =
    (o.piece.slot.kind ≡ None)
    ⊎ ((h : Held) → NotReplaced h older → AreOfOneSlot h.piece.slot o.piece.slot
    → o.accepted < h.accepted + 1000 * h.piece.lifetime → h.piece.rank ≤ o.piece.rank)

-- o is one of the newer pieces, was believed, and no newer piece after o takes its place
abbrev pub StaysBelieved : Held → List Held → List Held → Type 0
StaysBelieved o [] older = ⊥
StaysBelieved o (x ∷ newer) older =
    ((x ≡ o) × IsBelieved o (newer ++ older)) ⊎ ((Replaces x.piece o.piece → ⊥) × StaysBelieved o newer older)

-- the step carried o, `StaysBelieved` holds, and each carried piece found memory
pub record Brings (t : Touched) (ts : List Touched) (o : Held) : Type 0 where
  pub believed : StaysBelieved o t.carried (carried_in ts)
  pub memory : t.unkept ≡ 0

-- the list has each slot that the step carried or used
pub record TouchesOnly (t : Touched) (slots : List Slot) : Type 0 where
  pub carried : AllByRecursion (λ o. IsOneOf o.piece.slot slots) t.carried
  pub used : AllByRecursion (λ slot. IsOneOf slot slots) t.used

-- The piece o is recent after these steps, the newest first. The step that used its slot last, or
-- else brought o, and all later steps carried and used these slots alone, `room` at most. Before
-- each use o was recent, too. Nothing carried since takes its place.
abbrev pub IsRecent : ℕ → List Touched → Held → List Slot → Type 0
IsRecent room [] o slots = ⊥
IsRecent room (t ∷ ts) o slots =
    (length slots ≤ room) × TouchesOnly t slots
    × (Brings t ts o
    ⊎ (AllByRecursion (λ x. Replaces x.piece o.piece → ⊥) t.carried
    × ((IsOneOf o.piece.slot t.used × (before : List Slot) × IsRecent room ts o before) ⊎ IsRecent room ts o slots)))

-- recent, and alive at the moment n
pub record IsReady (room n : ℕ) (ts : List Touched) (o : Held) : Type 0 where
  pub alive : n < o.accepted + 1000 * o.piece.lifetime
  pub slots : List Slot
  pub recent : IsRecent room ts o slots

-- ---- a question that recent pieces answer

-- no alias of q's name is living, or q asks for aliases
abbrev pub LeadsNowhere : ℕ → List Touched → Question → Type 0
LeadsNowhere n ts q =
    (q.kind ≡ 5)
    ⊎ ((h : Held) → IsLiving n ts h → IsOf h.piece q.name q.class (Some 5) → (each : List (List ℕ))
    → h.piece.body ≡ rows each → ⊥)

-- o is ready and answers q on its name's route. A denial answers only if no alias leads on (RFC
-- 1034 3.6.2).
pub record IsReadyEnd (c : Config) (n : ℕ) (ts : List Touched) (q : Question) (o : Held) : Type 0 where
  pub ready : IsReady c.limits.cache n ts o
  pub ends : EndsChain q o.piece o.piece.body
  pub on_route : IsServedBy c q.name o.piece.route
  pub alone : ((each : List (List ℕ)) × (o.piece.body ≡ rows each)) ⊎ LeadsNowhere n ts q

-- o is ready, and an alias of q's name to this name
pub record IsReadyAlias (c : Config) (n : ℕ) (ts : List Touched) (q : Question) (o : Held)
    (name : List (List ℕ)) : Type 0 where
  pub ready : IsReady c.limits.cache n ts o
  pub other : q.kind ≢ 5
  pub slot : IsOf o.piece q.name q.class (Some 5)
  pub leads : IsAliasTo o.piece name

-- recent pieces, alive at the moment n, answer q after at most this number of aliases
abbrev pub IsAnsweredByRecent : Config → ℕ → List Touched → ℕ → Question → Type 0
IsAnsweredByRecent c n ts zero q = (o : Held) × IsReadyEnd c n ts q o
IsAnsweredByRecent c n ts (suc more) q =
    ((o : Held) × IsReadyEnd c n ts q o)
    ⊎ ((o : Held) × (name : List (List ℕ)) × IsReadyAlias c n ts q o name
    × IsAnsweredByRecent c n ts more (for_name q name))

-- ---- the claim

-- Each step used its slots (`Uses`). Each question that recent pieces answer, after eight aliases
-- at most, is answered at once (`AnswersAtOnce`). w as in `Sound`.
abbrev pub UsesWhatIsRecent : Config → List Step → List (List ℕ) → List (List Slot) → Type 0
UsesWhatIsRecent c [] w used = Unit {0}
UsesWhatIsRecent c (s ∷ past) [] used = ⊥
UsesWhatIsRecent c (s ∷ past) (is ∷ w) [] = ⊥
UsesWhatIsRecent c (s ∷ past) (is ∷ w) (slots ∷ used) =
    UsesWhatIsRecent c past w used
    × ((ts : List Touched) → TouchedInEra c past used ts
    → Uses c s past ts slots
    × ((client : Client) (q : Question) (asks : AsksToLookUp c s client q)
    → IsAnsweredByRecent c (moment_at (s ∷ past)) ts 8 q
    → AnswersAtOnce c s past (concat w) is client asks.octets))
