-- Laws of inquiries, each by the three kinds of rows of the table.
use Rattle.std.proofs.Common.{◌≡◌, ℕ, ◌+◌, ◌-◌, ◌*◌, ◌/◌, ◌%◌, ◌<◌, ◌≤◌, Bool, true, false, List, [], ◌∷◌, length, min, refl, sym, ap, subst, ◌∙◌, ◌⊎◌, inl, inr, arith}
use Rattle.std.specs.Prelude.{Option, Some, None, ◌==◌, if◌then◌else◌}
use Rattle.std.proofs.Math.Nat.{add-mod_right, add-mul-mod_self_left, mod-add-div, mod-eq_of_lt, mod-lt}
use Rattle.std.proofs.lemmas.Bool.{eqb-true, eq-eqb}
use Rattle.std.proofs.lemmas.Bool.Decides.{leb_tells}
use Rattle.retry_failover.specs.declared.Plan.{Plan}
use Rattle.retry_failover.specs.declared.Failure.{Failure}
use Rattle.retry_failover.specs.declared.Failure.TheVariants.{TimedOut, Broken, Truncated, Malformed, Rcode, Lame}
use Rattle.retry_failover.specs.Table.{next_server, row, after_failure}
use Rattle.retry_failover.specs.Inquiries.{Ask, begun, made, ask_of, asks_from, is_cut}
use Rattle.retry_failover.specs.Laws.{Turns, AllTurn, others_met, IsAsked}

-- ---- the three kinds of rows

abbrev over_tcp : Plan → Plan
over_tcp plan = record plan { used = plan.used + 1; tcp = true }

abbrev by_udp : Plan → Plan
by_udp plan = record plan { used = plan.used + 1; server = next_server plan; tcp = false }

record Spent (plan : Plan) (failure : Failure) : Type 0 where
  all : plan.used ≡ plan.tries
  none : made plan (after_failure plan failure) ≡ None

record Again (plan : Plan) (failure : Failure) : Type 0 where
  left : plan.used ≡ plan.tries → ⊥
  cut : is_cut plan.tcp failure ≡ true
  later : made plan (after_failure plan failure) ≡ Some (over_tcp plan)

record Round (plan : Plan) (failure : Failure) : Type 0 where
  left : plan.used ≡ plan.tries → ⊥
  other : is_cut plan.tcp failure ≡ false
  later : made plan (after_failure plan failure) ≡ Some (by_udp plan)

row_left : (plan : Plan) (tcp : Bool) (failure : Failure)
    → ((is_cut tcp failure ≡ true) × (made plan (row false tcp failure plan) ≡ Some (over_tcp plan)))
    ⊎ ((is_cut tcp failure ≡ false) × (made plan (row false tcp failure plan) ≡ Some (by_udp plan)))
row_left plan true failure = inr (refl, refl)
row_left plan false TimedOut = inr (refl, refl)
row_left plan false Broken = inr (refl, refl)
row_left plan false Truncated = inl (refl, refl)
row_left plan false Malformed = inr (refl, refl)
row_left plan false Rcode = inr (refl, refl)
row_left plan false Lame = inr (refl, refl)

kinds : (plan : Plan) (failure : Failure) → Spent plan failure ⊎ (Again plan failure ⊎ Round plan failure)
kinds plan failure = by (plan.used == plan.tries) refl where
  by : (spent : Bool) → (plan.used == plan.tries) ≡ spent → Spent plan failure ⊎ (Again plan failure ⊎ Round plan failure)
  by true e = inl (record {
    all = eqb-true plan.used plan.tries e;
    none = ap (λ (spent : Bool). made plan (row spent plan.tcp failure plan)) e;
  })
  by false e =
      let is : made plan (after_failure plan failure) ≡ made plan (row false plan.tcp failure plan) = ap (λ (spent : Bool). made plan (row spent plan.tcp failure plan)) e in
      let left : plan.used ≡ plan.tries → ⊥ = λ same. let is_true : true ≡ false = sym (eq-eqb plan.used plan.tries same) ∙ e in cc in
      elim (row_left plan plan.tcp failure) [
        | inl w ↦ inr (inl (record { left = left; cut = w.0; later = is ∙ w.1 }))
        | inr w ↦ inr (inr (record { left = left; other = w.0; later = is ∙ w.1 }))
      ]

asks-last : (plan : Plan) (failure : Failure) (failures : List Failure) → made plan (after_failure plan failure) ≡ None
    → asks_from plan (failure ∷ failures) ≡ ask_of plan ∷ []
asks-last plan failure failures e =
    ap (λ (next : Option Plan). ask_of plan ∷ (elim next [ None ↦ [] | Some next_plan ↦ asks_from next_plan failures ])) e

asks-later : (plan later : Plan) (failure : Failure) (failures : List Failure) → made plan (after_failure plan failure) ≡ Some later
    → asks_from plan (failure ∷ failures) ≡ ask_of plan ∷ asks_from later failures
asks-later plan later failure failures e =
    ap (λ (next : Option Plan). ask_of plan ∷ (elim next [ None ↦ [] | Some next_plan ↦ asks_from next_plan failures ])) e

-- ---- how many

counted_from : (failures : List Failure) (plan : Plan) → plan.used ≤ plan.tries
    → length (asks_from plan failures) + plan.used ≡ min plan.tries (length failures + plan.used) + 1
counted_from [] plan within = omega arith
counted_from (failure ∷ failures) plan within =
    let each : (later : Plan) → made plan (after_failure plan failure) ≡ Some later → later.used ≡ plan.used + 1 → later.tries ≡ plan.tries → later.used ≤ later.tries
    → length (asks_from plan (failure ∷ failures)) + plan.used ≡ min plan.tries (length (failure ∷ failures) + plan.used) + 1
    = λ later e used tries le. omega (arith, ap length (asks-later plan later failure failures e), counted_from failures later le, used, tries) in
    elim (kinds plan failure) [
      | inl spent ↦ omega (arith, ap length (asks-last plan failure failures spent.none), spent.all)
      | inr left ↦ elim left [
        | inl again ↦ each (over_tcp plan) again.later refl refl (omega (arith, again.left))
        | inr round ↦ each (by_udp plan) round.later refl refl (omega (arith, round.left))
      ]
    ]

pub counted : (servers tries preferred : ℕ) (failures : List Failure) → 1 ≤ tries
    → length (asks_from (begun servers tries preferred) failures) ≡ min tries (length failures + 1)
counted servers tries preferred failures some =
    omega (arith, counted_from failures (begun servers tries preferred) some)

-- ---- in which order

tail_from : Plan → List Failure → List Ask
tail_from plan [] = []
tail_from plan (failure ∷ failures) = elim (made plan (after_failure plan failure)) [ None ↦ [] | Some later ↦ asks_from later failures ]

asks-head : (plan : Plan) (failures : List Failure) → asks_from plan failures ≡ ask_of plan ∷ tail_from plan failures
unfolding tail_from
asks-head plan [] = refl
asks-head plan (failure ∷ failures) = refl

turn_from : (failures : List Failure) (plan : Plan) → AllTurn plan.servers (asks_from plan failures) failures
turn_from [] plan = tt
turn_from (failure ∷ failures) plan =
    let each : (later : Plan) → made plan (after_failure plan failure) ≡ Some later → later.servers ≡ plan.servers
    → Turns plan.servers (is_cut plan.tcp failure) (ask_of plan) (ask_of later) → AllTurn plan.servers (asks_from plan (failure ∷ failures)) (failure ∷ failures)
    = λ later e same turn.
    let rest : AllTurn plan.servers (ask_of later ∷ tail_from later failures) failures =
    subst (λ (asks : List Ask). AllTurn plan.servers asks failures) (asks-head later failures)
    (subst (λ (servers : ℕ). AllTurn servers (asks_from later failures) failures) same (turn_from failures later)) in
    subst (λ (asks : List Ask). AllTurn plan.servers asks (failure ∷ failures))
    (sym (asks-later plan later failure failures e ∙ ap (λ (asks : List Ask). ask_of plan ∷ asks) (asks-head later failures))) (turn, rest) in
    elim (kinds plan failure) [
      | inl spent ↦ subst (λ (asks : List Ask). AllTurn plan.servers asks (failure ∷ failures)) (sym (asks-last plan failure failures spent.none)) tt
      | inr left ↦ elim left [
        | inl again ↦ each (over_tcp plan) again.later refl (rw again.cut (refl, refl))
        | inr round ↦ each (by_udp plan) round.later refl (rw round.other (refl, refl))
      ]
    ]

pub turns : (servers tries preferred : ℕ) (failures : List Failure) → AllTurn servers (asks_from (begun servers tries preferred) failures) failures
turns servers tries preferred failures = turn_from failures (begun servers tries preferred)

-- ---- round the group

round_again : (a b n : ℕ) → (a % n + b) % n ≡ (a + b) % n
round_again a b n =
    let same : (a % n + b) + n * (a / n) ≡ a + b = omega (arith, mod-add-div a n) in
    sym (add-mul-mod_self_left (a % n + b) n (a / n)) ∙ ap (λ (x : ℕ). x % n) same

here : (plan : Plan) (k : ℕ) → k ≡ 0 → plan.server < plan.servers → plan.server ≡ (plan.server + k) % plan.servers
here plan k none in_group =
    let same : plan.server + k ≡ plan.server = omega arith in
    sym (ap (λ (x : ℕ). x % plan.servers) same ∙ mod-eq_of_lt in_group)

others-later : (plan later : Plan) (failure : Failure) (failures : List Failure) (cut : Bool) → is_cut plan.tcp failure ≡ cut → made plan (after_failure plan failure) ≡ Some later
    → others_met (asks_from plan (failure ∷ failures)) (failure ∷ failures) ≡ (if cut then 0 else 1) + others_met (asks_from later failures) failures
others-later plan later failure failures cut is e =
    ap (λ (asks : List Ask). others_met asks (failure ∷ failures)) (asks-later plan later failure failures e)
    ∙ ap (λ (b : Bool). (if b then 0 else 1) + others_met (asks_from later failures) failures) is

asked_from : (failures : List Failure) (plan : Plan) (k : ℕ) → plan.server < plan.servers → length failures + plan.used ≤ plan.tries
    → k ≤ others_met (asks_from plan failures) failures → IsAsked ((plan.server + k) % plan.servers) (asks_from plan failures)
asked_from [] plan k in_group few le = inl (here plan k (omega arith) in_group)
asked_from (failure ∷ failures) plan k in_group few le =
    let into : (later : Plan) → made plan (after_failure plan failure) ≡ Some later
    → IsAsked ((plan.server + k) % plan.servers) (ask_of plan ∷ asks_from later failures) → IsAsked ((plan.server + k) % plan.servers) (asks_from plan (failure ∷ failures))
    = λ later e. subst (IsAsked ((plan.server + k) % plan.servers)) (sym (asks-later plan later failure failures e)) in
    elim (kinds plan failure) [
      | inl spent ↦ absurd (omega (arith, spent.all))
      | inr left ↦ elim left [
        | inl again ↦ into (over_tcp plan) again.later (inr (asked_from failures (over_tcp plan) k in_group (omega arith)
            (omega (arith, others-later plan (over_tcp plan) failure failures true again.cut again.later))))
        | inr round ↦
            let more = others-later plan (by_udp plan) failure failures false round.other round.later in
            into (by_udp plan) round.later (elim (leb_tells 1 k) [
              | inl later ↦
                  let on : ((plan.server + 1) % plan.servers + (k - 1)) % plan.servers ≡ (plan.server + k) % plan.servers =
                  let same : plan.server + 1 + (k - 1) ≡ plan.server + k = omega (arith, later.1) in
                  round_again (plan.server + 1) (k - 1) plan.servers ∙ ap (λ (x : ℕ). x % plan.servers) same in
                  inr (subst (λ (server : ℕ). IsAsked server (asks_from (by_udp plan) failures)) on
                  (asked_from failures (by_udp plan) (k - 1) (mod-lt (plan.server + 1) (omega arith)) (omega arith) (omega (arith, more, later.1))))
              | inr now ↦ inl (here plan k (omega (arith, now.1)) in_group)
            ])
      ]
    ]

pub asked : (servers tries preferred : ℕ) (failures : List Failure) → preferred < servers → length failures < tries
    → servers ≤ others_met (asks_from (begun servers tries preferred) failures) failures + 1
    → (server : ℕ) → server < servers → IsAsked server (asks_from (begun servers tries preferred) failures)
asked servers tries preferred failures in_group few enough server lt =
    let plan : Plan = begun servers tries preferred in
    let at : (k : ℕ) → (preferred + k) % servers ≡ server → k ≤ others_met (asks_from plan failures) failures → IsAsked server (asks_from plan failures)
    = λ k is le. subst (λ (asked : ℕ). IsAsked asked (asks_from plan failures)) is (asked_from failures plan k in_group (omega arith) le) in
    elim (leb_tells preferred server) [
      | inl above ↦
          let same : preferred + (server - preferred) ≡ server = omega (arith, above.1) in
          at (server - preferred) (ap (λ (x : ℕ). x % servers) same ∙ mod-eq_of_lt lt) (omega (arith, above.1))
      | inr below ↦
          let same : preferred + (server + servers - preferred) ≡ server + servers = omega (arith, below.1) in
          at (server + servers - preferred) (ap (λ (x : ℕ). x % servers) same ∙ add-mod_right server servers ∙ mod-eq_of_lt lt) (omega (arith, below.1))
    ]
