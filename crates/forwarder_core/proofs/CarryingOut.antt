-- The decision is carried out.
use Rattle.std.proofs.Common.{◌≡◌, ℕ, List, [], Bool, refl, sym, ◌∙◌, subst, Option, Some}
use Rattle.std.specs.Prelude.{Ok, IfSome}
use Rattle.suffix_routes.specs.Values.{Config}
use Rattle.step_values.specs.Values.{Event, Action, actions_of, Outcome}
use Rattle.trust_rank.specs.declared.slot.Slot.{Slot}
use Rattle.trust_rank.specs.Values.{Piece}
use Rattle.step_table.specs.State.{State, StepStart, start}
use Rattle.step_table.specs.AliasChains.LookingUp.{promoted_all}
use Rattle.step_table.specs.AliasChains.Offering.{put_all, unkept_of, pieces_of}
use Rattle.step_table.specs.Steps.{offering_step, with_promoted, with_entries}
use Rattle.step_table.specs.Row.{Happens, HandsOctets, effective, Row}
use Rattle.client_decisions.specs.StepActions.declared.decision.Change.{Change}
use Rattle.client_decisions.specs.StepActions.declared.decision.Change.TheVariants.{Nothing, Join, Open, Close, SendOn, AskAgain, Expire}
use Rattle.client_decisions.specs.StepActions.declared.decision.Decision.{Decision}
use Rattle.client_decisions.specs.StepActions.Decision.{changed, next_of, CanChange, IsDecided, IsDecidedQuietly, IsOutcome}

-- the changed values are the decided values
by_change : {A : Type 0} (n : ℕ) (rooms : List Bool) (s : State) (actions : List Action) (used : List Slot)
    (ps : List Piece) (change : Change A)
    → record {
      actions = actions;
      unkept = unkept_of (changed n s change).cache.capacity (changed n s change).moment rooms ps
          (promoted_all used (changed n s change).cache.entries);
      state = with_entries (put_all (changed n s change).cache.capacity (changed n s change).moment rooms ps
          (promoted_all used (changed n s change).cache.entries)) (changed n s change);
    }
    ≡ offering_step n rooms ps (record {
      actions = actions;
      unkept = 0;
      state = changed n (with_promoted used s) change;
    })
by_change n rooms s actions used ps Nothing = refl
by_change n rooms s actions used ps (Join b) = refl
by_change n rooms s actions used ps (Open b) = refl
by_change n rooms s actions used ps (Close path preferred) = refl
by_change n rooms s actions used ps (SendOn b) = refl
by_change n rooms s actions used ps (AskAgain path b) = refl
by_change n rooms s actions used ps (Expire closed) = refl

pub carried_out : {A : Type 0} (n : ℕ) (rooms : List Bool) (s : State) (d : Decision A) (mid after : State)
    (unkept : ℕ) → mid ≡ changed n s d.change
    → after ≡ with_entries (put_all mid.cache.capacity mid.moment rooms (pieces_of d.carried.items)
    (promoted_all d.used mid.cache.entries)) mid
    → unkept ≡ unkept_of mid.cache.capacity mid.moment rooms (pieces_of d.carried.items)
    (promoted_all d.used mid.cache.entries)
    → record { actions = actions_of d.actions; unkept = unkept; state = after } ≡ next_of n rooms s d
carried_out n rooms s d mid after unkept first second count =
    (λ i. record { actions = actions_of d.actions; unkept = count i; state = second i })
    ∙ (λ i. record {
      actions = actions_of d.actions;
      unkept = unkept_of (first i).cache.capacity (first i).moment rooms (pieces_of d.carried.items)
          (promoted_all d.used (first i).cache.entries);
      state = with_entries (put_all (first i).cache.capacity (first i).moment rooms (pieces_of d.carried.items)
          (promoted_all d.used (first i).cache.entries)) (first i);
    })
    ∙ by_change n rooms s (actions_of d.actions) d.used (pieces_of d.carried.items) d.change

-- an outcome as decided is the row's
pub row_is : {A : Type 0} (c : Config) (s s' : State) (now n : ℕ) (words : List ℕ) (e : Event)
    (d : Option (Decision A)) (next : Decision A) (o : Outcome) → n ≡ effective now s → HandsOctets e
    → IsDecided (start c n words s) e d → d ≡ Some next
    → ((rooms : List Bool) × IsOutcome c (next_of n rooms s next) o s')
    → Row c s (record { now = now; words = words; event = e }) o s'
row_is {A} c s s' now n words e d next o moment octets decided is out =
    let rooms = out.0 in
    let done = out.1 in
    let happens : Happens (start c n words s) e (next_of n rooms s next) =
    subst (IsDecided (start c n words s) e) is decided rooms in
    record {
      octets = octets;
      happens = subst (λ (m : ℕ). Happens (start c m words s) e
          (record { actions = o.actions; unkept = o.unkept; state = s' })) moment
          (subst (Happens (start c n words s) e) (sym done.done) happens);
      more = done.more;
    }

pub quiet_at : {A : Type 0} (d : Option (Decision A)) (next : Decision A) → d ≡ Some next
    → IsDecidedQuietly {A = A} (Ok d) → (next.used ≡ []) × (next.change ≡ Nothing)
quiet_at {A} d next is quiet = subst (λ (r : Option (Decision A)). IsDecidedQuietly {A = A} (Ok r)) is quiet

-- a decision's change fits
pub fits_at : {A : Type 0} (t : StepStart) (c : Config) (n m : ℕ) (words : List ℕ) (s : State)
    (d : Option (Decision A)) (next : Decision A) → t ≡ start c m words s → n ≡ m → d ≡ Some next
    → IfSome d (λ some. CanChange t.config t.moment t.state some) → CanChange c n s next
fits_at {A} t c n m words s d next begins moment is fits =
    subst (λ (k : ℕ). CanChange c k s next) (sym moment)
    (subst (λ (u : StepStart). CanChange u.config u.moment u.state next) begins
    (subst (λ (o : Option (Decision A)). IfSome o (λ some. CanChange t.config t.moment t.state some)) is fits))
