use Rattle.std.proofs.Common.{◌≡◌, ◌∙◌, List, ℕ, false, ap, sym, subst}
use Rattle.step_table.specs.ReplyMatch.declared.Verdict.TheVariants.{Stranger}
use Rattle.step_values.specs.Requests.{is_taken}
use Rattle.outstanding.specs.Lists.{on_path as ask_on}
use Rattle.step_values.specs.declared.event.Event.{Event as OwnedEvent}
use Rattle.step_values.specs.Values.{event_of}
use Rattle.step_table.specs.Row.{Happens, TakesNoMemory}
use Rattle.step_table.specs.Replies.{row_of_delivery, verdict_on}
use Rattle.step_table.specs.Clients.{row_of_request}
use Rattle.client_decisions.specs.StepActions.Decision.{next_of}
use Rattle.forwarder_core.proofs.deciding.decide.Goals as goal

pub returns-in_ok-next-in-Client-clause-row : goal.returns-in_ok-next-in-Client-clause-row
returns-in_ok-next-in-Client-clause-row g c = λ rooms.
    subst (λ (e : OwnedEvent g.row.A.Denot). Happens c.args.start.now (event_of e)
    (next_of c.args.start.now.moment rooms c.args.start.now.state c.in_ok-next-in-Client.next)) (sym c.in-Client.is)
    (c.in_ok-next-in-Client.ensures.decides.row rooms ∙ ap
    (λ (octets : List ℕ). row_of_request c.args.start.now c.in-Client.client octets) c.as_slice-octets.ensures)

pub returns-in_ok-next-in-Delivery-clause-row : goal.returns-in_ok-next-in-Delivery-clause-row
returns-in_ok-next-in-Delivery-clause-row g c = λ rooms.
    subst (λ (e : OwnedEvent g.row.A.Denot). Happens c.args.start.now (event_of e)
    (next_of c.args.start.now.moment rooms c.args.start.now.state c.in_ok-next-in-Delivery.next)) (sym c.in-Delivery.is) (
      rooms,
      c.in_ok-next-in-Delivery.ensures.decides.row rooms
          ∙ ap (λ (octets : List ℕ). row_of_delivery c.args.start.now rooms c.in-Delivery.from octets
          (ask_on c.in-Delivery.path c.args.start.now.state.asks)) c.as_slice-octets-in-Delivery.ensures,
    )

pub returns-in_ok-next-in-PathFailed-clause-row : goal.returns-in_ok-next-in-PathFailed-clause-row
returns-in_ok-next-in-PathFailed-clause-row g c = λ rooms.
    subst (λ (e : OwnedEvent g.row.A.Denot). Happens c.args.start.now (event_of e)
    (next_of c.args.start.now.moment rooms c.args.start.now.state c.in_ok-next-in-PathFailed.next))
    (sym c.in-PathFailed.is)
    (c.in_ok-next-in-PathFailed.ensures.decides.row rooms)

pub returns-in_ok-next-in-Tick-clause-row : goal.returns-in_ok-next-in-Tick-clause-row
returns-in_ok-next-in-Tick-clause-row g c = λ rooms.
    subst (λ (e : OwnedEvent g.row.A.Denot). Happens c.args.start.now (event_of e)
    (next_of c.args.start.now.moment rooms c.args.start.now.state c.in_ok-next-in-Tick.next)) (sym c.in-Tick.is)
    (c.in_ok-next-in-Tick.ensures.decides.row rooms)

pub returns-in_ok-next-in-Tick-clause-no_memory : goal.returns-in_ok-next-in-Tick-clause-no_memory
returns-in_ok-next-in-Tick-clause-no_memory g c = λ quiet.
    c.in_ok-next-in-Tick.ensures.early (subst (λ (e : OwnedEvent g.row.A.Denot). TakesNoMemory c.args.start.now.config
    c.args.start.now.moment c.args.start.now.state (event_of e)) c.in-Tick.is quiet)

pub returns-in_ok-next-in-PathFailed-clause-no_memory : goal.returns-in_ok-next-in-PathFailed-clause-no_memory
returns-in_ok-next-in-PathFailed-clause-no_memory g c = λ quiet.
    c.in_ok-next-in-PathFailed.ensures.unlisted (subst
    (λ (e : OwnedEvent g.row.A.Denot). TakesNoMemory c.args.start.now.config c.args.start.now.moment
    c.args.start.now.state (event_of e)) c.in-PathFailed.is quiet)

pub returns-in_ok-next-in-Client-clause-no_memory : goal.returns-in_ok-next-in-Client-clause-no_memory
returns-in_ok-next-in-Client-clause-no_memory g c = λ quiet.
    c.in_ok-next-in-Client.ensures.dropped
    (subst (λ (octets : List ℕ). is_taken octets ≡ false) (sym c.as_slice-octets.ensures)
    (subst (λ (e : OwnedEvent g.row.A.Denot). TakesNoMemory c.args.start.now.config c.args.start.now.moment
    c.args.start.now.state (event_of e)) c.in-Client.is quiet))

pub returns-in_ok-next-in-Delivery-clause-no_memory : goal.returns-in_ok-next-in-Delivery-clause-no_memory
returns-in_ok-next-in-Delivery-clause-no_memory g c = λ quiet.
    c.in_ok-next-in-Delivery.ensures.unmatched
    (subst (λ (octets : List ℕ). verdict_on c.args.start.now.config c.args.start.now.moment c.in-Delivery.from octets
    (ask_on c.in-Delivery.path c.args.start.now.state.asks) ≡ Stranger) (sym c.as_slice-octets-in-Delivery.ensures)
    (subst (λ (e : OwnedEvent g.row.A.Denot). TakesNoMemory c.args.start.now.config c.args.start.now.moment
    c.args.start.now.state (event_of e)) c.in-Delivery.is quiet))

pub returns-in_ok-next-in-Client-clause-form : goal.returns-in_ok-next-in-Client-clause-form
returns-in_ok-next-in-Client-clause-form g c = c.in_ok-next-in-Client.ensures.decides.form

pub returns-in_ok-next-in-Delivery-clause-form : goal.returns-in_ok-next-in-Delivery-clause-form
returns-in_ok-next-in-Delivery-clause-form g c = c.in_ok-next-in-Delivery.ensures.decides.form

pub returns-in_ok-next-in-PathFailed-clause-form : goal.returns-in_ok-next-in-PathFailed-clause-form
returns-in_ok-next-in-PathFailed-clause-form g c = c.in_ok-next-in-PathFailed.ensures.decides.form

pub returns-in_ok-next-in-Tick-clause-form : goal.returns-in_ok-next-in-Tick-clause-form
returns-in_ok-next-in-Tick-clause-form g c = c.in_ok-next-in-Tick.ensures.decides.form
