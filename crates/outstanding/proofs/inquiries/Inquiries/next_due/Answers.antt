use Rattle.std.proofs.Common.{Some, sym, ap, ◌∙◌}
use Rattle.outstanding.specs.Values.{Ask, Inquiries}
use Rattle.outstanding.specs.Due.{due_of, next_due}
use Rattle.outstanding.specs.Tables.{asks_of}
use Rattle.outstanding.proofs.Dues.{first_due}
use Rattle.outstanding.proofs.inquiries.Inquiries.next_due.Goals as goal

pub returns : goal.returns
returns g c =
    ap Some (c.due_of.ensures ∙ ap (λ (a : Ask). due_of c.args.ask_ms a) c.ask.ensures)
    ∙ first_due c.args.ask_ms (asks_of c.self.inside.table) c.in_ok-oldest.oldest.now (sym c.in_ok-oldest.ensures) c.self.invariant.1.by_arrival
    ∙ ap (λ (inquiries : Inquiries). next_due c.args.ask_ms inquiries.asks) c.self.view_is
