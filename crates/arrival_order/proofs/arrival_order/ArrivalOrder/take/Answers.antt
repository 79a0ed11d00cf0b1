use Rattle.std.proofs.Common.{◌≡◌, ◌<◌, ℕ, Option, OnSome, length, remove, sym, subst}
use Rattle.arrival_order.specs.Numbering.{ArrivalOrder, AreNumbered}
use Rattle.arrival_order.proofs.Numbers.{number_left}
use Rattle.arrival_order.proofs.arrival_order.ArrivalOrder.take.Goals as goal

pub invariant_of-self : goal.invariant_of-self
invariant_of-self g c =
    let within : c.args.place < length c.self.inside.keys.items = subst (λ (k : ArrivalOrder). c.args.place < length k.keys) (sym {A = ArrivalOrder} c.self.view_is) c.requires in
    subst (AreNumbered c.self.inside.numbers.items) (sym (subst (λ (r : Option ℕ). OnSome r (c.remove.new.self.items ≡ remove c.self.inside.keys.items c.args.place)) (c.remove.ensures.succeeds 0 (subst (λ n. c.args.place < n) (sym c.self.inside.keys.ok.0) within)) c.remove.ensures.items)) (number_left c.self.inside.numbers.items c.self.inside.keys.items c.args.place within c.self.invariant)
