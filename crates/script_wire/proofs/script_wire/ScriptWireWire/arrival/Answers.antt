use Rattle.std.proofs.Common.{◌∙◌, sym}
use Rattle.script_wire.proofs.Storing.{counted_so, refused_so}
use Rattle.script_wire.proofs.script_wire.ScriptWireWire.arrival.Goals as goal

pub returns-then-is_refused-clause-refuses : goal.returns-then-is_refused-clause-refuses
returns-then-is_refused-clause-refuses g c =
    let value = c.self-2.view_is ∙ c.is_refused.ensures.counts in
    let refused = sym c.is_refused.ensures.refused ∙ c.if-is_refused.true in (
      counted_so _ c.begin-arrival.new.self c.args.self.now c.keep_refusal.new.self value c.begin-arrival.ensures.begun,
      λ not_so. absurd (refused_so c.begin-arrival.new.self c.args.self.now refused c.begin-arrival.ensures.begun not_so),
    )
