use Rattle.wires.specs.Wire.{moment_was}
use Rattle.script_wire.proofs.Storing.{reports_if_stores}
use Rattle.script_wire.proofs.script_wire.ScriptWireWire.moment.Goals as goal

pub returns-clause-reports : goal.returns-clause-reports
returns-clause-reports g c = reports_if_stores _ _ _ c.give_moment.ensures.stores
