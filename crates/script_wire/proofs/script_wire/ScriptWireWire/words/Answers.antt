use Rattle.wires.specs.Wire.{words_were}
use Rattle.script_wire.proofs.Storing.{reports_if_stores}
use Rattle.script_wire.proofs.script_wire.ScriptWireWire.words.Goals as goal

pub returns-clause-reports : goal.returns-clause-reports
returns-clause-reports g c = reports_if_stores _ _ _ c.give_words.ensures.stores
