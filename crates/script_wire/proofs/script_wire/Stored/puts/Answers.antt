use Rattle.std.proofs.Common.{ap}
use Rattle.std.specs.Prelude.{map}
use Rattle.script_wire.specs.Scripts.{put_of}
use Rattle.script_wire.proofs.Storing.{shows}
use Rattle.script_wire.proofs.script_wire.Stored.puts.Goals as goal

pub returns : goal.returns
returns g c = shows c.self.inside.reports _ _ _ _ _ _ c.self.view_is (ap (map put_of) c.as_slice.ensures.value)
