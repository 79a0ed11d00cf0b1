use Rattle.dns_message.proofs.reading.ShapeLaws.{given_shaped, given_fits}
use Rattle.dns_message.proofs.reading.view.MessageRef.read_whole.Goals as goal

pub returns-clause-shaped : goal.returns-clause-shaped
returns-clause-shaped g c = given_shaped c.self.inside.bytes.now c.read_message.result c.read_message.ensures

pub returns-clause-fits : goal.returns-clause-fits
returns-clause-fits g c = given_fits c.self.inside.bytes.now c.read_message.result c.read_message.ensures
