use Rattle.suffix_routes.proofs.config.Config.read.Goals as goal

pub returns-in-Ok : goal.returns-in-Ok
returns-in-Ok g c = rw c.in-Ok.ensures.ok c.from_table.ensures
