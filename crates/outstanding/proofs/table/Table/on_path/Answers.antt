use Rattle.std.proofs.Common.{ap, ◌∙◌}
use Rattle.slab.specs.Slab.{get}
use Rattle.outstanding.specs.Tables.{keys_of}
use Rattle.outstanding.proofs.KeyNumbers.{read_at, present_at}
use Rattle.outstanding.proofs.Indexed.{path_found, path_absent}
use Rattle.outstanding.proofs.table.Table.on_path.Goals as goal

pub index-requires-in-Ok : goal.index-requires-in-Ok
index-requires-in-Ok g c =
    present_at c.args.self.now.asks c.args.self.now.by_path.items c.in-Ok.place c.key.result c.index.result.now c.requires.keys.paths c.in-Ok.ensures.found.in_range c.index.ensures c.key.ensures.key

pub returns-in-Ok : goal.returns-in-Ok
returns-in-Ok g c =
    let is = read_at c.args.self.now.by_path.items c.in-Ok.place c.key.result c.index.result.now c.in-Ok.ensures.found.in_range c.index.ensures c.key.ensures.key in
    path_found c.args.self.now.asks (keys_of c.args.self.now.by_path.items) (keys_of c.args.self.now.by_question.items) c.args.self.now.by_arrival.keys c.requires.keys c.args.path c.in-Ok.place c.in-Ok.ensures.found
    c.index-in-Ok.result.now (ap (get c.args.self.now.asks) is ∙ c.index-in-Ok.ensures)

pub returns-in-Err : goal.returns-in-Err
returns-in-Err g c =
    path_absent c.args.self.now.asks (keys_of c.args.self.now.by_path.items) (keys_of c.args.self.now.by_question.items) c.args.self.now.by_arrival.keys c.requires.keys c.args.path c.in-Err.field-0 c.in-Err.ensures.absent
