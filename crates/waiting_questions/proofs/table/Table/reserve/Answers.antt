use Rattle.std.proofs.Common.{refl, rules}
use Rattle.waiting_questions.proofs.Indexed.{table_room}
use Rattle.waiting_questions.proofs.table.Table.reserve.Goals as goal

pub returns-in_err-reserve-clause-indexed : goal.returns-in_err-reserve-clause-indexed
returns-in_err-reserve-clause-indexed g c = table_room c.args.self.now _ c.reserve.ensures.rest_kept refl refl c.requires

pub returns-in_default-clause-indexed : goal.returns-in_default-clause-indexed
returns-in_default-clause-indexed g c = table_room c.args.self.now _ c.reserve.ensures.rest_kept refl refl c.requires

pub returns-in_err-reserve-2-clause-indexed : goal.returns-in_err-reserve-2-clause-indexed
returns-in_err-reserve-2-clause-indexed g c = table_room c.args.self.now _ c.reserve.ensures.rest_kept c.reserve-2.ensures.items refl c.requires

pub returns-clause-indexed : goal.returns-clause-indexed
returns-clause-indexed g c = table_room c.args.self.now _ c.reserve.ensures.rest_kept c.reserve-2.ensures.items c.reserve-3.ensures.same c.requires

pub returns-clause-room : goal.returns-clause-room
returns-clause-room g c = search rules
