use Rattle.dns_message.proofs.writing.WriterMessages.{uncounted, whole_done}
use Rattle.dns_message.proofs.writing.RoundTripMessage.{spelled_done}
use Rattle.dns_message.proofs.writing.message.write_parts.Goals as goal

pub returns-in_default-clause-given : goal.returns-in_default-clause-given
returns-in_default-clause-given g c = uncounted c.args.limit c.args.message.now c.requires.limit c.in_default.ensures

pub returns-clause-given : goal.returns-clause-given
returns-clause-given g c = whole_done c.args.limit c.put_parts-done.result c.new-writer.result c.put_parts-done.new.writer c.args.message.now _ c.new-writer.ensures c.put_parts-done.ensures

pub returns-clause-spelled : goal.returns-clause-spelled
returns-clause-spelled g c = spelled_done c.args.limit c.put_parts-done.result c.new-writer.result c.put_parts-done.new.writer c.args.message.now c.requires.limit c.new-writer.ensures c.put_parts-done.ensures
