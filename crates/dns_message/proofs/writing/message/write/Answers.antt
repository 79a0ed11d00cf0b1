use Rattle.std.proofs.lemmas.Result.{err_from_is_err_and}
use Rattle.dns_message.proofs.writing.WriterMessages.{uncounted, refused_whole, written_whole}
use Rattle.dns_message.proofs.writing.RoundTripMessage.{spelled_whole}
use Rattle.dns_message.proofs.writing.message.write.Goals as goal

pub returns-then-not-can_be_counted-clause-given : goal.returns-then-not-can_be_counted-clause-given
returns-then-not-can_be_counted-clause-given g c = uncounted c.args.limit c.args.message.now c.requires.limit (λ counts. absurd (cc (c.can_be_counted.ensures.1 counts, c.if-not-can_be_counted.true)))

pub returns-in_err-put_message-clause-given : goal.returns-in_err-put_message-clause-given
returns-in_err-put_message-clause-given g c =
    let p = err_from_is_err_and c.from_residual.result c.from_residual.ensures.1 in
    rw (p.1, p.2) (refused_whole c.args.limit c.in_err-put_message.field-0.0 c.new-writer.result c.args.message.now c.new-writer.ensures c.in_err-put_message.ensures)

pub returns-clause-given : goal.returns-clause-given
returns-clause-given g c = rw c.from_vec.ensures (written_whole c.args.limit c.new-writer.result c.put_message.new.writer c.args.message.now c.new-writer.ensures c.in_ok-put_message.ensures.0 c.in_ok-put_message.ensures.1)

pub returns-clause-spelled : goal.returns-clause-spelled
returns-clause-spelled g c = λ counted shapes.
    rw c.from_vec.ensures
    (spelled_whole c.args.limit c.new-writer.result c.put_message.new.writer c.args.message.now c.requires.limit c.new-writer.ensures c.in_ok-put_message.ensures.0 c.in_ok-put_message.ensures.1 c.in_ok-put_message.ensures.2 counted shapes)
