use Rattle.reply_decisions.proofs.Accepting.{authority_counted}
use Rattle.reply_decisions.proofs.delivery.on_whole.Goals as goal

pub on_message-requires-clause-read : goal.on_message-requires-clause-read
on_message-requires-clause-read g c = record {
  shapes = c.in-Ok.ensures.shaped;
  few = authority_counted c.args.view.now c.in-Ok.message c.requires.octets c.in-Ok.ensures.exact;
}
