use Rattle.answer_builder.proofs.Texts.{written_fits, refused_fits_not}
use Rattle.answer_builder.proofs.text.put_whole.Goals as goal

pub returns-in-Ok : goal.returns-in-Ok
returns-in-Ok g c = written_fits c.args.limit c.args.message.now c.write_parts.new.octets.items c.in-Ok.ensures.given

pub returns-in-Err-TooLarge : goal.returns-in-Err-TooLarge
returns-in-Err-TooLarge g c =
    let refused = rw c.in-Err-TooLarge.field-0-is at c.in-Err-TooLarge.ensures.given in refused_fits_not c.args.limit c.args.message.now _ refused
