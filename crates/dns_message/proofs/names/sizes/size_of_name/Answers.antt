use Rattle.std.proofs.Common.{sym, arith}
use Rattle.dns_message.proofs.names.SizeLaws.{known_at, known_fits, known_long, measured}
use Rattle.dns_message.proofs.names.sizes.size_of_name.Goals as goal

pub returns-then-used-size-gt255-clause-exact : goal.returns-then-used-size-gt255-clause-exact
returns-then-used-size-gt255-clause-exact c =
    let known = known_at c.args.bytes.now c.args.sizes.now c.args.start c.in-Some.size c.requires.known c.in-Some.ensures in
    sym (known_long c.args.bytes.now c.args.start c.args.used c.in-Some.size c.requires.room known (omega arith))

pub returns-in-Some-clause-exact : goal.returns-in-Some-clause-exact
returns-in-Some-clause-exact c =
    let known = known_at c.args.bytes.now c.args.sizes.now c.args.start c.in-Some.size c.requires.known c.in-Some.ensures in
    sym (known_fits c.args.bytes.now c.args.start c.args.used c.in-Some.size c.requires.room known (omega arith))

pub remember-requires-clause-read : goal.remember-requires-clause-read
remember-requires-clause-read c = measured c.args.bytes.now c.args.start c.args.used c.in_ok-size.size c.requires.room (sym c.in_ok-size.ensures)
