use Rattle.std.proofs.Common.{rules}
use Rattle.dns_name.proofs.key.NameKey.from_octets.Goals as goal

pub key_of-requires : goal.key_of-requires
key_of-requires c = search rules
