use Rattle.std.proofs.Common.{rules}
use Rattle.dns_name.proofs.text.is_label_character.Goals as goal

pub returns-else-octet-eq45 : goal.returns-else-octet-eq45
returns-else-octet-eq45 c = search rules
