use Rattle.std.proofs.Common.{rules}
use Rattle.stream_connections.proofs.client_stream.ClientStream.is_late.Goals as goal

pub returns-then-silent-ge-PATIENCE : goal.returns-then-silent-ge-PATIENCE
returns-then-silent-ge-PATIENCE g c = search rules
