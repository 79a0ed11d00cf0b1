-- With the first idle client closed, fewer clients are open.
use Rattle.std.proofs.Common.{◌≡◌, ℕ, ◌<◌, List, [], ◌∷◌, length, Some, arith}
use Rattle.std.specs.Ordering.{nat_cmp}
use Rattle.std.specs.Map.{remove_entry}
use Rattle.std.specs.BTreeMap.{is_at}
use Rattle.std.proofs.lemmas.Grind.{common_steps}
use Rattle.stream_connections.specs.declared.client_stream.ClientStream.{ClientStream}
use Rattle.stream_connections.specs.Listed.{first_idle}

pub fewer_without_idle : {A : Type 0} (es : List (ℕ × ClientStream A)) (conn : ℕ) → first_idle es ≡ Some conn
    → length (remove_entry (is_at (nat_cmp conn)) es) < length es
fewer_without_idle [] conn h = grind arith
fewer_without_idle (e ∷ es) conn h = grind (arith, common_steps, fewer_without_idle es conn)
