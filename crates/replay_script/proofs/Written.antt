-- The part of a text received by a writer.
use Rattle.std.proofs.Common.{◌++◌, ℕ, List, [], Option, refl, ap, sym, ◌∙◌, append_assoc, append-nil}
use Rattle.std.specs.declared.io.ErrorKind.{ErrorKind}
use Rattle.std.specs.declared.io.ErrorKind.TheVariants.{OutOfMemory as OutOfMemoryKind}
use Rattle.replay_script.specs.Faults.{device_fault}
use Rattle.std.specs.Prelude.{None, Some, Result, Ok, Err}
use Rattle.std.specs.Io.KnownBytes.{Appends, Keeps}
use Rattle.std.proofs.KnownBytes.{Appends-nil, Appends-trans}
use Rattle.replay_script.specs.Configs.{IsOfStream}
use Rattle.replay_script.specs.Printing.{Writes}
use Rattle.replay_script.specs.declared.fault.ReplayFault.{ReplayFault}

-- A part written whole, and then the rest.
pub writes_more : (held mid held' : Option (List ℕ)) (front rest : List ℕ) (r : Result (Unit {0}) ReplayFault)
    → Appends held mid front → Writes mid rest r held' → Writes held (front ++ rest) r held'
writes_more held mid held' front rest (Ok done) before after = Appends-trans held mid held' front rest before after
writes_more held mid held' front rest (Err fault) before after =
    let written = after.1.0 in
    let left = after.1.1.0 in (
      after.0,
      (
        front ++ written,
        (left, ap (λ (t : List ℕ). front ++ t) after.1.1.1 ∙ sym (append_assoc front written left)),
        Appends-trans held mid held' front written before after.1.2,
      ),
    )

-- Nothing of a text.
pub writes_nothing : (held : Option (List ℕ)) (text : List ℕ) (fault : ReplayFault) → IsOfStream fault
    → Writes held text (Err fault) held
writes_nothing held text fault stream = (stream, ([], (text, refl), Appends-nil held))

-- A beginning of a text begins a longer text.
pub writes_begun : (held held' : Option (List ℕ)) (front rest : List ℕ) (fault : ReplayFault) → Writes held front (Err fault) held'
    → Writes held (front ++ rest) (Err fault) held'
writes_begun held held' front rest fault begun =
    let written = begun.1.0 in
    let left = begun.1.1.0 in (
      begun.0,
      (
        written,
        (left ++ rest, ap (λ (t : List ℕ). t ++ rest) begun.1.1.1 ∙ append_assoc written left rest),
        begun.1.2,
      ),
    )

-- A writer with unchanged content gets nothing.
pub keeps_appends : (held held' : Option (List ℕ)) → Keeps held held' → Appends held held' []
keeps_appends None held' keeps = tt
keeps_appends (Some octets) None keeps = absurd keeps
keeps_appends (Some octets) (Some same) keeps = keeps ∙ sym (append-nil octets)

-- An error of a stream is a fault of a stream.
pub stream_fault : (kind : ErrorKind) → IsOfStream (device_fault kind)
stream_fault OutOfMemoryKind = tt
stream_fault kind = tt
