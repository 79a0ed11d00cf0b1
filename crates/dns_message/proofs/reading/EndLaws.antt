-- A readable record ends with its own octets, wherever the pointers of its names lead.
use Rattle.std.proofs.Common.{◌≡◌, ℕ, ◌+◌, ◌≤◌, List, length, Result, Ok, Err, refl, ap, subst, ◌∙◌}
use Rattle.std.specs.Prelude.{IsOk}
use Rattle.dns_message.specs.declared.names.fault.Fault.{Fault}
use Rattle.dns_message.specs.Reading.{end_read}
use Rattle.dns_message.specs.Numbers.{number16}
use Rattle.dns_message.specs.Names.{name_at}
use Rattle.dns_message.proofs.names.NameLaws.{name_complete}
use Rattle.dns_message.specs.Values.{Record}
use Rattle.dns_message.specs.Records.{record_at}
use Rattle.dns_message.proofs.reading.SpellLaws.{read_as, record_sound}

pub record Ends (bytes : List ℕ) (o after : ℕ) : Type 0 where
  pub there : after + 10 ≤ length bytes
  pub ends : end_read (record_at bytes o) ≡ Ok (after + 10 + number16 bytes (after + 8))

record OwnerRead (bytes : List ℕ) (o : ℕ) : Type 0 where
  labels : List (List ℕ)
  after : ℕ
  read : name_at bytes o ≡ read_as labels after
  ends : Ends bytes o after

owner_by : (bytes : List ℕ) (o : ℕ) (r : Result (Record × ℕ) Fault) → record_at bytes o ≡ r → IsOk r → OwnerRead bytes o
owner_by bytes o (Ok x) is ok =
    let at = record_sound bytes o x.0 x.1 is in
    record {
      labels = x.0.owner;
      after = at.after;
      read = name_complete bytes o x.0.owner at.after at.owner at.fits;
      ends = record { there = at.there; ends = ap end_read is ∙ ap (λ (e : ℕ). Ok e) at.ends };
    }
owner_by bytes o (Err fault) is ok = absurd cc

owner_read : (bytes : List ℕ) (o : ℕ) → IsOk (record_at bytes o) → OwnerRead bytes o
owner_read bytes o ok = owner_by bytes o (record_at bytes o) refl ok

-- a readable record has a readable owner
pub owner_readable : (bytes : List ℕ) (o : ℕ) → IsOk (record_at bytes o) → IsOk (name_at bytes o)
owner_readable bytes o ok = rw (owner_read bytes o ok).read refl

pub record_ends : (bytes : List ℕ) (o after : ℕ) → IsOk (record_at bytes o) → end_read (name_at bytes o) ≡ Ok after → Ends bytes o after
record_ends bytes o after ok is =
    let own = owner_read bytes o ok in
    let read = ap end_read own.read in
    let same : own.after ≡ after = cc in
    subst (λ (a : ℕ). Ends bytes o a) same own.ends
