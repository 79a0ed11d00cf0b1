-- The ends of questions and records.
use Rattle.std.proofs.Common.{◌≡◌, ℕ, ◌+◌, List, Result, Ok, Err, refl, ◌∙◌}
use Rattle.dns_message.specs.declared.names.fault.Fault.{Fault}
use Rattle.dns_message.specs.Reading.{◌>>=◌, end_read}
use Rattle.dns_message.specs.Numbers.{number16}
use Rattle.dns_message.specs.Names.{name_at}
use Rattle.dns_message.specs.Data.{data_at}
use Rattle.dns_message.specs.Records.{octets_end, question_at, record_at}

-- reading and skipping end at equal places

pub behind_bind : {X Y : Type 0} (r : Result (X × ℕ) Fault) (f : X × ℕ → Result (Y × ℕ) Fault) (g : ℕ → Result ℕ Fault) → ((x : X × ℕ) → end_read (f x) ≡ g x.1) → end_read (r >>= f) ≡ (end_read r >>= g)
behind_bind (Ok x) f g same = same x
behind_bind (Err e) f g same = refl

pub behind_same : {X Y : Type 0} (r : Result X Fault) (f : X → Result (Y × ℕ) Fault) (g : X → Result ℕ Fault) → ((x : X) → end_read (f x) ≡ g x) → end_read (r >>= f) ≡ (r >>= g)
behind_same (Ok x) f g same = same x
behind_same (Err e) f g same = refl

just : (r : Result ℕ Fault) → (r >>= λ e. Ok e) ≡ r
just (Ok e) = refl
just (Err f) = refl

just_behind : {X : Type 0} (r : Result (X × ℕ) Fault) → (end_read r >>= λ e. Ok e) ≡ end_read r
just_behind (Ok x) = refl
just_behind (Err f) = refl

pub question_behind : (bytes : List ℕ) (o : ℕ) → end_read (question_at bytes o) ≡ (end_read (name_at bytes o) >>= λ after. octets_end bytes after 4)
unfolding question_at
question_behind bytes o =
    behind_bind (name_at bytes o) _ (λ after. octets_end bytes after 4) (λ name.
    behind_same (octets_end bytes name.1 4) _ (λ e. Ok e) (λ e. refl) ∙ just (octets_end bytes name.1 4))

pub record_behind : (bytes : List ℕ) (o : ℕ)
    → end_read (record_at bytes o) ≡ (end_read (name_at bytes o) >>= λ after. octets_end bytes after 10 >>= λ fixed. end_read (data_at (number16 bytes after) bytes fixed (number16 bytes (after + 8))))
unfolding record_at
record_behind bytes o =
    behind_bind (name_at bytes o) _ (λ after. octets_end bytes after 10 >>= λ fixed. end_read (data_at (number16 bytes after) bytes fixed (number16 bytes (after + 8)))) (λ owner.
    behind_same (octets_end bytes owner.1 10) _ (λ fixed. end_read (data_at (number16 bytes owner.1) bytes fixed (number16 bytes (owner.1 + 8)))) (λ fixed.
    behind_bind (data_at (number16 bytes owner.1) bytes fixed (number16 bytes (owner.1 + 8))) _ (λ e. Ok e) (λ rdata. refl)
    ∙ just_behind (data_at (number16 bytes owner.1) bytes fixed (number16 bytes (owner.1 + 8)))))
