-- Words about questions for claims alone: neither code nor table cites them.
use Rattle.std.specs.Prelude.{◌≡◌, ℕ, ◌≤◌, List, ◌⊎◌}
use Rattle.dns_message.specs.Values.{Question}

-- types 0, 41 and 128 to 255, and class 255: no data, or more than one type or class (RFC 1035
-- 3.2.3 and 3.2.5, RFC 6895 3.1)
abbrev pub IsUnserved : Question → Type 0
IsUnserved q = (q.kind ≡ 0) ⊎ (q.kind ≡ 41) ⊎ ((128 ≤ q.kind) × (q.kind ≤ 255)) ⊎ (q.class ≡ 255)

-- the question for this name: its type and class stay (RFC 1034 3.6.2)
abbrev pub for_name : Question → List (List ℕ) → Question
for_name q name = record { name = name; kind = q.kind; class = q.class }
