-- Commands that did their work, if some octets say the configuration of the worked service: `check`
-- with its line, and `serve` for one turn. Neighbours print no line, or want one turn more.
use Rattle.std.proofs.Common.{◌≡◌, ℕ, List, [], ◌∷◌, ◌++◌, length, Some, refl, sym, ap, ◌∙◌, subst, arith}
use Rattle.std.specs.Fmt.{digits}
use Rattle.std.specs.Prelude.{get_or}
use Rattle.std.specs.Io.KnownBytes.{Appends}
use Rattle.socket_wire.specs.Seen.{SeenWire}
use Rattle.wires.specs.Wire.{Journal, journal}
use Rattle.forwarder_commands.specs.declared.commands.Command.TheVariants.{Check, Serve}
use Rattle.forwarder_commands.specs.Commands.{IsOfOctets}
use Rattle.forwarder_commands.specs.Counts.{checked_text, counted_text}
use Rattle.forwarder_commands.specs.Done.{Checks, ServesOctets, IsDone}
use Rattle.forwarder_commands.specs.ServingLoop.declared.counts.Served.{Served}
use Rattle.forwarder_commands.specs.Service.{IsWireOf, journal_of, ServesAndReports, ServesFrom}
use Rattle.worked_turns.proofs.Neighbours.{HoldsButFor}
use Rattle.worked_turns.proofs.Services.{config, before, after, silent, heard, line, digit_is, it_serves}

-- ok 1, for the one route, and the end of the line
abbrev checked_line : List ℕ
checked_line = 111 ∷ 107 ∷ 32 ∷ 49 ∷ 10 ∷ []

some_text : (text : List ℕ) → ◌≡◌ {A = List ℕ} [] (text ++ 10 ∷ []) → ⊥
some_text [] is = absurd cc
some_text (x ∷ text) is = absurd cc

-- a line that tells one turn tells no other number
one_told : (c : Served) → line 49 ≡ counted_text c.turns c.lost ++ 10 ∷ [] → c.turns ≡ 2 → ⊥
one_told c text is =
    let own : line 49 ≡ counted_text 2 c.lost ++ 10 ∷ [] =
    subst (λ (n : ℕ). line 49 ≡ counted_text n c.lost ++ 10 ∷ []) is text in
    let wrong : 49 ≡ 50 = ap (λ (xs : List ℕ). get_or xs 6 0) own ∙ (digit_is c.lost).1 in
    omega (arith, wrong)

-- ---- over a new wire that gave and took what the worked turn says

module _ (wire wire_after : SeenWire) (is_new : IsWireOf config wire) (gave : journal_of wire_after ≡ heard) where
  new_journal : silent ≡ journal_of wire
  new_journal = λ i. journal (Some (sym is_new.report i)) (sym is_new.faults i)

  it_serves_from : ServesFrom before 1 (Some (65 ∷ [])) (Some (65 ∷ line 49))
  it_serves_from = record {
    wire = wire;
    is_new = is_new;
    after = after;
    wire_after = wire_after;
    serves = subst (λ (z : Journal × Journal). ServesAndReports before z.0 1 after z.1 (Some (65 ∷ [])) (Some (65 ∷ line 49)))
        (λ i. (new_journal i, sym gave i)) it_serves;
  }

module _ (of_octets : IsOfOctets config) where
  -- ---- a check

  it_checks : Checks (Some (65 ∷ [])) (Some (65 ∷ checked_line))
  unfolding digits
  it_checks = record { config = config; of_octets = of_octets; reports = refl }

  checked : IsDone Check
  checked = (Some (65 ∷ []), (Some (65 ∷ checked_line), it_checks))

  no_line : HoldsButFor (Appends (Some []) (Some []) (checked_text 1 ++ 10 ∷ [])) (Checks (Some []) (Some []))
  no_line = (
    λ reports. record { config = config; of_octets = of_octets; reports = reports },
    λ h. some_text (checked_text (length h.config.routes)) h.reports,
  )

  -- ---- a service for one turn

  it_serves_octets : ServesFrom before 1 (Some (65 ∷ [])) (Some (65 ∷ line 49))
      → ServesOctets 1 (Some (65 ∷ [])) (Some (65 ∷ line 49))
  it_serves_octets from = record { config = config; of_octets = of_octets; serves = from }

  served : ServesFrom before 1 (Some (65 ∷ [])) (Some (65 ∷ line 49)) → IsDone Serve
  served from = (1, (Some (65 ∷ []), (Some (65 ∷ line 49), it_serves_octets from)))

  two_turns : HoldsButFor (ServesFrom before 2 (Some []) (Some (line 49))) (ServesOctets 2 (Some []) (Some (line 49)))
  two_turns = (
    λ from. record { config = config; of_octets = of_octets; serves = from },
    λ h. one_told h.serves.serves.counts h.serves.serves.reports
        (ap (λ (c : Served). c.turns) h.serves.serves.serves.ends.2),
  )
