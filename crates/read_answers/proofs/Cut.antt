-- A text sized for a client's transport is read as the whole message or as the cut message.
use Rattle.std.proofs.Common.{◌≡◌, ℕ, ◌+◌, ◌*◌, ◌/◌, ◌%◌, ◌<◌, ◌≤◌, Bool, true, false, cond, List, length, Some, ◌⊎◌}
use Rattle.std.proofs.Common.{inl, inr, refl, sym, ap, ◌∙◌, subst, arith}
use Rattle.std.specs.Prelude.{nat_le}
use Rattle.std.proofs.lemmas.Bool.{leb-false, le-leb, lt-leb, true≢false, false≢true}
use Rattle.dns_message.specs.declared.reading.header.Header.{Header}
use Rattle.dns_message.specs.Header.{header_in}
use Rattle.dns_message.specs.Values.{Question, Message}
use Rattle.dns_message.specs.Messages.{Spells}
use Rattle.dns_message.specs.Writing.{◌▹◌, written}
use Rattle.dns_message.proofs.CallerLemmas.{one_message_is_spelled}
use Rattle.answer_builder.specs.Values.{Asked, Sections, asked_in}
use Rattle.answer_builder.specs.Answers.{answer_message, full_answer, cut_answer, bare}
use Rattle.step_values.specs.declared.event.Client.{Client}
use Rattle.step_values.specs.declared.event.Client.TheVariants.{Udp, Tcp}
use Rattle.step_history.specs.Replies.{full_text, short_text, sized_for}
use Rattle.step_table.proofs.CallerLemmas.{header_there}
use Rattle.theorem_cache.specs.Kept.{SpellsSections}
use Rattle.read_answers.specs.Read.{IsByUdp, IsWholeOrCut, ShowsQuestion}

-- ---- TC

-- TC in the flags of a response
set : (opcode rd rcode : ℕ) → opcode < 16 → rd ≤ 256 → rcode < 16
    → nat_le 1 ((32768 + opcode * 2048 + 0 + 512 + rd + 128 + 0 * 16 + rcode) / 256 % 256 / 2 % 2) ≡ true
set opcode rd rcode small few low = le-leb 1 _ (omega (arith, small, few, low))

clear : (opcode rd rcode : ℕ) → opcode < 16 → rd ≤ 256 → rcode < 16
    → nat_le 1 ((32768 + opcode * 2048 + 0 + 0 + rd + 128 + 0 * 16 + rcode) / 256 % 256 / 2 % 2) ≡ false
clear opcode rd rcode small few low = lt-leb 1 _ (omega (arith, small, few, low))

-- TC as written
tc_written : (a : Asked) (cut : Bool) (s : Sections) → a.opcode < 16 → s.rcode < 16
    → (header_in (written (answer_message a cut s))).tc ≡ cut
unfolding written ◌▹◌
tc_written a cut s small low = by cut a.rd
  where
    by : (cut rd : Bool) → (header_in (written (answer_message (record a { rd = rd }) cut s))).tc ≡ cut
    by true true = set a.opcode 256 s.rcode small (omega arith) low
    by true false = set a.opcode 0 s.rcode small (omega arith) low
    by false true = clear a.opcode 256 s.rcode small (omega arith) low
    by false false = clear a.opcode 0 s.rcode small (omega arith) low

-- TC as read
tc_read : (octets : List ℕ) (m : Message) → Spells octets m → (header_in octets).tc ≡ m.header.tc
tc_read octets m spells = ap (λ (h : Header). h.tc) (header_there octets m.header spells.header).0

whole_is_whole : (a : Asked) (s : Sections) → a.opcode < 16 → s.rcode < 16 → SpellsSections (full_text a s) a s
    → Spells (full_text a s) (full_answer a s)
whole_is_whole a s small low (inl full) = full
whole_is_whole a s small low (inr cut) =
    absurd (false≢true (sym (tc_written a false s small low) ∙ tc_read (full_text a s) (cut_answer a s) cut))

cut_is_cut : (a : Asked) (s : Sections) → a.opcode < 16 → s.rcode < 16 → SpellsSections (short_text a s) a s
    → Spells (short_text a s) (cut_answer a s)
cut_is_cut a s small low (inl full) =
    absurd (true≢false (sym (tc_written a true (bare s.rcode) small low)
    ∙ tc_read (short_text a s) (full_answer a s) full))
cut_is_cut a s small low (inr cut) = cut

-- ---- the message

-- the cut message is read: over UDP the text of the whole message is too long
record IsCutFor (client : Client) (a : Asked) (s : Sections) (m : Message) : Type 0 where
  is : cut_answer a s ≡ m
  by_udp : IsByUdp client
  long : 512 < length (written (full_answer a s))

read_as : (client : Client) (a : Asked) (s : Sections) → a.opcode < 16 → s.rcode < 16 → (m : Message)
    → SpellsSections (sized_for client (full_text a s) (short_text a s)) a s
    → Spells (sized_for client (full_text a s) (short_text a s)) m → (full_answer a s ≡ m) ⊎ IsCutFor client a s m
read_as (Tcp conn) a s small low m told spells =
    inl (one_message_is_spelled (full_text a s) (full_answer a s) m (whole_is_whole a s small low told) spells)
read_as (Udp peer) a s small low m told spells = by (nat_le (length (full_text a s)) 512) refl told spells
  where
    by : (b : Bool) → nat_le (length (full_text a s)) 512 ≡ b
        → SpellsSections (cond b (full_text a s) (short_text a s)) a s
        → Spells (cond b (full_text a s) (short_text a s)) m → (full_answer a s ≡ m) ⊎ IsCutFor (Udp peer) a s m
    by true few told spells =
        inl (one_message_is_spelled (full_text a s) (full_answer a s) m (whole_is_whole a s small low told) spells)
    by false many told spells = inr (record {
      is = one_message_is_spelled (short_text a s) (cut_answer a s) m (cut_is_cut a s small low told) spells;
      by_udp = tt;
      long = leb-false (length (full_text a s)) 512 many;
    })

-- the whole message is read, or the cut message
pub whole_or_cut : (client : Client) (h : Header) (q : Question) (s : Sections) (Shows : Message → Type 0)
    → Shows (full_answer (asked_in h (Some q)) s) → h.opcode < 16 → s.rcode < 16 → (m : Message)
    → SpellsSections (sized_for client (full_text (asked_in h (Some q)) s) (short_text (asked_in h (Some q)) s))
    (asked_in h (Some q)) s
    → Spells (sized_for client (full_text (asked_in h (Some q)) s) (short_text (asked_in h (Some q)) s)) m
    → IsWholeOrCut client h q Shows m
whole_or_cut client h q s Shows shown small low m told spells =
    elim (read_as client (asked_in h (Some q)) s small low m told spells) [
      | inl whole ↦ inl (subst Shows whole shown)
      | inr cut ↦ inr (subst (ShowsQuestion client h q Shows) cut.is (record {
        by_udp = cut.by_udp;
        response = record {
          id = refl;
          qr = refl;
          opcode = refl;
          aa = refl;
          tc = refl;
          rd = refl;
          ra = refl;
          z = refl;
          question = refl;
          additional = refl;
        };
        answers = refl;
        authority = refl;
        whole = full_answer (asked_in h (Some q)) s;
        shows = shown;
        long = cut.long;
        rcode = refl;
      }))
    ]
