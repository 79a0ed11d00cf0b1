-- The message of an ask is a query for its question.
use Rattle.std.proofs.Common.{◌≡◌, ℕ, ◌%◌, ◌-◌, ◌^◌, ◌<◌, Bool, true, false, cond, List, [], ◌∷◌, get_or, Some, None}
use Rattle.std.proofs.Common.{Option, refl, sym, ap, subst, arith}
use Rattle.std.specs.Prelude.{◌==◌}
use Rattle.dns_message.specs.Values.{Question}
use Rattle.dns_message.specs.Messages.{Spells}
use Rattle.dns_message.specs.Writing.{written}
use Rattle.dns_message.specs.Written.{IsQuestion}
use Rattle.dns_message.proofs.CallerLemmas.{written_message_is_spelled}
use Rattle.outstanding.specs.declared.ask.Path.{Path}
use Rattle.outstanding.specs.declared.ask.Path.TheVariants.{Udp, Tcp}
use Rattle.outstanding.specs.Draws.{ask_message, drawn_by_tcp, port_of}
use Rattle.step_values.specs.Values.{Action, Step}
use Rattle.step_history.specs.History.{ShownAsk, listed, tcp_asks}
use Rattle.step_history.specs.Draws.{is_busy, drawn}
use Rattle.step_history.specs.Asked.{IsDrawn}
use Rattle.theorem_cache.proofs.CallerLemmas.{alone_short}
use Rattle.read_answers.specs.Read.{IsQueryFor}
use Rattle.read_answers.specs.Laws.{AsksAreRead}

-- ---- a drawn identifier has 16 bits

abbrev first_of : Option (ℕ × ℕ) → ℕ
first_of None = 0
first_of (Some draw) = draw.0

-- no draw, or the low 16 bits of a word
abbrev drawn_unless : Bool → Option (ℕ × ℕ) → ℕ → ℕ → Option (ℕ × ℕ)
drawn_unless b other word place = cond b other (Some (word % 65536, place))

of_word : (word id place own : ℕ) → drawn_unless false None word place ≡ Some (id, own) → id < 65536
of_word word id place own is = let same : word % 65536 ≡ id = ap first_of is in omega (arith, same)

by_udp : (words : List ℕ) (asks : List ShownAsk) (actions : List Action) (id port : ℕ)
    → drawn words asks actions ≡ Some (id, port) → id < 65536
by_udp [] asks actions id port is = absurd (cc)
by_udp (word ∷ words) asks actions id port is =
    by (is_busy (Udp (port_of word)) asks actions) (λ later. by_udp words asks actions id port later) is
  where
    by : (b : Bool) → (drawn words asks actions ≡ Some (id, port) → id < 65536)
        → drawn_unless b (drawn words asks actions) word (port_of word) ≡ Some (id, port) → id < 65536
    by true more is = more is
    by false more is = of_word word id (port_of word) port is

by_tcp : (words : List ℕ) (count id conn : ℕ) → drawn_by_tcp words count ≡ Some (id, conn) → id < 65536
by_tcp words count id conn is = by (count == 2 ^ 64 - 1) is
  where
    by : (b : Bool) → drawn_unless b None (get_or words 0 0) count ≡ Some (id, conn) → id < 65536
    by true is = absurd (cc)
    by false is = of_word (get_or words 0 0) id count conn is

small : (s : Step) (past : List Step) (id : ℕ) (path : Path) → IsDrawn s past id path → id < 65536
small s past id (Udp port) is = by_udp s.input.words (listed past) s.outcome.actions id port is
small s past id (Tcp conn) is = by_tcp s.input.words (tcp_asks past) id conn is

-- ---- the text

ask_spelled : (id : ℕ) (q : Question) → IsQuestion q → id < 65536
    → Spells (written (ask_message id q)) (ask_message id q)
ask_spelled id q question few = written_message_is_spelled (ask_message id q) (record {
  id = few;
  bits = record { opcode = omega arith; z = omega arith; rcode = omega arith };
  questions = (question, tt);
  answers = tt;
  authority = tt;
  additional = tt;
}) refl (record { answers = tt; authority = tt; additional = tt })
    (alone_short (ask_message id q).header q question.name)

pub query_shown : (id : ℕ) (q : Question) → IsQueryFor id q (ask_message id q)
query_shown id q = record {
  id_is = refl;
  qr = refl;
  opcode = refl;
  aa = refl;
  tc = refl;
  rd = refl;
  ra = refl;
  z = refl;
  rcode = refl;
  question = refl;
  answers = refl;
  authority = refl;
  additional = refl;
}

pub asks_are_read : AsksAreRead
asks_are_read c s past a r question = record {
  message = ask_message r.id r.question;
  spells = subst (λ (o : List ℕ). Spells o (ask_message r.id r.question)) (sym r.text)
      (ask_spelled r.id r.question question (small s past r.id a.path r.drawn_so));
  shows = query_shown r.id r.question;
}
