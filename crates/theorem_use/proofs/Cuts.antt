-- What follows a truncated reply by UDP: an ask over TCP, and after no other failure.
use Rattle.std.proofs.Common.{◌≡◌, ◌∙◌, ℕ, List, Bool, true, false, cond, refl, sym}
use Rattle.std.specs.Prelude.{◌==◌, ◌||◌, Result, Ok, Err}
use Rattle.std.proofs.lemmas.Bool.{cond-true, cond-false, true≢false}
use Rattle.dns_message.specs.Header.{header_in}
use Rattle.dns_message.specs.declared.names.fault.Fault.{Fault}
use Rattle.dns_message.specs.Values.{Message}
use Rattle.dns_message.specs.Messages.{message_of}
use Rattle.suffix_routes.specs.declared.peer.Peer.{Peer}
use Rattle.outstanding.specs.declared.ask.Path.{Path}
use Rattle.outstanding.specs.declared.ask.Path.TheVariants.{Udp, Tcp}
use Rattle.outstanding.specs.Lists.{is_tcp}
use Rattle.outstanding.specs.Values.{Ask}
use Rattle.reply_match.specs.declared.verdict.Verdict.TheVariants.{Stranger, Truncated, Failed}
use Rattle.reply_match.specs.Verdicts.{matches, judge, judged_whole}
use Rattle.retry_failover.specs.declared.Failure.{Failure}
use Rattle.retry_failover.specs.declared.Failure.TheVariants as failure
use Rattle.retry_failover.specs.declared.Next.TheVariants.{AskUdp, AskTcp}
use Rattle.retry_failover.specs.declared.Plan.{Plan}
use Rattle.retry_failover.specs.Table.{row}
use Rattle.step_history.specs.Turns.{ByUdp}

-- ---- the table of attempts

-- after a truncated reply by UDP no ask goes by UDP
pub not_by_udp : (b tcp : Bool) (f : Failure) (plan : Plan) (k : ℕ) → row b tcp f plan ≡ AskUdp k → f ≡ failure.Truncated
    → tcp ≡ false → ⊥
not_by_udp true tcp f plan k e cut udp = absurd (cc)
not_by_udp false true f plan k e cut udp = true≢false udp
not_by_udp false false failure.Truncated plan k e cut udp = absurd (cc)
not_by_udp false false failure.TimedOut plan k e cut udp = absurd (cc)
not_by_udp false false failure.Broken plan k e cut udp = absurd (cc)
not_by_udp false false failure.Malformed plan k e cut udp = absurd (cc)
not_by_udp false false failure.Rcode plan k e cut udp = absurd (cc)
not_by_udp false false failure.Lame plan k e cut udp = absurd (cc)

-- after no other failure an ask goes over TCP
pub cut_by_udp : (b tcp : Bool) (f : Failure) (plan : Plan) (k : ℕ) → row b tcp f plan ≡ AskTcp k
    → (f ≡ failure.Truncated) × (tcp ≡ false)
cut_by_udp true tcp f plan k e = absurd (cc)
cut_by_udp false true f plan k e = absurd (cc)
cut_by_udp false false failure.Truncated plan k e = (refl, refl)
cut_by_udp false false failure.TimedOut plan k e = absurd (cc)
cut_by_udp false false failure.Broken plan k e = absurd (cc)
cut_by_udp false false failure.Malformed plan k e = absurd (cc)
cut_by_udp false false failure.Rcode plan k e = absurd (cc)
cut_by_udp false false failure.Lame plan k e = absurd (cc)

-- ---- verdicts and TC

not_truncated : (b : Bool) (r : Result Message Fault) (code : ℕ) → cond b (judged_whole r) (Failed code) ≡ Truncated → ⊥
not_truncated true (Ok m) code e = absurd (cc)
not_truncated true (Err fault) code e = absurd (cc)
not_truncated false r code e = absurd (cc)

pub judged_cut : (from : Peer) (octets : List ℕ) (a : Ask) → judge a from octets ≡ Truncated → (header_in octets).tc ≡ true
judged_cut from octets a e = by (matches a from octets) refl (header_in octets).tc refl
  where
    by : (b : Bool) → matches a from octets ≡ b → (t : Bool) → (header_in octets).tc ≡ t → (header_in octets).tc ≡ true
    by false m t tc =
        let bad : Stranger ≡ Truncated = sym (cond-false (matches a from octets) _ _ m) ∙ e in absurd (cc)
    by true m true tc = tc
    by true m false tc = absurd (not_truncated (((header_in octets).rcode == 0) || ((header_in octets).rcode == 3))
        (message_of octets) (header_in octets).rcode
        (sym (cond-true (matches a from octets) _ _ m ∙ cond-false (header_in octets).tc _ _ tc) ∙ e))

pub judged_uncut : (from : Peer) (octets : List ℕ) (a : Ask) → (judge a from octets ≡ Stranger → ⊥)
    → (judge a from octets ≡ Truncated → ⊥) → (header_in octets).tc ≡ true → ⊥
judged_uncut from octets a known uncut tc = by (matches a from octets) refl
  where
    by : (b : Bool) → matches a from octets ≡ b → ⊥
    by false m = known (cond-false (matches a from octets) _ _ m)
    by true m = uncut (cond-true (matches a from octets) _ _ m ∙ cond-true (header_in octets).tc _ _ tc)

-- ---- paths

pub udp_is : (p : Path) → ByUdp p → is_tcp p ≡ false
udp_is (Udp port) by_udp = refl
udp_is (Tcp conn) by_udp = absurd by_udp

pub is_udp : (p : Path) → is_tcp p ≡ false → ByUdp p
is_udp (Udp port) e = tt
is_udp (Tcp conn) e = true≢false e
