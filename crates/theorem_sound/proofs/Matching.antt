-- The facts implied by a verdict.
use Rattle.std.proofs.Common.{◌≡◌, ℕ, ◌+◌, ◌≤◌, List, length, Bool, true, false, refl, sym, ◌∙◌, subst, arith, Option, Some, None}
use Rattle.std.specs.Prelude.{◌==◌, ◌&&◌, ◌||◌, nat_le, slice_index}
use Rattle.std.proofs.lemmas.Bool.{and_parts, leb-true, le-leb, cond-true, cond-false, eqb-true, false≢true}
use Rattle.dns_message.specs.Values.{Question}
use Rattle.suffix_routes.specs.declared.peer.Peer.{Peer}
use Rattle.reply_match.specs.declared.verdict.Verdict.{Verdict}
use Rattle.reply_match.specs.declared.verdict.Verdict.TheVariants.{Stranger, Truncated, Failed, Malformed, Whole}
use Rattle.reply_match.specs.Peers.{same_peer}
use Rattle.reply_match.specs.Questions.{asks_this}
use Rattle.dns_message.specs.Questions.{one_question}
use Rattle.reply_match.specs.Verdicts.{judge, matches}
use Rattle.dns_message.specs.Questions.{same_question}
use Rattle.outstanding.specs.Values.{Ask}
use Rattle.dns_message.specs.Header.{header_in}
use Rattle.theorem_sound.proofs.Names.{same_peer-true}

-- a whole reply matches, has no TC, and has response code 0 or 3
pub judged_parts : (from : Peer) (octets : List ℕ) (a : Ask) → judge a from octets ≡ Whole
    → (matches a from octets ≡ true) × ((header_in octets).tc ≡ false) × ((((header_in octets).rcode == 0) || ((header_in octets).rcode == 3)) ≡ true)
judged_parts from octets a e = by (matches a from octets) refl (header_in octets).tc refl (((header_in octets).rcode == 0) || ((header_in octets).rcode == 3)) refl
  where
    by : (b : Bool) → matches a from octets ≡ b → (t : Bool) → (header_in octets).tc ≡ t → (r : Bool) → (((header_in octets).rcode == 0) || ((header_in octets).rcode == 3)) ≡ r
        → (matches a from octets ≡ true) × ((header_in octets).tc ≡ false) × ((((header_in octets).rcode == 0) || ((header_in octets).rcode == 3)) ≡ true)
    by false m t tc r rc = let bad : Stranger ≡ Whole = sym (cond-false (matches a from octets) _ _ m) ∙ e in absurd (cc)
    by true m true tc r rc = let bad : Truncated ≡ Whole = sym (cond-true (matches a from octets) _ _ m ∙ cond-true (header_in octets).tc _ _ tc) ∙ e in absurd (cc)
    by true m false tc false rc = let bad : Failed (header_in octets).rcode ≡ Whole = sym (cond-true (matches a from octets) _ _ m ∙ cond-false (header_in octets).tc _ _ tc ∙ cond-false (((header_in octets).rcode == 0) || ((header_in octets).rcode == 3)) _ _ rc) ∙ e in absurd (cc)
    by true m false tc true rc = (m, tc, rc)

-- the verdict is not `Stranger`
abbrev pub IsNoStranger : Verdict → Type 0
IsNoStranger Stranger = ⊥
IsNoStranger Truncated = Unit {0}
IsNoStranger (Failed rcode) = Unit {0}
IsNoStranger Malformed = Unit {0}
IsNoStranger Whole = Unit {0}

-- octets with any other verdict match
pub judged_match : (from : Peer) (octets : List ℕ) (a : Ask) (v : Verdict) → judge a from octets ≡ v → IsNoStranger v → matches a from octets ≡ true
judged_match from octets a v e known = by (matches a from octets) refl
  where
    by : (b : Bool) → matches a from octets ≡ b → matches a from octets ≡ true
    by true m = m
    by false m = absurd (subst IsNoStranger (sym e ∙ cond-false (matches a from octets) _ _ m) known)

-- the only question is the only one counted
pub one_counted : (octets : List ℕ) (q : Question) → one_question octets ≡ Some q
    → slice_index (header_in octets).counts 0 ≡ 1
one_counted octets q reads = by (slice_index (header_in octets).counts 0 == 1) refl
  where
    by : (b : Bool) → (slice_index (header_in octets).counts 0 == 1) ≡ b → slice_index (header_in octets).counts 0 ≡ 1
    by true one = eqb-true (slice_index (header_in octets).counts 0) 1 one
    by false other = absurd (none (sym (cond-false (slice_index (header_in octets).counts 0 == 1) _ _ other) ∙ reads))
      where
        none : ◌≡◌ {A = Option Question} None (Some q) → ⊥
        none e = absurd cc

-- the parts of a match, as facts
pub record MatchFacts (a : Ask) (from : Peer) (octets : List ℕ) : Type 0 where
  pub long_enough : 12 ≤ length octets
  pub not_too_long : length octets ≤ 65535
  pub is_reply : (header_in octets).qr ≡ true
  pub opcode : (header_in octets).opcode ≡ 0
  pub identifier : (header_in octets).id ≡ a.id
  pub server : from ≡ a.peer
  pub question : Question
  pub reads : one_question octets ≡ Some question
  pub same : same_question question a.question ≡ true

asked_this : (q : Question) (o : Option Question) → asks_this q o ≡ true → (other : Question) × (o ≡ Some other) × (same_question other q ≡ true)
asked_this q None e = absurd (false≢true e)
asked_this q (Some other) e = (other, refl, e)

pub match_facts : (a : Ask) (from : Peer) (octets : List ℕ) → matches a from octets ≡ true → MatchFacts a from octets
match_facts a from octets e =
    let h = header_in octets in
    let six = and_parts (nat_le 12 (length octets) && nat_le (length octets) 65535 && h.qr && (h.opcode == 0) && (h.id == a.id) && same_peer from a.peer) (asks_this a.question (one_question octets)) e in
    let five = and_parts (nat_le 12 (length octets) && nat_le (length octets) 65535 && h.qr && (h.opcode == 0) && (h.id == a.id)) (same_peer from a.peer) six.0 in
    let four = and_parts (nat_le 12 (length octets) && nat_le (length octets) 65535 && h.qr && (h.opcode == 0)) (h.id == a.id) five.0 in
    let three = and_parts (nat_le 12 (length octets) && nat_le (length octets) 65535 && h.qr) (h.opcode == 0) four.0 in
    let two = and_parts (nat_le 12 (length octets) && nat_le (length octets) 65535) h.qr three.0 in
    let one = and_parts (nat_le 12 (length octets)) (nat_le (length octets) 65535) two.0 in
    let this = asked_this a.question (one_question octets) six.1 in
    record {
      long_enough = leb-true 12 (length octets) one.0;
      not_too_long = leb-true (length octets) 65535 one.1;
      is_reply = two.1;
      opcode = eqb-true h.opcode 0 three.1;
      identifier = eqb-true h.id a.id four.1;
      server = same_peer-true from a.peer five.1;
      question = this.0;
      reads = this.1;
      same = this.2;
    }

pub is_full : (most n : ℕ) → nat_le most n ≡ true → n ≤ most → n ≡ most
is_full most n t few = let all = leb-true most n t in omega (arith, all, few)

pub has_room : (most n : ℕ) → nat_le most n ≡ false → n + 1 ≤ most
has_room most n f = let below : ¬ (most ≤ n) = λ k. false≢true (sym f ∙ le-leb most n k) in omega (arith, below)
