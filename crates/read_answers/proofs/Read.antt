-- The message of an answer shows the answer's chain.
use Rattle.std.proofs.Common.{◌≡◌, ℕ, ◌<◌, List, [], ◌∷◌, ◌++◌, length, Some, refl, sym, ap, ◌∙◌, subst, arith}
use Rattle.std.proofs.Common.{false, append-nil, append_assoc}
use Rattle.std.proofs.lemmas.List.{map-append}
use Rattle.std.specs.Prelude.{map}
use Rattle.std.specs.List.{flat_map, AllByRecursion}
use Rattle.dns_message.specs.declared.reading.header.Header.{Header}
use Rattle.dns_message.specs.Header.{header_in}
use Rattle.dns_message.specs.Values.{Question, Record}
use Rattle.dns_message.specs.Messages.{Spells}
use Rattle.trust_rank.specs.Values.{Body, rows, no_data, denied}
use Rattle.record_cache.specs.Values.{Held}
use Rattle.answer_builder.specs.Values.{PieceWithTtl, Sections, asked_in}
use Rattle.answer_builder.specs.Answers.{with_ttl, with_stale_ttl, with_stale_ttls, answers_of, rcode_of, soa_records}
use Rattle.answer_builder.specs.Answers.{sections_with_ttls, sections_of, full_answer}
use Rattle.step_history.specs.History.{Look, moment_at}
use Rattle.step_history.specs.Answers.{FollowsAliases, EndsChain}
use Rattle.step_history.specs.Stale.{IsSet}
use Rattle.step_history.specs.Replies.{stale_sections, denied_sections, FitsTransport}
use Rattle.theorem_cache.proofs.CallerLemmas.{answers_are_spelled, stale_answers_are_spelled, local_answers_are_spelled}
use Rattle.read_answers.specs.Read.{AreSecondsLeft, AreStaleSeconds, BeginWith, IsResponseTo}
use Rattle.read_answers.specs.Read.{ShowsChain, ShowsStaleChain, ShowsDenial}
use Rattle.read_answers.specs.Laws.{AnswersAreRead, StaleAnswersAreRead, LocalAnswersAreRead}
use Rattle.read_answers.proofs.Records.{IsSetOf, sets_shown, left_shown, stale_shown, aliases_are_sets}
use Rattle.read_answers.proofs.Records.{stale_aliases_are_sets, end_shown, sections_with, sections_are}
use Rattle.read_answers.proofs.Cut.{whole_or_cut}

-- ---- a message with these sections

responds : (h : Header) (q : Question) (s : Sections)
    → IsResponseTo h (q ∷ []) false (full_answer (asked_in h (Some q)) s)
responds h q s = record {
  id = refl;
  qr = refl;
  opcode = refl;
  aa = refl;
  tc = refl;
  rd = refl;
  ra = refl;
  z = refl;
  question = refl;
  additional = refl;
}

small_code : (b : Body) → rcode_of b < 16
small_code (rows each) = omega arith
small_code (no_data soa) = omega arith
small_code (denied soa) = omega arith

-- the records of the last piece alone
alone : (x : PieceWithTtl) → flat_map answers_of (x ∷ []) ≡ answers_of x
alone x = append-nil (answers_of x)

-- ---- answers

abbrev chain_sections : ℕ → List Held → Held → Sections
chain_sections t os end = sections_with (map (with_ttl t) os ++ with_ttl t end ∷ []) (with_ttl t end)

chain_is : (t : ℕ) (os : List Held) (end : Held) → chain_sections t os end ≡ sections_of t (os ++ end ∷ [])
chain_is t os end = sym (ap sections_with_ttls (map-append (with_ttl t) os (end ∷ []))
    ∙ sections_are (map (with_ttl t) os) (with_ttl t end))

chain_shown : (l : Look) (h : Header) (q last : Question) (os : List Held) (end : Held) (t : ℕ)
    → FollowsAliases l q os last → EndsChain last end.piece end.piece.body
    → ShowsChain h q os end t (full_answer (asked_in h (Some q)) (chain_sections t os end))
chain_shown l h q last os end t follows ends = record {
  response = responds h q (chain_sections t os end);
  rest = answers_of (with_ttl t end);
  begins = subst (λ (rs : List Record). BeginWith (AreSecondsLeft t) os
      (flat_map answers_of (map (with_ttl t) os ++ with_ttl t end ∷ [])) rs) (alone (with_ttl t end))
      (sets_shown (AreSecondsLeft t) (with_ttl t) (left_shown t) os (aliases_are_sets l q last os follows)
      (with_ttl t end ∷ []));
  ends = end_shown t end last end.piece.body refl ends;
}

pub answers_are_read : AnswersAreRead
answers_are_read l client h q octets a asks told m spells =
    let t : ℕ = moment_at l.now in
    let s : Sections = sections_of t (a.aliases ++ a.end ∷ []) in
    let is : chain_sections t a.aliases a.end ≡ s = chain_is t a.aliases a.end in
    whole_or_cut client h q s (ShowsChain h q a.aliases a.end t)
    (subst (λ (x : Sections). ShowsChain h q a.aliases a.end t (full_answer (asked_in h (Some q)) x)) is
    (chain_shown l h q a.chain.last a.aliases a.end t a.chain.leads.follows a.chain.ends))
    asks.opcode (subst (λ (x : Sections). x.rcode < 16) is (small_code a.end.piece.body)) m
    (answers_are_spelled (asked_in h (Some q)) q t a.aliases a.end asks told client
    (subst (λ (o : List ℕ). FitsTransport client o) a.text a.fits))
    (subst (λ (o : List ℕ). Spells o m) a.text spells)

-- ---- answers with expired data

abbrev stale_pieces : ℕ → List Held → Held → List PieceWithTtl
stale_pieces t found end = map (with_stale_ttl t) found ++ with_stale_ttl t end ∷ []

abbrev stale_chain : ℕ → List Held → List Held → Held → Sections
stale_chain t held found end =
    sections_with (map (with_ttl t) held ++ stale_pieces t found end) (with_stale_ttl t end)

-- the held aliases have the seconds left, and only pieces after them may be stale
held_and_stale : (t : ℕ) (held more : List Held) → with_stale_ttls (length held) t (held ++ more)
    ≡ map (with_ttl t) held ++ map (with_stale_ttl t) more
held_and_stale t [] more = refl
held_and_stale t (o ∷ held) more = ap (λ (xs : List PieceWithTtl). with_ttl t o ∷ xs) (held_and_stale t held more)

stale_is : (t : ℕ) (held found : List Held) (end : Held)
    → stale_chain t held found end ≡ stale_sections t held found end
stale_is t held found end =
    let xs : List PieceWithTtl = map (with_ttl t) held in
    let ys : List PieceWithTtl = map (with_stale_ttl t) found in
    let x : PieceWithTtl = with_stale_ttl t end in
    let pieces : with_stale_ttls (length held) t (held ++ (found ++ end ∷ [])) ≡ xs ++ (ys ++ x ∷ []) =
    held_and_stale t held (found ++ end ∷ [])
    ∙ ap (λ (zs : List PieceWithTtl). xs ++ zs) (map-append (with_stale_ttl t) found (end ∷ [])) in
    let apart : xs ++ (ys ++ x ∷ []) ≡ (xs ++ ys) ++ x ∷ [] = sym (append_assoc xs ys (x ∷ [])) in
    sym (ap sections_with_ttls (pieces ∙ apart) ∙ sections_are (xs ++ ys) x
    ∙ ap (λ (zs : List PieceWithTtl). sections_with zs x) (sym apart))

set_has_no_soa : (t : ℕ) (b : Body) → IsSet b → (soa_records t b ≡ []) × (rcode_of b ≡ 0)
set_has_no_soa t (rows each) is = (refl, refl)
set_has_no_soa t (no_data soa) is = absurd is
set_has_no_soa t (denied soa) is = absurd is

-- a set of this type
set_of : (o : Held) (kind : ℕ) (b : Body) → o.piece.body ≡ b → IsSet b → o.piece.slot.kind ≡ Some kind → IsSetOf o
set_of o kind (rows each) is set kind_is = record { kind = kind; each = each; kind_is = kind_is; body = is }
set_of o kind (no_data soa) is set kind_is = absurd set
set_of o kind (denied soa) is set kind_is = absurd set

stale_chain_shown : (h : Header) (q : Question) (held found : List Held) (end : Held) (t : ℕ)
    → AllByRecursion IsSetOf held → AllByRecursion IsSetOf found → IsSetOf end → IsSet end.piece.body
    → ShowsStaleChain h q held found end t (full_answer (asked_in h (Some q)) (stale_chain t held found end))
stale_chain_shown h q held found end t held_are found_are end_is set = record {
  response = responds h q (stale_chain t held found end);
  more = flat_map answers_of (stale_pieces t found end);
  rest = answers_of (with_stale_ttl t end);
  begins = sets_shown (AreSecondsLeft t) (with_ttl t) (left_shown t) held held_are (stale_pieces t found end);
  goes_on = subst (λ (rs : List Record). BeginWith (AreStaleSeconds t) found
      (flat_map answers_of (stale_pieces t found end)) rs) (alone (with_stale_ttl t end))
      (sets_shown (AreStaleSeconds t) (with_stale_ttl t) (stale_shown t) found found_are (with_stale_ttl t end ∷ []));
  ends = stale_shown t end end_is;
  authority = (set_has_no_soa (with_stale_ttl t end).seconds end.piece.body set).0;
  rcode = (set_has_no_soa (with_stale_ttl t end).seconds end.piece.body set).1;
}

pub stale_answers_are_read : StaleAnswersAreRead
stale_answers_are_read l client request octets r asks told m spells =
    let t : ℕ = moment_at l.now in
    let h : Header = header_in request in
    let q : Question = r.tries.question in
    let held : List Held = r.tries.aliases in
    let found : List Held = r.answers.found in
    let end : Held = r.answers.end in
    let s : Sections = stale_sections t held found end in
    let is : stale_chain t held found end ≡ s = stale_is t held found end in
    let set : IsSet end.piece.body = r.answers.chain.justified.is_set in
    whole_or_cut client h q s (ShowsStaleChain h q held found end t)
    (subst (λ (x : Sections). ShowsStaleChain h q held found end t (full_answer (asked_in h (Some q)) x)) is
    (stale_chain_shown h q held found end t (aliases_are_sets l q r.tries.last held r.tries.leads.follows)
    (stale_aliases_are_sets l r.tries.last r.answers.chain.last found r.answers.chain.follows)
    (set_of end r.answers.chain.last.kind end.piece.body refl set r.answers.chain.slot.kind) set))
    asks.opcode (subst (λ (x : Sections). x.rcode < 16) is (small_code end.piece.body)) m
    (stale_answers_are_spelled (asked_in h (Some q)) q t held found end asks told client
    (subst (λ (o : List ℕ). FitsTransport client o) r.answers.text r.answers.fits))
    (subst (λ (o : List ℕ). Spells o m) r.answers.text spells)

-- ---- denials by a route

denial_shown : (h : Header) (q : Question) (os : List Held) (t : ℕ) → AllByRecursion IsSetOf os
    → ShowsDenial h q os t (full_answer (asked_in h (Some q)) (denied_sections t os))
denial_shown h q os t are = record {
  response = responds h q (denied_sections t os);
  aliases_are = subst (λ (xs : List PieceWithTtl). BeginWith (AreSecondsLeft t) os (flat_map answers_of xs) [])
      (append-nil (map (with_ttl t) os)) (sets_shown (AreSecondsLeft t) (with_ttl t) (left_shown t) os are []);
  authority = refl;
  rcode = refl;
}

pub local_answers_are_read : LocalAnswersAreRead
local_answers_are_read l client h q octets a asks told m spells =
    let t : ℕ = moment_at l.now in
    whole_or_cut client h q (denied_sections t a.aliases) (ShowsDenial h q a.aliases t)
    (denial_shown h q a.aliases t (aliases_are_sets l q a.chain.last a.aliases a.chain.leads.follows))
    asks.opcode (omega arith) m
    (local_answers_are_spelled (asked_in h (Some q)) q t a.aliases asks told client
    (subst (λ (o : List ℕ). FitsTransport client o) a.text a.fits))
    (subst (λ (o : List ℕ). Spells o m) a.text spells)
