-- Shared by the worked histories: a step bringing a client's question for the address of a.e, with
-- this question alone looked up and wanted; and a question waiting alone for its ask.
use Rattle.std.proofs.Common.{◌≡◌, ℕ, ◌≤◌, List, [], ◌∷◌, length, Option, Some, None, true, false, refl, sym, ap, ◌∙◌, subst}
use Rattle.std.proofs.Common.{◌⊎◌, inl, inr, arith}
use Rattle.std.specs.List.{AllByRecursion}
use Rattle.dns_message.specs.Names.{step as name_step, walk_in, name_within}
use Rattle.dns_message.specs.Records.{octets_end, question_at}
use Rattle.dns_message.specs.Messages.{first_question}
use Rattle.dns_message.specs.Questions.{one_question, same_question}
use Rattle.dns_message.specs.Values.{Question}
use Rattle.suffix_routes.specs.Values.{Config}
use Rattle.suffix_routes.specs.Routes.{route_of}
use Rattle.step_values.specs.declared.event.Client.{Client}
use Rattle.step_values.specs.Values.{Request, Step}
use Rattle.step_history.specs.Causes.{ClosesAsk, NoneAsks, SendsAsk}
use Rattle.step_history.specs.Given.{IsOneOfTries}
use Rattle.step_history.specs.History.{is_restart, InEra, ShownAsk, listed, on_path, Reads, Sends}
use Rattle.step_history.specs.Sound.{unanswered}
use Rattle.step_table.proofs.Played.{a, address, config}
use Rattle.theorem_use.specs.Asking.{AnyByRecursion, Wants, EachWants, Asks, WasListed, IsSpelled, AsksForWaiting}
use Rattle.theorem_use.specs.Use.{AsksToLookUp}
use Rattle.theorem_use.proofs.TheoremSound.Served.{served_is}
use Rattle.cache_laws.proofs.CallerLemmas.{serves_exactly}
use Rattle.worked_claims.proofs.Texts.{question_text, client, none_listed}

-- ---- a single message, and a single question

pub request_is : (r s : Request) → Some r ≡ Some s → r ≡ s
request_is r s is = cc

pub not_sent : {r : Request} → ◌≡◌ {A = Option Request} None (Some r) → ⊥
not_sent is = absurd cc

pub question_is : (q r : Question) → Some q ≡ Some r → q ≡ r
question_is q r is = cc

-- ---- the question for a.e, with this identifier

abbrev pub BringsQuestion : Step → ℕ → Type 0
BringsQuestion s id = Sends s.input.event client (question_text id 1)

unfoldable pub looks_up : (s : Step) (id : ℕ) → BringsQuestion s id → AsksToLookUp config s client (address a)
unfolding first_question question_at octets_end name_within walk_in name_step route_of
looks_up s id brings = record {
  octets = question_text id 1;
  sends = brings;
  taken = refl;
  opcode = refl;
  reads = refl;
  served = served_is (address a) refl;
  route = 0;
  on_route = serves_exactly.only config a 0 refl;
}

pub looks_up_no_other : (c : Config) (s : Step) (id : ℕ) → BringsQuestion s id → (asker : Client) (q : Question)
    → AsksToLookUp c s asker q → address a ≡ q
unfolding first_question question_at octets_end name_within walk_in name_step
looks_up_no_other c s id brings asker q looks =
    let own : Request = record { client = client; octets = question_text id 1 } in
    let octets : question_text id 1 ≡ looks.octets = ap (λ (r : Request). r.octets)
    (request_is own (record { client = asker; octets = looks.octets }) (sym brings ∙ looks.sends)) in
    question_is (address a) q (ap one_question octets ∙ looks.reads)

-- the step wants its own question: no alias leads on
pub wants_it : (c : Config) (s : Step) (id : ℕ) (past now : List Step) → BringsQuestion s id → InEra (s ∷ past) now
    → Wants c now (length past) (address a)
unfolding first_question question_at octets_end name_within walk_in name_step
wants_it c s id past now brings in_era = record {
  asked = s;
  before = past;
  in_era = in_era;
  number = refl;
  client = client;
  request = question_text id 1;
  sent = brings;
  question = address a;
  reads = refl;
  aliases = [];
  leads = record { few = omega arith; follows = refl };
}

-- ---- a single question waits, and its ask alone is listed

pub waits_for_one : (c : Config) (s : Step) (past : List Step) (owners : List ℕ) (x : ShownAsk) (q : Question) (i : ℕ)
    → listed (s ∷ past) ≡ x ∷ [] → unanswered (s ∷ past) owners ≡ i ∷ [] → Wants c (s ∷ past) i q → Asks x q
    → WasListed past x ⊎ IsSpelled c s past (q ∷ []) x → AsksForWaiting c s past owners
waits_for_one c s past owners x q i one_listed one_waits wants asks_q from = record {
  wanted = q ∷ [];
  each = subst (λ (is : List ℕ). EachWants c (s ∷ past) is (q ∷ [])) (sym one_waits) (wants, tt);
  asked = (subst (AnyByRecursion (λ (y : ShownAsk). Asks y q)) (sym one_listed) (inl asks_q), tt);
  wanting = subst (AllByRecursion (λ (y : ShownAsk). AnyByRecursion (Asks y) (q ∷ []))) (sym one_listed)
      (inl asks_q, tt);
  spelled = subst (AllByRecursion (λ (y : ShownAsk). WasListed past y ⊎ IsSpelled c s past (q ∷ []) y))
      (sym one_listed) (from, tt);
}

-- the ask is new: no ask was listed before
pub waits_for_new : (c : Config) (s : Step) (past : List Step) (owners : List ℕ) (x : ShownAsk) (q : Question)
    → listed past ≡ [] → listed (s ∷ past) ≡ x ∷ [] → unanswered (s ∷ past) owners ≡ length past ∷ []
    → Wants c (s ∷ past) (length past) q → Reads x.octets q → same_question q q ≡ true
    → AsksForWaiting c s past owners
waits_for_new c s past owners x q none_before one_listed one_waits wants reads same =
    waits_for_one c s past owners x q (length past) one_listed one_waits wants
    (record { question = q; reads = reads; same = same }) (inr (record {
      question = q;
      reads = reads;
      from = inl (record { anew = λ closes quiet. none_closed closes; spelled = inl refl });
    }))
  where
    none_closed : ClosesAsk q s past → ⊥
    none_closed closes =
        none_listed (sym (ap (λ (asks : List ShownAsk). on_path closes.ask.path asks) none_before) ∙ closes.is_listed)

-- and is the first try of its inquiry
pub begins_tries : (c : Config) (s : Step) (past : List Step) (x : ShownAsk) (q : Question) → is_restart s ≡ false
    → listed past ≡ [] → listed (s ∷ past) ≡ x ∷ [] → Reads x.octets q → SendsAsk q s.outcome.actions
    → 1 ≤ c.limits.tries → AllByRecursion (IsOneOfTries c (s ∷ past)) (listed (s ∷ past))
begins_tries c s past x q runs none_before one_listed reads sends some =
    subst (AllByRecursion (IsOneOfTries c (s ∷ past))) (sym one_listed) (
      record {
        question = q;
        reads = reads;
        before = 0;
        failed = (runs, inl (sends, inl (subst (NoneAsks q) (sym none_before) tt)));
        few = some;
      },
      tt,
    )
