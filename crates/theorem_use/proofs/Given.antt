-- After a row that accepts a reply whose content ends, no ask for its question is listed, and the
-- row sends none. Each listed ask is one of its inquiry's tries. Nobody waits for what came.
use Rattle.std.proofs.Common.{◌≡◌, ◌∙◌, ℕ, List, [], ◌∷◌, ◌++◌, Bool, true, false, refl, sym, ap, subst, append-nil, Some, None, inl, inr}
use Rattle.std.specs.Prelude.{map}
use Rattle.std.specs.List.{AllByRecursion}
use Rattle.std.proofs.lemmas.Bool.{true≢false}
use Rattle.dns_message.specs.Values.{Question}
use Rattle.dns_message.specs.Questions.{same_question}
use Rattle.plain_values.specs.Octets.{AreOctets}
use Rattle.suffix_routes.specs.declared.peer.Peer.{Peer}
use Rattle.suffix_routes.specs.Values.{Config}
use Rattle.outstanding.specs.declared.ask.Path.{Path}
use Rattle.outstanding.specs.Lists.{on_path as ask_on, without_path}
use Rattle.outstanding.specs.Values.{Ask}
use Rattle.outstanding.proofs.CallerLemmas.{question_free_without_path}
use Rattle.trust_rank.specs.Values.{Piece, End, found, ends_no_data, ends_denied, elsewhere, lame, Walk}
use Rattle.trust_rank.specs.Walks.{walk_of}
use Rattle.step_values.specs.Values.{Delivered, Event, from_client, delivery, path_failed, tick, restart, Step}
use Rattle.step_history.specs.Causes.{NoneAsks, SendsAsk}
use Rattle.step_history.specs.Given.{EndsHere, EndsAsking, GivesWhatCame, IsOneOfTries}
use Rattle.step_history.specs.History.{ShownAsk, listed, Accepts, Carries}
use Rattle.step_table.proofs.CallerLemmas.{ask_on-is, none_same}
use Rattle.step_table.specs.Replies.{fate_by, row_of_end, row_of_delivery}
use Rattle.step_table.specs.Row.{Happens, HandsOctets, effective}
use Rattle.step_table.specs.State.{State, start}
use Rattle.step_table.specs.Steps.{Done, Fate, with_preferred_server, closing_step, offering_step}
use Rattle.step_table.specs.WaitingQuestions.Values.{Waiting}
use Rattle.theorem_sound.proofs.Asking.{none_asks}
use Rattle.theorem_sound.proofs.CallerLemmas.{IsHeard, heard, heard_asked, heard_end, fates_speak}
use Rattle.theorem_sound.proofs.Tries.{sends_settled}
use Rattle.theorem_sound.specs.Explains.{Tried, Explains}
use Rattle.theorem_use.proofs.AskHistory.{all_shown}
use Rattle.theorem_use.proofs.Asked.{same_as_itself, same_turned, same_through}
use Rattle.theorem_use.proofs.Rows.{heard_is}
use Rattle.theorem_use.specs.Asking.{AnyByRecursion, Asks, AsksForWaiting}

-- ---- an accepted reply

not_delivered : {d : Delivered} → None ≡ Some d → ⊥
not_delivered is = absurd (cc)

module _ (c : Config) (past : List Step) (w : List (List ℕ)) (s : State) (x : Explains c past w s) (now : ℕ)
    (words : List ℕ) (unkept : ℕ) (more : Bool) where
  abbrev n : ℕ
  n = effective now s

  abbrev told : Event → Done → Step
  told e d = record {
    input = record { now = now; words = words; event = e };
    outcome = record { actions = d.actions; unkept = unkept; more = more };
  }

  module _ (path : Path) (from : Peer) (octets : List ℕ) (rooms : List Bool) (are : AreOctets octets) (d : Done)
      (is_row : d ≡ row_of_delivery (start c n words s) rooms from octets (ask_on path s.asks)) where
    abbrev step : Step
    step = told (delivery path from octets) d

    module _ (pieces servers : List Piece) (k : Accepts c step past pieces servers) (ends : EndsHere k.end) where
      abbrev carries : Carries c step past (pieces ++ servers)
      carries = record { pieces = pieces; servers = servers; accepts = k; are = refl }

      abbrev h : IsHeard c past w s x now words unkept more path from octets rooms are
      h = heard c past w s x now words unkept more path from octets rooms are d.actions (pieces ++ servers) carries

      abbrev walk : Walk
      walk = walk_of c h.message h.ask.question h.ask.route

      abbrev fate : Waiting → Fate
      fate = fate_by c n s.cache.entries h.ask walk

      abbrev closed : Done
      closed = offering_step n rooms (walk.pieces ++ walk.authority)
          (closing_step n h.ask fate None (with_preferred_server h.ask s))

      walk_ends : EndsHere walk.end
      walk_ends = subst EndsHere (sym (heard_end c past w s x now words unkept more path from octets rooms are d.actions
          (pieces ++ servers) carries) ∙ h.end_is) ends

      -- the ask is closed, and no further ask is sent
      closes : d ≡ closed
      closes = is_row
          ∙ heard_is c n words s rooms path from octets h.ask h.message h.on h.live h.whole h.read h.fine
          ∙ ap (offering_step n rooms (walk.pieces ++ walk.authority)) (by walk.end walk_ends)
        where
          by : (e : End) → EndsHere e → row_of_end (start c n words (with_preferred_server h.ask s)) h.ask walk fate e
              ≡ closing_step n h.ask fate None (with_preferred_server h.ask s)
          by found here = refl
          by ends_no_data here = refl
          by ends_denied here = refl
          by (elsewhere name) here = absurd here
          by lame here = absurd here

      asked_is : h.ask.question ≡ k.asked
      asked_is = sym h.asked_is ∙ heard_asked c past w s x now words unkept more path from octets rooms are d.actions
          (pieces ++ servers) carries

      -- the other listed asks have other questions
      others : AllByRecursion (λ b. same_question b.question h.ask.question ≡ false) (without_path path s.asks)
      others = none_same h.ask.question (without_path path s.asks) (question_free_without_path path h.ask.question s.asks
          h.ask x.asks_are.by_arrival h.on (same_as_itself h.ask.question))

      asks_left : d.state.asks ≡ without_path path s.asks
      asks_left = ap (λ (y : Done). y.state.asks) closes ∙ append-nil (without_path h.ask.path s.asks)
          ∙ ap (λ (p : Path). without_path p s.asks) (ask_on-is (Tried c past) path s.asks h.ask h.on x.tried).0

      reply_ends_asking : (w' : List (List ℕ)) → Explains c (step ∷ past) w' d.state → EndsAsking step past k.asked
      reply_ends_asking w' x' = record {
        none_listed = subst (λ (z : Question × List ShownAsk). NoneAsks z.0 z.1) (λ i. (asked_is i, x'.asks i))
            (none_asks c (step ∷ past) h.ask.question d.state.asks x'.tried
            (subst (AllByRecursion (λ (b : Ask). same_question b.question h.ask.question ≡ false)) (sym asks_left) others));
        none_sent = λ q sends. sends_settled q (Some h.ask) (map fate s.waiting) None
            (fates_speak c past w s x now words unkept more path from octets rooms are h.ask h.on h.message h.live h.whole
            h.read h.fine) (subst (SendsAsk q) (ap (λ (y : Done). y.actions) closes) sends);
      }

  -- after each row
  pub ends_asking : (e : Event) → HandsOctets e → (d : Done) → Happens (start c n words s) e d → (w' : List (List ℕ))
      → Explains c (told e d ∷ past) w' d.state → (pieces servers : List Piece)
      → (k : Accepts c (told e d) past pieces servers) → EndsHere k.end → EndsAsking (told e d) past k.asked
  ends_asking (from_client client octets) are d h w' x' pieces servers k ends = absurd (not_delivered k.matches.delivered)
  ends_asking (delivery path from octets) are d h w' x' pieces servers k ends =
      reply_ends_asking path from octets h.0 are d h.1 pieces servers k ends w' x'
  ends_asking (path_failed path) are d h w' x' pieces servers k ends = absurd (not_delivered k.matches.delivered)
  ends_asking tick are d h w' x' pieces servers k ends = absurd (not_delivered k.matches.delivered)
  ends_asking restart are d h w' x' pieces servers k ends = absurd (not_delivered k.matches.delivered)

-- ---- the tries

pub all_are_tries : (c : Config) (now : List Step) (w : List (List ℕ)) (s : State) → Explains c now w s
    → AllByRecursion (IsOneOfTries c now) (listed now)
all_are_tries c now w s x = subst (AllByRecursion (IsOneOfTries c now)) x.asks
    (all_shown (λ (a : Ask). Unit {0}) (Tried c now) (IsOneOfTries c now)
    (λ a _ tried. record {
      question = a.question;
      reads = tried.reads;
      before = tried.before;
      failed = tried.failed;
      few = tried.few;
    }) s.asks (each s.asks) x.tried)
  where
    each : (asks : List Ask) → AllByRecursion (λ (a : Ask). Unit {0}) asks
    each [] = tt
    each (a ∷ asks) = (tt, each asks)

-- ---- nobody waits for a question that no listed ask has

nobody_waits : (c : Config) (s : Step) (past : List Step) (owners : List ℕ) (h : AsksForWaiting c s past owners)
    (asked : Question) → NoneAsks asked (listed (s ∷ past))
    → AllByRecursion (λ q. same_question q asked ≡ false) h.wanted
nobody_waits c s past owners h asked none = all h.wanted h.asked
  where
    unasked : (q : Question) (asks : List ShownAsk) → NoneAsks asked asks → AnyByRecursion (λ a. Asks a q) asks
        → (v : Bool) → same_question q asked ≡ v → same_question q asked ≡ false
    unasked q asks none any false is = is
    unasked q [] none any true is = absurd any
    unasked q (a ∷ asks) none (inl here) true is = absurd (true≢false
        (sym (same_through here.question q asked (same_turned q here.question here.same) is)
        ∙ none.0 here.question here.reads))
    unasked q (a ∷ asks) none (inr later) true is = unasked q asks none.1 later true is

    all : (wanted : List Question) → AllByRecursion (λ q. AnyByRecursion (λ a. Asks a q) (listed (s ∷ past))) wanted
        → AllByRecursion (λ q. same_question q asked ≡ false) wanted
    all [] any = tt
    all (q ∷ wanted) any =
        (unasked q (listed (s ∷ past)) none any.0 (same_question q asked) refl, all wanted any.1)

pub nobody_waits_for_what_came : (c : Config) (s : Step) (past : List Step) (pieces servers : List Piece)
    (a : Accepts c s past pieces servers) → EndsHere a.end → GivesWhatCame c (s ∷ past) → (owners : List ℕ)
    (h : AsksForWaiting c s past owners) → AllByRecursion (λ q. same_question q a.asked ≡ false) h.wanted
nobody_waits_for_what_came c s past pieces servers a ends gives owners h =
    nobody_waits c s past owners h a.asked (gives.1 pieces servers a ends).none_listed
