-- The asks besides the answered ask, and the draw once the answered ask is closed.
use Rattle.std.proofs.Common.{◌≡◌, ◌≢◌, ℕ, zero, suc, ◌<◌, List, [], ◌∷◌, length, Bool, true, false, cond, Option, Some, None, refl, sym, ap, ◌∙◌, slice_get, get_or, arith}
use Rattle.std.specs.Prelude.{not, is_some}
use Rattle.std.proofs.lemmas.Bool.{cond-true, cond-false, true≢false}
use Rattle.dns_message.specs.Values.{Question}
use Rattle.dns_message.specs.Questions.{same_question}
use Rattle.suffix_routes.specs.declared.peer.Peer.{Peer}
use Rattle.suffix_routes.specs.Values.{Config, Route}
use Rattle.outstanding.specs.declared.ask.Path.{Path}
use Rattle.outstanding.specs.Lists.{same_path, on_path as ask_on, of_question, without_path, AreInTurn}
use Rattle.outstanding.specs.Values.{Ask}
use Rattle.outstanding.proofs.CallerLemmas.{question_free_without_path, same_path_equal}
use Rattle.std.proofs.lemmas.List.{get_or-set_same, get_or-set_other}
use Rattle.step_table.specs.State.{State}
use Rattle.step_table.specs.Attempts.{peer_at, preferred_on, servers_in}
use Rattle.step_table.specs.Steps.{with_preferred_server}
use Rattle.step_table.specs.Progress.{ArePreferred}

-- ---- a question's ask

-- another ask stays the first of the question
other_one : (q : Question) (path : Path) (a b : Ask) (asks rest : List Ask) (t k : Bool) → same_question b.question q ≡ t → same_path b.path path ≡ k → same_path a.path path ≡ false → cond t (Some b) (of_question q asks) ≡ Some a
    → (of_question q asks ≡ Some a → of_question q rest ≡ Some a) → of_question q (cond (not k) (b ∷ rest) rest) ≡ Some a
other_one q path a b asks rest true true is on other found goes = absurd (let same : b ≡ a = cc in true≢false (sym on ∙ ap (λ (x : Ask). same_path x.path path) same ∙ other))
other_one q path a b asks rest true false is on other found goes = cond-true (same_question b.question q) _ _ is ∙ found
other_one q path a b asks rest false true is on other found goes = goes found
other_one q path a b asks rest false false is on other found goes = cond-false (same_question b.question q) _ _ is ∙ goes found

other_stays : (q : Question) (path : Path) (asks : List Ask) (a : Ask) → same_path a.path path ≡ false → of_question q asks ≡ Some a → of_question q (without_path path asks) ≡ Some a
other_stays q path [] a other found = absurd (cc)
other_stays q path (b ∷ asks) a other found = other_one q path a b asks (without_path path asks) (same_question b.question q) (same_path b.path path) refl refl other found (other_stays q path asks a other)

none_one : (q : Question) (path : Path) (b : Ask) (asks rest : List Ask) (t k : Bool) → same_question b.question q ≡ t → cond t (Some b) (of_question q asks) ≡ None → (of_question q asks ≡ None → of_question q rest ≡ None) → of_question q (cond (not k) (b ∷ rest) rest) ≡ None
none_one q path b asks rest true k is found goes = absurd (cc)
none_one q path b asks rest false true is found goes = goes found
none_one q path b asks rest false false is found goes = cond-false (same_question b.question q) _ _ is ∙ goes found

none_stays : (q : Question) (path : Path) (asks : List Ask) → of_question q asks ≡ None → of_question q (without_path path asks) ≡ None
none_stays q path [] found = refl
none_stays q path (b ∷ asks) found = none_one q path b asks (without_path path asks) (same_question b.question q) (same_path b.path path) refl found (none_stays q path asks)

-- the found ask has the sought question
found_same : (q : Question) (asks : List Ask) (a : Ask) → of_question q asks ≡ Some a → same_question a.question q ≡ true
found_same q asks a found = (Rattle.step_table.proofs.CallerLemmas.of_question-is (λ b. Unit {0}) q asks a found (always asks)).1
  where
    always : (xs : List Ask) → Rattle.std.specs.List.AllByRecursion (λ b. Unit {0}) xs
    always [] = tt
    always (x ∷ xs) = (tt, always xs)

-- an ask on another path
abbrev pub is_other : Path → Option Ask → Bool
is_other path None = false
is_other path (Some a) = not (same_path a.path path)

-- a question has an ask besides the ask on this path exactly if the question's ask is on another
-- path
pub asked_beside : (q : Question) (path : Path) (asks : List Ask) (o : Option Ask) → AreInTurn asks → of_question q asks ≡ o → is_some (of_question q (without_path path asks)) ≡ is_other path o
asked_beside q path asks None start found = ap is_some (none_stays q path asks found)
asked_beside q path asks (Some a) start found = by (same_path a.path path) refl
  where
    by : (b : Bool) → same_path a.path path ≡ b → is_some (of_question q (without_path path asks)) ≡ not b
    by true on =
        let path_is : a.path ≡ path = same_path_equal a.path path on in
        let listed : ask_on path asks ≡ Some a = ap (λ (p : Path). ask_on p asks) (sym path_is) ∙ Rattle.step_table.proofs.CallerLemmas.own_on q asks a start found in
        ap is_some (question_free_without_path path q asks a start listed (found_same q asks a found))
    by false other = ap is_some (other_stays q path asks a other found)

-- ---- the server preferred afterwards

-- each route has a place
within_places : (routes : List Route) (places : List ℕ) (route : ℕ) (r : Route) → ArePreferred routes places → slice_get routes route ≡ Some r → route < length places
within_places [] places route r are there = absurd (cc)
within_places (x ∷ routes) [] route r are there = absurd are
within_places (x ∷ routes) (p ∷ places) zero r are there = omega arith
within_places (x ∷ routes) (p ∷ places) (suc route) r are there = let rest = within_places routes places route r are.1 there in omega (arith, rest)

-- a route with a server at this place is a route of the configuration
group_there : (c : Config) (route server : ℕ) (peer : Peer) (o : Option Route) → slice_get c.routes route ≡ o → slice_get (servers_in o) server ≡ Some peer → (r : Route) × (slice_get c.routes route ≡ Some r)
group_there c route server peer None at there = absurd (cc)
group_there c route server peer (Some r) at there = (r, at)

-- on the ask's route, the answering server is preferred
pub preferred_own : (c : Config) (a : Ask) (s : State) → ArePreferred c.routes s.preferred → peer_at c a.route a.server ≡ Some a.peer → a.server ≡ preferred_on (with_preferred_server a s) a.route
preferred_own c a s are there =
    let group = group_there c a.route a.server a.peer (slice_get c.routes a.route) refl there in
    sym (get_or-set_same s.preferred a.route a.server 0 (within_places c.routes s.preferred a.route group.0 are group.1))

-- on any other route the preferred server is unchanged
pub preferred_other : (a : Ask) (s : State) (route : ℕ) → route ≢ a.route → get_or s.preferred route 0 ≡ preferred_on (with_preferred_server a s) route
preferred_other a s route other = sym (get_or-set_other s.preferred a.route route a.server 0 other)
