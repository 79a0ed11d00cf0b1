-- Look-ups of one question that miss, miss at one name, whatever aliases were held before.
use Rattle.std.proofs.Common.{◌≡◌, ℕ, zero, suc, List, [], ◌∷◌, ◌++◌, length, true, refl, sym, ap, ◌∙◌, Option, Some, None}
use Rattle.std.specs.Prelude.{◌-◌, nat_le}
use Rattle.std.proofs.lemmas.Bool.{cond_both, cond-true}
use Rattle.dns_message.specs.Values.{Question}
use Rattle.dns_message.specs.Messages.{IsSameQuestion}
use Rattle.dns_message.proofs.CallerLemmas.{same_question_decides}
use Rattle.suffix_routes.specs.Values.{Config, Route}
use Rattle.trust_rank.specs.Walks.{target_of, most_aliases}
use Rattle.alias_chains.specs.RecordCache.Values.{Held}
use Rattle.alias_chains.specs.NegativeCache.Values.{Found, miss}
use Rattle.alias_chains.specs.NegativeCache.Values as find
use Rattle.alias_chains.specs.NegativeCache.Finding.{found as found_in}
use Rattle.suffix_routes.specs.Serving.{serving_route_of}
use Rattle.dns_message.specs.Questions.{asked_at}
use Rattle.waiting_questions.specs.Values.{Waiting, waits_for}
use Rattle.step_table.specs.Steps.{waits}
use Rattle.alias_chains.specs.LookingUp.{LookUpEnd, ends, too_long, missed, LookUp, look_up_on, look_up_after, one_too_many, through, look_up, too_many, goes_on}
use Rattle.step_table.specs.Replies.{looked_by, fate_by}
use Rattle.step_table.specs.Clients.{fate_missed, fate_at, fate_of}
use Rattle.alias_chains.specs.Offering.{held_at}
use Rattle.step_table.specs.Laws.{RedirectedQuestionsWantOne}

-- where both miss, they want one question
abbrev MissAlike : LookUp → LookUp → Type 0
MissAlike l k = l.met ≡ missed → k.met ≡ missed → l.wanted ≡ k.wanted

followed_alike : (held other : List Held) (q : Question) (onward onward' : Held → List (List ℕ) → LookUp) → ((e : Held) (target : List (List ℕ)) → MissAlike (onward e target) (onward' e target))
    → (f : Found) → MissAlike (look_up_after held q onward f) (look_up_after other q onward' f)
followed_alike held other q onward onward' go (find.rows e) m k = refl
followed_alike held other q onward onward' go (find.alias e) m k = by (target_of e.piece.body) m k
  where
    by : (t : Option (List (List ℕ))) → MissAlike (look_up_on held q onward e t) (look_up_on other q onward' e t)
    by None m k = refl
    by (Some target) m k = go e target m k
followed_alike held other q onward onward' go (find.no_data e) m k = refl
followed_alike held other q onward onward' go (find.denied e) m k = refl
followed_alike held other q onward onward' go find.local m k = refl
followed_alike held other q onward onward' go miss m k = refl

miss_alike : (routes : List Route) (n : ℕ) (entries : List Held) (more less : ℕ) (held other : List Held) (q : Question) → MissAlike (look_up routes n entries more held q) (look_up routes n entries less other q)
miss_alike routes n entries zero zero held other q = followed_alike held other q (one_too_many held q) (one_too_many other q) (λ e target m k. absurd (cc)) (found_in routes n entries q)
miss_alike routes n entries zero (suc less) held other q =
    followed_alike held other q (one_too_many held q) (λ e target. through e (look_up routes n entries less (other ++ e ∷ []) (asked_at q target))) (λ e target m k. absurd (cc)) (found_in routes n entries q)
miss_alike routes n entries (suc more) zero held other q =
    followed_alike held other q (λ e target. through e (look_up routes n entries more (held ++ e ∷ []) (asked_at q target))) (one_too_many other q) (λ e target m k. absurd (cc)) (found_in routes n entries q)
miss_alike routes n entries (suc more) (suc less) held other q =
    followed_alike held other q (λ e target. through e (look_up routes n entries more (held ++ e ∷ []) (asked_at q target))) (λ e target. through e (look_up routes n entries less (other ++ e ∷ []) (asked_at q target)))
    (λ e target m k. miss_alike routes n entries more less (held ++ e ∷ []) (other ++ e ∷ []) (asked_at q target) m k) (found_in routes n entries q)

goes_alike : (c : Config) (n : ℕ) (entries held other : List Held) (q : Question) → MissAlike (goes_on c.routes n entries held q) (goes_on c.routes n entries other q)
goes_alike c n entries held other q =
    cond_both (nat_le (length held) most_aliases) (look_up c.routes n entries (most_aliases - length held) held q) (too_many held q) (λ l. MissAlike l (goes_on c.routes n entries other q))
    (λ _. cond_both (nat_le (length other) most_aliases) (look_up c.routes n entries (most_aliases - length other) other q) (too_many other q) (MissAlike (look_up c.routes n entries (most_aliases - length held) held q))
    (λ _. miss_alike c.routes n entries (most_aliases - length held) (most_aliases - length other) held other q) (λ _ m k. absurd (cc)))
    (λ _ m k. absurd (cc))

-- a question that waits on missed, and wants that name
record HasMissed (l : LookUp) (x : Waiting) : Type 0 where
  pub missed : l.met ≡ missed
  pub wanted : x.wanted ≡ l.wanted

missed_at : (c : Config) (n : ℕ) (x x' : Waiting) (l : LookUp) (m : LookUpEnd) → l.met ≡ m → fate_at c n x l m ≡ waits x' → HasMissed l x'
missed_at c n x x' l (ends e) met is = absurd (cc)
missed_at c n x x' l too_long met is = absurd (cc)
missed_at c n x x' l missed met is = by (serving_route_of c l.wanted.name) is
  where
    by : (r : Option ℕ) → fate_missed c n x l r ≡ waits x' → HasMissed l x'
    by None is = absurd (cc)
    by (Some route) is = let same : record x { held = l.held; wanted = l.wanted } ≡ x' = cc in record { missed = met; wanted = sym (ap (λ (z : Waiting). z.wanted) same) }

pub redirected_questions_want_one : RedirectedQuestionsWantOne
redirected_questions_want_one c n entries a w name x y x' y' ends_so for_x for_y fate_x fate_y =
    one.wanted ∙ goes_alike c n entries (x.held ++ here) (y.held ++ here) (asked_at x.wanted name) one.missed (ap (λ (q : Question). (goes_on c.routes n entries (y.held ++ here) q).met) same ∙ two.missed)
    ∙ ap (λ (q : Question). (goes_on c.routes n entries (y.held ++ here) q).wanted) same ∙ sym two.wanted
  where
    here : List Held
    here = Rattle.std.specs.Prelude.map (held_at n) w.pieces

    missed_by : (z z' : Waiting) → waits_for a.question z ≡ true → fate_by c n entries a w z ≡ waits z' → HasMissed (goes_on c.routes n entries (z.held ++ here) (asked_at z.wanted name)) z'
    missed_by z z' for is =
        missed_at c n z z' (goes_on c.routes n entries (z.held ++ here) (asked_at z.wanted name)) (goes_on c.routes n entries (z.held ++ here) (asked_at z.wanted name)).met refl
        (ap (λ e. fate_of c n z (looked_by c n entries w z e)) (sym ends_so) ∙ sym (cond-true (waits_for a.question z) _ _ for) ∙ is)

    one : HasMissed (goes_on c.routes n entries (x.held ++ here) (asked_at x.wanted name)) x'
    one = missed_by x x' for_x fate_x

    two : HasMissed (goes_on c.routes n entries (y.held ++ here) (asked_at y.wanted name)) y'
    two = missed_by y y' for_y fate_y

    like_x : IsSameQuestion x.wanted a.question
    like_x = (same_question_decides x.wanted a.question).0 for_x

    like_y : IsSameQuestion y.wanted a.question
    like_y = (same_question_decides y.wanted a.question).0 for_y

    same : asked_at x.wanted name ≡ asked_at y.wanted name
    same = λ i. record { name = name; kind = (like_x.kind ∙ sym like_y.kind) i; class = (like_x.class ∙ sym like_y.class) i }
