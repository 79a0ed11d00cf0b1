-- Look-ups of questions different by letter case alone.
use Rattle.std.proofs.Common.{◌≡◌, ℕ, zero, suc, List, [], ◌∷◌, ◌++◌, Option, Some, None, refl, ap, subst, ◌∙◌, inl, inr}
use Rattle.dns_message.specs.Values.{Question}
use Rattle.dns_message.specs.Messages.{IsSameQuestion}
use Rattle.dns_message.proofs.CallerLemmas.{same_question_reflexive}
use Rattle.trust_rank.specs.SuffixRoutes.Values.{Route}
use Rattle.trust_rank.specs.declared.slot.Slot.{Slot}
use Rattle.trust_rank.specs.Walks.{target_of}
use Rattle.negative_cache.specs.RecordCache.Values.{Held}
use Rattle.negative_cache.specs.Values.{Found, local, rows, alias, no_data, denied, miss}
use Rattle.negative_cache.specs.Finding.{found}
use Rattle.negative_cache.proofs.CallerLemmas.{equal_questions_find_the_same}
use Rattle.alias_chains.specs.LookingUp.{LookUpEnd, ends, too_long, missed, LookUp, look_up_on, look_up_after, one_too_many, through, look_up}
use Rattle.alias_chains.specs.Laws.{AreAlike, SameAreLookedUpAlike}

-- a question at another name
abbrev at : Question → List (List ℕ) → Question
at q target = record { name = target; kind = q.kind; class = q.class }

found_alike : (routes : List Route) (n : ℕ) (entries : List Held) (q other : Question) → IsSameQuestion q other → found routes n entries q ≡ found routes n entries other
found_alike routes n entries q other same =
    equal_questions_find_the_same routes n entries q.kind q.class q.name other.name same.name
    ∙ (λ i. found routes n entries (record { name = other.name; kind = same.kind i; class = same.class i }))

-- neither took an alias
alike_alone : (held : List Held) (q other : Question) (met : LookUpEnd) (used : List Slot) → IsSameQuestion q other
    → AreAlike held (record { held = held; wanted = q; met = met; used = used }) (record { held = held; wanted = other; met = met; used = used })
alike_alone held q other met used same = record { held_alike = refl; met_alike = refl; used_alike = refl; wanted_same = same; wanted_alike = inl refl }

alike_both : (held : List Held) (l other : LookUp) → l ≡ other → AreAlike held l other
alike_both held l other is = record {
  held_alike = ap (λ (v : LookUp). v.held) is;
  met_alike = ap (λ (v : LookUp). v.met) is;
  used_alike = ap (λ (v : LookUp). v.used) is;
  wanted_same = subst (λ (v : LookUp). IsSameQuestion l.wanted v.wanted) is (same_question_reflexive l.wanted);
  wanted_alike = inr (ap (λ (v : LookUp). v.wanted) is);
}

followed_alike : (held : List Held) (q other : Question) (onward onward' : Held → List (List ℕ) → LookUp) → IsSameQuestion q other
    → ((e : Held) (target : List (List ℕ)) → onward e target ≡ onward' e target)
    → (f : Found) → AreAlike held (look_up_after held q onward f) (look_up_after held other onward' f)
followed_alike held q other onward onward' same go (rows e) = alike_alone held q other (ends e) (e.piece.slot ∷ []) same
followed_alike held q other onward onward' same go (alias e) = by (target_of e.piece.body)
  where
    by : (t : Option (List (List ℕ))) → AreAlike held (look_up_on held q onward e t) (look_up_on held other onward' e t)
    by None = alike_alone held q other missed [] same
    by (Some target) = alike_both held (onward e target) (onward' e target) (go e target)
followed_alike held q other onward onward' same go (no_data e) = alike_alone held q other (ends e) (e.piece.slot ∷ []) same
followed_alike held q other onward onward' same go (denied e) = alike_alone held q other (ends e) (e.piece.slot ∷ []) same
followed_alike held q other onward onward' same go local = alike_alone held q other missed [] same
followed_alike held q other onward onward' same go miss = alike_alone held q other missed [] same

-- equal questions ask for a name by equal questions
at_same : (q other : Question) → IsSameQuestion q other → (target : List (List ℕ)) → at q target ≡ at other target
at_same q other same target = λ i. record { name = target; kind = same.kind i; class = same.class i }

pub same_are_looked_up_alike : SameAreLookedUpAlike
same_are_looked_up_alike routes n entries zero held q other same =
    subst (λ (f : Found). AreAlike held (look_up routes n entries zero held q) (look_up_after held other (one_too_many held other) f)) (found_alike routes n entries q other same)
    (followed_alike held q other (one_too_many held q) (one_too_many held other) same
    (λ e target. ap (λ (wanted : Question). record { held = held ++ e ∷ []; wanted = wanted; met = too_long; used = e.piece.slot ∷ [] }) (at_same q other same target))
    (found routes n entries q))
same_are_looked_up_alike routes n entries (suc more) held q other same =
    subst (λ (f : Found). AreAlike held (look_up routes n entries (suc more) held q) (look_up_after held other (λ e target. through e (look_up routes n entries more (held ++ e ∷ []) (at other target))) f)) (found_alike routes n entries q other same)
    (followed_alike held q other
    (λ e target. through e (look_up routes n entries more (held ++ e ∷ []) (at q target)))
    (λ e target. through e (look_up routes n entries more (held ++ e ∷ []) (at other target))) same
    (λ e target. ap (λ (wanted : Question). through e (look_up routes n entries more (held ++ e ∷ []) wanted)) (at_same q other same target))
    (found routes n entries q))
