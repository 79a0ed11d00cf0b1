-- Look-ups among the entries, along aliases: RFC 1034 3.6.2.
use Rattle.std.specs.Prelude.{ℕ, zero, suc, ◌-◌, if◌then◌else◌, nat_le, List, [], ◌∷◌, ◌++◌, length, take, Option, Some}
use Rattle.std.specs.Prelude.{None}
use Rattle.dns_message.specs.Values.{Question}
use Rattle.trust_rank.specs.SuffixRoutes.Values.{Route}
use Rattle.trust_rank.specs.declared.slot.Slot.{Slot}
use Rattle.trust_rank.specs.Walks.{target_of, most_aliases}
use Rattle.negative_cache.specs.RecordCache.Values.{Held}
use Rattle.negative_cache.specs.RecordCache.Entries.{promoted}
use Rattle.negative_cache.specs.Values.{Found, local, rows, alias, no_data, denied, miss}
use Rattle.negative_cache.specs.Finding.{found}
use Rattle.dns_message.specs.Questions.{asked_at}

-- a set or a denial, one alias too many, or no living entry
pub data LookUpEnd : Type 0 where
  ends : Held → LookUpEnd
  too_long : LookUpEnd
  missed : LookUpEnd

-- the aliases held at its end, the question wanted then, its end, and the slots used, in order
pub record LookUp : Type 0 where
  pub held : List Held
  pub wanted : Question
  pub met : LookUpEnd
  pub used : List Slot

-- a look-up that ends in this entry
abbrev pub ended : List Held → Question → Held → LookUp
ended held q e = record { held = held; wanted = q; met = ends e; used = e.piece.slot ∷ [] }

-- a look-up that found nothing
abbrev pub missing : List Held → Question → LookUp
missing held q = record { held = held; wanted = q; met = missed; used = [] }

-- it goes on at the name that an alias leads to
abbrev pub look_up_on : List Held → Question → (Held → List (List ℕ) → LookUp) → Held → Option (List (List ℕ))
    → LookUp
look_up_on held q onward e None = missing held q
look_up_on held q onward e (Some target) = onward e target

-- a look-up after what was found at one name
abbrev pub look_up_after : List Held → Question → (Held → List (List ℕ) → LookUp) → Found → LookUp
look_up_after held q onward local = missing held q
look_up_after held q onward (rows e) = ended held q e
look_up_after held q onward (alias e) = look_up_on held q onward e (target_of e.piece.body)
look_up_after held q onward (no_data e) = ended held q e
look_up_after held q onward (denied e) = ended held q e
look_up_after held q onward miss = missing held q

-- a look-up that would follow a ninth alias
abbrev pub one_too_many : List Held → Question → Held → List (List ℕ) → LookUp
one_too_many held q e target = record {
  held = held ++ e ∷ [];
  wanted = asked_at q target;
  met = too_long;
  used = e.piece.slot ∷ [];
}

-- a look-up that also used this alias
abbrev pub through : Held → LookUp → LookUp
through e l = record l { used = e.piece.slot ∷ l.used }

-- the look-up of a question that holds these aliases and may take this number more
abbrev pub look_up : List Route → ℕ → List Held → ℕ → List Held → Question → LookUp
look_up routes n entries zero held q = look_up_after held q (one_too_many held q) (found routes n entries q)
look_up routes n entries (suc more) held q =
    look_up_after held q (λ e target. through e (look_up routes n entries more (held ++ e ∷ []) (asked_at q target)))
    (found routes n entries q)

-- more aliases than a question may hold: the first alias too many ends the look-up
abbrev pub too_many : List Held → Question → LookUp
too_many held q = record { held = take (suc most_aliases) held; wanted = q; met = too_long; used = [] }

-- the look-up of a question that holds these aliases, and takes at most eight with these
abbrev pub goes_on : List Route → ℕ → List Held → List Held → Question → LookUp
goes_on routes n entries held q =
    if nat_le (length held) most_aliases
    then look_up routes n entries (most_aliases - length held) held q
    else too_many held q

-- the entries, with those of the used slots promoted in order
abbrev pub promoted_all : List Slot → List Held → List Held
promoted_all [] entries = entries
promoted_all (slot ∷ used) entries = promoted_all used (promoted slot entries)
