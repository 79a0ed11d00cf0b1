-- A look-up as the code keeps it: a chain of pieces, and the kind of the end.
use Rattle.std.specs.Prelude.{ℕ, zero, suc, ◌<◌, ◌≤◌, List, [], ◌∷◌, ◌++◌, length, Option, Some, None}
use denote.Ref.{Bor}
use Rattle.dns_message.specs.Values.{Question}
use Rattle.dns_message.specs.Questions.{asked_at}
use Rattle.trust_rank.specs.SuffixRoutes.Values.{Route}
use Rattle.trust_rank.specs.declared.slot.Slot.{Slot}
use Rattle.trust_rank.specs.Walks.{most_aliases}
use Rattle.negative_cache.specs.RecordCache.Values.{Held}
use Rattle.negative_cache.specs.Values.{Found, local, rows, alias, no_data, denied, miss}
use Rattle.plain_values.specs.Borrowed.{lent}
use Rattle.alias_chains.specs.LookingUp as rules
use Rattle.alias_chains.specs.LookingUp.{LookUp, look_up_after, one_too_many, through, look_up}
use Rattle.alias_chains.specs.declared.chain.Chain.{Chain}
use Rattle.alias_chains.specs.declared.chain.Chain.TheVariants.{One, More}
use Rattle.alias_chains.specs.declared.looked.LookUpEnd.{LookUpEnd}
use Rattle.alias_chains.specs.declared.looked.LookUpEnd.TheVariants.{Ends, TooLong, Missed}

-- aliases, and after them the set or the denial that ended the look-up, if any
abbrev pub chain_at : List Held → rules.LookUpEnd → List Held
chain_at held (rules.ends e) = held ++ e ∷ []
chain_at held rules.too_long = held
chain_at held rules.missed = held

-- the chain of a look-up: the aliases held at its end, and after them the set or the denial, if any
abbrev pub chain_of : LookUp → List Held
chain_of l = chain_at l.held l.met

-- the kind of a look-up's end
abbrev pub kind_of : rules.LookUpEnd → LookUpEnd
kind_of (rules.ends e) = Ends
kind_of rules.too_long = TooLong
kind_of rules.missed = Missed

-- all pieces but the last
abbrev pub before_last : Held → List Held → List Held
before_last e [] = []
before_last e (f ∷ es) = e ∷ before_last f es

-- the last piece
abbrev pub last_of : Held → List Held → Held
last_of e [] = e
last_of e (f ∷ es) = last_of f es

-- the look-up with this kind of end and this chain; if it ends, the last piece is its end
abbrev pub looked_so : LookUpEnd → List Held → Question → List Slot → LookUp
looked_so Ends [] q used = record { held = []; wanted = q; met = rules.missed; used = used }
looked_so Ends (e ∷ chain) q used = record {
  held = before_last e chain;
  wanted = q;
  met = rules.ends (last_of e chain);
  used = used;
}
looked_so TooLong chain q used = record { held = chain; wanted = q; met = rules.too_long; used = used }
looked_so Missed chain q used = record { held = chain; wanted = q; met = rules.missed; used = used }

-- a chain that ends has a piece; a chain after which nothing was found has at most eight aliases
abbrev pub IsWhole : LookUpEnd → List Held → Type 0
IsWhole Ends chain = 0 < length chain
IsWhole TooLong chain = Unit {0}
IsWhole Missed chain = length chain ≤ most_aliases

-- the pieces of a chain
abbrev pub pieces_in : {A : Type 0} → Chain A → List Held
pieces_in (One held) = held.now ∷ []
pieces_in (More refs) = lent refs.items

-- an alias is found
abbrev pub IsAlias : Found → Type 0
IsAlias local = ⊥
IsAlias (rows e) = ⊥
IsAlias (alias e) = Unit {0}
IsAlias (no_data e) = ⊥
IsAlias (denied e) = ⊥
IsAlias miss = ⊥

-- the borrowed slot, if any, and the others
abbrev pub lent_and_others : Option (Bor Slot) → List Slot → List Slot
lent_and_others None others = others
lent_and_others (Some slot) others = slot.now ∷ others

-- a look-up that used these slots before
abbrev pub with_used : List Slot → LookUp → LookUp
with_used used l = record l { used = used ++ l.used }

-- the look-up of a question that holds these aliases and may take this number more, from what is
-- found at its name
unfoldable pub look_up_from : List Route → ℕ → List Held → ℕ → List Held → Question → Found → LookUp
look_up_from routes n entries zero held q f = look_up_after held q (one_too_many held q) f
look_up_from routes n entries (suc more) held q f =
    look_up_after held q (λ e target. through e (look_up routes n entries more (held ++ e ∷ []) (asked_at q target))) f
