-- The limit of eight aliases, in replies with a chain of aliases: asked for b.e, such a reply leads
-- along one alias less than asked for a.e. After seven aliases the reply may answer for the last
-- name; after eight the last name has to be asked for; and nine are too many.
use Rattle.std.proofs.Common.{◌≡◌, ◌⊎◌, ℕ, ◌+◌, ◌<◌, ◌≤◌, zero, suc, true, false, inl, inr, List, [], ◌∷◌, ◌++◌}
use Rattle.std.proofs.Common.{length, Option}
use Rattle.std.proofs.Common.{Some, refl, sym, ap, ◌∙◌, subst, arith, length-append}
use Rattle.std.proofs.lemmas.Bool.{true≢false}
use Rattle.dns_name.proofs.CallerLemmas.{same_decides, is_under_decides}
use Rattle.dns_message.specs.Data.{name_of_rdata}
use Rattle.dns_message.specs.Names.{step as name_step, walk_in, name_within}
use Rattle.dns_message.specs.Values.{Question, Record}
use Rattle.suffix_routes.specs.Values.{Config, Route, AllDiffer, default_limits}
use Rattle.suffix_routes.specs.Routes.{route_of}
use Rattle.suffix_routes.proofs.CallerLemmas.{route_found_is_longest}
use Rattle.trust_rank.specs.Values.{Piece, found, elsewhere, lame, Walk, Reply, reply_of}
use Rattle.trust_rank.specs.Sets.{records_for, set_of, set_with}
use Rattle.trust_rank.specs.Walks.{rank_at, ending, walk_from}
use Rattle.cache_laws.specs.Denials.{IsLoneAlias}
use Rattle.cache_laws.specs.Carried.{IsOnRoute, LeadThrough, AreAliases, HasTwoAliases, IsFoundAt, IsLeftOpen}
use Rattle.cache_laws.specs.Carried.{HasToBeAsked, IsLameAt, ClosesAt, IsWalked, IsLame}
use Rattle.cache_laws.proofs.Sets.{data_of_set}
use Rattle.cache_laws.proofs.Denials.{lacks}
use Rattle.cache_laws.proofs.Walks.{own_walk}
use Rattle.cache_laws.proofs.WalkOnly.{own_walk_only}
use Rattle.cache_laws.proofs.Worked.{server, below_e, data_of, ip, host, alias, message, differ}
use Rattle.worked_claims.proofs.Neighbours.{HoldsButFor}

-- ---- aliases of nine names of a letter, from a to i, each to the next

abbrev i : List (List ℕ)
i = below_e 105

abbrev j : List (List ℕ)
j = below_e 106

-- all names are on the first route, but for j.e
abbrev route_of_j : Route
route_of_j = record { suffix = j; deny = false; servers = server ∷ [] }

abbrev routes : List Route
routes = record { suffix = []; deny = false; servers = server ∷ [] } ∷ route_of_j ∷ []

abbrev config : Config
config = record { listen = server; limits = default_limits; routes = routes }

abbrev link : ℕ → Record
link letter = alias (below_e letter) (data_of (letter + 1))

-- the aliases of a.e to h.e, and then these records
abbrev section : List Record → List Record
section more = link 97 ∷ link 98 ∷ link 99 ∷ link 100 ∷ link 101 ∷ link 102 ∷ link 103 ∷ link 104 ∷ more

abbrev question : ℕ → ℕ → Question
question letter kind = record { name = below_e letter; kind = kind; class = 1 }

-- the reply to the question for the address of the name with this letter
abbrev to : ℕ → List Record → Reply
to asked more = reply_of config (message true 0 (section more) []) (question asked 1) 0

-- the targets of this many aliases from a letter on, and the last target
abbrev targets : ℕ → ℕ → List (List (List ℕ))
targets letter zero = []
targets letter (suc n) = below_e (letter + 1) ∷ targets (letter + 1) n

abbrev last : ℕ → ℕ → List (List ℕ)
last letter zero = below_e letter
last letter (suc n) = last (letter + 1) n

-- the pieces of these aliases, the asked name's first
abbrev pieces : ℕ → ℕ → ℕ → List Piece
pieces rank letter zero = []
pieces rank letter (suc n) = set_with rank 0 (link letter) [] ∷ pieces 1 (letter + 1) n

-- ---- each leads to the next

-- the computed facts about a name: route, addresses and aliases in the section, and next name
abbrev Told : Type 0
Told = Option ℕ × List Record × List Record × Option (List (List ℕ))

abbrev told : List Record → ℕ → Told
told records letter = (
  route_of routes (below_e letter),
  records_for (question letter 1) records,
  records_for (question letter 5) records,
  name_of_rdata (data_of (letter + 1)),
)

abbrev linked : ℕ → Told
linked letter = (Some 0, [], link letter ∷ [], Some (below_e (letter + 1)))

abbrev AreLinked : List Record → ℕ → ℕ → Type 0
AreLinked records letter zero = Unit {0}
AreLinked records letter (suc n) = (told records letter ≡ linked letter) × AreLinked records (letter + 1) n

leads_on : (asked : ℕ) (more : List Record) (letter : ℕ) → told (section more) letter ≡ linked letter
    → IsLoneAlias (to asked more) (below_e letter) (below_e (letter + 1))
leads_on asked more letter is = record {
  other = λ five. omega (arith, five);
  no_set = lacks (to asked more) 1 (below_e letter)
      (ap (λ (t : Told). set_of (rank_at (to asked more) (below_e letter)) 0 t.1) is);
  datum = data_of (letter + 1);
  alone = data_of_set (question letter 5) (section more) (link letter) [] (ap (λ (t : Told). t.2) is);
  leads = ap (λ (t : Told). t.3) is;
}

lead : (asked : ℕ) (more : List Record) (letter n : ℕ) → AreLinked (section more) letter n
    → LeadThrough (to asked more) (below_e letter) (targets letter n) (last letter n)
lead asked more letter zero all = refl
lead asked more letter (suc n) all = (
  route_found_is_longest routes (below_e letter) 0 (ap (λ (t : Told). t.0) all.0),
  leads_on asked more letter all.0,
  lead asked more (letter + 1) n all.1,
)

are_aliases : (rank letter n : ℕ) → AreAliases (below_e letter) (targets letter n) (pieces rank letter n)
are_aliases rank letter zero = tt
are_aliases rank letter (suc n) = (
  record { owner = refl; kind_is = refl; each = data_of (letter + 1) ∷ []; body = refl },
  are_aliases 1 (letter + 1) n,
)

-- there are as many targets as aliases
as_many : (name : List (List ℕ)) (ts : List (List (List ℕ))) (ps : List Piece) → AreAliases name ts ps
    → length ts ≡ length ps
as_many name [] [] are = refl
as_many name [] (p ∷ ps) are = absurd are
as_many name (t ∷ ts) [] are = absurd are
as_many name (t ∷ ts) (p ∷ ps) are = let rest : length ts ≡ length ps = as_many t ts ps are.1 in omega (arith, rest)

-- ---- an address of i.e

abbrev of_i : List Record
of_i = host i 300 5 ∷ []

of_i_linked : AreLinked (section of_i) 97 8
unfolding route_of name_of_rdata name_within walk_in name_step
of_i_linked = (refl, (refl, (refl, (refl, (refl, (refl, (refl, (refl, tt))))))))

i_on_route : (asked : ℕ) (more : List Record) → IsOnRoute (to asked more) i
unfolding route_of
i_on_route asked more = route_found_is_longest routes i 0 refl

abbrev set : Piece
set = set_with 1 0 (host i 300 5) []

finds_it : (asked : ℕ) → IsFoundAt (to asked of_i) i set
finds_it asked = record {
  set = record { owner = refl; kind_is = refl; each = ip 5 ∷ []; body = refl };
  one = λ five. absurd (omega (arith, five));
}

-- seven aliases lead to i.e, and the set is found
after_seven : ClosesAt (to 98 of_i) 7 i (set ∷ []) (IsFoundAt (to 98 of_i) i)
after_seven = record { few = omega arith; on_route = i_on_route 98 of_i; p = set; alone = refl; is = finds_it 98 }

found_after_seven : IsWalked (to 98 of_i) (pieces 3 98 7 ++ set ∷ []) found
found_after_seven = record {
  targets = targets 98 7;
  last = i;
  lead = lead 98 of_i 98 7 of_i_linked.1;
  aliases = pieces 3 98 7;
  closing = set ∷ [];
  parts = refl;
  are = are_aliases 3 98 7;
  ends = after_seven;
}

-- after eight the set counts for nothing
after_eight : HoldsButFor (8 < 8) (ClosesAt (to 97 of_i) 8 i (set ∷ []) (IsFoundAt (to 97 of_i) i))
after_eight = (
  λ few. record { few = few; on_route = i_on_route 97 of_i; p = set; alone = refl; is = finds_it 97 },
  λ h. omega (arith, h.few),
)

found_after_eight : HoldsButFor (8 < 8) (IsWalked (to 97 of_i) (pieces 3 97 8 ++ set ∷ []) found)
found_after_eight = (
  λ few. record {
    targets = targets 97 8;
    last = i;
    lead = lead 97 of_i 97 8 of_i_linked;
    aliases = pieces 3 97 8;
    closing = set ∷ [];
    parts = refl;
    are = are_aliases 3 97 8;
    ends = after_eight.0 few;
  },
  λ h.
      let many : length h.targets ≡ length h.aliases = as_many (below_e 97) h.targets h.aliases h.are in
      let all : 9 ≡ length (h.aliases ++ h.closing) = ap length h.parts in
      let sum : length (h.aliases ++ h.closing) ≡ length h.aliases + length h.closing =
      length-append h.aliases h.closing in
      let one : length h.closing ≡ 1 = ap length h.ends.alone in
      let few : length h.targets < 8 = h.ends.few in
      omega (arith, many, all, sum, one, few),
)

-- so i.e has to be asked for
asked_for_after_eight : IsWalked (to 97 of_i) (pieces 3 97 8) (elsewhere i)
asked_for_after_eight = record {
  targets = targets 97 8;
  last = i;
  lead = lead 97 of_i 97 8 of_i_linked;
  aliases = pieces 3 97 8;
  closing = [];
  parts = refl;
  are = are_aliases 3 97 8;
  ends = (omega arith, refl, refl, inl refl);
}

-- for no other reason: the name is on the route, and the reply has the address
no_other_reason : (asked count : ℕ) → (IsOnRoute (to asked of_i) i → ⊥) ⊎ IsLeftOpen (to asked of_i) count i → ⊥
no_other_reason asked count (inl off) = off (i_on_route asked of_i)
no_other_reason asked count (inr left) =
    left.nothing.no_set (host i 300 5) (record {
      there = inr (inr (inr (inr (inr (inr (inr (inr (inl refl))))))));
      kind = refl;
      class = refl;
      name = refl;
    })

not_after_seven : HasToBeAsked (to 98 of_i) 7 i → ⊥
not_after_seven (inl eight) = omega (arith, eight)
not_after_seven (inr other) = no_other_reason 98 7 other

asked_for_after_seven : HoldsButFor (HasToBeAsked (to 98 of_i) 7 i)
    (IsWalked (to 98 of_i) (pieces 3 98 7) (elsewhere i))
asked_for_after_seven = (
  λ asked. record {
    targets = targets 98 7;
    last = i;
    lead = lead 98 of_i 98 7 of_i_linked.1;
    aliases = pieces 3 98 7;
    closing = [];
    parts = refl;
    are = are_aliases 3 98 7;
    ends = (omega arith, refl, refl, asked);
  },
  λ h. by h.targets h.last h.aliases h.closing h.parts h.are h.ends.1 h.ends.2 h.ends.3,
)
  where
    by : (ts : List (List (List ℕ))) (name : List (List ℕ)) (aliases closing : List Piece)
        → pieces 3 98 7 ≡ aliases ++ closing → AreAliases (below_e 98) ts aliases → closing ≡ [] → name ≡ i
        → HasToBeAsked (to 98 of_i) (length ts) name → ⊥
    by ts name aliases closing parts are none is asked =
        let many : length ts ≡ length aliases = as_many (below_e 98) ts aliases are in
        let all : 7 ≡ length (aliases ++ closing) = ap length parts in
        let sum : length (aliases ++ closing) ≡ length aliases + length closing = length-append aliases closing in
        let nothing : length closing ≡ 0 = ap length none in
        let seven : length ts ≡ 7 = omega (arith, many, all, sum, nothing) in
        not_after_seven (subst (λ (z : ℕ × List (List ℕ)). HasToBeAsked (to 98 of_i) z.0 z.1)
        (λ k. (seven k, is k)) asked)

-- ---- two aliases of i.e

abbrev twice : List Record
twice = alias i (data_of 107) ∷ alias i (data_of 108) ∷ []

twice_linked : AreLinked (section twice) 97 8
unfolding route_of name_of_rdata name_within walk_in name_step
twice_linked = (refl, (refl, (refl, (refl, (refl, (refl, (refl, (refl, tt))))))))

has_two : (asked : ℕ) → HasTwoAliases (to asked twice) i
has_two asked = record {
  s = alias i (data_of 107);
  t = alias i (data_of 108);
  first = record {
    there = inr (inr (inr (inr (inr (inr (inr (inr (inl refl))))))));
    kind = refl;
    class = refl;
    name = refl;
  };
  second = record {
    there = inr (inr (inr (inr (inr (inr (inr (inr (inr (inl refl)))))))));
    kind = refl;
    class = refl;
    name = refl;
  };
  differ = differ (data_of 107) (data_of 108) refl;
}

lame_there : (asked count : ℕ) → IsLameAt (to asked twice) count i
lame_there asked count = inr (inl (record {
  other = λ five. omega (arith, five);
  no_set = lacks (to asked twice) 1 i refl;
  lost = inl (has_two asked);
}))

-- seven aliases lead to i.e, and the reply is lame
lame_after_seven : IsLame (to 98 twice)
lame_after_seven = record {
  targets = targets 98 7;
  last = i;
  lead = lead 98 twice 98 7 twice_linked.1;
  few = omega arith;
  on_route = i_on_route 98 twice;
  lame_is = lame_there 98 7;
}

routes_differ : AllDiffer routes
routes_differ = ((λ is. true≢false (sym ((same_decides [] j).1 is)), tt), (tt, tt))

-- after eight the records of i.e count for nothing, and the name is asked for
goes_on_after_eight : own_walk (to 97 twice) ≡ ending (pieces 3 97 8) (elsewhere i)
unfolding walk_from route_of name_of_rdata name_within walk_in name_step
goes_on_after_eight = refl

lame_after_eight : HoldsButFor (8 < 8) (IsLame (to 97 twice))
lame_after_eight = (
  λ few. record {
    targets = targets 97 8;
    last = i;
    lead = lead 97 twice 97 8 twice_linked;
    few = few;
    on_route = i_on_route 97 twice;
    lame_is = lame_there 97 8;
  },
  λ h.
      let is : own_walk (to 97 twice) ≡ ending [] lame =
      own_walk_only (to 97 twice) [] lame routes_differ tt tt (refl, h) in
      absurd (let wrong : elsewhere i ≡ lame = ap (λ (w : Walk). w.end) (sym goes_on_after_eight ∙ is) in cc),
)

-- ---- an alias of i.e to j.e, on another route

abbrev to_j : List Record
to_j = link 105 ∷ []

to_j_linked : AreLinked (section to_j) 97 9
unfolding route_of name_of_rdata name_within walk_in name_step
to_j_linked = (refl, (refl, (refl, (refl, (refl, (refl, (refl, (refl, (refl, tt)))))))))

j_off_route : (asked : ℕ) → IsOnRoute (to asked to_j) j → ⊥
j_off_route asked h = by h.route h.there (h.most 1 route_of_j refl ((is_under_decides j j).0 refl))
  where
    by : (r : Route) → Some (record { suffix = []; deny = false; servers = server ∷ [] }) ≡ Some r → 2 ≤ length r.suffix
        → ⊥
    by r is long = let one : record { suffix = []; deny = false; servers = server ∷ [] } ≡ r = cc in
        omega (arith, long, ap (λ (x : Route). length x.suffix) one)

-- eight aliases lead to j.e
eight_lead_off : IsWalked (to 98 to_j) (pieces 3 98 8) (elsewhere j)
eight_lead_off = record {
  targets = targets 98 8;
  last = j;
  lead = lead 98 to_j 98 8 to_j_linked.1;
  aliases = pieces 3 98 8;
  closing = [];
  parts = refl;
  are = are_aliases 3 98 8;
  ends = (omega arith, refl, refl, inr (inl (j_off_route 98)));
}

-- and nine are too many
nine_lead_off : HoldsButFor (9 ≤ 8) (IsWalked (to 97 to_j) (pieces 3 97 9) (elsewhere j))
nine_lead_off = (
  λ few. record {
    targets = targets 97 9;
    last = j;
    lead = lead 97 to_j 97 9 to_j_linked;
    aliases = pieces 3 97 9;
    closing = [];
    parts = refl;
    are = are_aliases 3 97 9;
    ends = (few, refl, refl, inr (inl (j_off_route 97)));
  },
  λ h.
      let many : length h.targets ≡ length h.aliases = as_many (below_e 97) h.targets h.aliases h.are in
      let all : 9 ≡ length (h.aliases ++ h.closing) = ap length h.parts in
      let sum : length (h.aliases ++ h.closing) ≡ length h.aliases + length h.closing =
      length-append h.aliases h.closing in
      let none : length h.closing ≡ 0 = ap length h.ends.1 in
      let few : length h.targets ≤ 8 = h.ends.0 in
      omega (arith, many, all, sum, none, few),
)
