-- All fitting name servers are carried, in whole sets.
use Rattle.std.proofs.Common.{◌≡◌, ◌≢◌, ℕ, Bool, true, false, ◌⊎◌, inl, inr, List, [], ◌∷◌, ◌++◌, refl}
use Rattle.std.proofs.Common.{sym, ap, ◌∙◌, subst, append_assoc, append-nil}
use Rattle.std.specs.Prelude.{◌==◌, ◌&&◌, ◌||◌, not}
use Rattle.std.specs.List.{list_any, AllByRecursion}
use Rattle.std.proofs.lemmas.Bool.{cond-true, cond-false, cond_both, and_parts, and_from, or_left, or_right, or_parts}
use Rattle.std.proofs.lemmas.Bool.{or_from, cases_Bool, eqb-true, eq-eqb, false≢true, both_ways}
use Rattle.std.proofs.lemmas.List.Folds.{list_any-append}
use Rattle.dns_name.specs.Labels.{same, is_under, IsSame}
use Rattle.dns_name.proofs.CallerLemmas.{same_decides, same_respects, is_under_respects, is_under_decides}
use Rattle.dns_message.specs.Values.{Question, Record}
use Rattle.suffix_routes.proofs.CallerLemmas.{route_of_respects_same}
use Rattle.trust_rank.specs.Values.{Piece, End, found, ends_no_data, ends_denied, elsewhere, lame, Walk, Reply}
use Rattle.trust_rank.specs.Values.{reply_of}
use Rattle.trust_rank.specs.Sets.{is_of, records_for, with_all_data}
use Rattle.trust_rank.specs.Walks.{is_on_route, is_name_server, is_server_for, has_owner, begins_set}
use Rattle.trust_rank.specs.Walks.{servers_with, servers_at, servers_from, carries_servers, is_lame, walk_of}
use Rattle.cache_laws.specs.Lists.{IsOneOf}
use Rattle.cache_laws.specs.Sets.{IsSetFrom, SetsAreWhole, ServerSetsAreWhole}
use Rattle.cache_laws.specs.Servers.{NoneOwns, IsCarriedIn, ServersAreAll, OthersCarryNone, OwnersDiffer}
use Rattle.cache_laws.specs.Servers.{ServersAreApart}
use Rattle.cache_laws.proofs.Lists.{before, behind, one_of_both, only_one}
use Rattle.cache_laws.proofs.Sets.{Slotted, slotted, of_test, question_for, data_of_set, set_from}
use Rattle.cache_laws.proofs.Sets.{begins}
use Rattle.cache_laws.proofs.Walks.{OfAll, own_walk, own_walk_is_plain, each_piece, same_pieces, same_end, beside}
use Rattle.cache_laws.proofs.Denials.{on_route_is, is_on}

-- ---- owners

pub owned_by_none : (name : List (List ℕ)) (pieces : List Piece) → list_any (has_owner name) pieces ≡ false
    → NoneOwns name pieces
owned_by_none name [] e p there is = there
owned_by_none name (x ∷ pieces) e p (inl one) is =
    both_ways (same x.owner name) (or_parts (same x.owner name) (list_any (has_owner name) pieces) e).0
    ((same_decides x.owner name).1 (subst (λ (y : Piece). IsSame y.owner name) one is))
owned_by_none name (x ∷ pieces) e p (inr rest) is =
    owned_by_none name pieces (or_parts (same x.owner name) (list_any (has_owner name) pieces) e).1 p rest is

pub none_owns : (name : List (List ℕ)) (pieces : List Piece) → NoneOwns name pieces
    → list_any (has_owner name) pieces ≡ false
none_owns name [] h = refl
none_owns name (x ∷ pieces) h =
    or_from (same x.owner name) (list_any (has_owner name) pieces)
    (elim (cases_Bool (same x.owner name)) [
      | inl is ↦ absurd (h x (inl refl) ((same_decides x.owner name).0 is))
      | inr other ↦ other
    ])
    (none_owns name pieces (λ p there. h p (inr there)))

-- ---- fitting records

pub record Serves (r : Reply) (s : Record) : Type 0 where
  pub kind : s.kind ≡ 2
  pub class : s.class ≡ r.question.class
  pub above : is_under r.question.name s.owner ≡ true
  pub on_route : is_on_route r s.owner ≡ true

pub serves : (r : Reply) (s : Record) → is_server_for r s ≡ true → Serves r s
serves r s e =
    let all = and_parts ((is_name_server s && (s.class == r.question.class)) && is_under r.question.name s.owner)
    (is_on_route r s.owner) e in
    let three = and_parts (is_name_server s && (s.class == r.question.class))
    (is_under r.question.name s.owner) all.0 in
    let two = and_parts (is_name_server s) (s.class == r.question.class) three.0 in
    record {
      kind = eqb-true s.kind 2 two.0;
      class = eqb-true s.class r.question.class two.1;
      above = three.1;
      on_route = all.1;
    }

pub is_server : (r : Reply) (s : Record) → Serves r s → is_server_for r s ≡ true
is_server r s h =
    and_from ((is_name_server s && (s.class == r.question.class)) && is_under r.question.name s.owner)
    (is_on_route r s.owner)
    (and_from (is_name_server s && (s.class == r.question.class)) (is_under r.question.name s.owner)
    (and_from (is_name_server s) (s.class == r.question.class) (eq-eqb s.kind 2 h.kind)
    (eq-eqb s.class r.question.class h.class)) h.above)
    h.on_route

-- two servers of an owner belong to each other's set
is_of_one : (r : Reply) (first s : Record) → Serves r first → Serves r s → IsSame s.owner first.owner
    → is_of (question_for first) s ≡ true
is_of_one r first s f h owner =
    and_from ((s.kind == first.kind) && (s.class == first.class)) (same s.owner first.owner)
    (and_from (s.kind == first.kind) (s.class == first.class) (eq-eqb s.kind first.kind (h.kind ∙ sym f.kind))
    (eq-eqb s.class first.class (h.class ∙ sym f.class)))
    ((same_decides s.owner first.owner).1 owner)

-- ---- each fitting record is carried

first_of_own : (first : Record) → is_of (question_for first) first ≡ true
first_of_own first =
    and_from ((first.kind == first.kind) && (first.class == first.class)) (same first.owner first.owner)
    (and_from (first.kind == first.kind) (first.class == first.class) (eq-eqb first.kind first.kind refl)
    (eq-eqb first.class first.class refl))
    ((same_decides first.owner first.owner).1 refl)

-- the records for a record's own question, from this record on
own_records : (first : Record) (others : List Record)
    → records_for (question_for first) (first ∷ others) ≡ first ∷ records_for (question_for first) others
own_records first others = cond-true (is_of (question_for first) first)
    (first ∷ records_for (question_for first) others) (records_for (question_for first) others) (first_of_own first)

-- a record of the first record's question, from the first on, is in the first record's set
in_set : (r : Reply) (first : Record) (others : List Record) (s : Record) → IsOneOf s (first ∷ others)
    → is_of (question_for first) s ≡ true → IsSame first.owner s.owner
    → IsCarriedIn (servers_with r first others ∷ []) s
in_set r first others s there slot owner = record {
  set = servers_with r first others;
  there = inl refl;
  owner = owner;
  each = with_all_data (first.rdata ∷ []) (records_for (question_for first) others);
  body = refl;
  row = (data_of_set (question_for first) (first ∷ others) first (records_for (question_for first) others)
      (own_records first others)).whole s (of_test (question_for first) (first ∷ others) s there slot);
}

carried_before : (sets more : List Piece) (s : Record) → IsCarriedIn sets s → IsCarriedIn (sets ++ more) s
carried_before sets more s h = record {
  set = h.set;
  there = before h.set sets more h.there;
  owner = h.owner;
  each = h.each;
  body = h.body;
  row = h.row;
}

carried_behind : (sets more : List Piece) (s : Record) → IsCarriedIn more s → IsCarriedIn (sets ++ more) s
carried_behind sets more s h = record {
  set = h.set;
  there = behind h.set sets more h.there;
  owner = h.owner;
  each = h.each;
  body = h.body;
  row = h.row;
}

or_cases : (a b : Bool) → (a || b) ≡ true → (a ≡ true) ⊎ (b ≡ true)
or_cases true b e = inl refl
or_cases false b e = inr e

pub and_one : (a b : Bool) → a ≡ true → b ≡ false → (a && not b) ≡ true
and_one true true t f = sym f
and_one true false t f = refl
and_one false b t f = absurd (false≢true t)

-- the set added for the first record carries each fitting record of its owner
put_one : (r : Reply) (carried : List Piece) (first : Record) (others : List Record) (s : Record)
    → IsOneOf s (first ∷ others) → Serves r s → list_any (has_owner s.owner) (servers_at r carried first others) ≡ true
    → IsCarriedIn (servers_at r carried first others) s
put_one r carried first others s there fits = cond_both (begins_set r carried first)
    (servers_with r first others ∷ []) [] (λ (sets : List Piece). list_any (has_owner s.owner) sets ≡ true
    → IsCarriedIn sets s)
    (λ begun has.
    let first_fits : Serves r first = serves r first
    (and_parts (is_server_for r first) (not (list_any (has_owner first.owner) carried)) begun).0 in
    let owner : IsSame first.owner s.owner = (same_decides first.owner s.owner).0
    (only_has (same first.owner s.owner) has) in
    in_set r first others s there (is_of_one r first s first_fits fits (sym owner)) owner)
    (λ _ none. absurd (false≢true none))
  where
    only_has : (b : Bool) → (b || false) ≡ true → b ≡ true
    only_has true e = refl
    only_has false e = e

pub all_carried : (r : Reply) (carried : List Piece) (records : List Record) (s : Record) → IsOneOf s records → Serves r s
    → (list_any (has_owner s.owner) carried ≡ true) ⊎ IsCarriedIn (servers_from r carried records) s
unfolding servers_from
all_carried r carried [] s there fits = absurd there
all_carried r carried (first ∷ others) s (inl e) fits = elim (cases_Bool (list_any (has_owner s.owner) carried)) [
  | inl has ↦ inl has
  | inr none ↦
      let put : List Piece = servers_at r carried first others in
      let begun : begins_set r carried first ≡ true = subst (λ (x : Record). begins_set r carried x ≡ true) e
      (and_one (is_server_for r s) (list_any (has_owner s.owner) carried) (is_server r s fits) none) in
      let set : IsCarriedIn put s = subst (λ (sets : List Piece). IsCarriedIn sets s)
      (sym (cond-true (begins_set r carried first) (servers_with r first others ∷ []) [] begun))
      (in_set r first others s (inl e) (subst (λ (x : Record). is_of (question_for x) s ≡ true) e (first_of_own s))
      (subst (λ (x : Record). IsSame x.owner s.owner) e refl)) in
      inr (carried_before put (servers_from r (carried ++ put) others) s set)
]
all_carried r carried (first ∷ others) s (inr rest) fits =
    let put : List Piece = servers_at r carried first others in
    elim (all_carried r (carried ++ put) others s rest fits) [
      | inl has ↦ elim (or_cases (list_any (has_owner s.owner) carried) (list_any (has_owner s.owner) put)
          (sym (list_any-append (has_owner s.owner) carried put) ∙ has)) [
            | inl old ↦ inl old
            | inr new ↦ inr (carried_before put (servers_from r (carried ++ put) others) s
                (put_one r carried first others s (inr rest) fits new))
          ]
      | inr more ↦ inr (carried_behind put (servers_from r (carried ++ put) others) s more)
    ]

pub not_lame : (end : End) → end ≢ lame → is_lame end ≡ false
not_lame found n = refl
not_lame ends_no_data n = refl
not_lame ends_denied n = refl
not_lame (elsewhere name) n = refl
not_lame lame n = absurd (n refl)

pub servers_are_all : ServersAreAll
servers_are_all c m q route s aa lives fit =
    let r : Reply = reply_of c m q route in
    let w : Walk = own_walk r in
    let living : w.end ≢ lame = λ is. lives (same_end r w ∙ is) in
    let carries : carries_servers r w.end ≡ true = and_one m.header.aa (is_lame w.end) aa (not_lame w.end living) in
    let fits : Serves r s = record {
      kind = fit.server.kind;
      class = fit.server.class;
      above = (is_under_decides q.name s.owner).1 fit.server.above;
      on_route = is_on r s.owner fit.on_route;
    } in
    let none : list_any (has_owner s.owner) w.pieces ≡ false =
    ap (list_any (has_owner s.owner)) (sym (same_pieces r w))
    ∙ none_owns s.owner (walk_of c m q route).pieces fit.no_piece in
    let all : IsCarriedIn (servers_from r w.pieces r.authority) s =
    elim (all_carried r w.pieces r.authority s fit.server.there fits) [
      | inl has ↦ absurd (both_ways (list_any (has_owner s.owner) w.pieces) none has)
      | inr there ↦ there
    ] in
    subst (λ (x : Walk). IsCarriedIn x.authority s)
    (sym (cond-true (carries_servers r w.end) (beside r w) w carries)) all

pub others_carry_none : OthersCarryNone
others_carry_none c m q route clear =
    let r : Reply = reply_of c m q route in
    let w : Walk = own_walk r in
    cond_both (carries_servers r w.end) (beside r w) w (λ (x : Walk). x.authority ≡ [])
    (λ carries. absurd (both_ways m.header.aa clear (and_parts m.header.aa (not (is_lame w.end)) carries).0))
    (λ _. own_walk_is_plain r)

-- ---- sets are whole

pub of_answers : (r : Reply) → OfAll r (IsSetFrom r.answers)
of_answers r = record {
  sets = λ kind name p e.
      let q : Question = record { name = name; kind = kind; class = r.question.class } in
      let b = begins _ r.route (records_for q r.answers) p e in
      subst (IsSetFrom r.answers) b.piece_is (set_from q _ r.route r.answers b.first b.others b.records_are);
  none = λ name. record {
    data_are = λ kind each _ body. absurd (cc);
    in_order = λ kind each _ body. absurd (cc);
    spelled = λ kind each _ body. absurd (cc);
    lives = λ kind each _ body. absurd (cc);
  };
  errors = λ name. record {
    data_are = λ kind each _ body. absurd (cc);
    in_order = λ kind each _ body. absurd (cc);
    spelled = λ kind each _ body. absurd (cc);
    lives = λ kind each _ body. absurd (cc);
  };
}

pub sets_are_whole : SetsAreWhole
sets_are_whole c m q route = each_piece c m q route (IsSetFrom m.answers) (of_answers (reply_of c m q route))

-- ---- sets of name servers are whole

none_before : (q : Question) (front rest : List Record) → ((s : Record) → IsOneOf s front → is_of q s ≡ true → ⊥)
    → records_for q (front ++ rest) ≡ records_for q rest
none_before q [] rest none = refl
none_before q (s ∷ front) rest none = elim (cases_Bool (is_of q s)) [
  | inl is ↦ absurd (none s (inl refl) is)
  | inr other ↦ cond-false (is_of q s) (s ∷ records_for q (front ++ rest)) (records_for q (front ++ rest)) other
      ∙ none_before q front rest (λ x there. none x (inr there))
]

pub has_one : (a b : List (List ℕ)) (pieces : List Piece) → IsSame a b
    → list_any (has_owner a) pieces ≡ list_any (has_owner b) pieces
has_one a b [] is = refl
has_one a b (p ∷ pieces) is = λ i. same_respects p.owner p.owner a b refl is i || has_one a b pieces is i

-- each earlier fitting record has a piece of its owner
abbrev AllSeen : Reply → List Piece → List Record → Type 0
AllSeen r carried front = (s : Record) → IsOneOf s front → Serves r s → list_any (has_owner s.owner) carried ≡ true

-- a record of a fitting record's slot fits, too
pub serves_too : (r : Reply) (first s : Record) → Serves r first → Slotted (question_for first) s → Serves r s
serves_too r first s f at = record {
  kind = at.kind ∙ f.kind;
  class = at.class ∙ f.class;
  above = is_under_respects r.question.name r.question.name s.owner first.owner refl at.name ∙ f.above;
  on_route = is_on r s.owner (route_of_respects_same r.config.routes s.owner first.owner at.name
      ∙ on_route_is r first.owner f.on_route);
}

whole_records : (r : Reply) (carried : List Piece) (front : List Record) (first : Record) (others : List Record)
    → AllSeen r carried front → begins_set r carried first ≡ true
    → records_for (question_for first) (front ++ first ∷ others) ≡ first ∷ records_for (question_for first) others
whole_records r carried front first others seen begun =
    let both = and_parts (is_server_for r first) (not (list_any (has_owner first.owner) carried)) begun in
    let fits : Serves r first = serves r first both.0 in
    none_before (question_for first) front (first ∷ others)
    (λ s there is.
    let at : Slotted (question_for first) s =
    slotted (question_for first) front s (of_test (question_for first) front s there is) in
    let has : list_any (has_owner first.owner) carried ≡ true =
    has_one first.owner s.owner carried (sym at.name) ∙ seen s there (serves_too r first s fits at) in
    not_true (list_any (has_owner first.owner) carried) has both.1)
    ∙ own_records first others
  where
    not_true : (b : Bool) → b ≡ true → not b ≡ true → ⊥
    not_true true t n = false≢true n
    not_true false t n = false≢true t

seen_more : (r : Reply) (carried : List Piece) (front : List Record) (first : Record) (others : List Record)
    → AllSeen r carried front → AllSeen r (carried ++ servers_at r carried first others) (front ++ first ∷ [])
seen_more r carried front first others seen s there fits =
    let put : List Piece = servers_at r carried first others in
    let has : (list_any (has_owner s.owner) carried || list_any (has_owner s.owner) put) ≡ true =
    elim (one_of_both s front (first ∷ []) there) [
      | inl old ↦ or_left (list_any (has_owner s.owner) carried) (list_any (has_owner s.owner) put) (seen s old fits)
      | inr new ↦ elim (cases_Bool (list_any (has_owner s.owner) carried)) [
        | inl is ↦ or_left (list_any (has_owner s.owner) carried) (list_any (has_owner s.owner) put) is
        | inr none ↦
            let one : s ≡ first = only_one s first new in
            let begun : begins_set r carried first ≡ true =
            subst (λ (x : Record). begins_set r carried x ≡ true) one
            (and_one (is_server_for r s) (list_any (has_owner s.owner) carried) (is_server r s fits) none) in
            let own : list_any (has_owner s.owner) (servers_with r first others ∷ []) ≡ true =
            or_left (same first.owner s.owner) false ((same_decides first.owner s.owner).1
            (subst (λ (x : Record). IsSame x.owner s.owner) one refl)) in
            or_right (list_any (has_owner s.owner) carried) (list_any (has_owner s.owner) put)
            (subst (λ (sets : List Piece). list_any (has_owner s.owner) sets ≡ true)
            (sym (cond-true (begins_set r carried first) (servers_with r first others ∷ []) [] begun)) own)
      ]
    ] in
    list_any-append (has_owner s.owner) carried put ∙ has

all_both : (P : Piece → Type 0) (xs ys : List Piece) → AllByRecursion P xs → AllByRecursion P ys
    → AllByRecursion P (xs ++ ys)
all_both P [] ys a b = b
all_both P (x ∷ xs) ys a b = (a.0, all_both P xs ys a.1 b)

whole_sets : (r : Reply) (carried : List Piece) (front records whole : List Record) → front ++ records ≡ whole
    → AllSeen r carried front → AllByRecursion (IsSetFrom whole) (servers_from r carried records)
unfolding servers_from
whole_sets r carried front [] whole is seen = tt
whole_sets r carried front (first ∷ others) whole is seen =
    let put : List Piece = servers_at r carried first others in
    all_both (IsSetFrom whole) put (servers_from r (carried ++ put) others)
    (cond_both (begins_set r carried first) (servers_with r first others ∷ []) [] (AllByRecursion (IsSetFrom whole))
    (λ begun. (
      set_from (question_for first) 2 r.route whole first (records_for (question_for first) others)
          (ap (records_for (question_for first)) (sym is) ∙ whole_records r carried front first others seen begun),
      tt,
    ))
    (λ _. tt))
    (whole_sets r (carried ++ put) (front ++ first ∷ []) others whole (append_assoc front (first ∷ []) others ∙ is)
    (seen_more r carried front first others seen))

-- the sets of name servers next to these pieces
pub servers_whole : (r : Reply) (pieces : List Piece)
    → AllByRecursion (IsSetFrom r.authority) (servers_from r pieces r.authority)
servers_whole r pieces = whole_sets r pieces [] r.authority r.authority refl (λ s there _. absurd there)

pub server_sets_are_whole : ServerSetsAreWhole
server_sets_are_whole c m q route =
    let r : Reply = reply_of c m q route in
    let w : Walk = own_walk r in
    cond_both (carries_servers r w.end) (beside r w) w
    (λ (x : Walk). AllByRecursion (IsSetFrom m.authority) x.authority)
    (λ _. servers_whole r w.pieces)
    (λ _. subst (AllByRecursion (IsSetFrom m.authority)) (sym (own_walk_is_plain r)) tt)

-- ---- owners differ

NotOwned : List Piece → Piece → Type 0
NotOwned pieces p = list_any (has_owner p.owner) pieces ≡ false

not_is : (b : Bool) → not b ≡ true → b ≡ false
not_is true e = sym e
not_is false e = refl

-- inequality of names, reversed
not_same : (x y : List (List ℕ)) → same x y ≡ false → same y x ≡ false
not_same x y e = elim (cases_Bool (same y x)) [
  | inl is ↦ absurd (both_ways (same x y) e ((same_decides x y).1 (sym ((same_decides y x).0 is))))
  | inr other ↦ other
]

-- pieces sharing no owner with a joined list share none with either list
no_owner : (old put pieces : List Piece) → AllByRecursion (NotOwned (old ++ put)) pieces
    → AllByRecursion (NotOwned old) pieces × AllByRecursion (NotOwned put) pieces
unfolding NotOwned
no_owner old put [] all = (tt, tt)
no_owner old put (p ∷ pieces) all =
    let rest = no_owner old put pieces all.1 in
    let both = or_parts (list_any (has_owner p.owner) old) (list_any (has_owner p.owner) put)
    (sym (list_any-append (has_owner p.owner) old put) ∙ all.0) in
    ((both.0, rest.0), (both.1, rest.1))

-- and no piece has p's owner if none shares an owner with the list of p
other_owners : (p : Piece) (pieces : List Piece) → AllByRecursion (NotOwned (p ∷ [])) pieces
    → list_any (has_owner p.owner) pieces ≡ false
unfolding NotOwned
other_owners p [] all = refl
other_owners p (x ∷ pieces) all =
    or_from (same x.owner p.owner) (list_any (has_owner p.owner) pieces)
    (not_same p.owner x.owner (or_parts (same p.owner x.owner) false all.0).0) (other_owners p pieces all.1)

-- pieces with different owners, by the test
abbrev Differ : List Piece → Type 0
Differ [] = Unit {0}
Differ (p ∷ pieces) = (list_any (has_owner p.owner) pieces ≡ false) × Differ pieces

AreApart : List Piece → List Piece → Type 0
AreApart carried sets = AllByRecursion (NotOwned carried) sets × Differ sets

-- the set added for a record, put before sets apart from it
put_apart : (r : Reply) (carried : List Piece) (first : Record) (others : List Record) (more : List Piece)
    → AreApart (carried ++ servers_at r carried first others) more
    → AreApart carried (servers_at r carried first others ++ more)
unfolding NotOwned AreApart
put_apart r carried first others more =
    cond_both (begins_set r carried first) (servers_with r first others ∷ []) []
    (λ (put : List Piece). AreApart (carried ++ put) more → AreApart carried (put ++ more))
    (λ begun apart.
    let p : Piece = servers_with r first others in
    let parts = no_owner carried (p ∷ []) more apart.0 in
    let new : list_any (has_owner first.owner) carried ≡ false =
    not_is (list_any (has_owner first.owner) carried)
    (and_parts (is_server_for r first) (not (list_any (has_owner first.owner) carried)) begun).1 in
    ((new, parts.0), (other_owners p more parts.1, apart.1)))
    (λ _ apart. subst (λ (old : List Piece). AreApart old more) (append-nil carried) apart)

all_apart : (r : Reply) (carried : List Piece) (records : List Record)
    → AreApart carried (servers_from r carried records)
unfolding servers_from NotOwned AreApart
all_apart r carried [] = (tt, tt)
all_apart r carried (first ∷ others) =
    let put : List Piece = servers_at r carried first others in
    put_apart r carried first others (servers_from r (carried ++ put) others) (all_apart r (carried ++ put) others)

each_apart : (old sets : List Piece) → AllByRecursion (NotOwned old) sets
    → AllByRecursion (λ (p : Piece). NoneOwns p.owner old) sets
unfolding NotOwned
each_apart old [] all = tt
each_apart old (p ∷ sets) all = (owned_by_none p.owner old all.0, each_apart old sets all.1)

all_differ : (sets : List Piece) → Differ sets → OwnersDiffer sets
all_differ [] all = tt
all_differ (p ∷ sets) all = (owned_by_none p.owner sets all.0, all_differ sets all.1)

tested_apart : (old sets : List Piece) → AreApart old sets
    → AllByRecursion (λ (p : Piece). NoneOwns p.owner old) sets × OwnersDiffer sets
unfolding AreApart
tested_apart old sets h = (each_apart old sets h.0, all_differ sets h.1)

pub servers_apart : (r : Reply) (pieces : List Piece) (records : List Record)
    → AllByRecursion (λ (p : Piece). NoneOwns p.owner pieces) (servers_from r pieces records)
    × OwnersDiffer (servers_from r pieces records)
servers_apart r pieces records = tested_apart pieces (servers_from r pieces records) (all_apart r pieces records)

none_apart : (old : List Piece) → AllByRecursion (λ (p : Piece). NoneOwns p.owner old) [] × OwnersDiffer []
none_apart old = (tt, tt)

pub servers_are_apart : ServersAreApart
servers_are_apart c m q route =
    let r : Reply = reply_of c m q route in
    let w : Walk = own_walk r in
    cond_both (carries_servers r w.end) (beside r w) w
    (λ (x : Walk). AllByRecursion (λ (p : Piece). NoneOwns p.owner x.pieces) x.authority × OwnersDiffer x.authority)
    (λ _. servers_apart r w.pieces r.authority)
    (λ _. subst (λ (sets : List Piece). AllByRecursion (λ (p : Piece). NoneOwns p.owner w.pieces) sets
    × OwnersDiffer sets) (sym (own_walk_is_plain r)) (none_apart w.pieces))
