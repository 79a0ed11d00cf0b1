-- Two pieces are equal if the definitions say the same of both.
use Rattle.std.proofs.Common.{◌≡◌, ◌≢◌, ℕ, ◌≤◌, Bool, ◌⊎◌, inl, inr, List, [], ◌∷◌, ◌++◌, length, Option}
use Rattle.std.proofs.Common.{None, Some, refl, sym, ap, ◌∙◌, subst, arith}
use Rattle.std.specs.Prelude.{◌==◌}
use Rattle.std.specs.Option.{IfSome}
use Rattle.std.proofs.lemmas.Bool.{cases_Bool, eqb-true, eq-eqb, both_ways}
use Rattle.plain_values.specs.Octets.{same_octets}
use Rattle.plain_values.proofs.CallerLemmas.{same_octets_decides}
use Rattle.dns_name.specs.Labels.{lowered, IsSame}
use Rattle.dns_message.specs.Values.{Question, Record}
use Rattle.dns_message.specs.Data.{IsShaped}
use Rattle.dns_message.specs.Messages.{AreShaped}
use Rattle.trust_rank.specs.Values.{Body, rows, Piece, Reply}
use Rattle.trust_rank.specs.Sets.{seconds_of}
use Rattle.trust_rank.proofs.PieceLaws.{soa_has_minimum}
use Rattle.cache_laws.specs.Lists.{IsOneOf, NoneTwice, IsBefore}
use Rattle.cache_laws.specs.Sets.{IsRecordFor, AreDataOf, ComesFirst, AreInOrder, FirstOwns, IsLowestTtl, IsSetFrom}
use Rattle.cache_laws.specs.Ranks.{IsRanked}
use Rattle.cache_laws.specs.Lifetimes.{IsFirstSoa, IsLeastOf, LivesBy, HoldsSoa}
use Rattle.cache_laws.specs.Carried.{IsOfReply, IsSetAt}
use Rattle.cache_laws.proofs.Sets.{top_bit_is_none}

-- ---- lists of equal items in a single order

-- two items differ, and do not come before each other
pub record AreApart {X : Type 0} (comes : X → X → Type 0) (x y : X) : Type 0 where
  pub differ : x ≡ y → ⊥
  pub never : comes x y → comes y x → ⊥

-- two lists of equal items, none twice, each list in the order
pub record AreOneList {X : Type 0} (comes : X → X → Type 0) (xs ys : List X) : Type 0 where
  pub decide : (x y : X) → IsOneOf x xs → IsOneOf y ys → (x ≡ y) ⊎ AreApart comes x y
  pub first_in_order : (x y : X) → IsBefore x y xs → comes x y
  pub second_in_order : (x y : X) → IsBefore x y ys → comes x y
  pub first_once : NoneTwice xs
  pub second_once : NoneTwice ys
  pub to : (x : X) → IsOneOf x xs → IsOneOf x ys
  pub back : (x : X) → IsOneOf x ys → IsOneOf x xs

other_than : {X : Type 0} (x y : X) (xs : List X) → (x ≡ y → ⊥) → IsOneOf x (y ∷ xs) → IsOneOf x xs
other_than x y xs differ (inl is) = absurd (differ is)
other_than x y xs differ (inr rest) = rest

-- an item of the first rest and of the second list is in the second rest, if the first items are
-- equal
in_rest : {X : Type 0} (x y z : X) (xs ys : List X) → x ≡ y → NoneTwice (x ∷ xs) → IsOneOf z xs → IsOneOf z (y ∷ ys)
    → IsOneOf z ys
in_rest x y z xs ys is once there (inl one) = absurd (once.0 (subst (λ w. IsOneOf w xs) (one ∙ sym is) there))
in_rest x y z xs ys is once there (inr rest) = rest

pub one_list : {X : Type 0} (comes : X → X → Type 0) (xs ys : List X) → AreOneList comes xs ys → xs ≡ ys
one_list comes [] [] h = refl
one_list comes [] (y ∷ ys) h = absurd (h.back y (inl refl))
one_list comes (x ∷ xs) [] h = absurd (h.to x (inl refl))
one_list comes (x ∷ xs) (y ∷ ys) h = elim (h.decide x y (inl refl) (inl refl)) [
  | inl is ↦ λ i. is i ∷ one_list comes xs ys (record {
    decide = λ z w there second. h.decide z w (inr there) (inr second);
    first_in_order = λ z w in_front. h.first_in_order z w (inr in_front);
    second_in_order = λ z w in_front. h.second_in_order z w (inr in_front);
    first_once = h.first_once.1;
    second_once = h.second_once.1;
    to = λ z there. in_rest x y z xs ys is h.first_once there (h.to z (inr there));
    back = λ z there. in_rest y x z ys xs (sym is) h.second_once there (h.back z (inr there));
  }) i
  | inr apart ↦ absurd (apart.never
      (h.first_in_order x y (inl (refl, other_than y x xs (λ e. apart.differ (sym e)) (h.back y (inl refl)))))
      (h.second_in_order y x (inl (refl, other_than x y ys apart.differ (h.to x (inl refl))))))
]

-- ---- sets of alike questions

-- questions of equal type, class and name, letter case aside
pub record AreAlike (q p : Question) : Type 0 where
  pub kind : q.kind ≡ p.kind
  pub class : q.class ≡ p.class
  pub name : IsSame q.name p.name

turned : (q p : Question) → AreAlike q p → AreAlike p q
turned q p a = record { kind = sym a.kind; class = sym a.class; name = sym a.name }

pub fits_alike : (q p : Question) (records : List Record) (r : Record) → AreAlike q p → IsRecordFor q records r
    → IsRecordFor p records r
fits_alike q p records r a h =
    record { there = h.there; kind = h.kind ∙ a.kind; class = h.class ∙ a.class; name = h.name ∙ a.name }

one_spelling : (q p : Question) (records : List Record) (x y : List (List ℕ)) → AreAlike q p → FirstOwns q records x
    → FirstOwns p records y → x ≡ y
one_spelling q p [] x y a h k = absurd h
one_spelling q p (r ∷ records) x y a (inl h) (inl k) = sym h.1 ∙ k.1
one_spelling q p (r ∷ records) x y a (inl h) (inr k) = absurd (k.0 (fits_alike q p (r ∷ records) r a h.0))
one_spelling q p (r ∷ records) x y a (inr h) (inl k) =
    absurd (h.0 (fits_alike p q (r ∷ records) r (turned q p a) k.0))
one_spelling q p (r ∷ records) x y a (inr h) (inr k) = one_spelling q p records x y a h.1 k.1

no_longer : (q p : Question) (records : List Record) (x y : ℕ) → AreAlike q p → IsLowestTtl q records x
    → IsLowestTtl p records y → x ≤ y
no_longer q p records x y a h k = elim k.one [
  | inl week ↦ omega (arith, h.week, week)
  | inr d ↦ h.least d.r y (fits_alike p q records d.r (turned q p a) d.fits) d.seconds_are
]

one_life : (q p : Question) (records : List Record) (x y : ℕ) → AreAlike q p → IsLowestTtl q records x
    → IsLowestTtl p records y → x ≡ y
one_life q p records x y a h k =
    omega (arith, no_longer q p records x y a h k, no_longer p q records y x (turned q p a) k h)

order_alike : (q p : Question) (records : List Record) (x y : List ℕ) → AreAlike q p → ComesFirst q records x y
    → ComesFirst p records x y
order_alike q p [] x y a h = absurd h
order_alike q p (r ∷ records) x y a (inl h) = inl (fits_alike q p (r ∷ records) r a h.0, h.1)
order_alike q p (r ∷ records) x y a (inr h) = inr (
  λ fits. h.0 (fits_alike p q (r ∷ records) r (turned q p a) fits),
  order_alike q p records x y a h.1,
)

not_both_first : (q : Question) (records : List Record) (x y : List ℕ) → (x ≡ y → ⊥) → ComesFirst q records x y
    → ComesFirst q records y x → ⊥
not_both_first q [] x y differ h k = h
not_both_first q (r ∷ records) x y differ (inl h) (inl k) = differ (sym h.1 ∙ k.1)
not_both_first q (r ∷ records) x y differ (inl h) (inr k) = k.0 h.0 h.1
not_both_first q (r ∷ records) x y differ (inr h) (inl k) = h.0 k.0 k.1
not_both_first q (r ∷ records) x y differ (inr h) (inr k) = not_both_first q records x y differ h.1 k.1

one_or_apart : (q : Question) (records : List Record) (x y : List ℕ) → (x ≡ y) ⊎ AreApart (ComesFirst q records) x y
one_or_apart q records x y = elim (cases_Bool (same_octets x y)) [
  | inl is ↦ inl ((same_octets_decides x y).0 is)
  | inr isnt ↦
      let differ : x ≡ y → ⊥ = λ e. both_ways (same_octets x y) isnt ((same_octets_decides x y).1 e) in
      inr (record { differ = differ; never = λ h k. not_both_first q records x y differ h k })
]

-- each row of a is a row of b
rows_among : (q p : Question) (records : List Record) (a b : List (List ℕ)) (x : List ℕ) → AreAlike q p
    → AreDataOf q records a → AreDataOf p records b → IsOneOf x a → IsOneOf x b
rows_among q p records a b x alike of_a of_b there = let d = of_a.only x there in
    subst (λ (y : List ℕ). IsOneOf y b) d.datum_is (of_b.whole d.r (fits_alike q p records d.r alike d.fits))

pub one_data : (q p : Question) (records : List Record) (a b : List (List ℕ)) → AreAlike q p → AreDataOf q records a
    → AreInOrder q records a → AreDataOf p records b → AreInOrder p records b → a ≡ b
one_data q p records a b alike of_a a_in_order of_b b_in_order = one_list (ComesFirst p records) a b (record {
  decide = λ x y _ _. one_or_apart p records x y;
  first_in_order = λ x y h. order_alike q p records x y alike (a_in_order x y h);
  second_in_order = b_in_order;
  first_once = of_a.once;
  second_once = of_b.once;
  to = λ x there. rows_among q p records a b x alike of_a of_b there;
  back = λ x there. rows_among p q records b a x (turned q p alike) of_b of_a there;
})

-- ---- pieces

record AgreeIn (a b : Piece) : Type 0 where
  pub owner : a.owner ≡ b.owner
  pub key : a.slot.key ≡ b.slot.key
  pub class : a.slot.class ≡ b.slot.class
  pub kind : a.slot.kind ≡ b.slot.kind
  pub body : a.body ≡ b.body
  pub lifetime : a.lifetime ≡ b.lifetime
  pub rank : a.rank ≡ b.rank
  pub route : a.route ≡ b.route

one_piece : (a b : Piece) → AgreeIn a b → a ≡ b
one_piece a b h = λ i. record {
  owner = h.owner i;
  slot = record { key = h.key i; class = h.class i; kind = h.kind i };
  body = h.body i;
  lifetime = h.lifetime i;
  rank = h.rank i;
  route = h.route i;
}

one_key : (r : Reply) (a b : Piece) → IsOfReply r a → IsOfReply r b → a.owner ≡ b.owner → a.slot.key ≡ b.slot.key
one_key r a b of_a of_b owner = of_a.name ∙ ap lowered owner ∙ sym of_b.name

-- two sets of a name and type are equal, if with equal owners their ranks are equal
pub one_set : (r : Reply) (records : List Record) (kind : ℕ) (name : List (List ℕ)) (a b : Piece)
    → IsSetFrom records a → IsSetFrom records b → IsSetAt kind name a → IsSetAt kind name b → IsOfReply r a
    → IsOfReply r b → (a.owner ≡ b.owner → a.rank ≡ b.rank) → a ≡ b
one_set r records kind name a b from_a from_b at_a at_b of_a of_b ranks =
    let q : Question = record { name = a.owner; kind = kind; class = a.slot.class } in
    let p : Question = record { name = b.owner; kind = kind; class = b.slot.class } in
    let alike : AreAlike q p =
    record { kind = refl; class = of_a.class ∙ sym of_b.class; name = at_a.owner ∙ sym at_b.owner } in
    let owner : a.owner ≡ b.owner = one_spelling q p records a.owner b.owner alike
    (from_a.spelled kind at_a.each at_a.kind_is at_a.body) (from_b.spelled kind at_b.each at_b.kind_is at_b.body) in
    let one_rows : at_a.each ≡ at_b.each = one_data q p records at_a.each at_b.each alike
    (from_a.data_are kind at_a.each at_a.kind_is at_a.body) (from_a.in_order kind at_a.each at_a.kind_is at_a.body)
    (from_b.data_are kind at_b.each at_b.kind_is at_b.body) (from_b.in_order kind at_b.each at_b.kind_is at_b.body) in
    one_piece a b (record {
      owner = owner;
      key = one_key r a b of_a of_b owner;
      class = of_a.class ∙ sym of_b.class;
      kind = at_a.kind_is ∙ sym at_b.kind_is;
      body = at_a.body ∙ ap rows one_rows ∙ sym at_b.body;
      lifetime = one_life q p records a.lifetime b.lifetime alike
          (from_a.lives kind at_a.each at_a.kind_is at_a.body) (from_b.lives kind at_b.each at_b.kind_is at_b.body);
      rank = ranks owner;
      route = of_a.route ∙ sym of_b.route;
    })

pub one_rank : (is_authoritative : Bool) (asked owner : List (List ℕ)) (a b : ℕ)
    → IsRanked is_authoritative asked owner a → IsRanked is_authoritative asked owner b → a ≡ b
one_rank is_authoritative asked owner a b h k = elim (cases_Bool (a == 3)) [
  | inl is ↦ let three : a ≡ 3 = eqb-true a 3 is in three ∙ sym (k.highest (h.authoritative three) (h.own three))
  | inr isnt ↦
      let other : a ≢ 3 = λ e. both_ways (a == 3) isnt (eq-eqb a 3 e) in
      let below : b ≢ 3 = λ e. other (h.highest (k.authoritative e) (k.own e)) in
      h.lowest other ∙ sym (k.lowest below)
]

-- ---- denials

one_first_soa : (class : ℕ) (name : List (List ℕ)) (records : List Record) (a b : Option Record)
    → IsFirstSoa class name records a → IsFirstSoa class name records b → a ≡ b
one_first_soa class name [] a b h k = h ∙ sym k
one_first_soa class name (s ∷ records) a b (inl h) (inl k) = h.1 ∙ sym k.1
one_first_soa class name (s ∷ records) a b (inl h) (inr k) = absurd (k.0 h.0)
one_first_soa class name (s ∷ records) a b (inr h) (inl k) = absurd (h.0 k.0)
one_first_soa class name (s ∷ records) a b (inr h) (inr k) = one_first_soa class name records a b h.1 k.1

no_more : (ttl minimum a b : ℕ) → IsLeastOf ttl minimum a → IsLeastOf ttl minimum b → a ≤ b
no_more ttl minimum a b h k = elim k.one [
  | inl is ↦ omega (arith, is, h.within_ttl)
  | inr (inl is) ↦ omega (arith, is, h.within_minimum)
  | inr (inr is) ↦ omega (arith, is, h.within_three_hours)
]

-- the last four octets of data
record HasLastFour (octets : List ℕ) : Type 0 where
  pub front : List ℕ
  pub a : ℕ
  pub b : ℕ
  pub c : ℕ
  pub d : ℕ
  pub parts : octets ≡ front ++ a ∷ b ∷ c ∷ d ∷ []

one_in_front : (octet : ℕ) (octets : List ℕ) → HasLastFour octets → HasLastFour (octet ∷ octets)
one_in_front octet octets h = record {
  front = octet ∷ h.front;
  a = h.a;
  b = h.b;
  c = h.c;
  d = h.d;
  parts = ap (λ (l : List ℕ). octet ∷ l) h.parts;
}

last_four : (octets : List ℕ) → 4 ≤ length octets → HasLastFour octets
last_four [] long = absurd (omega (arith, long))
last_four (a ∷ []) long = absurd (omega (arith, long))
last_four (a ∷ b ∷ []) long = absurd (omega (arith, long))
last_four (a ∷ b ∷ c ∷ []) long = absurd (omega (arith, long))
last_four (a ∷ b ∷ c ∷ d ∷ []) long = record { front = []; a = a; b = b; c = c; d = d; parts = refl }
last_four (a ∷ b ∷ c ∷ d ∷ e ∷ octets) long =
    one_in_front a (b ∷ c ∷ d ∷ e ∷ octets) (last_four (b ∷ c ∷ d ∷ e ∷ octets) (omega arith))

-- an SOA, if any, has a MINIMUM
HasMinimum : Option Record → Type 0
HasMinimum soa = IfSome soa (λ (s : Record). 4 ≤ length s.rdata)

first_has_minimum : (class : ℕ) (name : List (List ℕ)) (records : List Record) (soa : Option Record)
    → AreShaped records → IsFirstSoa class name records soa → HasMinimum soa
unfolding HasMinimum
first_has_minimum class name [] soa shaped h = subst (λ (o : Option Record). HasMinimum o) (sym h) tt
first_has_minimum class name (s ∷ records) soa shaped (inl h) =
    let fits = h.0 in
    subst (λ (o : Option Record). HasMinimum o) (sym h.1) (soa_has_minimum s (record {
      kind = fits.kind;
      shaped = subst (λ (kind : ℕ). IsShaped kind s.rdata) fits.kind shaped.0;
    }))
first_has_minimum class name (s ∷ records) soa shaped (inr h) =
    first_has_minimum class name records soa shaped.1 h.1

one_lifetime : (soa : Option Record) (a b : ℕ) → HasMinimum soa → LivesBy soa a → LivesBy soa b → a ≡ b
unfolding HasMinimum
one_lifetime None a b has h k = h ∙ sym k
one_lifetime (Some soa) a b has h k =
    let f = last_four soa.rdata has in
    let seconds : ℕ = seconds_of soa.ttl in
    let of_a = h f.front f.a f.b f.c f.d seconds f.parts (top_bit_is_none soa.ttl) in
    let of_b = k f.front f.a f.b f.c f.d seconds f.parts (top_bit_is_none soa.ttl) in
    omega (arith, no_more seconds _ a b of_a of_b, no_more seconds _ b a of_b of_a)

-- two denials of a name with these SOAs in bodies of a single form
pub record AreDenials (r : Reply) (a b : Piece) : Type 0 where
  pub form : Option Record → Body
  pub first : Option Record
  pub second : Option Record
  pub first_body : a.body ≡ form first
  pub second_body : b.body ≡ form second
  pub first_holds : HoldsSoa r.question.class r.authority a first
  pub second_holds : HoldsSoa r.question.class r.authority b second
  pub owner : a.owner ≡ b.owner
  pub kind : a.slot.kind ≡ b.slot.kind

pub one_denial : (r : Reply) (a b : Piece) → AreShaped r.authority → AreDenials r a b → IsOfReply r a → IsOfReply r b
    → a.rank ≡ b.rank → a ≡ b
one_denial r a b shaped d of_a of_b ranks =
    let soa : d.first ≡ d.second = one_first_soa r.question.class b.owner r.authority d.first d.second
    (subst (λ (name : List (List ℕ)). IsFirstSoa r.question.class name r.authority d.first) d.owner d.first_holds.first)
    d.second_holds.first in
    let has : HasMinimum d.second =
    first_has_minimum r.question.class b.owner r.authority d.second shaped d.second_holds.first in
    one_piece a b (record {
      owner = d.owner;
      key = one_key r a b of_a of_b d.owner;
      class = of_a.class ∙ sym of_b.class;
      kind = d.kind;
      body = d.first_body ∙ ap d.form soa ∙ sym d.second_body;
      lifetime = one_lifetime d.second a.lifetime b.lifetime has
          (subst (λ (o : Option Record). LivesBy o a.lifetime) soa d.first_holds.lives) d.second_holds.lives;
      rank = ranks;
      route = of_a.route ∙ sym of_b.route;
    })
