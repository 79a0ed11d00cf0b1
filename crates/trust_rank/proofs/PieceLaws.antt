-- Sets and denials are pieces.
use Rattle.std.proofs.Common.{◌≡◌, ℕ, ◌≤◌, true, false, List, [], ◌∷◌, ◌++◌, length, Option, Some, None, refl, sym, ap, ◌∙◌, subst, ⊎_elim, arith}
use Rattle.std.specs.Prelude.{min, ◌==◌, ◌&&◌, ◌≢◌}
use Rattle.std.specs.List.{list_any, AllByRecursion}
use Rattle.std.proofs.lemmas.Bool.{cases_Bool, cond-true, cond-false, cond_both, and_parts, eqb-true}
use Rattle.std.proofs.lemmas.List.{length-append}
use Rattle.dns_message.specs.PlainValues.Octets.{same_octets}
use Rattle.dns_message.specs.DnsName.Labels.{lowered, same, is_under}
use Rattle.dns_message.specs.Values.{Question, Record}
use Rattle.dns_message.specs.Data.{IsShaped, HasParts, more_parts}
use Rattle.dns_message.specs.Shapes.{shape_of, soa_parts}
use Rattle.dns_message.specs.Messages.{AreShaped}
use Rattle.trust_rank.specs.Values.{rows, Piece}
use Rattle.trust_rank.specs.Sets.{is_of, records_for, with_data, with_all_data, seconds_of, lifetime_within, longest, set_with, set_of}
use Rattle.trust_rank.specs.Gathering.{added_all, lowered_by_all}
use Rattle.trust_rank.specs.Denials.{is_soa_for, soa_for, denial_lifetime}
use Rattle.trust_rank.specs.Formed.{AreRows, IsSoa, IsPiece}
use Rattle.trust_rank.specs.Walks.{target_of}
use Rattle.trust_rank.proofs.Gathering.{added_all-is, lowered_by_all-is}

-- ---- sets

shaped_end : (kind : ℕ) (kept : List (List ℕ)) (octets : List ℕ) → AllByRecursion (IsShaped kind) kept → IsShaped kind octets → AllByRecursion (IsShaped kind) (kept ++ octets ∷ [])
shaped_end kind [] octets all one = (one, tt)
shaped_end kind (x ∷ kept) octets all one = (all.0, shaped_end kind kept octets all.1 one)

some_end : (kept : List (List ℕ)) (octets : List ℕ) → kept ++ octets ∷ [] ≢ []
some_end [] octets e = absurd (cc)
some_end (x ∷ kept) octets e = absurd (cc)

rows_with : (kind : ℕ) (kept : List (List ℕ)) (octets : List ℕ) → AreRows kind kept → IsShaped kind octets → AreRows kind (with_data kept octets)
rows_with kind kept octets all one =
    cond_both (list_any (same_octets octets) kept) kept (kept ++ octets ∷ []) (AreRows kind) (λ _. all)
    (λ _. record { some = some_end kept octets; shaped = shaped_end kind kept octets all.shaped one })

abbrev pub HaveShape : ℕ → List Record → Type 0
HaveShape kind records = AllByRecursion (λ (r : Record). IsShaped kind r.rdata) records

rows_with_all : (kind : ℕ) (kept : List (List ℕ)) (records : List Record) → AreRows kind kept → HaveShape kind records → AreRows kind (with_all_data kept records)
rows_with_all kind kept [] all each = all
rows_with_all kind kept (r ∷ records) all each = rows_with_all kind (with_data kept r.rdata) records (rows_with kind kept r.rdata all each.0) each.1

pub kind_of_set : (q : Question) (r : Record) → is_of q r ≡ true → r.kind ≡ q.kind
kind_of_set q r e = eqb-true r.kind q.kind (and_parts (r.kind == q.kind) (r.class == q.class) (and_parts ((r.kind == q.kind) && (r.class == q.class)) (same r.owner q.name) e).0).0

pub set_shape : (q : Question) (records : List Record) → AreShaped records → HaveShape q.kind (records_for q records)
set_shape q [] all = tt
set_shape q (r ∷ records) all =
    cond_both (is_of q r) (r ∷ records_for q records) (records_for q records) (HaveShape q.kind)
    (λ t. (subst (λ (kind : ℕ). IsShaped kind r.rdata) (kind_of_set q r t) all.0, set_shape q records all.1))
    (λ _. set_shape q records all.1)

lifetime_short : (most : ℕ) (records : List Record) → lifetime_within most records ≤ most
lifetime_short most [] = omega arith
lifetime_short most (r ∷ records) = omega (arith, lifetime_short (min most (seconds_of r.ttl)) records)

-- a set is a piece
pub set_with_is_piece : (rank route : ℕ) (first : Record) (others : List Record) (kind : ℕ) → first.kind ≡ kind → IsShaped kind first.rdata → HaveShape kind others → IsPiece (set_with rank route first others)
set_with_is_piece rank route first others kind is one all = record {
  key = refl;
  body = subst (λ (k : ℕ). AreRows k (with_all_data (first.rdata ∷ []) others)) (sym is) (rows_with_all kind (first.rdata ∷ []) others (record { some = some_end [] first.rdata; shaped = (one, tt) }) all);
  lifetime = omega (arith, lifetime_short (min longest (seconds_of first.ttl)) others);
}

-- the gathered set is a piece
pub gathered_is_piece : (rank route : ℕ) (first : Record) (q : Question) (others : List Record) (class kind : ℕ) (owner : List (List ℕ)) (sets : List (List ℕ)) (lifetime : ℕ) → kind ≡ first.kind
    → sets ≡ added_all q (first.rdata ∷ []) others → lifetime ≡ lowered_by_all q (min longest (seconds_of first.ttl)) others → IsShaped first.kind first.rdata → AreShaped others → first.kind ≡ q.kind
    → IsPiece (record { owner = owner; slot = record { key = lowered owner; class = class; kind = Some kind }; body = rows sets; lifetime = lifetime; rank = rank; route = route })
gathered_is_piece rank route first q others class kind owner sets lifetime same_kind a b one all asked =
    let each : AreRows q.kind (with_all_data (first.rdata ∷ []) (records_for q others)) =
    rows_with_all q.kind (first.rdata ∷ []) (records_for q others) (record { some = some_end [] first.rdata; shaped = (subst (λ (k : ℕ). IsShaped k first.rdata) asked one, tt) }) (set_shape q others all) in
    record {
      key = refl;
      body = subst (λ (k : ℕ). AreRows k sets) (sym (same_kind ∙ asked)) (subst (AreRows q.kind) (sym (a ∙ added_all-is q (first.rdata ∷ []) others)) each);
      lifetime = omega (arith, b ∙ lowered_by_all-is q (min longest (seconds_of first.ttl)) others, lifetime_short (min longest (seconds_of first.ttl)) (records_for q others));
    }

-- the gathered set is the defined set
pub gathered_is_set : (rank route : ℕ) (first : Record) (q : Question) (others : List Record) (class kind : ℕ) (owner : List (List ℕ)) (sets : List (List ℕ)) (lifetime : ℕ) → class ≡ first.class → kind ≡ first.kind → owner ≡ first.owner
    → sets ≡ added_all q (first.rdata ∷ []) others → lifetime ≡ lowered_by_all q (min longest (seconds_of first.ttl)) others
    → record { owner = owner; slot = record { key = lowered owner; class = class; kind = Some kind }; body = rows sets; lifetime = lifetime; rank = rank; route = route } ≡ set_with rank route first (records_for q others)
gathered_is_set rank route first q others class kind owner sets lifetime same_class same_kind same_owner a b = λ i. record {
  owner = same_owner i;
  slot = record { key = lowered (same_owner i); class = same_class i; kind = Some (same_kind i) };
  body = rows ((a ∙ added_all-is q (first.rdata ∷ []) others) i);
  lifetime = (b ∙ lowered_by_all-is q (min longest (seconds_of first.ttl)) others) i;
  rank = rank;
  route = route;
}

-- ---- the first record of a set

pub empty : (records : List Record) → length records ≡ 0 → records ≡ []
empty [] e = refl
empty (r ∷ records) e = absurd (omega (arith, e))

pub set_begins : (q : Question) (rank route : ℕ) (all rest others : List Record) (first : Record) (p : Piece) → records_for q rest ≡ records_for q all → rest ≡ first ∷ others → is_of q first ≡ true
    → p ≡ set_with rank route first (records_for q others) → Some p ≡ set_of rank route (records_for q all)
set_begins q rank route all rest others first p left is here e =
    ap Some e ∙ ap (set_of rank route) (sym (cond-true (is_of q first) (first ∷ records_for q others) (records_for q others) here) ∙ sym (ap (records_for q) is) ∙ left)

pub passed_over : (q : Question) (all rest others : List Record) (first : Record) → records_for q rest ≡ records_for q all → rest ≡ first ∷ others → is_of q first ≡ false → records_for q others ≡ records_for q all
passed_over q all rest others first left is other = sym (cond-false (is_of q first) (first ∷ records_for q others) (records_for q others) other) ∙ sym (ap (records_for q) is) ∙ left

pub none_left : (q : Question) (rank route : ℕ) (all rest : List Record) → records_for q rest ≡ records_for q all → length rest ≡ 0 → None ≡ set_of rank route (records_for q all)
none_left q rank route all rest left e = ap (λ (rs : List Record). set_of rank route (records_for q rs)) (sym (empty rest e)) ∙ ap (set_of rank route) left

-- data of no or several records has no target
pub no_target : (each : List (List ℕ)) → length each ≢ 1 → target_of (rows each) ≡ None
no_target [] many = refl
no_target (octets ∷ []) many = absurd (many refl)
no_target (octets ∷ other ∷ more) many = refl

-- ---- denials

-- the found SOA is an SOA
pub found_is_soa : (name : List (List ℕ)) (class : ℕ) (authority : List Record) (soa : Record) → AreShaped authority → soa_for name class authority ≡ Some soa → IsSoa soa
found_is_soa name class [] soa all e = absurd (cc)
found_is_soa name class (r ∷ records) soa all e = ⊎_elim
    (λ (t : is_soa_for name class r ≡ true).
    let is : Some r ≡ Some soa = sym (cond-true (is_soa_for name class r) _ _ t) ∙ e in
    let one : r ≡ soa = cc in
    let kind : r.kind ≡ 6 = eqb-true r.kind 6 (and_parts (r.kind == 6) (r.class == class) (and_parts ((r.kind == 6) && (r.class == class)) (is_under name r.owner) t).0).0 in
    subst IsSoa one (record { kind = kind; shaped = subst (λ (k : ℕ). IsShaped k r.rdata) kind all.0 }))
    (λ (f : is_soa_for name class r ≡ false). found_is_soa name class records soa all.1 (sym (cond-false (is_soa_for name class r) _ _ f) ∙ e))
    (cases_Bool (is_soa_for name class r))

pub copy_is_soa : (soa copy : Record) → IsSoa soa → copy ≡ soa → IsSoa copy
copy_is_soa soa copy is e = subst IsSoa (sym e) is

soa_long : (octets : List ℕ) → HasParts soa_parts octets → 4 ≤ length octets
soa_long octets (more_parts a r1 is_a (more_parts b r2 is_b (more_parts c r3 is_c end e3) e2) e1) =
    omega (
      arith,
      is_c,
      ap length e1 ∙ length-append a r1,
      ap length e2 ∙ length-append b r2,
      ap length e3 ∙ length-append c r3,
    )

-- an SOA's data has the last number
pub soa_has_minimum : (soa : Record) → IsSoa soa → 4 ≤ length soa.rdata
unfolding shape_of
soa_has_minimum soa is = soa_long soa.rdata is.shaped

-- a denial's lifetime is within the limit
pub denial_short : (soa : Option Record) → denial_lifetime soa ≤ longest
denial_short None = omega arith
denial_short (Some soa) = omega arith
