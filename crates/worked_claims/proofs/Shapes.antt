-- The types with names in their data: exactly these numbers; the data of any other type is opaque
-- octets (RFC 3597).
use Rattle.std.proofs.Common.{◌≡◌, ℕ, List, [], ◌∷◌, Bool, true, false, cond, Option, Some, None, Ok, refl}
use Rattle.std.specs.Prelude.{◌==◌, ◌||◌, is_some, map}
use Rattle.std.specs.List.{list_any}
use Rattle.std.proofs.lemmas.Bool.{true≢false}
use Rattle.dns_message.specs.Data.{data_at, octets_within, parts_at}
use Rattle.dns_message.specs.Names.{step as name_step, walk_in, name_within}
use Rattle.dns_message.specs.Shapes.{Row, table, row_of, shape_of}

-- NS, MD, MF, CNAME, SOA, MB, MG, MR, PTR, MINFO, MX, RP, AFSDB, RT, PX, SRV and NAPTR
abbrev numbers : List ℕ
numbers = 2 ∷ 3 ∷ 4 ∷ 5 ∷ 6 ∷ 7 ∷ 8 ∷ 9 ∷ 12 ∷ 14 ∷ 15 ∷ 17 ∷ 18 ∷ 21 ∷ 26 ∷ 33 ∷ 35 ∷ []

-- each of them has a shape
each_has_a_shape : map (λ (kind : ℕ). is_some (shape_of kind)) numbers ≡ map (λ (kind : ℕ). true) numbers
unfolding shape_of
each_has_a_shape = refl

not_in_the_table : (kind : ℕ) (rows : List Row) → list_any (λ (row : Row). kind == row.kind) rows ≡ false
    → row_of kind rows ≡ None
not_in_the_table kind [] none = refl
not_in_the_table kind (row ∷ rows) none = by (kind == row.kind) none (not_in_the_table kind rows)
  where
    by : (v : Bool) → (v || list_any (λ (other : Row). kind == other.kind) rows) ≡ false
        → (list_any (λ (other : Row). kind == other.kind) rows ≡ false → row_of kind rows ≡ None)
        → cond v (Some row.shape) (row_of kind rows) ≡ None
    by true none onward = absurd (true≢false none)
    by false none onward = onward none

-- and no other number has a shape
no_other_has_a_shape : (kind : ℕ) → list_any (λ (number : ℕ). kind == number) numbers ≡ false → shape_of kind ≡ None
unfolding shape_of
no_other_has_a_shape kind none = not_in_the_table kind table none

-- none, A, NULL, TXT, AAAA, the type before NAPTR, DNAME, OPT and the last number
these_have_none : (shape_of 0 ≡ None) × (shape_of 1 ≡ None) × (shape_of 10 ≡ None) × (shape_of 16 ≡ None)
    × (shape_of 28 ≡ None)
    × (shape_of 34 ≡ None) × (shape_of 39 ≡ None) × (shape_of 41 ≡ None) × (shape_of 65535 ≡ None)
these_have_none = (
  no_other_has_a_shape 0 refl,
  no_other_has_a_shape 1 refl,
  no_other_has_a_shape 10 refl,
  no_other_has_a_shape 16 refl,
  no_other_has_a_shape 28 refl,
  no_other_has_a_shape 34 refl,
  no_other_has_a_shape 39 refl,
  no_other_has_a_shape 41 refl,
  no_other_has_a_shape 65535 refl,
)

some_is_none : {X : Type 0} {x : X} → ◌≡◌ {A = Option X} (Some x) None → ⊥
some_is_none is = absurd cc

-- NAPTR and CNAME are among them
naptr_has_one : shape_of 35 ≡ None → ⊥
unfolding shape_of
naptr_has_one = some_is_none

cname_has_one : shape_of 5 ≡ None → ⊥
unfolding shape_of
cname_has_one = some_is_none

-- the name in an alias is written out, the name in a DNAME is unchanged: a.e at 0, and at 5 a
-- pointer there
abbrev octets : List ℕ
octets = 1 ∷ 97 ∷ 1 ∷ 101 ∷ 0 ∷ 192 ∷ 0 ∷ []

alias_data : data_at 5 octets 5 2 ≡ Ok (1 ∷ 97 ∷ 1 ∷ 101 ∷ 0 ∷ [], 7)
unfolding data_at shape_of octets_within parts_at name_within walk_in name_step
alias_data = refl

dname_data : data_at 39 octets 5 2 ≡ Ok (192 ∷ 0 ∷ [], 7)
unfolding data_at shape_of
dname_data = refl
