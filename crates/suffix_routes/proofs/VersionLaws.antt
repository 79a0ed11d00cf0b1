-- Keys unknown to the first version are in no table of this version.
use Rattle.std.proofs.Common.{◌≡◌, ℕ, Bool, true, false, not, List, [], ◌∷◌, Option, Some, None, Result, Ok, Err, Ordering, Less, Equal, Greater, nat_cmp, refl, sym, ap, inl, inr}
use Rattle.std.specs.Prelude.{codes}
use Rattle.std.specs.List.{find}
use Rattle.std.specs.Ordering.{match_ordering}
use Rattle.std.specs.Cmp.Lexicographic.{slice_cmp}
use Rattle.std.proofs.lemmas.Bool.{cases_Bool}
use Rattle.std.proofs.lemmas.Map.Lookups.{exact_bytes}
use Rattle.toml.specs.Data.{Data, Members, no_members, member, get_member}
use Rattle.suffix_routes.specs.declared.version.Version.{Version}
use Rattle.suffix_routes.specs.declared.version.Version.TheVariants.{One}
use Rattle.suffix_routes.specs.declared.place.Place.{Place}
use Rattle.suffix_routes.specs.declared.place.Place.TheVariants as place
use Rattle.suffix_routes.specs.declared.fault.ConfigFault.TheVariants.{UnknownKey}
use Rattle.suffix_routes.specs.Excerpts.{excerpt}
use Rattle.suffix_routes.specs.Places.{knows}
use Rattle.suffix_routes.specs.Reading.{keys_of, is_strange, no_strange, known_keys}

-- no strange key was met
none_met : (version : Version) (place : Place) (met : Option (List ℕ)) (known : Unit {0}) → no_strange version place met ≡ Ok known → met ≡ None
none_met version place None known is = refl
none_met version place (Some key) known is = absurd (let no : Err (UnknownKey version place (excerpt key)) ≡ Ok known = is in cc)

-- a strange key is no key of a table without a strange key met
other_key : (strange : List ℕ → Bool) (key other : List ℕ) (order : Ordering) (d : Data) (rest : Option Data) → strange key ≡ true → strange other ≡ false
    → slice_cmp nat_cmp key other ≡ order → rest ≡ None → match_ordering order rest (Some d) rest ≡ None
other_key strange key other Less d rest is isnt cmp none = none
other_key strange key other Greater d rest is isnt cmp none = none
other_key strange key other Equal d rest is isnt cmp none =
    let one : key ≡ other = exact_bytes key other cmp in
    let both : strange key ≡ false = rw one isnt in
    absurd cc

absent : (strange : List ℕ → Bool) (key : List ℕ) (ms : Members) → strange key ≡ true → find strange (keys_of ms) ≡ None → get_member key ms ≡ None
absent strange key no_members is none = refl
absent strange key (member other d ms) is none =
    elim (cases_Bool (strange other)) [
      | inl met ↦ absurd (let no : Some other ≡ None = rw met at none in cc)
      | inr isnt ↦
          let rest : get_member key ms ≡ None = absent strange key ms is (rw isnt at none) in
          other_key strange key other (slice_cmp nat_cmp key other) d (get_member key ms) is isnt refl rest
    ]

-- a strange key of a place is absent from each table of known keys there
strange_is_absent : (version : Version) (place : Place) (key : List ℕ) (ms : Members) (known : Unit {0}) → is_strange version place key ≡ true → known_keys version place ms ≡ Ok known
    → get_member key ms ≡ None
unfolding known_keys
strange_is_absent version place key ms known is keys = absent (is_strange version place) key ms is (none_met version place (find (is_strange version place) (keys_of ms)) known keys)

pub deny_is_strange : (route : ℕ) (ms : Members) (known : Unit {0}) → known_keys One (place.Route route) ms ≡ Ok known → get_member (codes "deny") ms ≡ None
deny_is_strange route ms known keys = strange_is_absent One (place.Route route) (codes "deny") ms known refl keys

pub stale_s_is_strange : (ms : Members) (known : Unit {0}) → known_keys One place.Limits ms ≡ Ok known → get_member (codes "stale_s") ms ≡ None
stale_s_is_strange ms known keys = strange_is_absent One place.Limits (codes "stale_s") ms known refl keys
