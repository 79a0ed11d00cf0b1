-- From a name to the names above it.
use Rattle.std.proofs.Common.{◌≡◌, ℕ, true, false, List, [], ◌∷◌, Option, None, Some, refl, ap, sym, subst, ◌∙◌}
use Rattle.std.specs.Option.{option_or, option_eq}
use Rattle.std.specs.Prelude.{nat_eq}
use Rattle.dns_name.specs.Labels.{lowered, IsUnder}
use Rattle.dns_name.proofs.CallerLemmas.{under_itself, under_transitive, longer_is_under}
use Rattle.suffix_routes.specs.Values.{Route}
use Rattle.suffix_routes.specs.Routes.{route_of}
use Rattle.record_cache.specs.Values.{Held}
use Rattle.record_cache.specs.Ageing.{is_alive}
use Rattle.record_cache.specs.Entries.{entry_of, may_deny}
use Rattle.record_cache.proofs.CallerLemmas.{entry_has_slot, denied_higher}
use Rattle.negative_cache.specs.BySlot.{slots_of, only, is_on, name_error_of, name_error_on, climbed, above}
use Rattle.negative_cache.proofs.Options.{only_some, only_true, only_false, option_decides}
use Rattle.negative_cache.proofs.Denying.{error_slot}
use Rattle.negative_cache.proofs.Sizes.{no_denial}

abbrev There : Type 0
There = List (List ℕ) → Option Held

pub or_none : (o : Option Held) → o ≡ option_or o None
or_none None = refl
or_none (Some h) = refl

-- the nearest name error is the name's own, otherwise the nearest above
pub climbed_is : (there : There) (key : List (List ℕ)) → climbed there key ≡ option_or (there key) (above there key)
climbed_is there [] = or_none (there [])
climbed_is there (label ∷ key) = refl

pub climbed_here : (there : There) (key : List (List ℕ)) (h : Held) → there key ≡ Some h → climbed there key ≡ Some h
climbed_here there key h is = climbed_is there key ∙ ap (λ o. option_or o (above there key)) is

pub climbed_higher : (there : There) (key : List (List ℕ)) → there key ≡ None → climbed there key ≡ above there key
climbed_higher there key is = climbed_is there key ∙ ap (λ o. option_or o (above there key)) is

-- if no entry may deny a name, there is no nearest name error
pub none_near : (routes : List Route) (route : Option ℕ) (moment class : ℕ) (entries : List Held) (key : List (List ℕ))
    → may_deny key entries ≡ false → climbed (name_error_on routes route moment (slots_of entries) class) key ≡ None
none_near routes route moment class entries [] none = ap (only (is_on routes route)) (no_denial moment class [] entries none)
none_near routes route moment class entries (label ∷ key) none =
    climbed_higher (name_error_on routes route moment (slots_of entries) class) (label ∷ key)
    (ap (only (is_on routes route)) (no_denial moment class (label ∷ key) entries none))
    ∙ none_near routes route moment class entries key (denied_higher label key entries none)

-- ---- the name's own entry

-- the found entry has the name
pub error_key : (moment class : ℕ) (entries : List Held) (key : List (List ℕ)) (h : Held) → name_error_of moment (slots_of entries) class key ≡ Some h → error_slot class key ≡ h.piece.slot
error_key moment class entries key h found = entry_has_slot (error_slot class key) entries h (only_some (is_alive moment) (entry_of (error_slot class key) entries) h found).0

-- the found entry's name is on the name's route
own_route : (routes : List Route) (moment class : ℕ) (entries : List Held) (key : List (List ℕ)) (h : Held) → name_error_of moment (slots_of entries) class key ≡ Some h → is_on routes (route_of routes key) h ≡ true
own_route routes moment class entries key h found =
    (option_decides (route_of routes h.piece.slot.key) (route_of routes key)).1 (ap (λ s. route_of routes s.key) (sym (error_key moment class entries key h found)))

pub own_is_nearest : (routes : List Route) (moment class : ℕ) (entries : List Held) (key : List (List ℕ)) (h : Held) → name_error_of moment (slots_of entries) class key ≡ Some h
    → climbed (name_error_on routes (route_of routes key) moment (slots_of entries) class) key ≡ Some h
own_is_nearest routes moment class entries key h found =
    climbed_here (name_error_on routes (route_of routes key) moment (slots_of entries) class) key h
    (ap (only (is_on routes (route_of routes key))) found ∙ only_true (is_on routes (route_of routes key)) h (own_route routes moment class entries key h found))

pub own_is_none : (routes : List Route) (moment class : ℕ) (entries : List Held) (key : List (List ℕ)) → name_error_of moment (slots_of entries) class key ≡ None
    → climbed (name_error_on routes (route_of routes key) moment (slots_of entries) class) key ≡ above (name_error_on routes (route_of routes key) moment (slots_of entries) class) key
own_is_none routes moment class entries key none =
    climbed_higher (name_error_on routes (route_of routes key) moment (slots_of entries) class) key (ap (only (is_on routes (route_of routes key))) none)

-- the test of the entry's route is a test of the name's route
pub on_is : (routes : List Route) (route : Option ℕ) (moment class : ℕ) (entries : List Held) (key : List (List ℕ)) (h : Held) → name_error_of moment (slots_of entries) class key ≡ Some h
    → is_on routes route h ≡ option_eq nat_eq (route_of routes key) route
on_is routes route moment class entries key h found =
    ap (λ s. option_eq nat_eq (route_of routes s.key) route) (sym (error_key moment class entries key h found))

pub on_route : (routes : List Route) (route : Option ℕ) (moment class : ℕ) (entries : List Held) (key : List (List ℕ)) (h : Held) → Some h ≡ name_error_of moment (slots_of entries) class key
    → option_eq nat_eq (route_of routes key) route ≡ true → Some h ≡ name_error_on routes route moment (slots_of entries) class key
on_route routes route moment class entries key h found on =
    sym (ap (only (is_on routes route)) (sym found) ∙ only_true (is_on routes route) h (on_is routes route moment class entries key h (sym found) ∙ on))

pub off_route : (routes : List Route) (route : Option ℕ) (moment class : ℕ) (entries : List Held) (key : List (List ℕ)) (h : Held) → Some h ≡ name_error_of moment (slots_of entries) class key
    → option_eq nat_eq (route_of routes key) route ≡ false → None ≡ name_error_on routes route moment (slots_of entries) class key
off_route routes route moment class entries key h found off =
    sym (ap (only (is_on routes route)) (sym found) ∙ only_false (is_on routes route) h (on_is routes route moment class entries key h (sym found) ∙ off))

-- ---- a name higher

-- a name under another is under the name a label higher, too
pub under_higher : (key rest higher : List (List ℕ)) (label : List ℕ) → rest ≡ label ∷ higher → IsUnder key rest → IsUnder key higher
under_higher key rest higher label is under =
    under_transitive key rest higher under (subst (λ (n : List (List ℕ)). IsUnder n higher) (sym is) (longer_is_under label higher higher (under_itself higher)))

-- the labels after the first are in lower case, too
pub lower_higher : (rest higher : List (List ℕ)) (label : List ℕ) → rest ≡ label ∷ higher → lowered rest ≡ rest → lowered higher ≡ higher
lower_higher rest higher label is lower = let both : lowered (label ∷ higher) ≡ label ∷ higher = subst (λ (r : List (List ℕ)). lowered r ≡ r) is lower in cc

-- the nearest above a name is the nearest of the name a label higher
above_higher : (there : There) (asked rest higher : List (List ℕ)) (label : List ℕ) → rest ≡ label ∷ higher → above there rest ≡ above there asked → climbed there higher ≡ above there asked
above_higher there asked rest higher label is left = sym (ap (above there) is) ∙ left

pub found_higher : (there : There) (asked rest higher : List (List ℕ)) (label : List ℕ) (h : Held) → rest ≡ label ∷ higher → above there rest ≡ above there asked → there higher ≡ Some h
    → Some h ≡ above there asked
found_higher there asked rest higher label h is left found = sym (climbed_here there higher h found) ∙ above_higher there asked rest higher label is left

pub none_higher : (there : There) (asked rest higher : List (List ℕ)) (label : List ℕ) → rest ≡ label ∷ higher → above there rest ≡ above there asked → there higher ≡ None
    → above there higher ≡ above there asked
none_higher there asked rest higher label is left none = sym (climbed_higher there higher none) ∙ above_higher there asked rest higher label is left
