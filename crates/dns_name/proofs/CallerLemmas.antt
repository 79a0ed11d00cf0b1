-- Lemmas about names, for proofs of crates above.
use Rattle.std.proofs.Common.{◌≡◌, ℕ, ◌+◌, ◌<◌, ◌≤◌, Bool, true, ◌&&◌, eqb, List, [], ◌∷◌, ◌++◌, length, drop, Ok}
use Rattle.std.specs.Bool.{Decides}
use Rattle.dns_name.specs.Labels.{label_octets, octets_of, size_of, IsLabel, IsName, IsSame, IsUnder, same, is_under, lowered, labels_of, IsLaidOut}
use Rattle.std.specs.Cmp.Lexicographic.{pointwise}
use Rattle.dns_name.specs.Key.{key_octets, key_len}
use Rattle.dns_name.specs.Text.{name_in}
use Rattle.dns_name.proofs.KeyOf as keys
use Rattle.dns_name.proofs.LabelLaws as labels
use Rattle.dns_name.proofs.NameLaws as names
use Rattle.dns_name.proofs.FaultLaws as faults

-- ---- equal names, letter case aside

-- equality of names is an equivalence
pub same_reflexive : (a : List (List ℕ)) → IsSame a a
same_reflexive = names.same_refl

pub same_symmetric : (a b : List (List ℕ)) → IsSame a b → IsSame b a
same_symmetric = names.same_sym

pub same_transitive : (a b c : List (List ℕ)) → IsSame a b → IsSame b c → IsSame a c
same_transitive = names.same_trans

-- equal names have equally many labels
pub same_as_many_labels : (a b : List (List ℕ)) → IsSame a b → length a ≡ length b
same_as_many_labels = names.same_count

-- and equally many octets
pub same_as_many_octets : (a b : List (List ℕ)) → IsSame a b → size_of a ≡ size_of b
same_as_many_octets = names.same_size

-- equal names without their first k labels are equal
pub same_ends : (k : ℕ) (a b : List (List ℕ)) → IsSame a b → IsSame (drop k a) (drop k b)
same_ends = names.same_drop

-- the test decides equality
pub same_decides : (a b : List (List ℕ)) → Decides (same a b) (IsSame a b)
same_decides = names.same_decides

-- the test gives equal answers for equal names
pub same_respects : (n m s t : List (List ℕ)) → IsSame n m → IsSame s t → same n s ≡ same m t
same_respects = names.same_respects

-- an answer that is true exactly if P holds equals each test that decides P
pub answer_is_test : {P : Type 0} (answer test : Bool) → (answer ≡ true → P) × (P → answer ≡ true) → Decides test P → answer ≡ test
answer_is_test = names.told

-- ---- keys: labels in lower case

-- equal names have equal keys, and names with equal keys are equal
pub same_keys : (a b : List (List ℕ)) → IsSame a b → lowered a ≡ lowered b
same_keys a b same = same

pub keys_same : (a b : List (List ℕ)) → lowered a ≡ lowered b → IsSame a b
keys_same a b equal = equal

-- a key's key is the key
pub lowered_again : (name : List (List ℕ)) → lowered (lowered name) ≡ lowered name
lowered_again = names.lowered_again

-- a name equals its key
pub lowered_is_same : (name : List (List ℕ)) → IsSame (lowered name) name
lowered_is_same = names.same_lowered

-- a name's key is a name
pub lowered_is_name : (name : List (List ℕ)) → IsName name → IsName (lowered name)
lowered_is_name = names.name_lowered

-- keys with equal octets and lengths are equal
pub one_key : (a b : List (List ℕ)) → key_octets a ≡ key_octets b → key_len a ≡ key_len b → a ≡ b
one_key = keys.key_same

-- the code's test decides equality of keys: for crates that look keys up in a map or sort by them
pub key_decides : (a b : List (List ℕ)) → Decides (pointwise eqb (key_octets a) (key_octets b) && eqb (key_len a) (key_len b)) (a ≡ b)
key_decides = keys.key_decides

-- ---- names under a suffix

-- n is under s exactly if the last labels of n, as many as s has, equal s
pub ends_where_under : (n s : List (List ℕ)) → IsUnder n s → names.EndsIn n s
ends_where_under = names.under_ends

pub under_where_ends : (n s : List (List ℕ)) → names.EndsIn n s → IsUnder n s
under_where_ends = names.ends_under

-- each name is under itself and under the root
pub under_itself : (name : List (List ℕ)) → IsUnder name name
under_itself = names.under_refl

pub under_root : (name : List (List ℕ)) → IsUnder name []
under_root = names.under_root

pub under_transitive : (a b c : List (List ℕ)) → IsUnder a b → IsUnder b c → IsUnder a c
under_transitive = names.under_trans

-- if n is under s, each name equal to n is under each name equal to s
pub under_respects_same : (n m s t : List (List ℕ)) → IsSame n m → IsSame s t → IsUnder n s → IsUnder m t
under_respects_same = names.under_same_names

-- the test decides whether a name is under a suffix
pub is_under_decides : (n s : List (List ℕ)) → Decides (is_under n s) (IsUnder n s)
is_under_decides = names.is_under_decides

-- the test gives equal answers for equal names
pub is_under_respects : (n m s t : List (List ℕ)) → IsSame n m → IsSame s t → is_under n s ≡ is_under m t
is_under_respects = names.is_under_respects

-- if a name is under s, so is the name without its first k labels, if s has no more labels
pub end_is_under : (k : ℕ) (n s : List (List ℕ)) → k + length s ≤ length n → IsUnder n s → IsUnder (drop k n) s
end_is_under = names.end_under

-- a name under a suffix stays under the suffix with a label before
pub longer_is_under : (label : List ℕ) (name s : List (List ℕ)) → IsUnder name s → IsUnder (label ∷ name) s
longer_is_under = labels.rest_under

-- of two suffixes of a name, the suffix with more labels is under the shorter suffix
pub suffix_under_suffix : (n s t : List (List ℕ)) → IsUnder n s → IsUnder n t → length t ≤ length s → IsUnder s t
suffix_under_suffix = names.under_longer

-- the suffix with more labels has more octets
pub more_labels_more_octets : (n s t : List (List ℕ)) → IsUnder n s → IsUnder n t → length t < length s → size_of t < size_of s
more_labels_more_octets = names.more_labels

-- suffixes of a name with equally many labels are equal
pub suffixes_same : (n s t : List (List ℕ)) → IsUnder n s → IsUnder n t → length s ≡ length t → IsSame s t
suffixes_same = names.under_count

-- ---- octets

-- a name takes at least an octet: the final zero
pub size_at_least_one : (name : List (List ℕ)) → 1 ≤ size_of name
size_at_least_one = labels.size_of-some

-- a label takes its octets and its length octet
pub size_with_label : (name : List (List ℕ)) (label : List ℕ) → size_of (name ++ label ∷ []) ≡ size_of name + length label + 1
size_with_label = labels.size_of-push

-- the labels in a name's octets are the name's labels
pub labels_of_octets : (name : List (List ℕ)) → labels_of (octets_of name) ≡ name
labels_of_octets = labels.labels_of-octets_of

-- no octets have no labels
pub labels_of_nothing : labels_of [] ≡ []
labels_of_nothing = labels.labels_of-nil

-- a name's octets are laid out
pub octets_are_laid_out : (name : List (List ℕ)) → IsName name → IsLaidOut (octets_of name)
octets_are_laid_out = labels.laid_out

-- ---- text

-- the name read from a text is a name
pub name_in_text : (text : List ℕ) (name : List (List ℕ)) → name_in text ≡ Ok name → IsName name
name_in_text = faults.name_in_name

-- ---- octets of labels

-- no octets are laid out: the root
pub no_octets_are_laid_out : IsLaidOut []
no_octets_are_laid_out = labels.laid_out-nil

-- a name's octets, followed by a label
pub label_put_last : (old new label : List ℕ) → IsLaidOut old → IsLabel label → length old + length label ≤ 253 → new ≡ old ++ label_octets label → labels.Grows old new label
label_put_last = labels.grows

pub octets_joined : (front back : List (List ℕ)) → octets_of (front ++ back) ≡ octets_of front ++ octets_of back
octets_joined = labels.octets_of-append

-- octets of labels, followed by octets of labels
pub labels_joined : (front back : List ℕ) → IsLaidOut front → IsLaidOut back → size_of (labels_of front) + length back ≤ 255 → labels.Joined front back
labels_joined = labels.joined

-- the size of a name, followed by the labels in octets
pub size_with_labels : (name : List (List ℕ)) (octets : List ℕ) → IsLaidOut octets → size_of (name ++ labels_of octets) ≡ size_of name + length octets
size_with_labels = labels.size_of-joined
