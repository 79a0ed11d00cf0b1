-- When a piece takes the place of another (RFC 2181 5.4, RFC 2308 2.1, RFC 8020 2).
use Rattle.std.specs.Prelude.{◌≡◌, ◌≢◌, ◌⊎◌, ◌≤◌, true, None}
use Rattle.dns_name.specs.Labels.{IsSame, IsUnder}
use Rattle.trust_rank.specs.declared.slot.Slot.{Slot}
use Rattle.trust_rank.specs.Values.{Piece}
use Rattle.trust_rank.specs.Replacing.{takes_place_of}

-- equal names, without letter case, equal classes, and equal types or no type in both
pub record AreOfOneSlot (a b : Slot) : Type 0 where
  pub name : IsSame a.key b.key
  pub class : a.class ≡ b.class
  pub kind : a.kind ≡ b.kind

-- p is no name error; q has the slot of p, and at least its rank
pub record IsNoLess (q p : Piece) : Type 0 where
  pub typed : p.slot.kind ≢ None
  pub slot : AreOfOneSlot q.slot p.slot
  pub rank : p.rank ≤ q.rank

-- p is a name error; q is a name error of an equal name, at any rank
pub record IsLaterError (q p : Piece) : Type 0 where
  pub whole : p.slot.kind ≡ None
  pub slot : AreOfOneSlot q.slot p.slot

-- p is a name error; q has a type, the class of p, and a name at or under the name of p, so the
-- name of p exists
pub record ShowsTheName (q p : Piece) : Type 0 where
  pub whole : p.slot.kind ≡ None
  pub typed : q.slot.kind ≢ None
  pub class : q.slot.class ≡ p.slot.class
  pub under : IsUnder q.slot.key p.slot.key

-- q takes the place of p: of equal slot and no lower rank, or for a name error a later name error,
-- or a sign that the name exists
abbrev pub Replaces : Piece → Piece → Type 0
Replaces q p = IsNoLess q p ⊎ (IsLaterError q p ⊎ ShowsTheName q p)

-- The test of history and cache is true exactly if q takes the place of p.
pub record ReplacesExactly : Type 0 where
  pub only : (q p : Piece) → takes_place_of q p ≡ true → Replaces q p
  pub each : (q p : Piece) → Replaces q p → takes_place_of q p ≡ true
