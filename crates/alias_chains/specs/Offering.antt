-- Offers of an accepted reply's pieces to the cache: RFC 2181 5.4.1, RFC 8020 2.
use Rattle.std.specs.Prelude.{ℕ, ◌+◌, Bool, true, if◌then◌else◌, List, [], ◌∷◌, map}
use Rattle.trust_rank.specs.Values.{Piece}
use Rattle.trust_rank.specs.Replacing.{is_name_error}
use Rattle.negative_cache.specs.RecordCache.Values.{Held}
use Rattle.negative_cache.specs.RecordCache.Offers.{answer, offered}
use Rattle.negative_cache.specs.RecordCache.declared.cache.Offered.{Offered}
use Rattle.negative_cache.specs.RecordCache.declared.cache.Offered.TheVariants.{Kept, Outranked, NotKept, Unkept}
use Rattle.negative_cache.specs.Showing.{shown}

-- a set or NODATA shows that its name is there
abbrev pub shown_by : Piece → List Held → List Held
shown_by p entries = if is_name_error p then entries else shown p.owner p.slot.class entries

-- how the offer of a piece ends; room says whether there is memory for one more entry
abbrev pub ended_so : ℕ → Bool → Piece → List Held → Offered
ended_so n room p entries = answer n room p (shown_by p entries)

-- the entries after an offer: the denials that the piece refutes go, whatever becomes of it; then
-- it is offered
abbrev pub put : ℕ → ℕ → Bool → Piece → List Held → List Held
put capacity n room p entries = offered (ended_so n room p entries) capacity n p (shown_by p entries)

-- 1 where an offer found no memory, otherwise 0
abbrev pub count_of : Offered → ℕ
count_of Unkept = 1
count_of Kept = 0
count_of Outranked = 0
count_of NotKept = 0

-- the entries after offers in order; `rooms` says which pieces find memory, and all after its end
-- do
abbrev pub put_all : ℕ → ℕ → List Bool → List Piece → List Held → List Held
put_all capacity n rooms [] entries = entries
put_all capacity n [] (p ∷ ps) entries = put_all capacity n [] ps (put capacity n true p entries)
put_all capacity n (room ∷ rooms) (p ∷ ps) entries = put_all capacity n rooms ps (put capacity n room p entries)

-- how many of these offers find no memory
abbrev pub unkept_of : ℕ → ℕ → List Bool → List Piece → List Held → ℕ
unkept_of capacity n rooms [] entries = 0
unkept_of capacity n [] (p ∷ ps) entries =
    count_of (ended_so n true p entries) + unkept_of capacity n [] ps (put capacity n true p entries)
unkept_of capacity n (room ∷ rooms) (p ∷ ps) entries =
    count_of (ended_so n room p entries) + unkept_of capacity n rooms ps (put capacity n room p entries)

-- the piece, held since n ms
abbrev pub held_at : ℕ → Piece → Held
held_at n p = record { piece = p; accepted = n }

-- the pieces of an accepted reply, in the order in which they are offered
abbrev pub pieces_of : List Held → List Piece
pieces_of = map (λ h. h.piece)
