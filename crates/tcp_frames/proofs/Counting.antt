-- A stream's place in the frames after a part of a frame, and after a piece.
use Rattle.std.proofs.Common.{◌≡◌, ℕ, ◌+◌, ◌-◌, ◌*◌, ◌<◌, ◌≤◌, List, [], ◌∷◌, ◌++◌, length, take, drop, get_or, refl, sym, ap, ◌∙◌, append-nil, append_assoc, arith}
use Rattle.std.proofs.lemmas.Bool.{le-leb, lt-leb}
use Rattle.std.proofs.lemmas.List.{take_all, drop_all, length-append, length-take-le, take-append-drop}
use Rattle.tcp_frames.specs.Frames.{frames_within, frames_of, unfinished_of}
use Rattle.tcp_frames.specs.declared.framing.Within.{Within}
use Rattle.tcp_frames.specs.declared.framing.Within.TheVariants.{Nothing, Length, Message}
use Rattle.tcp_frames.specs.Counting.{Counts, Leaves, Misses, Stands, ended}
use Rattle.tcp_frames.proofs.FrameLaws.{continues}

-- ---- a part of a frame

frames_cut : (high low : ℕ) (more : List ℕ) → length more < 256 * high + low → frames_of (high ∷ low ∷ more) ≡ []
unfolding frames_of frames_within
frames_cut high low more short = rw (lt-leb (256 * high + low) (length more) short) refl

unfinished_cut : (rest : List ℕ) → frames_of rest ≡ [] → unfinished_of rest ≡ rest
unfolding unfinished_of
unfinished_cut rest none = rw none refl

frames_whole : (high low : ℕ) (more : List ℕ) → length more ≡ 256 * high + low → frames_of (high ∷ low ∷ more) ≡ more ∷ []
unfolding frames_of frames_within
frames_whole high low more whole =
    rw (le-leb (256 * high + low) (length more) (omega arith), take_all (256 * high + low) more (omega arith), drop_all (256 * high + low) more (omega arith)) refl

unfinished_whole : (high low : ℕ) (more : List ℕ) → length more ≡ 256 * high + low → unfinished_of (high ∷ low ∷ more) ≡ []
unfolding unfinished_of
unfinished_whole high low more whole =
    rw (frames_whole high low more whole, append-nil more, drop_all (length more) more (omega arith)) refl

-- the meaning of a place for the octets after the last whole frame: without any there is no whole
-- frame
frames_none : (rest : List ℕ) (place : Within) → Stands place rest → frames_of rest ≡ []
unfolding frames_of frames_within
frames_none rest Nothing here = rw here refl
frames_none rest (Length high) here = rw here refl
frames_none [] (Message left) here = absurd here
frames_none (high ∷ []) (Message left) here = absurd here
frames_none (high ∷ low ∷ more) (Message left) here = frames_cut high low more (let positive = left.ok in omega arith)

-- ---- a part of a frame leads to a place

part_leads : (high low left : ℕ) (more : List ℕ) (place : Within) → length more + left ≡ 256 * high + low → Leaves left place
    → (length (frames_of (high ∷ low ∷ more)) ≡ ended place) × Stands place (unfinished_of (high ∷ low ∷ more))
part_leads high low left more Nothing sum none =
    let whole : length more ≡ 256 * high + low = omega arith in
    (ap (λ (messages : List (List ℕ)). length messages) (frames_whole high low more whole), unfinished_whole high low more whole)
part_leads high low left more (Length octet) sum none = absurd none
part_leads high low left more (Message missing) sum is =
    let positive = missing.ok in
    let none = frames_cut high low more (omega arith) in (
      ap (λ (messages : List (List ℕ)). length messages) none,
      rw (unfinished_cut (high ∷ low ∷ more) none) (omega arith),
    )

pub length_begins : (piece rest : List ℕ) → 0 < length piece → rest ≡ [] → Counts rest (take 1 piece) 0 (Length (get_or piece 0 0))
unfolding frames_of unfinished_of frames_within
length_begins [] rest some is = absurd (omega arith)
length_begins (first ∷ piece) rest some is = rw is (record { frames = refl; stands = refl })

pub length_ends : (piece rest : List ℕ) (high size : ℕ) (place : Within) → 0 < length piece → rest ≡ high ∷ [] → size ≡ 256 * high + get_or piece 0 0 → Leaves size place
    → Counts rest (take 1 piece) (ended place) place
length_ends [] rest high size place some is sum leaves = absurd (omega arith)
length_ends (low ∷ piece) rest high size place some is sum leaves =
    let led = part_leads high low size [] place (omega arith) leaves in
    rw is (record { frames = led.0; stands = led.1 })

pub message_goes_on : (piece rest : List ℕ) (left count : ℕ) (place : Within) → count ≤ length piece → count ≤ left → Misses left rest → Leaves (left - count) place
    → Counts rest (take count piece) (ended place) place
message_goes_on piece [] left count place within fits misses leaves = absurd misses
message_goes_on piece (high ∷ []) left count place within fits misses leaves = absurd misses
message_goes_on piece (high ∷ low ∷ more) left count place within fits misses leaves =
    let octets = take count piece in
    let long = length-append more octets in
    let taken = length-take-le count piece within in
    let led = part_leads high low (left - count) (more ++ octets) place (omega (arith, long, taken)) leaves in
    record { frames = led.0; stands = led.1 }

pub ended_once : (place : Within) → ended place ≤ 1
ended_once Nothing = omega arith
ended_once (Length high) = omega arith
ended_once (Message left) = omega arith

-- ---- a piece, part by part

-- after these octets and `count` frames the rest of the piece is left
pub record GoesOn (rest piece left : List ℕ) (count : ℕ) (place : Within) : Type 0 where
  pub behind : List ℕ
  pub stands : Stands place behind
  pub frames : length (frames_of (rest ++ piece)) ≡ count + length (frames_of (behind ++ left))
  pub unfinished : unfinished_of (rest ++ piece) ≡ unfinished_of (behind ++ left)

pub goes_on_none : (rest piece : List ℕ) (place : Within) → Stands place rest → GoesOn rest piece piece 0 place
goes_on_none rest piece place stands = record { behind = rest; stands = stands; frames = omega arith; unfinished = refl }

pub goes_on_more : (rest piece left : List ℕ) (count taken : ℕ) (place next : Within)
    → ((behind : List ℕ) → Stands place behind → Counts behind (take taken left) (ended next) next)
    → GoesOn rest piece left count place → GoesOn rest piece (drop taken left) (count + ended next) next
goes_on_more rest piece left count taken place next counts so_far =
    let behind = so_far.behind in
    let counted = counts behind so_far.stands in
    let part = behind ++ take taken left in
    let later = continues part (drop taken left) in
    let parts : behind ++ left ≡ part ++ drop taken left =
    ap (λ (octets : List ℕ). behind ++ octets) (sym (take-append-drop taken left)) ∙ sym (append_assoc behind (take taken left) (drop taken left)) in
    let split = ap (λ (messages : List (List ℕ)). length messages) (ap frames_of parts ∙ later.frames) in
    let sum = length-append (frames_of part) (frames_of (unfinished_of part ++ drop taken left)) in
    let frames = so_far.frames in
    let here = counted.frames in
    record {
      behind = unfinished_of part;
      stands = counted.stands;
      frames = omega (arith, frames, split, sum, here);
      unfinished = so_far.unfinished ∙ ap unfinished_of parts ∙ later.unfinished;
    }

pub goes_on_end : (rest piece left : List ℕ) (count : ℕ) (place : Within) → length left ≡ 0 → GoesOn rest piece left count place → Counts rest piece count place
goes_on_end rest piece [] count place none so_far =
    let behind = so_far.behind in
    let cut = frames_none behind place so_far.stands in
    let all = ap frames_of (append-nil behind) ∙ cut in
    record {
      frames = so_far.frames ∙ rw all (omega arith);
      stands = rw (so_far.unfinished ∙ ap unfinished_of (append-nil behind) ∙ unfinished_cut behind cut) so_far.stands;
    }
goes_on_end rest piece (x ∷ left) count place none so_far = absurd (omega arith)
