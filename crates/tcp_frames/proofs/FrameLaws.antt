-- The frames read from a stream: `frames_of` and `unfinished_of`, with and without a leading frame.
use Rattle.std.proofs.Common.{◌≡◌, ℕ, zero, suc, ◌+◌, ◌*◌, ◌/◌, ◌%◌, ◌<◌, ◌≤◌, Bool, true, List, [], ◌∷◌, ◌++◌, length, take, drop, refl, sym, ap, ◌∙◌, append_assoc, inl, inr, arith}
use Rattle.std.specs.Prelude.{nat_le, if◌then◌else◌}
use Rattle.std.specs.List.{flat_map, AllByRecursion}
use Rattle.std.proofs.lemmas.List.{take_at, drop_at, length-append, length-take, length-drop, take-append-drop, take-append-le, drop-append-le}
use Rattle.std.proofs.Math.Seq.{drop-append-add}
use Rattle.std.proofs.lemmas.Bool.{le-leb, lt-leb}
use Rattle.std.proofs.lemmas.Bool.Decides.{leb_tells}
use Rattle.tcp_frames.specs.Frames.{framed, Leads, IsUnfinished, frames_within, frames_of, unfinished_of, IsCut}
use Rattle.tcp_frames.specs.Laws.{Continues}

-- ---- no more calls than octets are wanted

frames_within-enough : (n m : ℕ) (stream : List ℕ) → length stream ≤ n → length stream ≤ m → frames_within n stream ≡ frames_within m stream
unfolding frames_within
frames_within-enough zero zero stream a b = refl
frames_within-enough zero (suc m) [] a b = refl
frames_within-enough zero (suc m) (x ∷ xs) a b = absurd (omega arith)
frames_within-enough (suc n) zero [] a b = refl
frames_within-enough (suc n) zero (x ∷ xs) a b = absurd (omega arith)
frames_within-enough (suc n) (suc m) [] a b = refl
frames_within-enough (suc n) (suc m) (x ∷ []) a b = refl
frames_within-enough (suc n) (suc m) (high ∷ low ∷ more) a b =
    let size : ℕ = 256 * high + low in
    let shorter : length (drop size more) ≤ length more = omega (arith, length-drop size more) in
    ap (λ (found : List (List ℕ)). if nat_le size (length more) then take size more ∷ found else [])
    (frames_within-enough n m (drop size more) (omega arith) (omega arith))

frames_of-two : (high low : ℕ) (more : List ℕ)
    → frames_of (high ∷ low ∷ more) ≡ (if nat_le (256 * high + low) (length more) then take (256 * high + low) more ∷ frames_of (drop (256 * high + low) more) else [])
unfolding frames_of frames_within
frames_of-two high low more =
    let size : ℕ = 256 * high + low in
    ap (λ (found : List (List ℕ)). if nat_le size (length more) then take size more ∷ found else [])
    (frames_within-enough (length (low ∷ more)) (length (drop size more)) (drop size more) (omega (arith, length-drop size more)) (omega arith))

-- ---- with a leading frame

number_is : (n : ℕ) → 256 * (n / 256) + n % 256 ≡ n
number_is n = omega arith

pub frames_of-leads : (message rest stream : List ℕ) → Leads message rest stream → frames_of stream ≡ message ∷ frames_of rest
frames_of-leads message rest stream leads =
    let n : ℕ = length message in
    let enough : nat_le n (length (message ++ rest)) ≡ true = le-leb n (length (message ++ rest)) (omega (arith, length-append message rest)) in
    ap frames_of leads.octets ∙ frames_of-two (n / 256) (n % 256) (message ++ rest)
    ∙ rw (number_is n, enough, take_at message rest n refl, drop_at message rest n refl) refl

pub unfinished_of-leads : (message rest stream : List ℕ) → Leads message rest stream → unfinished_of stream ≡ unfinished_of rest
unfolding unfinished_of
unfinished_of-leads message rest stream leads =
    let later : List ℕ = flat_map framed (frames_of rest) in
    ap (λ (messages : List (List ℕ)). drop (length (flat_map framed messages)) stream) (frames_of-leads message rest stream leads)
    ∙ ap (λ (n : ℕ). drop n stream) (length-append (framed message) later)
    ∙ ap (drop (length (framed message) + length later)) leads.octets
    ∙ drop-append-add (framed message) rest (length later)

-- octets added at the stream's end leave the first frame
pub leads-append : (message rest stream more : List ℕ) → Leads message rest stream → Leads message (rest ++ more) (stream ++ more)
leads-append message rest stream more leads = record {
  short = leads.short;
  octets = ap (λ (octets : List ℕ). octets ++ more) leads.octets ∙ append_assoc (framed message) rest more;
}

-- ---- without a leading frame

pub frames_of-unfinished : (stream : List ℕ) → IsUnfinished stream → frames_of stream ≡ []
unfolding frames_of frames_within
frames_of-unfinished [] u = refl
frames_of-unfinished (x ∷ []) u = refl
frames_of-unfinished (high ∷ low ∷ more) u = rw (lt-leb (256 * high + low) (length more) u) refl

pub unfinished_of-unfinished : (stream : List ℕ) → IsUnfinished stream → unfinished_of stream ≡ stream
unfolding unfinished_of
unfinished_of-unfinished stream u = rw (frames_of-unfinished stream u) refl

pub none_leads : (stream : List ℕ) → IsUnfinished stream → (message rest : List ℕ) → ¬ (Leads message rest stream)
none_leads stream u message rest leads =
    let none : message ∷ frames_of rest ≡ [] = sym (frames_of-leads message rest stream leads) ∙ frames_of-unfinished stream u in cc

-- ---- a stream is cut in a single way

pub cut_read : (messages : List (List ℕ)) (rest stream : List ℕ) → IsCut messages rest stream → (frames_of stream ≡ messages) × (unfinished_of stream ≡ rest)
cut_read [] rest stream cut =
    (ap frames_of cut.octets ∙ frames_of-unfinished rest cut.unfinished, ap unfinished_of cut.octets ∙ unfinished_of-unfinished rest cut.unfinished)
cut_read (message ∷ messages) rest stream cut =
    let behind : List ℕ = flat_map framed messages ++ rest in
    let leads : Leads message behind stream = record {
      short = cut.short.0;
      octets = cut.octets ∙ append_assoc (framed message) (flat_map framed messages) rest;
    } in
    let later = cut_read messages rest behind (record { short = cut.short.1; octets = refl; unfinished = cut.unfinished }) in
    (frames_of-leads message behind stream leads ∙ ap (λ (found : List (List ℕ)). message ∷ found) later.0, unfinished_of-leads message behind stream leads ∙ later.1)

pub cut_once : (stream : List ℕ) (messages others : List (List ℕ)) (rest left : List ℕ)
    → IsCut messages rest stream → IsCut others left stream → (messages ≡ others) × (rest ≡ left)
cut_once stream messages others rest left one other =
    let read = cut_read messages rest stream one in
    let again = cut_read others left stream other in
    (sym read.0 ∙ again.0, sym read.1 ∙ again.1)

-- ---- and each stream of octets is

cut_behind : (message rest stream : List ℕ) → Leads message rest stream → IsCut (frames_of rest) (unfinished_of rest) rest → IsCut (frames_of stream) (unfinished_of stream) stream
cut_behind message rest stream leads cut =
    rw (frames_of-leads message rest stream leads, unfinished_of-leads message rest stream leads) (record {
      short = (leads.short, cut.short);
      octets = leads.octets ∙ ap (λ (octets : List ℕ). framed message ++ octets) cut.octets
          ∙ sym (append_assoc (framed message) (flat_map framed (frames_of rest)) (unfinished_of rest));
      unfinished = cut.unfinished;
    })

cut_nowhere : (stream : List ℕ) → IsUnfinished stream → IsCut (frames_of stream) (unfinished_of stream) stream
cut_nowhere stream u = rw (frames_of-unfinished stream u, unfinished_of-unfinished stream u) (record { short = tt; octets = refl; unfinished = u })

leads_here : (high low : ℕ) (more : List ℕ) → high < 256 → low < 256 → 256 * high + low ≤ length more
    → Leads (take (256 * high + low) more) (drop (256 * high + low) more) (high ∷ low ∷ more)
leads_here high low more h l enough =
    let size : ℕ = 256 * high + low in
    let len : length (take size more) ≡ 256 * high + low = omega (arith, length-take size more) in
    let first : length (take size more) / 256 ≡ high = omega arith in
    let second : length (take size more) % 256 ≡ low = omega arith in
    record { short = omega arith; octets = rw (first, second, take-append-drop size more) refl }

octets-drop : (n : ℕ) (octets : List ℕ) → AllByRecursion (λ octet. octet < 256) octets → AllByRecursion (λ octet. octet < 256) (drop n octets)
octets-drop zero octets each = each
octets-drop (suc n) [] each = tt
octets-drop (suc n) (x ∷ xs) each = octets-drop n xs each.1

cut_within : (most : ℕ) (stream : List ℕ) → length stream ≤ most → AllByRecursion (λ octet. octet < 256) stream → IsCut (frames_of stream) (unfinished_of stream) stream
cut_within zero [] short each = cut_nowhere [] tt
cut_within zero (x ∷ xs) short each = absurd (omega arith)
cut_within (suc most) [] short each = cut_nowhere [] tt
cut_within (suc most) (x ∷ []) short each = cut_nowhere (x ∷ []) tt
cut_within (suc most) (high ∷ low ∷ more) short each =
    let size : ℕ = 256 * high + low in
    elim (leb_tells size (length more)) [
      | inl whole ↦ cut_behind (take size more) (drop size more) (high ∷ low ∷ more) (leads_here high low more each.0 each.1.0 whole.1)
          (cut_within most (drop size more) (omega (arith, length-drop size more)) (octets-drop size more each.1.1))
      | inr cut ↦ cut_nowhere (high ∷ low ∷ more) cut.1
    ]

pub cut_found : (stream : List ℕ) → AllByRecursion (λ octet. octet < 256) stream → IsCut (frames_of stream) (unfinished_of stream) stream
cut_found stream each = cut_within (length stream) stream (omega arith) each

-- ---- a further piece

record Whole (high low : ℕ) (more : List ℕ) : Type 0 where
  frames : frames_of (high ∷ low ∷ more) ≡ take (256 * high + low) more ∷ frames_of (drop (256 * high + low) more)
  unfinished : unfinished_of (high ∷ low ∷ more) ≡ unfinished_of (drop (256 * high + low) more)

whole_first : (high low : ℕ) (more : List ℕ) → 256 * high + low ≤ length more → Whole high low more
unfolding unfinished_of
whole_first high low more le =
    let size : ℕ = 256 * high + low in
    let first : List ℕ = framed (take size more) in
    let later : List ℕ = flat_map framed (frames_of (drop size more)) in
    let frames : frames_of (high ∷ low ∷ more) ≡ take size more ∷ frames_of (drop size more) =
    frames_of-two high low more
    ∙ ap (λ (b : Bool). if b then take size more ∷ frames_of (drop size more) else []) (le-leb size (length more) le) in
    record {
      frames = frames;
      unfinished =
          ap (λ (messages : List (List ℕ)). drop (length (flat_map framed messages)) (high ∷ low ∷ more)) frames
          ∙ ap (λ (n : ℕ). drop n (high ∷ low ∷ more)) (length-append first later)
          ∙ ap (λ (octets : List ℕ). drop (length first + length later) (high ∷ low ∷ octets)) (sym (take-append-drop size more))
          ∙ drop-append-add (high ∷ low ∷ take size more) (drop size more) (length later);
    }

continue_unfinished : (before piece : List ℕ) → IsUnfinished before → Continues before piece
continue_unfinished before piece u = record {
  frames = sym (ap (λ (messages : List (List ℕ)). messages ++ frames_of (unfinished_of before ++ piece)) (frames_of-unfinished before u)
      ∙ ap (λ (octets : List ℕ). frames_of (octets ++ piece)) (unfinished_of-unfinished before u));
  unfinished = sym (ap (λ (octets : List ℕ). unfinished_of (octets ++ piece)) (unfinished_of-unfinished before u));
}

continue_within : (most : ℕ) (before piece : List ℕ) → length before ≤ most → Continues before piece
continue_within zero [] piece short = continue_unfinished [] piece tt
continue_within zero (x ∷ xs) piece short = absurd (omega arith)
continue_within (suc most) [] piece short = continue_unfinished [] piece tt
continue_within (suc most) (x ∷ []) piece short = continue_unfinished (x ∷ []) piece tt
continue_within (suc most) (high ∷ low ∷ more) piece short =
    let size : ℕ = 256 * high + low in
    elim (leb_tells size (length more)) [
      | inl le ↦
          let here = whole_first high low more le.1 in
          let longer = whole_first high low (more ++ piece) (omega (arith, length-append more piece, le.1)) in
          let later = continue_within most (drop size more) piece (omega (arith, length-drop size more)) in
          let behind : drop size (more ++ piece) ≡ drop size more ++ piece = drop-append-le size more piece le.1 in
          record {
            frames = longer.frames
                ∙ ap (λ (message : List ℕ). message ∷ frames_of (drop size (more ++ piece))) (take-append-le size more piece le.1)
                ∙ ap (λ (octets : List ℕ). take size more ∷ frames_of octets) behind
                ∙ ap (λ (messages : List (List ℕ)). take size more ∷ messages) later.frames
                ∙ sym (ap (λ (messages : List (List ℕ)). messages ++ frames_of (unfinished_of (high ∷ low ∷ more) ++ piece)) here.frames
                ∙ ap (λ (octets : List ℕ). take size more ∷ (frames_of (drop size more) ++ frames_of (octets ++ piece))) here.unfinished);
            unfinished = longer.unfinished ∙ ap unfinished_of behind ∙ later.unfinished
                ∙ sym (ap (λ (octets : List ℕ). unfinished_of (octets ++ piece)) here.unfinished);
          }
      | inr cut ↦ continue_unfinished (high ∷ low ∷ more) piece cut.1
    ]

pub continues : (before piece : List ℕ) → Continues before piece
continues before piece = continue_within (length before) before piece (omega arith)
