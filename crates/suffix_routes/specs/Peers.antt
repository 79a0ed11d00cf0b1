-- A peer in text.
use Rattle.std.specs.Prelude.{◌≡◌, ◌++◌, ℕ, ◌+◌, ◌-◌, ◌*◌, Bool, not, ◌&&◌, ◌==◌, nat_lt, nat_le, if◌then◌else◌, List}
use Rattle.std.specs.Prelude.{[], ◌∷◌, length, take, drop, slice_index, fold, position, option_map, Option, Some, None}
use Rattle.std.specs.Prelude.{codes, decimal}
use Rattle.std.specs.List.{list_all}
use Rattle.std.specs.Char.{is_ascii_digit}
use Rattle.suffix_routes.specs.declared.peer.Peer.{Peer}

-- one reading, then a second reading of the first result
infixl 10 ◌>>?◌
-- the second reading's result on the first result, if both succeed
abbrev pub ◌>>?◌ : {A B : Type 0} → Option A → (A → Option B) → Option B
(Some x) >>? f = f x
None >>? f = None

-- the octets before the first separator, and the octets after
abbrev pub cut : ℕ → List ℕ → Option (List ℕ × List ℕ)
cut separator text = option_map (λ at. (take at text, drop (at + 1) text)) (position (λ c. c == separator) text)

-- digits alone, at least one, without a leading zero except `0` itself
abbrev pub is_decimal : List ℕ → Bool
is_decimal text = (nat_lt 0 (length text) && not (nat_lt 1 (length text) && slice_index text 0 == 48))
    && list_all is_ascii_digit text

-- the number of decimal digits
abbrev pub decimal_value : List ℕ → ℕ
decimal_value digits = fold (λ n c. 10 * n + (c - 48)) 0 digits

-- a number not above the greatest
abbrev pub up_to : ℕ → ℕ → Option ℕ
up_to high n = if nat_le n high then Some n else None

-- the decimal number of a text, if from low to high
unfoldable pub number_in : ℕ → ℕ → List ℕ → Option ℕ
number_in low high text = if is_decimal text then (if nat_le low (decimal_value text)
    then up_to high (decimal_value text) else None) else None

-- four numbers from 0 to 255 with dots between, a colon, and a port from 1 to 65535
unfoldable pub peer_of : List ℕ → Option Peer
peer_of text =
    cut 46 text >>? λ first.
    cut 46 first.1 >>? λ second.
    cut 46 second.1 >>? λ third.
    cut 58 third.1 >>? λ fourth.
    number_in 0 255 first.0 >>? λ a.
    number_in 0 255 second.0 >>? λ b.
    number_in 0 255 third.0 >>? λ c.
    number_in 0 255 fourth.0 >>? λ d.
    number_in 1 65535 fourth.1 >>? λ port.
    Some (record { ip = a ∷ b ∷ c ∷ d ∷ []; port = port })

-- This text, by its parts, writes this peer.
pub record Writes (text : List ℕ) (peer : Peer) : Type 0 where
  pub first : List ℕ
  pub second : List ℕ
  pub third : List ℕ
  pub fourth : List ℕ
  pub last : List ℕ
  pub parts : text ≡ first ++ (46 ∷ (second ++ (46 ∷ (third ++ (46 ∷ (fourth ++ (58 ∷ last)))))))
  pub a : ℕ
  pub b : ℕ
  pub c : ℕ
  pub d : ℕ
  pub port : ℕ
  pub is_a : number_in 0 255 first ≡ Some a
  pub is_b : number_in 0 255 second ≡ Some b
  pub is_c : number_in 0 255 third ≡ Some c
  pub is_d : number_in 0 255 fourth ≡ Some d
  pub is_port : number_in 1 65535 last ≡ Some port
  pub is_peer : peer ≡ record { ip = a ∷ b ∷ c ∷ d ∷ []; port = port }

-- the text of a peer: its octets parted by dots, a colon, its port
abbrev pub peer_text : Peer → List ℕ
peer_text peer =
    decimal (slice_index peer.ip 0)
    ++ (codes "." ++ (decimal (slice_index peer.ip 1) ++ (codes "."
    ++ (decimal (slice_index peer.ip 2)
    ++ (codes "." ++ (decimal (slice_index peer.ip 3) ++ (codes ":" ++ decimal peer.port)))))))
