-- The identifier and the port of an ask by UDP, from random words (RFC 5452 9.2).
use Rattle.std.specs.Prelude.{ℕ, ◌+◌, ◌/◌, ◌%◌, Bool, false, ◌==◌, ◌||◌, not, if◌then◌else◌, List, [], ◌∷◌, Option}
use Rattle.std.specs.Prelude.{Some, None, ◌-◌, ◌^◌, true, get_or}
use Rattle.std.specs.List.{list_any}
use Rattle.outstanding.specs.declared.ask.Path.TheVariants.{Udp}
use Rattle.outstanding.specs.Values.{Ask}
use Rattle.outstanding.specs.Lists.{same_path, without_path}
use Rattle.dns_message.specs.Values.{Question, Message}

-- the port of a random word w: `1024 + (w / 65536) mod 64512`
abbrev pub port_of : ℕ → ℕ
port_of word = 1024 + (word / 65536) % 64512

-- an ask is listed on the port
abbrev pub is_used : ℕ → List Ask → Bool
is_used port asks = list_any (λ a. same_path a.path (Udp port)) asks

-- the port counts as free, whatever is listed
abbrev pub is_freed : ℕ → Option ℕ → Bool
is_freed port None = false
is_freed port (Some freed) = port == freed

-- the port has no listed ask, or is given up in this step
abbrev pub is_free : ℕ → List Ask → Option ℕ → Bool
is_free port asks freed = is_freed port freed || not (is_used port asks)

-- identifier (`w mod 65536`) and port of the first word w whose port is free
abbrev pub udp_draw : List ℕ → List Ask → Option ℕ → Option (ℕ × ℕ)
udp_draw [] asks freed = None
udp_draw (word ∷ words) asks freed = if is_free (port_of word) asks freed then Some (word % 65536, port_of word)
    else udp_draw words asks freed

-- the list once the freed port is given up
abbrev pub without_port : Option ℕ → List Ask → List Ask
without_port None asks = asks
without_port (Some port) asks = without_path (Udp port) asks

-- an ask: RD alone, and one question (RFC 1035 4.1.1)
abbrev pub ask_message : ℕ → Question → Message
ask_message id q = record {
  header = record {
    id = id;
    qr = false;
    opcode = 0;
    aa = false;
    tc = false;
    rd = true;
    ra = false;
    z = 0;
    rcode = 0;
    counts = 1 ∷ 0 ∷ 0 ∷ 0 ∷ [];
  };
  questions = q ∷ [];
  answers = [];
  authority = [];
  additional = [];
}

-- by TCP: the first word's identifier, and as connection the count of asks by TCP, below 2^64 - 1
abbrev pub drawn_by_tcp : List ℕ → ℕ → Option (ℕ × ℕ)
drawn_by_tcp words count = if count == 2 ^ 64 - 1 then None else Some (get_or words 0 0 % 65536, count)
