-- The result of reading a configuration, and the octets read.
use Rattle.std.specs.Prelude.{◌≡◌, ℕ, List, take, Option, IfSome, Err, IsUtf8, ◌⊎◌}
use Rattle.std.specs.Str.Lossy.{utf8_valid_len}
use Rattle.suffix_routes.specs.Positions.{position_of}
use Rattle.suffix_routes.specs.Reading.{IsReadIn}
use Rattle.suffix_routes.specs.declared.fault.ConfigFault.{ConfigFault}
use Rattle.suffix_routes.specs.declared.fault.ConfigFault.TheVariants.{Toml}
use Rattle.replay_script.specs.declared.fault.ReplayFault.{ReplayFault}
use Rattle.replay_script.specs.declared.fault.ReplayFault.TheVariants.{Config, Line, Memory, Device}

-- octets refused for a fault: the first fault of their text, or the position of the first octet
-- outside UTF-8
abbrev pub IsRefused : List ℕ → ConfigFault → Type 0
IsRefused octets fault =
    (IsUtf8 octets × IsReadIn octets (Err fault)) ⊎ ((¬ IsUtf8 octets)
    × (fault ≡ Toml (position_of (take (utf8_valid_len octets) octets))))

-- why octets give no configuration
abbrev pub IsFaultOf : List ℕ → ReplayFault → Type 0
IsFaultOf octets (Config fault) = IsRefused octets fault
IsFaultOf octets Memory = Unit {0}
IsFaultOf octets _ = ⊥

-- why a reader with these octets left gives no configuration
abbrev pub IsFaultIn : Option (List ℕ) → ReplayFault → Type 0
IsFaultIn left (Config fault) = IfSome left (λ octets. IsRefused octets fault)
IsFaultIn left (Line line) = ⊥
IsFaultIn left _ = Unit {0}

-- a fault of reading or writing alone
abbrev pub IsOfStream : ReplayFault → Type 0
IsOfStream Memory = Unit {0}
IsOfStream Device = Unit {0}
IsOfStream _ = ⊥
