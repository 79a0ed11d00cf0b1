-- The calls for the system's reports.
use Rattle.std.specs.Prelude.{◌≡◌, ℕ, ◌*◌, List, [], ◌∷◌, ◌++◌, Option, Result, IsSomeAnd, true, false}
use Rattle.std.specs.Duration.{as_nanos}
use Rattle.std.specs.declared.io.Error.{Error}
use Rattle.std.specs.declared.time.Duration.{Duration}
use Rattle.mio.specs.Interest.{is_priority, is_readable, is_writable}
use Rattle.mio.specs.declared.interest.Interest.{Interest}
use Rattle.mio.specs.declared.token.Token.{Token}
use Rattle.system_calls.specs.Call.{Call, make_reports, wait}
use Rattle.system_calls.specs.declared.sockets.Reports.{Reports}
use Rattle.ready_sockets.specs.Tokens.{is_written, token_of}
use Rattle.ready_sockets.specs.declared.origin.Origin.{Origin}

-- A list of watched sockets is asked for.
abbrev pub MakesReports : (before after : List Call) → Type 0
MakesReports before after = (answer : Result Reports Error) × (after ≡ before ++ make_reports answer ∷ [])

-- This socket is watched by its token, and so: each is read, and streams are written in parts.
pub record IsRegistered (origin : Origin) (token : Token) (interest : Interest) : Type 0 where
  pub token_is : token.0 ≡ token_of origin
  pub reads : is_readable interest ≡ true
  pub writes : is_writable interest ≡ is_written origin
  pub no_other : is_priority interest ≡ false

-- The socket is watched, by this call with its answer.
pub record Watches (origin : Origin) (watch : Token → Interest → Call) (before after : List Call) : Type 0 where
  pub token : Token
  pub interest : Interest
  pub is_registered : IsRegistered origin token interest
  pub noted : after ≡ before ++ watch token interest ∷ []

-- The system's reports are waited for, for `pause` ms at most.
pub record WaitsFor (pause : ℕ) (before after : List Call) : Type 0 where
  pub time : Option Duration
  pub answer : Result (Unit {0}) Error
  pub is_pause : IsSomeAnd time (λ (time : Duration). as_nanos time ≡ pause * 1_000_000)
  pub noted : after ≡ before ++ wait time answer ∷ []
