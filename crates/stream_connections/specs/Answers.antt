-- The system's answers to calls on sockets, and their consequences.
use Rattle.std.specs.Prelude.{ℕ, zero, suc, ◌==◌, Bool, false, if◌then◌else◌, ℤ, pos, negsuc, Option, Some, None}
use Rattle.std.specs.Prelude.{Result, Ok, Err}
use Rattle.std.specs.IoError.{error_kind, raw_os_error}
use Rattle.std.specs.declared.io.Error.{Error}
use Rattle.std.specs.declared.io.ErrorKind.{ErrorKind}
use Rattle.std.specs.declared.io.ErrorKind.TheVariants as kind
use Rattle.stream_connections.specs.declared.answers.Heard.{Heard}
use Rattle.stream_connections.specs.declared.answers.Heard.TheVariants as heard
use Rattle.stream_connections.specs.declared.answers.Refusal.{Refusal}
use Rattle.stream_connections.specs.declared.answers.Refusal.TheVariants.{WouldBlock, Interrupted, NoDescriptor, Failed}

-- whether a number is the error of no descriptor left (EMFILE)
abbrev pub is_no_descriptor : Option ℤ → Bool
is_no_descriptor (Some (pos number)) = number == 24
is_no_descriptor (Some (negsuc _)) = false
is_no_descriptor None = false

-- the refusal of an error of this kind, with descriptors left
abbrev pub by_kind : ErrorKind → Refusal
by_kind kind.WouldBlock = WouldBlock
by_kind kind.Interrupted = Interrupted
by_kind _ = Failed

-- the refusal of an error of a call on a socket
abbrev pub refusal_of : Error → Refusal
refusal_of error = if is_no_descriptor (raw_os_error error) then NoDescriptor else by_kind (error_kind error)

-- the number of octets taken by a stream that refused a write: 0 if the write would block
abbrev pub taken_unless : Refusal → Error → Result ℕ Error
taken_unless WouldBlock error = Ok 0
taken_unless Interrupted error = Err error
taken_unless NoDescriptor error = Err error
taken_unless Failed error = Err error

-- the number of octets taken by a stream, by its answer to a write; on `Err` the stream takes none
-- any more
abbrev pub taken_by : Result ℕ Error → Result ℕ Error
taken_by (Ok count) = Ok count
taken_by (Err error) = taken_unless (refusal_of error) error

-- the finding of a read that the stream refused
abbrev pub heard_unless : Refusal → Heard
heard_unless WouldBlock = heard.Nothing
heard_unless Interrupted = heard.Failed
heard_unless NoDescriptor = heard.Failed
heard_unless Failed = heard.Failed

-- the finding of a read, by the stream's answer: no octets are the end
abbrev pub heard_by : Result ℕ Error → Heard
heard_by (Ok zero) = heard.Done
heard_by (Ok (suc more)) = heard.Octets (suc more)
heard_by (Err error) = heard_unless (refusal_of error)
