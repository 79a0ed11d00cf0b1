-- The result of a reply, by the result of the write.
use Rattle.std.proofs.Common.{◌≡◌, refl, sym, subst, ℕ, ◌+◌, ◌≤◌, ◌^◌, ◌++◌, Bool, false, not, List, length}
use Rattle.std.proofs.Common.{arith, length-append}
use Rattle.std.proofs.lemmas.Bool.Decides.{nat_tests}
use Rattle.std.specs.Prelude.{Result, Ok, Err, OnOk, OnErr, nat_lt}
use Rattle.std.specs.declared.io.Error.{Error}
use Rattle.system_calls.specs.Call.{Call}
use Rattle.tcp_frames.specs.Frames.{framed}
use Rattle.stream_connections.specs.declared.client_stream.ClientStream.{ClientStream}
use Rattle.stream_connections.specs.declared.lost.Lost.{Lost}
use Rattle.stream_connections.specs.declared.lost.Lost.TheVariants.{Gone}
use Rattle.stream_connections.specs.Serving.{Answers, Sends, with_frame}
use Rattle.stream_connections.specs.Waiting.{is_done}

pub answers_by : {A : Type 0} (sent : Result (Unit {0}) Error) (reply : List ℕ) (now : ℕ)
    (result : Result Bool Lost) (calls calls' : List Call) (before framed_one after : ClientStream A)
    → framed_one ≡ with_frame (framed reply) now before
    → Sends now sent calls calls' framed_one after
    → OnOk sent (result ≡ Ok (not (is_done after))) → OnErr sent (result ≡ Err Gone)
    → length after.unsent.left ≤ 2 ^ 20
    → Answers reply now result calls calls' before after
answers_by (Ok taken) reply now result calls calls' before framed_one after is sends ok err bound =
    subst (λ (r : Result Bool Lost). Answers reply now r calls calls' before after) (sym ok)
    (subst (λ (s : ClientStream _). Sends now (Ok tt) calls calls' s after) is sends, refl, bound)
answers_by (Err error) reply now result calls calls' before framed_one after is sends ok err bound =
    subst (λ (r : Result Bool Lost). Answers reply now r calls calls' before after) (sym err)
    (error, subst (λ (s : ClientStream _). Sends now (Err error) calls calls' s after) is sends)

-- What is left after the frame was offered is not too much, if the frame and the octets before are
-- not.
pub bounded : (left reply : List ℕ) (after : ℕ) → after ≤ length (left ++ framed reply)
    → nat_lt (2 ^ 20) (length left + length reply + 2) ≡ false → after ≤ 2 ^ 20
bounded left reply after fewer few = grind (arith, nat_tests, length-append left (framed reply))
