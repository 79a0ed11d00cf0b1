-- A verdict with the view of a whole message.
use Rattle.std.specs.Prelude.{◌≡◌, ℕ, List}
use Rattle.reply_match.specs.declared.verdict.Verdict.{Verdict}
use Rattle.reply_match.specs.declared.verdict.Verdict.TheVariants as verdict
use Rattle.reply_match.specs.declared.verdict.Judged.{Judged}
use Rattle.reply_match.specs.declared.verdict.Judged.TheVariants.{Stranger, Truncated, Failed, Malformed, Whole}

-- the verdict alone
abbrev pub verdict_of : Judged → Verdict
verdict_of Stranger = verdict.Stranger
verdict_of Truncated = verdict.Truncated
verdict_of (Failed rcode) = verdict.Failed rcode
verdict_of Malformed = verdict.Malformed
verdict_of (Whole message) = verdict.Whole

-- the view, if any, is a view of these octets
abbrev pub IsViewOf : List ℕ → Judged → Type 0
IsViewOf octets (Whole message) = message ≡ octets
IsViewOf octets other = Unit {0}
