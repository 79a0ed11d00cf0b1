use Rattle.std.proofs.Common.{◌≡◌, ◌≤◌, ◌+◌, ℕ, List, Option, Some, None, IfSome, length, take, min, ap, ◌∙◌, arith}
use Rattle.std.specs.Option.{option_map}
use Rattle.std.proofs.lemmas.List.{take_all, length-take}
use Rattle.replay_script.specs.declared.input.TheConstants.{LARGEST}
use Rattle.replay_script.proofs.input.read_limited.Goals as goal

-- the octets read, at most n of up to n + 1, are all
all_read : (n : ℕ) (all octets : List ℕ) → octets ≡ take (n + 1) all → length octets ≤ n → octets ≡ all
all_read n all octets front few =
    let size : length octets ≡ min (n + 1) (length all) = ap length front ∙ length-take (n + 1) all in
    front ∙ take_all (n + 1) all (omega (arith, size, few))

if_told : (n : ℕ) (told : Option (List ℕ)) (octets : List ℕ) → IfSome (option_map (take (n + 1)) told) (λ front. octets ≡ front) → length octets ≤ n → IfSome told (λ all. octets ≡ all)
if_told n None octets front few = tt
if_told n (Some all) octets front few = all_read n all octets front few

pub returns-clause-whole : goal.returns-clause-whole
returns-clause-whole g c =
    let limited = c.take-limited.ensures in
    if_told LARGEST (g.R.Read.remaining c.args.reader.now) c.read_to_end.new.buf.items (rw (limited.limit, limited.inner, c.new-octets.ensures.items) at c.in_ok-read_to_end.ensures.bytes) (omega (arith, c.if-len-gt-LARGEST.false, c.len.ensures, c.read_to_end.new.buf.ok.0))
