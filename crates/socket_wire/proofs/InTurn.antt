-- Each listed number is tried soon, if the numbers are tried in turn.
use Rattle.std.proofs.Common.{◌≡◌, refl, ℕ, zero, suc, ◌+◌, ◌*◌, ◌-◌, ◌^◌, ◌<◌, ◌≤◌, ◌%◌, inl, inr}
use Rattle.std.proofs.Common.{◌⊎◌, List, [], ◌∷◌}
use Rattle.std.proofs.Common.{length, Option, Some, None, arith, sym, subst}
use Rattle.std.proofs.Math.Nat.{mod-eq_of_lt, mod_self}
use Rattle.std.proofs.lemmas.Bool.{cases_order}
use Rattle.std.specs.Map.{keys_of}
use Rattle.std.specs.Prelude.{min, unwrap_or}
use Rattle.stream_connections.specs.Listed.{first_number}
use Rattle.ready_sockets.specs.Trying.{IsAmong, first_of}
use Rattle.socket_wire.specs.Trying.{next_from}
use Rattle.socket_wire.specs.InTurn.{FindsOr, IsGivenWithin, IsTriedInSweep, IsTriedInSweeps}
use Rattle.socket_wire.specs.InTurn.{IsTriedWithin}
use Rattle.socket_wire.specs.InTurn.{StaysListed}
use Rattle.socket_wire.proofs.Firsts.{IsFirstFrom, IsFound, above_first, first_key}
use Rattle.socket_wire.proofs.Firsts.{first_key_is_found}
use Rattle.socket_wire.proofs.Firsts.{first_number_is_found}
use Rattle.socket_wire.proofs.Passing.{GoesOn, ahead, ahead_less, ahead_most, ahead_some}
use Rattle.socket_wire.proofs.Passing.{counted_anew, goes_behind}
use Rattle.socket_wire.proofs.Passing.{goes_sweep, goes_to_first, is_from_or_below, no_wrap, wraps}
use Rattle.socket_wire.proofs.Passing.{wraps_most}
use Rattle.socket_wire.proofs.Passing.{wraps_some}

-- ---- a try

-- A number found before the sought number is below the sought number.
pub found_before : (size number from found : ℕ) (ever now : List ℕ)
    → StaysListed size number ever now
    → IsFirstFrom from found now → (found ≡ number → ⊥) → from ≤ number → found < number
found_before size number from found ever now listed first other h =
    let least : found ≤ number = first.least number listed.stays h in
    elim (cases_order found number) [
      | inl is ↦ absurd (other is)
      | inr order ↦ elim order [ inl less ↦ less | inr more ↦ absurd (omega arith) ]
    ]

-- If another number was found, less of the walk is left.
pub goes_on : (size number from found : ℕ) (ever now : List ℕ) → StaysListed size number ever now
    → IsFirstFrom from found now → (found ≡ number → ⊥)
    → GoesOn number from ((found + 1) % size) ever
goes_on size number from found ever now listed first other =
    let among : IsAmong found ever = listed.known found first.among in
    let number_below : number < size = listed.below number (listed.known number listed.stays) in
    let found_below : found < size = listed.below found among in
    let from_on : from ≤ found = first.above in
    let before = λ (h : from ≤ number). found_before size number from found ever now listed first
    other h in
    elim (is_from_or_below size (found + 1)) [
      | inl last ↦
          let all : found + 1 ≡ size = omega arith in
          let at_0 : (found + 1) % size
          ≡ 0 = subst (λ n. (found + 1) % n ≡ 0) all (mod_self (found + 1)) in
          let most = λ (one : ℕ) (is : IsAmong one ever).
          let one_below : one < size = listed.below one is in
          let upto : one ≤ found = omega arith in
          upto
          in
          subst (λ next. GoesOn number from next ever) (sym at_0)
          (goes_sweep number from found ever from_on before (omega arith) most among)
      | inr behind ↦
          subst (λ next. GoesOn number from next ever) (sym (mod-eq_of_lt behind))
          (goes_behind number from found ever from_on before among)
    ]

-- If none was found, the walk begins again, and no more of the walk is left.
pub begins_anew : (size number from : ℕ) (ever now : List ℕ) → StaysListed size number ever now
    → IsFound from None now
    → (number < from) × (ahead number 0 ever ≤ ahead number from ever)
begins_anew size number from ever now listed none =
    let sweep : number < from = none number listed.stays in
    (sweep, ahead_less number from 0 ever (λ other is. counted_anew number from other sweep))

-- Two ordered numbers differ.
pub differ : (found number : ℕ) → (found < number) ⊎ (number < found) → found ≡ number → ⊥
differ found number order is = elim order [ inl less ↦ omega arith | inr more ↦ omega arith ]

-- ---- consecutive tries

-- A try found the number, or a later try does.
pub tried_next : {X : Type 0} (tries size number from : ℕ) (found : Option ℕ) (ever now : List ℕ)
    (listed : ℕ → List (ℕ × X)) → StaysListed size number ever now → IsFound from found now
    → ahead number from ever + wraps 1 number from ≤ suc tries
    → ((next : ℕ) → ahead number next ever + wraps 1 number next ≤ tries
    → IsTriedWithin tries size number next listed)
    → (found ≡ Some number) ⊎ IsTriedWithin tries size number (next_from size found) listed
tried_next tries size number from (Some found) ever now listed all first left later = elim
    (cases_order found number) [
      | inl is ↦ inl (cc)
      | inr order ↦
          let more : GoesOn number from ((found + 1) % size) ever =
          goes_on size number from found ever now all first (differ found number order)
          in
          let no_more : wraps 1 number ((found + 1) % size) ≤ wraps 1 number from = more.wraps 1 in
          inr (later ((found + 1) % size) (omega arith))
    ]
tried_next tries size number from None ever now listed all none left later =
    let anew = begins_anew size number from ever now all none in
    let at_0 : wraps 1 number 0 ≡ 0 = no_wrap 1 number in
    let before : wraps 1 number from ≡ 1 = wraps_some 1 number from anew.0 in
    inr (later 0 (omega arith))

pub tried : {X : Type 0} (tries size number from : ℕ) (ever : List ℕ) (listed : ℕ → List (ℕ × X))
    → ((try : ℕ) → StaysListed size number ever (keys_of (listed try)))
    → ahead number from ever + wraps 1 number from ≤ tries
    → IsTriedWithin tries size number from listed
tried zero size number from ever listed all left =
    let some : 0 < ahead number from ever = ahead_some number from ever
    ((all 0).known number (all 0).stays) in
    absurd (omega arith)
tried (suc tries) size number from ever listed all left =
    tried_next tries size number from (first_number from (listed 0)) ever (keys_of (listed 0))
    (λ try. listed (try + 1))
    (all 0) (first_number_is_found from (listed 0) (all 0).rise) left
    (λ next less. tried tries size number next ever (λ try. listed (try + 1)) (λ try. all (try + 1))
    less)

-- Wherever the walk begins, a number staying listed is found within one try more than the count of
-- numbers ever listed meanwhile.
pub tried_within : {X : Type 0} (tries size number from : ℕ) (ever : List ℕ)
    (listed : ℕ → List (ℕ × X))
    → ((try : ℕ) → StaysListed size number ever (keys_of (listed try)))
    → length ever + 1 ≤ tries → IsTriedWithin tries size number from listed
tried_within tries size number from ever listed all enough =
    let all_ever : ahead number from ever ≤ length ever = ahead_most number from ever in
    let one : wraps 1 number from ≤ 1 = wraps_most 1 number from in
    tried tries size number from ever listed all (omega arith)

-- ---- sweeps of tries

-- The rest of a walk fits into `sweeps` sweeps and `tries` tries more.
abbrev pub Fits : (most sweeps tries number from : ℕ) → List ℕ → Type 0
Fits most sweeps tries number from ever = ahead number from ever + wraps most number from ≤ most *
    sweeps + tries

pub sweep_next : {X : Type 0} (InNext : ℕ → (ℕ → List (ℕ × X)) → Type 0)
    (tries sweeps most size number from : ℕ)
    (found : Option ℕ) (ever now : List ℕ) (listed : ℕ → List (ℕ × X))
    → StaysListed size number ever now
    → IsFound from found now → suc tries ≤ most → Fits most sweeps (suc tries) number from ever
    → ((next : ℕ) → Fits most sweeps tries number next ever
    → IsTriedInSweep InNext tries size number next listed)
    → ((next : ℕ) → Fits most sweeps 0 number next ever → InNext next listed)
    → FindsOr number found (IsTriedInSweep InNext tries size number (next_from size found) listed)
    (InNext 0 listed)
sweep_next InNext tries sweeps most size number from (Some found) ever now listed all first few left
    on next_sweep =
    elim (cases_order found number) [
      | inl is ↦ inl is
      | inr order ↦
          let more : GoesOn number from ((found + 1) % size) ever =
          goes_on size number from found ever now all first (differ found number order)
          in
          let no_more : wraps most number ((found + 1) % size) ≤ wraps most number from = more.wraps
          most in
          inr (on ((found + 1) % size) (omega arith))
    ]
sweep_next InNext tries sweeps most size number from None ever now listed all none few left on
    next_sweep =
    let anew = begins_anew size number from ever now all none in
    let at_0 : wraps most number 0 ≡ 0 = no_wrap most number in
    let before : wraps most number from ≡ most = wraps_some most number from anew.0 in
    next_sweep 0 (omega arith)

pub in_sweep : {X : Type 0} (InNext : ℕ → (ℕ → List (ℕ × X)) → Type 0)
    (tries sweeps most size number from : ℕ)
    (ever : List ℕ) (listed : ℕ → List (ℕ × X))
    → ((try : ℕ) → StaysListed size number ever (keys_of (listed try)))
    → tries ≤ most → Fits most sweeps tries number from ever
    → ((next : ℕ) (later : ℕ → List (ℕ × X))
    → ((try : ℕ) → StaysListed size number ever (keys_of (later try)))
    → Fits most sweeps 0 number next ever → InNext next later)
    → IsTriedInSweep InNext tries size number from listed
in_sweep InNext zero sweeps most size number from ever listed all few left next_sweep = next_sweep
    from listed all left
in_sweep InNext (suc tries) sweeps most size number from ever listed all few left next_sweep =
    sweep_next InNext tries sweeps most size number from (first_number from (listed 0)) ever
    (keys_of (listed 0))
    (λ try. listed (try + 1)) (all 0) (first_number_is_found from (listed 0) (all 0).rise) few left
    (λ next less. in_sweep InNext tries sweeps most size number next ever (λ try. listed (try + 1))
    (λ try. all (try + 1)) (omega arith) less next_sweep)
    (λ next less. next_sweep next (λ try. listed (try + 1)) (λ try. all (try + 1)) less)

pub in_sweeps : {X : Type 0} (sweeps most size number from : ℕ) (ever : List ℕ)
    (listed : ℕ → List (ℕ × X))
    → ((try : ℕ) → StaysListed size number ever (keys_of (listed try)))
    → Fits most sweeps 0 number from ever → IsTriedInSweeps sweeps most size number from listed
in_sweeps zero most size number from ever listed all left =
    let none : most * 0 ≡ 0 = omega arith in
    let some : 0 < ahead number from ever = ahead_some number from ever
    ((all 0).known number (all 0).stays) in
    absurd (omega arith)
in_sweeps {X} (suc sweeps) most size number from ever listed all left =
    in_sweep (IsTriedInSweeps {X = X} sweeps most size number) most sweeps most size number from
    ever listed all
    (omega arith) (omega arith)
    (λ next later all_later less. in_sweeps sweeps most size number next ever later all_later less)

-- The number is found within enough sweeps for a try of each number ever listed meanwhile, and one
-- sweep more.
pub tried_in_sweeps : {X : Type 0} (sweeps most size number from : ℕ) (ever : List ℕ)
    (listed : ℕ → List (ℕ × X))
    → ((try : ℕ) → StaysListed size number ever (keys_of (listed try)))
    → length ever + most ≤ most * sweeps → IsTriedInSweeps sweeps most size number from listed
tried_in_sweeps sweeps most size number from ever listed all enough =
    let all_ever : ahead number from ever ≤ length ever = ahead_most number from ever in
    let one : wraps most number from ≤ most = wraps_most most number from in
    in_sweeps sweeps most size number from ever listed all (omega arith)

-- ---- sockets noted as ready

-- the search for the next token begins here
abbrev pub behind_last : ℕ → ℕ
behind_last last = min (last + 1) (2 ^ 64 - 1)

-- less of the walk is left after this token is given
abbrev pub LessBehind : (token last given : ℕ) → List ℕ → Type 0
LessBehind token last given ever = ahead token (behind_last given) ever < ahead token
    (behind_last last) ever

pub less_behind : (token last given : ℕ) (ever : List ℕ) → given < 2 ^ 64 - 1
    → ahead token (given + 1) ever < ahead token (behind_last last) ever
    → LessBehind token last given ever
less_behind token last given ever below less =
    let is : behind_last given ≡ given + 1 = omega arith in
    subst (λ from. ahead token from ever < ahead token (behind_last last) ever) (sym is) less

-- The first listed number, if different from the sought number, is below.
pub first_before : (size token first : ℕ) (ever later : List ℕ)
    → StaysListed size token ever (first ∷ later)
    → (first < token) ⊎ (token < first) → first < token
first_before size token first ever later all order = elim all.stays [
  | inl is ↦ elim order [ inl less ↦ less | inr more ↦ absurd (omega arith) ]
  | inr behind ↦ above_first first later all.rise token behind
]

-- The token is given, now or in a later turn.
pub given_next : (turns token last : ℕ) (found : Option ℕ) (ever now : List ℕ) (tokens : ℕ → List ℕ)
    → StaysListed (2 ^ 64 - 1) token ever now → IsFound (behind_last last) found now
    → ahead token (behind_last last) ever ≤ suc turns
    → ((next : ℕ) → ahead token (behind_last next) ever ≤ turns
    → IsGivenWithin turns token next tokens)
    → (first_of found now ≡ Some token)
    ⊎ IsGivenWithin turns token (unwrap_or (first_of found now) last) tokens
given_next turns token last (Some found) ever now tokens all first left later = elim
    (cases_order found token) [
      | inl is ↦ inl (cc)
      | inr order ↦
          let among : IsAmong found ever = all.known found first.among in
          let from_on : behind_last last ≤ found = first.above in
          let before = λ (h : behind_last last ≤ token).
          found_before (2 ^ 64 - 1) token (behind_last last) found ever now all first
          (differ found token order) h
          in
          let more : GoesOn token (behind_last last) (found + 1) ever =
          goes_behind token (behind_last last) found ever from_on before among
          in
          let less : LessBehind token last found ever =
          less_behind token last found ever (all.below found among) more.fewer
          in
          inr (later found (omega arith))
    ]
given_next turns token last None ever [] tokens all none left later = absurd all.stays
given_next turns token last None ever (first ∷ rest) tokens all none left later = elim
    (cases_order first token) [
      | inl is ↦ inl (cc)
      | inr order ↦
          let among : IsAmong first ever = all.known first (inl refl) in
          let before : first < token = first_before (2 ^ 64 - 1) token first ever rest all order in
          let fewer : ahead token (first + 1) ever < ahead token (behind_last last) ever =
          goes_to_first token (behind_last last) first ever before (none token all.stays) among
          in
          let less : LessBehind token last first ever = less_behind token last first ever
          (all.below first among) fewer in
          inr (later first (omega arith))
    ]

pub given : (turns token last : ℕ) (ever : List ℕ) (tokens : ℕ → List ℕ)
    → ((turn : ℕ) → StaysListed (2 ^ 64 - 1) token ever (tokens turn))
    → ahead token (behind_last last) ever ≤ turns → IsGivenWithin turns token last tokens
given zero token last ever tokens all left =
    let some : 0 < ahead token (behind_last last) ever =
    ahead_some token (behind_last last) ever ((all 0).known token (all 0).stays)
    in
    absurd (omega arith)
given (suc turns) token last ever tokens all left =
    given_next turns token last (first_key (behind_last last) (tokens 0)) ever (tokens 0)
    (λ turn. tokens (turn + 1))
    (all 0) (first_key_is_found (behind_last last) (tokens 0) (all 0).rise) left
    (λ next less. given turns token next ever (λ turn. tokens (turn + 1)) (λ turn. all (turn + 1))
    less)

-- Whatever token was given last, a token staying noted is given within as many turns as tokens are
-- ever noted meanwhile.
pub given_within : (turns token last : ℕ) (ever : List ℕ) (tokens : ℕ → List ℕ)
    → ((turn : ℕ) → StaysListed (2 ^ 64 - 1) token ever (tokens turn))
    → length ever ≤ turns → IsGivenWithin turns token last tokens
given_within turns token last ever tokens all enough =
    let all_ever : ahead token (behind_last last) ever ≤ length ever = ahead_most token
    (behind_last last) ever in
    given turns token last ever tokens all (omega arith)
