-- Lists of asks, in the order of asking.
use Rattle.std.specs.Prelude.{◌≡◌, ◌^◌, ◌≤◌, Bool, false, ◌==◌, not, List, [], ◌∷◌, length, filter, Option, None, true}
use Rattle.std.specs.List.{find, AllByRecursion}
use Rattle.dns_message.specs.Values.{Question}
use Rattle.outstanding.specs.declared.ask.Path.{Path}
use Rattle.outstanding.specs.declared.ask.Path.TheVariants.{Udp, Tcp}
use Rattle.outstanding.specs.Values.{Ask, Inquiries}
use Rattle.dns_message.specs.Questions.{same_question}

-- equal ports, or equal connections
abbrev pub same_path : Path → Path → Bool
same_path (Udp a) (Udp b) = a == b
same_path (Tcp a) (Tcp b) = a == b
same_path (Udp a) (Tcp b) = false
same_path (Tcp a) (Udp b) = false

-- the ask on a path
abbrev pub on_path : Path → List Ask → Option Ask
on_path path asks = find (λ a. same_path a.path path) asks

-- the ask with an equal question
abbrev pub of_question : Question → List Ask → Option Ask
of_question question asks = find (λ a. same_question a.question question) asks

-- the list without the ask on a path
abbrev pub without_path : Path → List Ask → List Ask
without_path path asks = filter (λ a. not (same_path a.path path)) asks

-- the moment is at most 2^62 milliseconds
abbrev pub IsInTime : Ask → Type 0
IsInTime a = a.asked ≤ 2 ^ 62

-- b may come anywhere after a
pub record Follows (a b : Ask) : Type 0 where
  pub path : same_path a.path b.path ≡ false
  pub question : same_question a.question b.question ≡ false
  pub asked : a.asked ≤ b.asked

-- no two share a path or a question, and moments never fall
abbrev pub AreInTurn : List Ask → Type 0
AreInTurn [] = Unit {0}
AreInTurn (a ∷ asks) = AllByRecursion (Follows a) asks × AreInTurn asks

-- no more than the capacity, `AreInTurn`, and no moment above 2^62 ms
pub record AreListed (inquiries : Inquiries) : Type 0 where
  pub few : length inquiries.asks ≤ inquiries.capacity
  pub by_arrival : AreInTurn inquiries.asks
  pub in_time : AllByRecursion IsInTime inquiries.asks

-- an ask may be put after these: its path and its question are not listed, and no listed ask was
-- asked later
pub record MayBegin (ask : Ask) (asks : List Ask) : Type 0 where
  pub path : on_path ask.path asks ≡ None
  pub question : of_question ask.question asks ≡ None
  pub later : AllByRecursion (λ a. a.asked ≤ ask.asked) asks
  pub in_time : IsInTime ask

-- the path is a connection over TCP
abbrev pub is_tcp : Path → Bool
is_tcp (Udp port) = false
is_tcp (Tcp conn) = true
