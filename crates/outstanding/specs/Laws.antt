-- Statements about the list.
use Rattle.std.specs.Prelude.{◌≡◌, ◌≤◌, true, List, Some, None}
use Rattle.std.specs.List.{AllByRecursion}
use Rattle.outstanding.specs.declared.ask.Path.{Path}
use Rattle.outstanding.specs.Values.{Ask}
use Rattle.dns_message.specs.Questions.{same_question}
use Rattle.outstanding.specs.Lists.{on_path, without_path, IsInTime, AreInTurn, MayBegin}

-- After an ask's end, a further ask for its question may begin, on a path that is free then.
abbrev pub NextMayBegin : Type 0
NextMayBegin =
    (asks : List Ask) (path : Path) (ended next : Ask) → AreInTurn asks → on_path path asks ≡ Some ended
    → same_question ended.question next.question ≡ true → on_path next.path (without_path path asks) ≡ None
    → AllByRecursion (λ a. a.asked ≤ next.asked) asks → IsInTime next
    → MayBegin next (without_path path asks)

-- An ended ask is listed no more.
abbrev pub EndedIsUnlisted : Type 0
EndedIsUnlisted = (asks : List Ask) (path : Path) → on_path path (without_path path asks) ≡ None

-- An unlisted ask stays unlisted after the end of any ask.
abbrev pub UnlistedStaysSo : Type 0
UnlistedStaysSo = (asks : List Ask) (path other : Path) → on_path path asks ≡ None
    → on_path path (without_path other asks) ≡ None
