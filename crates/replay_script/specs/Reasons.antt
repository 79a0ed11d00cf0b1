-- The numbers of the reasons in printed lines.
use Rattle.std.specs.Prelude.{ℕ}
use Rattle.step_values.specs.declared.action.Why.{Why}
use Rattle.step_values.specs.declared.action.Why.TheVariants.{Answered, BadFormat, BadOpcode, NotServed, NoRoute}
use Rattle.step_values.specs.declared.action.Why.TheVariants.{QuestionsFull, InquiriesFull, NoPort, Exhausted, Deadline}
use Rattle.step_values.specs.declared.action.Why.TheVariants.{ChainLong, TooLarge, Stale, LocalDenied}

-- the number of a reason in printed lines
abbrev pub number_of : Why → ℕ
number_of Answered = 0
number_of BadFormat = 1
number_of BadOpcode = 2
number_of NotServed = 3
number_of NoRoute = 4
number_of QuestionsFull = 5
number_of InquiriesFull = 6
number_of NoPort = 7
number_of Exhausted = 8
number_of Deadline = 9
number_of ChainLong = 10
number_of TooLarge = 11
number_of Stale = 12
number_of LocalDenied = 13
