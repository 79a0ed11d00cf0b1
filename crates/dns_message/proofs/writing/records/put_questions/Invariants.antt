use Rattle.std.proofs.Common.{◌≤◌, length, take, drop}
use Rattle.std.specs.List.{AllByRecursion}
use Rattle.dns_message.specs.Written.{IsQuestion}
use Rattle.dns_message.specs.Writing.{each, question_text}
use Rattle.dns_message.proofs.writing.WriterLaws.{GoesOn}
use Rattle.dns_message.proofs.writing.records.put_questions.Given as goal

abbrev pub invariant-loop-question : goal.invariant-loop-question
invariant-loop-question g l = record {
  left : GoesOn l.initial.writer l.writer (each question_text (drop l.question-index l.questions)) (each question_text l.questions);
  within : length l.writer.octets.items ≤ l.limit;
  all : AllByRecursion IsQuestion (take l.question-index l.questions);
}
