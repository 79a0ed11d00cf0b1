-- Owning a borrowed question shows that its name is a name: the octets are laid out as such.
use Rattle.std.proofs.Common.{List, ap, subst, Option, Some, None}
use Rattle.std.specs.Option.{IfSome}
use Rattle.std.specs.contracts.option.Option.{the_row as option_row}
use base.Fml.{Lft}
use mir.Syntax.{erased}
use mir.Val.{Val}
use denote.Laws.{Is}
use Rattle.dns_message.specs.DnsName.Labels.{IsName}
use Rattle.dns_message.specs.Values.{Question}
use Rattle.dns_message.specs.contracts.reading.question_ref.QuestionRef.{the_row as question_row}
use Rattle.answer_builder.specs.Values.{Asked}
use Rattle.answer_builder.specs.contracts.asked.AskedRef.{the_row as asked_row}

-- the machine values of an owned `QuestionRef` of this question
abbrev pub IsQuestion : Lft → Question → List Val → Type 0
IsQuestion borrow = Is (question_row (record { mir = erased; lft = borrow }))

-- the machine values of an owned `AskedRef` of this request
abbrev pub IsAsked : Lft → Asked → List Val → Type 0
IsAsked borrow = Is (asked_row (record { mir = erased; lft = borrow }))

-- the name of a question is a name
pub question_is_named : (borrow : Lft) (q : Question) (values : List Val) → IsQuestion borrow q values → IsName q.name
question_is_named borrow q values owned = subst IsName (ap (λ (x : Question). x.name) owned.0.1.0) owned.0.1.1.name

-- the name of an optional question
option_is_named : (borrow : Lft) (q : Option Question) (values : List Val) → Is (option_row (question_row (record { mir = erased; lft = borrow }))) q values → IfSome q (λ x. IsName x.name)
option_is_named borrow None values owned = tt
option_is_named borrow (Some q) values owned = question_is_named borrow q _ owned.1.1.1.1.0

-- the name of a request's question, if any
pub asked_is_named : (borrow : Lft) (a : Asked) (values : List Val) → IsAsked borrow a values → IfSome a.question (λ q. IsName q.name)
asked_is_named borrow a values owned =
    subst (λ (x : Asked). IfSome x.question (λ q. IsName q.name)) owned.0.1.0 (option_is_named borrow owned.0.0.question _ owned.1.0.1.1.1.1.1.0)
