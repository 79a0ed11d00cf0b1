-- Equal questions.
use Rattle.std.proofs.Common.{◌≡◌, true, refl, sym, ◌∙◌}
use Rattle.std.specs.Prelude.{◌==◌, ◌&&◌}
use Rattle.std.specs.Bool.{Decides}
use Rattle.std.proofs.lemmas.Bool.{and_parts, and_from, eqb-true, eq-eqb}
use Rattle.dns_name.specs.Labels.{same}
use Rattle.dns_name.proofs.CallerLemmas.{same_decides, same_reflexive, same_symmetric, same_transitive}
use Rattle.dns_message.specs.Values.{Question}
use Rattle.dns_message.specs.Messages.{IsSameQuestion}
use Rattle.dns_message.specs.Questions.{same_question}

question_is : (a b : Question) → same_question a b ≡ true → IsSameQuestion a b
question_is a b e =
    let outer = and_parts (same a.name b.name && (a.kind == b.kind)) (a.class == b.class) e in
    let inner = and_parts (same a.name b.name) (a.kind == b.kind) outer.0 in
    record { name = (same_decides a.name b.name).0 inner.0; kind = eqb-true a.kind b.kind inner.1; class = eqb-true a.class b.class outer.1 }

is_question : (a b : Question) → IsSameQuestion a b → same_question a b ≡ true
is_question a b is =
    and_from (same a.name b.name && (a.kind == b.kind)) (a.class == b.class)
    (and_from (same a.name b.name) (a.kind == b.kind) ((same_decides a.name b.name).1 is.name) (eq-eqb a.kind b.kind is.kind))
    (eq-eqb a.class b.class is.class)

-- the test decides equality
pub same_question_decides : (a b : Question) → Decides (same_question a b) (IsSameQuestion a b)
same_question_decides a b = (λ e. question_is a b e, λ is. is_question a b is)

-- equality is an equivalence

pub same_question_refl : (a : Question) → IsSameQuestion a a
same_question_refl a = record { name = same_reflexive a.name; kind = refl; class = refl }

pub same_question_sym : (a b : Question) → IsSameQuestion a b → IsSameQuestion b a
same_question_sym a b is = record { name = same_symmetric a.name b.name is.name; kind = sym is.kind; class = sym is.class }

pub same_question_trans : (a b c : Question) → IsSameQuestion a b → IsSameQuestion b c → IsSameQuestion a c
same_question_trans a b c first second = record {
  name = same_transitive a.name b.name c.name first.name second.name;
  kind = first.kind ∙ second.kind;
  class = first.class ∙ second.class;
}
