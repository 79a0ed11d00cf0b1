-- Right answers, computed: the client's message has opcode 0, and asks for a served type and class.
use Rattle.std.proofs.Common.{◌≡◌, ℕ, List, Some, refl, arith, subst, inl, inr}
use Rattle.dns_message.specs.Names.{step as name_step, walk_in, name_within}
use Rattle.dns_message.specs.Records.{octets_end, question_at}
use Rattle.dns_message.specs.Messages.{first_question}
use Rattle.dns_message.specs.Values.{Question}
use Rattle.step_values.specs.declared.action.Why.TheVariants.{Answered}
use Rattle.step_history.specs.History.{Look}
use Rattle.step_history.specs.Sound.{RightAnswer, RightReply}
use Rattle.step_table.proofs.Played.{a, address}
use Rattle.theorem_use.proofs.TheoremSound.Served.{served_is}
use Rattle.step_history.specs.Questions.{IsUnserved}
use Rattle.worked_claims.proofs.Texts.{question_text, status_text, client}
use Rattle.worked_claims.proofs.Accepted.{seen, client_text, answers}

pub right_answer : RightReply seen client (question_text 7 1) 1 Answered client_text
unfolding first_question question_at octets_end name_within walk_in name_step
right_answer = record { opcode = refl; question = address a; reads = refl; served = served_is (address a) refl; answers = answers }

-- no answer is right for a message of another opcode
no_answer_for_another_opcode : (l : Look) (octets : List ℕ) → RightAnswer l client (status_text 7) octets → ⊥
no_answer_for_another_opcode l octets h = let opcode : 2 ≡ 0 = h.opcode in omega (arith, opcode)

-- nor for every type at once
abbrev for_every_type : Question
for_every_type = record (address a) { kind = 255 }

no_answer_for_every_type : (l : Look) (octets : List ℕ) → RightAnswer l client (question_text 7 255) octets → ⊥
unfolding first_question question_at octets_end name_within walk_in name_step
no_answer_for_every_type l octets h =
    let reads : Some for_every_type ≡ Some h.question = h.reads in
    let same : for_every_type ≡ h.question = cc in
    h.served (subst IsUnserved same (inr (inr (inl (omega arith, omega arith)))))
