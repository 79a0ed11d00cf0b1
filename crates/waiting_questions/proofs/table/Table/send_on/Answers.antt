use Rattle.std.proofs.Common.{◌≡◌, ◌<◌, ◌+◌, ℕ, suc, List, Some, length, slice_index, sym, ap, ◌∙◌, subst, subst₂, arith}
use Rattle.std.specs.List.{All, Contains, insert, remove, between}
use Rattle.std.proofs.lemmas.Bool.{false≢true}
use Rattle.std.proofs.lemmas.Option.{same_Some}
use Rattle.slab.specs.Slab.{get, Updates}
use Rattle.outstanding.specs.declared.keyed.QuestionKey.{QuestionKey}
use Rattle.outstanding.specs.declared.numbered.NumberedKey.{NumberedKey}
use Rattle.outstanding.specs.Orders.{question_key}
use Rattle.waiting_questions.specs.Values.{Waiting}
use Rattle.waiting_questions.specs.Onward.{redirected}
use Rattle.waiting_questions.specs.Indexes.{waiting_under, keys_of, to_question, IsByQuestion, AreKeys, AreIndexed, AreNumbered, IsRange}
use Rattle.waiting_questions.specs.Settling.{earlier, with_at}
use Rattle.waiting_questions.proofs.Keys.{at_under, is_some_of, value_of}
use Rattle.waiting_questions.proofs.Ranges.{waits_at}
use Rattle.waiting_questions.proofs.Numbered.{length_keys, key_at, keys_insert, keys_remove, numbers_left, numbers_put, numbers_without}
use Rattle.waiting_questions.proofs.SendingOn.{sent_indexed, sent_items, in_turns, all_listed, out_questions, at_low}
use Rattle.waiting_questions.proofs.table.Table.send_on.Goals as goal

pub unreachable-requires : goal.unreachable-requires
unreachable-requires g c = false≢true (c.in_default.ensures.variant.1 (omega (arith, c.requires.place, c.args.self.now.by_question.ok.0)))

pub remove-keyed-requires : goal.remove-keyed-requires
remove-keyed-requires g c =
    let s = c.args.self.now.waiting in
    let items : List NumberedKey = c.args.self.now.by_question.items in
    let item : NumberedKey = c.in-Some.old in
    let read : slice_index (keys_of items) c.args.place ≡ c.key.result = key_at items c.args.place item 0 c.requires.place ∙ ap (λ (n : NumberedKey). n.key) (sym c.in-Some.ensures.value) ∙ sym c.key.ensures.key in
    let a = value_of (get s (slice_index (keys_of items) c.args.place)) (c.requires.indexed.lists.questions.present c.args.place 0 (omega (arith, c.requires.place, length_keys items))) in
    is_some_of (get s c.key.result) a.0 (ap (get s) (sym read) ∙ a.1)

pub range_of-start-requires-clause-keys : goal.range_of-start-requires-clause-keys
range_of-start-requires-clause-keys g c =
    let items : List NumberedKey = c.args.self.now.by_question.items in
    let item : NumberedKey = c.in-Some.old in
    let read : slice_index (keys_of items) c.args.place ≡ c.key.result = key_at items c.args.place item 0 c.requires.place ∙ ap (λ (n : NumberedKey). n.key) (sym c.in-Some.ensures.value) ∙ sym c.key.ensures.key in
    subst (AreKeys IsByQuestion c.remove-keyed.new.self) (sym (ap keys_of c.in-Some.ensures.items ∙ keys_remove items c.args.place))
    (out_questions c.args.self.now.waiting c.remove-keyed.new.self (keys_of items) c.args.self.now.by_arrival.keys c.requires.indexed.lists c.key.result c.remove-keyed.result c.remove-keyed.result c.args.place c.args.arrival_rank
    (omega (arith, c.requires.place, length_keys items)) c.requires.arrival_rank read (sym c.requires.one ∙ read) c.remove-keyed.ensures.value c.remove-keyed.ensures.updates)

pub range_of-start-requires-clause-numbers : goal.range_of-start-requires-clause-numbers
range_of-start-requires-clause-numbers g c =
    let items : List NumberedKey = c.args.self.now.by_question.items in
    subst (AreNumbered c.remove-keyed.new.self) (sym c.in-Some.ensures.items)
    (numbers_left c.args.self.now.waiting c.remove-keyed.new.self _ c.key.result c.remove-keyed.ensures.updates (numbers_without c.args.self.now.waiting items c.args.place (suc c.args.place) c.requires.indexed.numbers))

pub place_by_arrival-at-requires-clause-listed : goal.place_by_arrival-at-requires-clause-listed
place_by_arrival-at-requires-clause-listed g c =
    let items : List NumberedKey = c.args.self.now.by_question.items in
    let item : NumberedKey = c.in-Some.old in
    let y : Waiting = c.send_on.new.self in
    let i = c.range_of-start.result.0 in
    let j = c.range_of-start.result.1 in
    let read : slice_index (keys_of items) c.args.place ≡ c.key.result = key_at items c.args.place item 0 c.requires.place ∙ ap (λ (n : NumberedKey). n.key) (sym c.in-Some.ensures.value) ∙ sym c.key.ensures.key in
    let out : keys_of c.remove.new.self.items ≡ remove (keys_of items) c.args.place = ap keys_of c.in-Some.ensures.items ∙ keys_remove items c.args.place in
    let range : IsRange (to_question (question_key y.wanted)) c.remove-keyed.new.self (remove (keys_of items) c.args.place) i j =
    subst₂ (λ (k : QuestionKey) (ks : List ℕ). IsRange (to_question k) c.remove-keyed.new.self ks i j) c.key-question.ensures out c.range_of-start.ensures in
    subst (λ (ks : List ℕ). All (Contains c.args.self.now.by_arrival.keys) (between i j ks)) (sym out)
    (all_listed c.args.self.now.waiting c.remove-keyed.new.self (keys_of items) c.args.self.now.by_arrival.keys c.requires.indexed.lists c.key.result c.remove-keyed.result y c.args.place c.args.arrival_rank
    (omega (arith, c.requires.place, length_keys items)) c.requires.arrival_rank read (sym c.requires.one ∙ read) c.remove-keyed.ensures.value c.remove-keyed.ensures.updates i j range)

pub insert-requires : goal.insert-requires
insert-requires g c =
    let s = c.args.self.now.waiting in
    let s1 = c.remove-keyed.new.self in
    let s' = c.insert_reserved.new.self in
    let items : List NumberedKey = c.args.self.now.by_question.items in
    let t : List ℕ = c.args.self.now.by_arrival.keys in
    let key : ℕ = c.key.result in
    let x : Waiting = c.remove-keyed.result in
    let y : Waiting = c.send_on.new.self in
    let item : NumberedKey = c.in-Some.old in
    let i = c.range_of-start.result.0 in
    let j = c.range_of-start.result.1 in
    let read : slice_index (keys_of items) c.args.place ≡ key = key_at items c.args.place item 0 c.requires.place ∙ ap (λ (n : NumberedKey). n.key) (sym c.in-Some.ensures.value) ∙ sym c.key.ensures.key in
    let t_is : slice_index t c.args.arrival_rank ≡ key = sym c.requires.one ∙ read in
    let p_in : c.args.place < length (keys_of items) = omega (arith, c.requires.place, length_keys items) in
    let out : keys_of c.remove.new.self.items ≡ remove (keys_of items) c.args.place = ap keys_of c.in-Some.ensures.items ∙ keys_remove items c.args.place in
    let range : IsRange (to_question (question_key y.wanted)) s1 (remove (keys_of items) c.args.place) i j =
    subst₂ (λ (k : QuestionKey) (ks : List ℕ). IsRange (to_question k) s1 ks i j) c.key-question.ensures out c.range_of-start.ensures in
    let put : Updates s1 s' key (Some y) = subst (λ (k : ℕ). Updates s1 s' k (Some y)) (c.insert_reserved.ensures.key ∙ c.remove-keyed.ensures.key_is_next) c.insert_reserved.ensures.updates in
    let taken : y.taken ≡ x.taken = ap (λ (w : Waiting). w.taken) c.send_on.ensures in
    let at_is : c.place_by_arrival-at.result ≡ i + earlier (waits_at s1 y.wanted) t c.args.arrival_rank =
    c.place_by_arrival-at.ensures (waits_at s1 y.wanted)
    (in_turns s s1 (keys_of items) t c.requires.indexed.lists key x y c.args.place c.args.arrival_rank p_in c.requires.arrival_rank read t_is c.remove-keyed.ensures.value c.remove-keyed.ensures.updates i j range ∙ ap (λ (ks : List ℕ). between i j ks) (sym out)) in
    omega (arith, at_low s s1 (keys_of items) t c.requires.indexed.lists key x y c.args.place c.args.arrival_rank p_in c.requires.arrival_rank read t_is c.remove-keyed.ensures.value c.remove-keyed.ensures.updates i j range s' put taken c.place_by_arrival-at.result at_is, ap (λ (ks : List ℕ). length ks) out, length_keys c.remove.new.self.items, c.remove.new.self.ok.0)

pub returns-clause-indexed : goal.returns-clause-indexed
returns-clause-indexed g c =
    let s = c.args.self.now.waiting in
    let s1 = c.remove-keyed.new.self in
    let s' = c.insert_reserved.new.self in
    let items : List NumberedKey = c.args.self.now.by_question.items in
    let t : List ℕ = c.args.self.now.by_arrival.keys in
    let key : ℕ = c.key.result in
    let x : Waiting = c.remove-keyed.result in
    let y : Waiting = c.send_on.new.self in
    let item : NumberedKey = c.in-Some.old in
    let i = c.range_of-start.result.0 in
    let j = c.range_of-start.result.1 in
    let read : slice_index (keys_of items) c.args.place ≡ key = key_at items c.args.place item 0 c.requires.place ∙ ap (λ (n : NumberedKey). n.key) (sym c.in-Some.ensures.value) ∙ sym c.key.ensures.key in
    let t_is : slice_index t c.args.arrival_rank ≡ key = sym c.requires.one ∙ read in
    let p_in : c.args.place < length (keys_of items) = omega (arith, c.requires.place, length_keys items) in
    let out : keys_of c.remove.new.self.items ≡ remove (keys_of items) c.args.place = ap keys_of c.in-Some.ensures.items ∙ keys_remove items c.args.place in
    let range : IsRange (to_question (question_key y.wanted)) s1 (remove (keys_of items) c.args.place) i j =
    subst₂ (λ (k : QuestionKey) (ks : List ℕ). IsRange (to_question k) s1 ks i j) c.key-question.ensures out c.range_of-start.ensures in
    let put : Updates s1 s' key (Some y) = subst (λ (k : ℕ). Updates s1 s' k (Some y)) (c.insert_reserved.ensures.key ∙ c.remove-keyed.ensures.key_is_next) c.insert_reserved.ensures.updates in
    let taken : y.taken ≡ x.taken = ap (λ (w : Waiting). w.taken) c.send_on.ensures in
    let at_is : c.place_by_arrival-at.result ≡ i + earlier (waits_at s1 y.wanted) t c.args.arrival_rank =
    c.place_by_arrival-at.ensures (waits_at s1 y.wanted)
    (in_turns s s1 (keys_of items) t c.requires.indexed.lists key x y c.args.place c.args.arrival_rank p_in c.requires.arrival_rank read t_is c.remove-keyed.ensures.value c.remove-keyed.ensures.updates i j range ∙ ap (λ (ks : List ℕ). between i j ks) (sym out)) in
    let it : NumberedKey = c.new-item.result in
    let it_key : it.key ≡ key = ap (λ (n : NumberedKey). n.key) c.new-item.ensures ∙ c.key-2.ensures.key ∙ sym c.key.ensures.key in
    let left : AreKeys IsByQuestion s1 (keys_of c.remove.new.self.items) =
    subst (AreKeys IsByQuestion s1) (sym out) (out_questions s s1 (keys_of items) t c.requires.indexed.lists key x y c.args.place c.args.arrival_rank p_in c.requires.arrival_rank read t_is c.remove-keyed.ensures.value c.remove-keyed.ensures.updates) in
    let numbers : AreNumbered s1 c.remove.new.self.items =
    subst (AreNumbered s1) (sym c.in-Some.ensures.items) (numbers_left s s1 _ key c.remove-keyed.ensures.updates (numbers_without s items c.args.place (suc c.args.place) c.requires.indexed.numbers)) in
    record {
      lists = subst (λ (ks : List ℕ). AreIndexed s' ks t) (sym (ap keys_of c.in-Ok.ensures.items ∙ keys_insert c.remove.new.self.items c.place_by_arrival-at.result it ∙ (λ n. insert (out n) c.place_by_arrival-at.result (it_key n))))
          (sent_indexed s s1 (keys_of items) t c.requires.indexed.lists key x y c.args.place c.args.arrival_rank p_in c.requires.arrival_rank read t_is c.remove-keyed.ensures.value c.remove-keyed.ensures.updates i j range s' put taken c.place_by_arrival-at.result at_is);
      numbers = subst (AreNumbered s') (sym c.in-Ok.ensures.items)
          (numbers_put s1 s' c.remove.new.self.items left.present numbers y it (ap (get s1) it_key ∙ c.remove-keyed.ensures.updates.changed) (subst (λ (k : ℕ). Updates s1 s' k (Some y)) (sym it_key) put)
          (ap (λ (n : NumberedKey). n.number) c.new-item.ensures ∙ c.number-number.ensures ∙ ap (λ (k : QuestionKey). k.number) c.key-question.ensures) c.place_by_arrival-at.result);
    }

pub returns-clause-list : goal.returns-clause-list
returns-clause-list g c = λ z is.
    let s = c.args.self.now.waiting in
    let s1 = c.remove-keyed.new.self in
    let s' = c.insert_reserved.new.self in
    let items : List NumberedKey = c.args.self.now.by_question.items in
    let t : List ℕ = c.args.self.now.by_arrival.keys in
    let key : ℕ = c.key.result in
    let x : Waiting = c.remove-keyed.result in
    let y : Waiting = c.send_on.new.self in
    let item : NumberedKey = c.in-Some.old in
    let i = c.range_of-start.result.0 in
    let j = c.range_of-start.result.1 in
    let read : slice_index (keys_of items) c.args.place ≡ key = key_at items c.args.place item 0 c.requires.place ∙ ap (λ (n : NumberedKey). n.key) (sym c.in-Some.ensures.value) ∙ sym c.key.ensures.key in
    let t_is : slice_index t c.args.arrival_rank ≡ key = sym c.requires.one ∙ read in
    let p_in : c.args.place < length (keys_of items) = omega (arith, c.requires.place, length_keys items) in
    let out : keys_of c.remove.new.self.items ≡ remove (keys_of items) c.args.place = ap keys_of c.in-Some.ensures.items ∙ keys_remove items c.args.place in
    let range : IsRange (to_question (question_key y.wanted)) s1 (remove (keys_of items) c.args.place) i j =
    subst₂ (λ (k : QuestionKey) (ks : List ℕ). IsRange (to_question k) s1 ks i j) c.key-question.ensures out c.range_of-start.ensures in
    let put : Updates s1 s' key (Some y) = subst (λ (k : ℕ). Updates s1 s' k (Some y)) (c.insert_reserved.ensures.key ∙ c.remove-keyed.ensures.key_is_next) c.insert_reserved.ensures.updates in
    let taken : y.taken ≡ x.taken = ap (λ (w : Waiting). w.taken) c.send_on.ensures in
    let at_is : c.place_by_arrival-at.result ≡ i + earlier (waits_at s1 y.wanted) t c.args.arrival_rank =
    c.place_by_arrival-at.ensures (waits_at s1 y.wanted)
    (in_turns s s1 (keys_of items) t c.requires.indexed.lists key x y c.args.place c.args.arrival_rank p_in c.requires.arrival_rank read t_is c.remove-keyed.ensures.value c.remove-keyed.ensures.updates i j range ∙ ap (λ (ks : List ℕ). between i j ks) (sym out)) in
    let same : x ≡ z = same_Some x z (sym (at_under s t c.args.arrival_rank c.requires.indexed.lists.arrivals.present c.requires.arrival_rank ∙ ap (get s) t_is ∙ c.remove-keyed.ensures.value) ∙ is) in
    sent_items s s1 (keys_of items) t c.requires.indexed.lists key x y c.args.place c.args.arrival_rank p_in c.requires.arrival_rank read t_is c.remove-keyed.ensures.value c.remove-keyed.ensures.updates i j range s' put taken c.place_by_arrival-at.result at_is
    ∙ ap (λ (w : Waiting). with_at (waiting_under s t) c.args.arrival_rank (Some w)) (c.send_on.ensures ∙ ap (redirected c.args.onward) same)
