-- Values read are laid out, and values laid out are read.
use Rattle.std.proofs.Common.{◌≡◌, ℕ, zero, suc, ◌+◌, ◌≤◌, Bool, true, false, cond, List, [], ◌∷◌, ◌++◌, length, take, drop, get_or, Option, Some, None, Result, Ok, Err, eqb, ltb, leb, refl, sym, ap, subst, ◌∙◌, arith}
use Rattle.dns_message.specs.declared.names.fault.Fault.{Fault}
use Rattle.dns_message.specs.declared.names.fault.Fault.TheVariants.{Short, Rdata}
use Rattle.dns_message.specs.declared.reading.shape.Part.{Part}
use Rattle.dns_message.specs.declared.reading.shape.Part.TheVariants.{Name, Number16, SoaNumbers, Text}
use Rattle.dns_message.specs.Values.{Question, Record}
use Rattle.dns_message.specs.Shapes.{Shape, shape_of}
use Rattle.dns_message.specs.Reading.{◌>>=◌}
use Rattle.dns_message.specs.Numbers.{number16, number32}
use Rattle.dns_message.specs.Names.{name_at, name_within, inside}
use Rattle.dns_message.specs.Data.{name_octets, PartAt, PartsAt, parts_end, parts_go_on, ShapedAt, DataAt, octets_within, written_out, prefixed, text_within, part_at, parts_at, shaped_at, data_at}
use Rattle.dns_message.specs.Records.{QuestionAt, RecordAt, InRow, octets_end, question_at, record_at, with_first, counted}
use Rattle.dns_message.proofs.names.NameLaws.{within_sound, within_complete, name_sound, name_complete}

-- the value read, and the place after it
abbrev pub read_as : {X : Type 0} → X → ℕ → Result (X × ℕ) Fault
read_as x e = Ok (x, e)

pub read_first : {X : Type 0} (x y : X) (d e : ℕ) → read_as x d ≡ read_as y e → x ≡ y
read_first {X = X} x y d e is = let p : ◌≡◌ {A = X × ℕ} (x, d) (y, e) = cc in ap (λ (q : X × ℕ). q.0) p

pub read_second : {X : Type 0} (x y : X) (d e : ℕ) → read_as x d ≡ read_as y e → d ≡ e
read_second {X = X} x y d e is = let p : ◌≡◌ {A = X × ℕ} (x, d) (y, e) = cc in ap (λ (q : X × ℕ). q.1) p

-- a successful step, and the steps after it
pub record Steps {X Y : Type 0} (r : Result X Fault) (f : X → Result Y Fault) (y : Y) : Type 0 where
  pub value : X
  pub first : r ≡ Ok value
  pub rest : f value ≡ Ok y

pub steps : {X Y : Type 0} (r : Result X Fault) (f : X → Result Y Fault) (y : Y) → (r >>= f) ≡ Ok y → Steps r f y
steps (Ok x) f y is = record { value = x; first = refl; rest = is }
steps (Err e) f y is = absurd cc

-- ---- octets, and numbers

pub record OctetsWithin (bytes : List ℕ) (stop o count : ℕ) (octets : List ℕ) (e : ℕ) : Type 0 where
  pub there : o + count ≤ stop
  pub octets_are : octets ≡ take count (drop o bytes)
  pub ends : e ≡ o + count

octets_sound : (bytes : List ℕ) (stop o count : ℕ) (octets : List ℕ) (e : ℕ) → octets_within bytes stop o count ≡ read_as octets e → OctetsWithin bytes stop o count octets e
unfolding octets_within
octets_sound bytes stop o count octets e is = by_test (ltb stop (o + count)) (grind arith) is
  where
    by_test : (b : Bool) → (b ≡ false → o + count ≤ stop) → cond b (Err Rdata) (read_as (take count (drop o bytes)) (o + count)) ≡ read_as octets e → OctetsWithin bytes stop o count octets e
    by_test true le is = absurd cc
    by_test false le is = record { there = le refl; octets_are = sym (read_first (take count (drop o bytes)) octets (o + count) e is); ends = sym (read_second (take count (drop o bytes)) octets (o + count) e is) }

octets_complete : (bytes : List ℕ) (stop o count : ℕ) → o + count ≤ stop → octets_within bytes stop o count ≡ read_as (take count (drop o bytes)) (o + count)
unfolding octets_within
octets_complete bytes stop o count le = grind arith

text_sound : (bytes : List ℕ) (stop o : ℕ) (octets : List ℕ) (e : ℕ) → text_within bytes stop o ≡ read_as octets e → OctetsWithin bytes stop o (get_or bytes o 0 + 1) octets e
unfolding text_within
text_sound bytes stop o octets e is = by_test (leb stop o) is
  where
    by_test : (b : Bool) → cond b (Err Rdata) (octets_within bytes stop o (get_or bytes o 0 + 1)) ≡ read_as octets e → OctetsWithin bytes stop o (get_or bytes o 0 + 1) octets e
    by_test true is = absurd cc
    by_test false is = octets_sound bytes stop o (get_or bytes o 0 + 1) octets e is

text_complete : (bytes : List ℕ) (stop o : ℕ) → o + (get_or bytes o 0 + 1) ≤ stop → text_within bytes stop o ≡ read_as (take (get_or bytes o 0 + 1) (drop o bytes)) (o + (get_or bytes o 0 + 1))
unfolding text_within octets_within
text_complete bytes stop o le = grind arith

-- ---- the parts of data

record NameOut (r : Result (List (List ℕ) × ℕ) Fault) (octets : List ℕ) (e : ℕ) : Type 0 where
  labels : List (List ℕ)
  read : r ≡ read_as labels e
  out : octets ≡ name_octets labels

name_out : (r : Result (List (List ℕ) × ℕ) Fault) (octets : List ℕ) (e : ℕ) → written_out r ≡ read_as octets e → NameOut r octets e
name_out (Ok n) octets e is =
    record { labels = n.0; read = ap (λ (d : ℕ). read_as n.0 d) (read_second (name_octets n.0) octets n.1 e is); out = sym (read_first (name_octets n.0) octets n.1 e is) }
name_out (Err f) octets e is = absurd cc

part_sound : (part : Part) (bytes : List ℕ) (stop o : ℕ) (octets : List ℕ) (e : ℕ) → stop ≤ length bytes → part_at part bytes stop o ≡ read_as octets e → PartAt part bytes stop o octets e
part_sound Name bytes stop o octets e le is =
    let name = name_out (name_within bytes (inside stop) o) octets e is in
    let at = within_sound bytes (inside stop) o name.labels e le name.read in
    (name.labels, at.0, at.1, at.2, name.out)
part_sound Number16 bytes stop o octets e le is = let h = octets_sound bytes stop o 2 octets e is in (h.there, h.octets_are, h.ends)
part_sound SoaNumbers bytes stop o octets e le is = let h = octets_sound bytes stop o 20 octets e is in (h.there, h.octets_are, h.ends)
part_sound Text bytes stop o octets e le is = let h = text_sound bytes stop o octets e is in (h.there, h.octets_are, h.ends)

part_complete : (part : Part) (bytes : List ℕ) (stop o : ℕ) (octets : List ℕ) (e : ℕ) → PartAt part bytes stop o octets e → part_at part bytes stop o ≡ read_as octets e
part_complete Name bytes stop o octets e at = rw (within_complete bytes (inside stop) o at.0 e at.1 at.2 at.3, at.4) refl
part_complete Number16 bytes stop o octets e at = rw (at.1, at.2) (octets_complete bytes stop o 2 at.0)
part_complete SoaNumbers bytes stop o octets e at = rw (at.1, at.2) (octets_complete bytes stop o 20 at.0)
part_complete Text bytes stop o octets e at = rw (at.1, at.2) (text_complete bytes stop o at.0)

record Rest (front : List ℕ) (r : Result (List ℕ × ℕ) Fault) (octets : List ℕ) (e : ℕ) : Type 0 where
  rest : List ℕ
  read : r ≡ read_as rest e
  all : octets ≡ front ++ rest

rest_of : (front : List ℕ) (r : Result (List ℕ × ℕ) Fault) (octets : List ℕ) (e : ℕ) → prefixed front r ≡ read_as octets e → Rest front r octets e
rest_of front (Ok x) octets e is =
    record { rest = x.0; read = ap (λ (d : ℕ). read_as x.0 d) (read_second (front ++ x.0) octets x.1 e is); all = sym (read_first (front ++ x.0) octets x.1 e is) }
rest_of front (Err f) octets e is = absurd cc

parts_sound : (parts : List Part) (bytes : List ℕ) (stop o : ℕ) (octets : List ℕ) (e : ℕ) → stop ≤ length bytes → parts_at parts bytes stop o ≡ read_as octets e → PartsAt bytes stop parts o octets × (e ≡ stop)
unfolding parts_at
parts_sound [] bytes stop o octets e le is = by_test (eqb o stop) (grind arith) is
  where
    by_test : (b : Bool) → (b ≡ true → o ≡ stop) → cond b (read_as [] o) (Err Rdata) ≡ read_as octets e → PartsAt bytes stop [] o octets × (e ≡ stop)
    by_test true same is =
        let P : List ℕ → Type 0 = λ x. PartsAt bytes stop [] o x in
        (subst P (read_first [] octets o e is) (parts_end (same refl)), sym (read_second [] octets o e is) ∙ same refl)
    by_test false same is = absurd cc
parts_sound (part ∷ parts) bytes stop o octets e le is =
    let s = steps (part_at part bytes stop o) (λ first. prefixed first.0 (parts_at parts bytes stop first.1)) (octets, e) is in
    let r = rest_of s.value.0 (parts_at parts bytes stop s.value.1) octets e s.rest in
    let more = parts_sound parts bytes stop s.value.1 r.rest e le r.read in
    (parts_go_on s.value.1 s.value.0 r.rest (part_sound part bytes stop o s.value.0 s.value.1 le s.first) more.0 r.all, more.1)

full : (bytes : List ℕ) (stop o : ℕ) → o ≡ stop → parts_at [] bytes stop o ≡ read_as [] stop
unfolding parts_at
full bytes stop o same = grind arith

parts_complete : (parts : List Part) (bytes : List ℕ) (stop o : ℕ) (octets : List ℕ) → PartsAt bytes stop parts o octets → parts_at parts bytes stop o ≡ read_as octets stop
unfolding parts_at
parts_complete [] bytes stop o [] (parts_end same) = full bytes stop o same
parts_complete [] bytes stop o (x ∷ xs) at = elim at [ ]
parts_complete (part ∷ parts) bytes stop o octets (parts_go_on e first rest one more all) =
    rw (part_complete part bytes stop o first e one) (ap (prefixed first) (parts_complete parts bytes stop e rest more) ∙ ap (λ (x : List ℕ). read_as x stop) (sym all))

-- ---- data

shaped_sound : (shape : Option Shape) (bytes : List ℕ) (o len : ℕ) (octets : List ℕ) (e : ℕ) → o + len ≤ length bytes → shaped_at shape bytes o len ≡ read_as octets e → ShapedAt shape bytes o len octets × (e ≡ o + len)
shaped_sound None bytes o len octets e le is = (sym (read_first (take len (drop o bytes)) octets (o + len) e is), sym (read_second (take len (drop o bytes)) octets (o + len) e is))
shaped_sound (Some shape) bytes o len octets e le is = parts_sound shape.parts bytes (o + len) o octets e le is

shaped_complete : (shape : Option Shape) (bytes : List ℕ) (o len : ℕ) (octets : List ℕ) → ShapedAt shape bytes o len octets → shaped_at shape bytes o len ≡ read_as octets (o + len)
shaped_complete None bytes o len octets at = rw at refl
shaped_complete (Some shape) bytes o len octets at = parts_complete shape.parts bytes (o + len) o octets at

pub data_sound : (kind : ℕ) (bytes : List ℕ) (o len : ℕ) (octets : List ℕ) (e : ℕ) → data_at kind bytes o len ≡ read_as octets e → DataAt kind bytes o len octets × (e ≡ o + len)
unfolding data_at
data_sound kind bytes o len octets e is = by_test (ltb (length bytes) (o + len)) (grind arith) is
  where
    by_test : (b : Bool) → (b ≡ false → o + len ≤ length bytes) → cond b (Err Short) (shaped_at (shape_of kind) bytes o len) ≡ read_as octets e → DataAt kind bytes o len octets × (e ≡ o + len)
    by_test true le is = absurd cc
    by_test false le is = let h = shaped_sound (shape_of kind) bytes o len octets e (le refl) is in ((le refl, h.0), h.1)

pub data_complete : (kind : ℕ) (bytes : List ℕ) (o len : ℕ) (octets : List ℕ) → DataAt kind bytes o len octets → data_at kind bytes o len ≡ read_as octets (o + len)
unfolding data_at
data_complete kind bytes o len octets at = by_test (ltb (length bytes) (o + len)) (let le = at.0 in grind arith)
  where
    by_test : (b : Bool) → b ≡ false → cond b (Err Short) (shaped_at (shape_of kind) bytes o len) ≡ read_as octets (o + len)
    by_test true there = absurd cc
    by_test false there = shaped_complete (shape_of kind) bytes o len octets at.1

-- ---- questions and records

there_sound : (bytes : List ℕ) (o count e : ℕ) → octets_end bytes o count ≡ Ok e → (o + count ≤ length bytes) × (e ≡ o + count)
unfolding octets_end
there_sound bytes o count e is = by_test (ltb (length bytes) (o + count)) (grind arith) is
  where
    ok_here : ℕ → Result ℕ Fault
    ok_here x = Ok x

    by_test : (b : Bool) → (b ≡ false → o + count ≤ length bytes) → cond b (Err Short) (Ok (o + count)) ≡ Ok e → (o + count ≤ length bytes) × (e ≡ o + count)
    by_test true le is = absurd cc
    by_test false le is = let same : o + count ≡ e = cc in (le refl, sym same)

there_complete : (bytes : List ℕ) (o count : ℕ) → o + count ≤ length bytes → octets_end bytes o count ≡ Ok (o + count)
unfolding octets_end
there_complete bytes o count le = grind arith

abbrev question_with : List ℕ → List (List ℕ) → ℕ → Question
question_with bytes name after = record { name = name; kind = number16 bytes after; class = number16 bytes (after + 2) }

pub question_sound : (bytes : List ℕ) (o : ℕ) (question : Question) (e : ℕ) → question_at bytes o ≡ read_as question e → QuestionAt bytes o question e
unfolding question_at
question_sound bytes o question e is =
    let name = steps (name_at bytes o) _ (question, e) is in
    let end = steps (octets_end bytes name.value.1 4) _ (question, e) name.rest in
    let at = name_sound bytes o name.value.0 name.value.1 name.first in
    let there = there_sound bytes name.value.1 4 end.value end.first in
    let same = read_first (question_with bytes name.value.0 name.value.1) question end.value e end.rest in
    let here : QuestionAt bytes o (question_with bytes name.value.0 name.value.1) e =
    record { after = name.value.1; name = at.0; fits = at.1; there = there.0; kind = refl; class = refl; ends = sym (read_second (question_with bytes name.value.0 name.value.1) question end.value e end.rest) ∙ there.1 } in
    let P : Question → Type 0 = λ q. QuestionAt bytes o q e in
    subst P same here

pub question_complete : (bytes : List ℕ) (o : ℕ) (question : Question) (e : ℕ) → QuestionAt bytes o question e → question_at bytes o ≡ read_as question e
unfolding question_at
question_complete bytes o question e at =
    rw (name_complete bytes o question.name at.after at.name at.fits, there_complete bytes at.after 4 at.there, at.ends)
    (rw (← at.kind, ← at.class) refl)

abbrev record_with : List ℕ → List (List ℕ) → ℕ → List ℕ → Record
record_with bytes owner after rdata = record { owner = owner; kind = number16 bytes after; class = number16 bytes (after + 2); ttl = number32 bytes (after + 4); rdata = rdata }

pub record_sound : (bytes : List ℕ) (o : ℕ) (entry : Record) (e : ℕ) → record_at bytes o ≡ read_as entry e → RecordAt bytes o entry e
unfolding record_at
record_sound bytes o entry e is =
    let owner = steps (name_at bytes o) _ (entry, e) is in
    let fixed = steps (octets_end bytes owner.value.1 10) _ (entry, e) owner.rest in
    let there = there_sound bytes owner.value.1 10 fixed.value fixed.first in
    let rdata = steps (data_at (number16 bytes owner.value.1) bytes fixed.value (number16 bytes (owner.value.1 + 8))) _ (entry, e) fixed.rest in
    let at = name_sound bytes o owner.value.0 owner.value.1 owner.first in
    let data_here = data_sound (number16 bytes owner.value.1) bytes fixed.value (number16 bytes (owner.value.1 + 8)) rdata.value.0 rdata.value.1 rdata.first in
    let same = read_first (record_with bytes owner.value.0 owner.value.1 rdata.value.0) entry rdata.value.1 e rdata.rest in
    let D : ℕ → Type 0 = λ start. DataAt (number16 bytes owner.value.1) bytes start (number16 bytes (owner.value.1 + 8)) rdata.value.0 in
    let here : RecordAt bytes o (record_with bytes owner.value.0 owner.value.1 rdata.value.0) e =
    record {
      after = owner.value.1;
      owner = at.0;
      fits = at.1;
      there = there.0;
      kind = refl;
      class = refl;
      ttl = refl;
      rdata = subst D there.1 data_here.0;
      ends = sym (read_second (record_with bytes owner.value.0 owner.value.1 rdata.value.0) entry rdata.value.1 e rdata.rest) ∙ data_here.1 ∙ ap (λ (start : ℕ). start + number16 bytes (owner.value.1 + 8)) there.1;
    } in
    let P : Record → Type 0 = λ r. RecordAt bytes o r e in
    subst P same here

pub record_complete : (bytes : List ℕ) (o : ℕ) (entry : Record) (e : ℕ) → RecordAt bytes o entry e → record_at bytes o ≡ read_as entry e
unfolding record_at
record_complete bytes o entry e at =
    let D : ℕ → Type 0 = λ kind. DataAt kind bytes (at.after + 10) (number16 bytes (at.after + 8)) entry.rdata in
    let data_here = data_complete (number16 bytes at.after) bytes (at.after + 10) (number16 bytes (at.after + 8)) entry.rdata (subst D at.kind at.rdata) in
    rw (name_complete bytes o entry.owner at.after at.owner at.fits, there_complete bytes at.after 10 at.there, data_here, at.ends)
    (rw (← at.kind, ← at.class, ← at.ttl) refl)

-- ---- counted items

record Others {X : Type 0} (x : X) (r : Result (List X × ℕ) Fault) (xs : List X) (e : ℕ) : Type 0 where
  others : List X
  read : r ≡ read_as others e
  all : xs ≡ x ∷ others

others_of : {X : Type 0} (x : X) (r : Result (List X × ℕ) Fault) (xs : List X) (e : ℕ) → with_first x r ≡ read_as xs e → Others x r xs e
others_of x (Ok y) xs e is =
    record { others = y.0; read = ap (λ (d : ℕ). read_as y.0 d) (read_second (x ∷ y.0) xs y.1 e is); all = sym (read_first (x ∷ y.0) xs y.1 e is) }
others_of x (Err f) xs e is = absurd cc

pub counted_sound : {X : Type 0} (read : ℕ → Result (X × ℕ) Fault) (At : ℕ → X → ℕ → Type 0) → ((o : ℕ) (x : X) (e : ℕ) → read o ≡ read_as x e → At o x e)
    → (n o : ℕ) (xs : List X) (e : ℕ) → counted read n o ≡ read_as xs e → InRow At o xs e × (length xs ≡ n)
unfolding counted
counted_sound {X = X} read At each zero o xs e is =
    let P : List X → Type 0 = λ ys. InRow At o ys e × (length ys ≡ 0) in
    subst P (read_first [] xs o e is) (sym (read_second [] xs o e is), refl)
counted_sound {X = X} read At each (suc n) o xs e is =
    let s = steps (read o) (λ first. with_first first.0 (counted read n first.1)) (xs, e) is in
    let r = others_of s.value.0 (counted read n s.value.1) xs e s.rest in
    let more = counted_sound read At each n s.value.1 r.others e r.read in
    let P : List X → Type 0 = λ ys. InRow At o ys e × (length ys ≡ suc n) in
    subst P (sym r.all) ((s.value.1, each o s.value.0 s.value.1 s.first, more.0), ap suc more.1)

pub counted_complete : {X : Type 0} (read : ℕ → Result (X × ℕ) Fault) (At : ℕ → X → ℕ → Type 0) → ((o : ℕ) (x : X) (e : ℕ) → At o x e → read o ≡ read_as x e)
    → (n o : ℕ) (xs : List X) (e : ℕ) → InRow At o xs e → length xs ≡ n → counted read n o ≡ read_as xs e
unfolding counted
counted_complete read At each zero o [] e row len = ap (λ (d : ℕ). read_as [] d) (sym row)
counted_complete read At each (suc n) o [] e row len = absurd cc
counted_complete read At each zero o (x ∷ xs) e row len = absurd (omega (arith, len))
counted_complete read At each (suc n) o (x ∷ xs) e row len =
    rw (each o x row.0 row.1) (ap (with_first x) (counted_complete read At each n row.0 xs e row.2 (omega (arith, len))))
