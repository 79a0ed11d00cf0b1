-- The messages for clients: RFC 1035 4.1, RFC 2308 2 and 3.
use Rattle.std.specs.Prelude.{◌≤◌, ℕ, Bool, true, false, if◌then◌else◌, List, [], ◌∷◌, ◌++◌, length, map, take, drop}
use Rattle.std.specs.Prelude.{Option, Some, None}
use Rattle.std.specs.List.{flat_map}
use Rattle.dns_message.specs.declared.reading.header.Header.{Header}
use Rattle.dns_message.specs.Values.{Record, Message}
use Rattle.dns_message.specs.Borrowed.{questions_of}
use Rattle.record_cache.specs.TrustRank.Values.{Body, rows, no_data, denied, Piece}
use Rattle.record_cache.specs.Values.{Held}
use Rattle.record_cache.specs.Ageing.{is_alive, seconds_left}
use Rattle.answer_builder.specs.Values.{PieceWithTtl, Asked, Sections}

-- ---- the records of a piece, with these seconds to live

-- a record of a set of this type
abbrev pub record_of : ℕ → Piece → ℕ → List ℕ → Record
record_of ttl p kind octets = record { owner = p.owner; kind = kind; class = p.slot.class; ttl = ttl; rdata = octets }

-- the records of a piece in an answer, with these seconds left
abbrev pub records_in : ℕ → Piece → Option ℕ → Body → List Record
records_in ttl p (Some kind) (rows each) = map (record_of ttl p kind) each
records_in ttl p (Some kind) (no_data soa) = []
records_in ttl p (Some kind) (denied soa) = []
records_in ttl p None body = []

-- the records of a set, in its order; a denial has none
abbrev pub set_records : ℕ → Piece → List Record
set_records ttl p = records_in ttl p p.slot.kind p.body

-- the SOA of a denial, if any, with these seconds left (RFC 2308 3)
abbrev pub aged : ℕ → Option Record → List Record
aged ttl None = []
aged ttl (Some soa) = record { owner = soa.owner; kind = soa.kind; class = soa.class; ttl = ttl; rdata = soa.rdata }
    ∷ []

-- the SOA of a denial, if any; a set has none: RFC 2308 3
abbrev pub soa_records : ℕ → Body → List Record
soa_records ttl (rows each) = []
soa_records ttl (no_data soa) = aged ttl soa
soa_records ttl (denied soa) = aged ttl soa

-- 3 for a name error, otherwise 0: RFC 1035 4.1.1, RFC 2308 2
abbrev pub rcode_of : Body → ℕ
rcode_of (rows each) = 0
rcode_of (no_data soa) = 0
rcode_of (denied soa) = 3

-- ---- pieces and their seconds in an answer

-- the piece with its whole seconds left: RFC 1035 3.2.1, RFC 2181 5.2
abbrev pub with_ttl : ℕ → Held → PieceWithTtl
with_ttl moment h = record { piece = h.piece; seconds = seconds_left moment h }

-- a living piece with its whole seconds left, an expired piece with 30 seconds: RFC 8767 4
abbrev pub with_stale_ttl : ℕ → Held → PieceWithTtl
with_stale_ttl moment h = record { piece = h.piece; seconds = if is_alive moment h then seconds_left moment h else 30 }

-- the first `stale_from` pieces with their seconds left; of the rest, expired pieces get 30
abbrev pub with_stale_ttls : ℕ → ℕ → List Held → List PieceWithTtl
with_stale_ttls stale_from moment chain = map (with_ttl moment) (take stale_from chain) ++ map (with_stale_ttl moment) (drop stale_from chain)

-- ---- a chain: aliases, each at the name that the one before leads to, then a set or denial

-- all records of a piece have its seconds
abbrev pub answers_of : PieceWithTtl → List Record
answers_of t = set_records t.seconds t.piece

-- the last piece of a chain that begins with t
abbrev pub last_of : PieceWithTtl → List PieceWithTtl → PieceWithTtl
last_of t [] = t
last_of t (other ∷ chain) = last_of other chain

-- the authority section after a chain that ends in this piece
abbrev pub authority_of : PieceWithTtl → List Record
authority_of t = soa_records t.seconds t.piece.body

-- aliases and set as answers, in order; the SOA of a denial at the end as authority
abbrev pub sections_with_ttls : List PieceWithTtl → Sections
sections_with_ttls [] = record { answers = []; authority = []; rcode = 0 }
sections_with_ttls (t ∷ chain) = record {
  answers = flat_map answers_of (t ∷ chain);
  authority = authority_of (last_of t chain);
  rcode = rcode_of (last_of t chain).piece.body;
}

-- the sections from held pieces, with their seconds left
abbrev pub sections_of : ℕ → List Held → Sections
sections_of moment chain = sections_with_ttls (map (with_ttl moment) chain)

-- aliases, and a name error without SOA: RFC 2308 2.1
abbrev pub local_sections : List PieceWithTtl → Sections
local_sections chain = record { answers = flat_map answers_of chain; authority = []; rcode = 3 }

-- the piece was accepted at the moment or before
abbrev pub IsEarlier : ℕ → Held → Type 0
IsEarlier moment h = h.accepted ≤ moment

-- ---- messages

-- identifier, opcode and RD as they came; QR and RA set, AA and Z clear: RFC 1035 4.1.1
abbrev pub answer_header : Asked → Bool → ℕ → List ℕ → Header
answer_header a cut rcode counts = record {
  id = a.id;
  qr = true;
  opcode = a.opcode;
  aa = false;
  tc = cut;
  rd = a.rd;
  ra = true;
  z = 0;
  rcode = rcode;
  counts = counts;
}

-- the client's question, then the sections; the counts are the lengths of the lists
abbrev pub answer_message : Asked → Bool → Sections → Message
answer_message a cut s = record {
  header = answer_header a cut s.rcode (length (questions_of a.question) ∷ length s.answers ∷ length s.authority ∷ 0
      ∷ []);
  questions = questions_of a.question;
  answers = s.answers;
  authority = s.authority;
  additional = [];
}

-- a response code alone
abbrev pub bare : ℕ → Sections
bare rcode = record { answers = []; authority = []; rcode = rcode }

-- the question with these sections and their response code
abbrev pub full_answer : Asked → Sections → Message
full_answer a s = answer_message a false s

-- the question alone, with TC and the response code of the sections: RFC 2181 9
abbrev pub cut_answer : Asked → Sections → Message
cut_answer a s = answer_message a true (bare s.rcode)

-- the question, if any, and a response code alone
abbrev pub error_response : Asked → ℕ → Message
error_response a rcode = answer_message a false (bare rcode)
