-- Worked replies and their content: for each part of the definition one that meets it, and a
-- neighbour that fails in this part alone.
use Rattle.std.proofs.Common.{◌≡◌, ℕ, true, inl, inr, List, [], ◌∷◌, Option, Some, refl, sym, ap}
use Rattle.std.proofs.Common.{◌∙◌, subst, arith}
use Rattle.dns_name.specs.Labels.{lowered, IsSame}
use Rattle.dns_message.specs.Values.{Record, Message}
use Rattle.suffix_routes.specs.Routes.{route_of}
use Rattle.suffix_routes.proofs.CallerLemmas.{route_found_is_longest}
use Rattle.trust_rank.specs.Values.{rows, no_data, denied, Piece, found, ends_no_data, Reply, reply_of}
use Rattle.trust_rank.specs.Sets.{set_with}
use Rattle.cache_laws.specs.Sets.{IsRecordFor, AreDataOf, AreInOrder, IsLowestTtl, IsSetFrom}
use Rattle.cache_laws.specs.Ranks.{IsRanked}
use Rattle.cache_laws.specs.Lifetimes.{IsFirstSoa, LivesBy, IsDenialFrom}
use Rattle.cache_laws.specs.Carried.{IsOfReply, IsPieceOf, IsSetAt, IsOnRoute, AreWalked, AreServers, IsCarriedBy}
use Rattle.cache_laws.proofs.Sets.{top_bit_is_none, set_from}
use Rattle.cache_laws.proofs.Worked.{routes, config, e, below_e, a, address, ip, host, message}
use Rattle.cache_laws.proofs.Worked.{section, spelled, second_is_of_it, differ, own_answer}
use Rattle.cache_laws.proofs.Worked.{own_answer_is_low, spelled_as_the_second}
use Rattle.cache_laws.proofs.WorkedDenials.{soa, soa_fits, lives_ten_minutes, lives_a_second_more}

-- ---- one set, of two addresses

abbrev plain : Message
plain = message true 0 section []

abbrev pub seen : Message → Reply
seen m = reply_of config m address 0

pub on_route : (m : Message) → IsOnRoute (seen m) a
unfolding route_of
on_route m = route_found_is_longest routes a 0 refl

-- a set of addresses at the asked name, authoritative, with this owner, data and lifetime
abbrev addresses_of : List (List ℕ) → List (List ℕ) → ℕ → Piece
addresses_of owner each lifetime = record {
  owner = owner;
  slot = record { key = lowered owner; class = 1; kind = Some 1 };
  body = rows each;
  lifetime = lifetime;
  rank = 3;
  route = 0;
}

no_denial : (class : ℕ) (authority : List Record) (p : Piece) (each : List (List ℕ)) → p.body ≡ rows each
    → IsDenialFrom class authority p
no_denial class authority p each is = record {
  of_type = λ soa body. absurd (let wrong : rows each ≡ no_data soa = sym is ∙ body in cc);
  of_name = λ soa body. absurd (let wrong : rows each ≡ denied soa = sym is ∙ body in cc);
}

walked : (p : Piece) → IsSetAt 1 a p → AreWalked (seen plain) (p ∷ []) found
walked p at = record {
  targets = [];
  last = a;
  lead = refl;
  aliases = [];
  closing = p ∷ [];
  parts = refl;
  are = tt;
  ends = record {
    few = omega arith;
    on_route = on_route plain;
    p = p;
    alone = refl;
    is = record { set = at; one = λ five. absurd (omega (arith, five)) };
  };
}

none_beside : (pieces : List Piece) → AreServers (seen plain) pieces []
none_beside pieces = record {
  each = tt;
  all = λ s fit. absurd fit.server.there;
  apart = tt;
  in_order = λ p q h. absurd h;
}

alone : (p : Piece) → IsPieceOf (seen plain) p → IsSetAt 1 a p → IsCarriedBy config plain address 0 (p ∷ []) [] found
alone p of_p at = record {
  each = (of_p, tt);
  walk = walked p at;
  servers_are = λ _ _. none_beside (p ∷ []);
  none_without_authority = λ _. refl;
  none_if_lame = λ _. refl;
}

-- all else holds of such a set, so that the reply carries it wherever it is the section's
carried_if_whole : (owner : List (List ℕ)) (each : List (List ℕ)) (lifetime : ℕ) → IsSame owner a
    → IsSetFrom section (addresses_of owner each lifetime)
    → IsCarriedBy config plain address 0 (addresses_of owner each lifetime ∷ []) [] found
carried_if_whole owner each lifetime is set = alone (addresses_of owner each lifetime) (record {
  set = set;
  denial = no_denial 1 [] (addresses_of owner each lifetime) each refl;
  ranked = record {
    highest = λ _ _. refl;
    authoritative = λ _. refl;
    own = λ _. is;
    lowest = λ other. absurd (other refl);
  };
  own = record { name = refl; class = refl; route = refl };
}) (record { owner = is; kind_is = refl; each = each; body = refl })

whole : IsCarriedBy config plain address 0 (addresses_of (below_e 65) (ip 5 ∷ ip 6 ∷ []) 60 ∷ []) [] found
whole = carried_if_whole (below_e 65) (ip 5 ∷ ip 6 ∷ []) 60 refl
    (set_from address 3 0 section (host (below_e 65) 300 5) (host a 300 6 ∷ host a 60 5 ∷ []) refl)

first_of_it : IsRecordFor spelled section (host (below_e 65) 300 5)
first_of_it = record { there = inl refl; kind = refl; class = refl; name = refl }

last_of_it : IsRecordFor spelled section (host a 60 5)
last_of_it = record { there = inr (inr (inr (inl refl))); kind = refl; class = refl; name = refl }

-- a record is left out
left_out : IsSetFrom section (addresses_of (below_e 65) (ip 5 ∷ []) 60) → ⊥
left_out h = let d : AreDataOf spelled section (ip 5 ∷ []) = h.data_are 1 (ip 5 ∷ []) refl refl in
    elim (d.whole (host a 300 6) second_is_of_it) [
      | inl is ↦ differ (ip 6) (ip 5) refl is
      | inr none ↦ none
    ]

-- the data is turned round
turned_round : IsSetFrom section (addresses_of (below_e 65) (ip 6 ∷ ip 5 ∷ []) 60) → ⊥
turned_round h = let order : AreInOrder spelled section (ip 6 ∷ ip 5 ∷ []) =
    h.in_order 1 (ip 6 ∷ ip 5 ∷ []) refl refl in
    elim (order (ip 6) (ip 5) (inl (refl, inl refl))) [
      | inl first ↦ differ (ip 5) (ip 6) refl first.1
      | inr later ↦ later.0 first_of_it refl
    ]

-- the owner is spelled as in the second record
spelled_otherwise : IsSetFrom section (addresses_of a (ip 5 ∷ ip 6 ∷ []) 60) → ⊥
spelled_otherwise h = spelled_as_the_second (h.spelled 1 (ip 5 ∷ ip 6 ∷ []) refl refl)

-- it lives a second longer than its shortest TTL
a_second_longer : IsSetFrom section (addresses_of (below_e 65) (ip 5 ∷ ip 6 ∷ []) 61) → ⊥
a_second_longer h = let life : IsLowestTtl spelled section 61 = h.lives 1 (ip 5 ∷ ip 6 ∷ []) refl refl in
    omega (arith, life.least (host a 60 5) 60 last_of_it (top_bit_is_none 60))

-- ---- the rank, and what the piece is of

-- the whole set, with another rank, or of another route
abbrev ranked_so : ℕ → ℕ → Piece
ranked_so rank route = set_with rank route (host (below_e 65) 300 5) (host a 300 6 ∷ host a 60 5 ∷ [])

carried_if_ranked : (rank route : ℕ) → IsRanked true a (below_e 65) rank
    → IsOfReply (seen plain) (ranked_so rank route)
    → IsCarriedBy config plain address 0 (ranked_so rank route ∷ []) [] found
carried_if_ranked rank route ranked own = alone (ranked_so rank route) (record {
  set = set_from address rank route section (host (below_e 65) 300 5) (host a 300 6 ∷ host a 60 5 ∷ []) refl;
  denial = no_denial 1 [] (ranked_so rank route) (ip 5 ∷ ip 6 ∷ []) refl;
  ranked = ranked;
  own = own;
}) (record { owner = refl; kind_is = refl; each = ip 5 ∷ ip 6 ∷ []; body = refl })

highest : IsCarriedBy config plain address 0 (ranked_so 3 0 ∷ []) [] found
highest = carried_if_ranked 3 0 own_answer (record { name = refl; class = refl; route = refl })

lowest_rank : IsRanked true a (below_e 65) 1 → ⊥
lowest_rank = own_answer_is_low

another_route : IsOfReply (seen plain) (ranked_so 3 1) → ⊥
another_route h = omega (arith, h.route)

-- ---- a denial lives by its SOA

abbrev silent : Message
silent = message true 0 [] (soa e 1 3600 ∷ [])

abbrev zone : Option Record
zone = Some (soa e 1 3600)

abbrev silence : ℕ → Piece
silence lifetime = record {
  owner = a;
  slot = record { key = a; class = 1; kind = Some 1 };
  body = no_data zone;
  lifetime = lifetime;
  rank = 3;
  route = 0;
}

carried_if_lives : (lifetime : ℕ) → IsDenialFrom 1 (soa e 1 3600 ∷ []) (silence lifetime)
    → IsCarriedBy config silent address 0 (silence lifetime ∷ []) [] ends_no_data
carried_if_lives lifetime denial = record {
  each = (
    record {
      set = record {
        data_are = λ kind each _ body. absurd (let wrong : no_data zone ≡ rows each = body in cc);
        in_order = λ kind each _ body. absurd (let wrong : no_data zone ≡ rows each = body in cc);
        spelled = λ kind each _ body. absurd (let wrong : no_data zone ≡ rows each = body in cc);
        lives = λ kind each _ body. absurd (let wrong : no_data zone ≡ rows each = body in cc);
      };
      denial = denial;
      ranked = record {
        highest = λ _ _. refl;
        authoritative = λ _. refl;
        own = λ _. refl;
        lowest = λ other. absurd (other refl);
      };
      own = record { name = refl; class = refl; route = refl };
    },
    tt,
  );
  walk = record {
    targets = [];
    last = a;
    lead = refl;
    aliases = [];
    closing = silence lifetime ∷ [];
    parts = refl;
    are = tt;
    ends = record {
      few = omega arith;
      on_route = on_route silent;
      p = silence lifetime;
      alone = refl;
      is = record {
        other = λ three. omega (arith, three);
        nothing = record { no_set = λ s h. h.there; no_alias = λ s h. h.there };
        stated = inl (record { s = soa e 1 3600; there = inl refl; fits = soa_fits });
        owner = refl;
        kind_is = refl;
        soa = zone;
        body = refl;
      };
    };
  };
  servers_are = λ _ _. record {
    each = tt;
    all = λ s fit. elim fit.server.there [
      | inl is ↦ absurd (omega (arith, ap (λ (x : Record). x.kind) is, fit.server.kind))
      | inr none ↦ absurd none
    ];
    apart = tt;
    in_order = λ p q h. absurd h;
  };
  none_without_authority = λ _. refl;
  none_if_lame = λ _. refl;
}

lives_ten : IsDenialFrom 1 (soa e 1 3600 ∷ []) (silence 600)
lives_ten = record {
  of_type = λ held body.
      let is : zone ≡ held = (let told : no_data zone ≡ no_data held = body in cc) in
      record {
        first = subst (IsFirstSoa 1 a (soa e 1 3600 ∷ [])) is (inl (soa_fits, refl));
        lives = subst (λ (o : Option Record). LivesBy o 600) is lives_ten_minutes;
      };
  of_name = λ held body. absurd (let wrong : no_data zone ≡ denied held = body in cc);
}

ten_minutes : IsCarriedBy config silent address 0 (silence 600 ∷ []) [] ends_no_data
ten_minutes = carried_if_lives 600 lives_ten

past_ten_minutes : IsDenialFrom 1 (soa e 1 3600 ∷ []) (silence 601) → ⊥
past_ten_minutes h = lives_a_second_more (h.of_type zone refl).lives
