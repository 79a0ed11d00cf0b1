-- The walk's pieces are exactly the pieces carried by the reply.
use Rattle.std.proofs.Common.{◌≡◌, ◌≢◌, ℕ, Bool, true, false, cond, inl, inr, List, [], refl, sym, ap, ◌∙◌, subst}
use Rattle.std.specs.Prelude.{◌&&◌, not}
use Rattle.std.proofs.lemmas.Bool.{cond_both, cond-true, cases_Bool, false≢true, and_parts}
use Rattle.dns_message.specs.Values.{Question, Message}
use Rattle.dns_message.specs.Messages.{HasShapes}
use Rattle.suffix_routes.specs.Values.{Config, AllDiffer}
use Rattle.trust_rank.specs.Values.{Piece, End, lame, Walk, Reply, reply_of}
use Rattle.trust_rank.specs.Walks.{ending, is_lame, servers_from, carries_servers, with_servers, walk_of}
use Rattle.cache_laws.specs.Carried.{IsPieceOf, AreWalked, AreServers, IsCarriedBy, CarriedExactly}
use Rattle.cache_laws.proofs.Walks.{own_walk, own_walk_is_plain, beside, same_pieces, same_end, each_piece}
use Rattle.cache_laws.proofs.Ends.{lame_is}
use Rattle.cache_laws.proofs.Servers.{and_one, not_lame, others_carry_none}
use Rattle.cache_laws.proofs.AtNames.{each_of_reply}
use Rattle.cache_laws.proofs.WalkIs.{walk_is}
use Rattle.cache_laws.proofs.WalkOnly.{own_walk_only}
use Rattle.cache_laws.proofs.Beside.{servers_allowed, servers_only}

-- a lame walk has no name servers next to it
lame_has_none : (r : Reply) → (own_walk r).end ≡ lame → (with_servers r (own_walk r)).authority ≡ []
lame_has_none r is = let w : Walk = own_walk r in
    cond_both (carries_servers r w.end) (beside r w) w (λ (x : Walk). x.authority ≡ [])
    (λ carries. absurd (false≢true (sym (ap (λ (end : End). not (is_lame end)) is)
    ∙ (and_parts r.is_authoritative (not (is_lame w.end)) carries).1)))
    (λ _. own_walk_is_plain r)

is_carried : (c : Config) (m : Message) (q : Question) (route : ℕ) → AllDiffer c.routes
    → IsCarriedBy c m q route (walk_of c m q route).pieces (walk_of c m q route).authority (walk_of c m q route).end
is_carried c m q route differ =
    let r : Reply = reply_of c m q route in
    let w : Walk = own_walk r in
    record {
      each = each_piece c m q route (IsPieceOf r) (each_of_reply r);
      walk = subst (λ (ps : List Piece). AreWalked r ps (walk_of c m q route).end) (sym (same_pieces r w))
          (subst (λ (end : End). AreWalked r w.pieces end) (sym (same_end r w)) (walk_is r differ));
      servers_are = λ aa living.
          subst (λ (x : Walk). AreServers r x.pieces x.authority)
          (sym (cond-true (carries_servers r w.end) (beside r w) w (and_one m.header.aa (is_lame w.end) aa
          (not_lame w.end (λ is. living (same_end r w ∙ is))))))
          (servers_allowed r w.pieces differ);
      none_without_authority = others_carry_none c m q route;
      none_if_lame = λ is. lame_has_none r (sym (same_end r w) ∙ is);
    }

-- the walk with the allowed name servers next to it
servers_beside : (c : Config) (m : Message) (q : Question) (route : ℕ) (pieces servers : List Piece) (end : End)
    → AllDiffer c.routes → IsCarriedBy c m q route pieces servers end
    → with_servers (reply_of c m q route) (ending pieces end)
    ≡ record { pieces = pieces; authority = servers; end = end }
servers_beside c m q route pieces servers end differ h = by (carries_servers r end) refl
  where
    r : Reply
    r = reply_of c m q route

    none : (aa : Bool) → m.header.aa ≡ aa → (aa && not (is_lame end)) ≡ false → servers ≡ []
    none false clear isnt = h.none_without_authority clear
    none true set isnt = h.none_if_lame (lame_is end (lives isnt))
      where
        lives : not (is_lame end) ≡ false → is_lame end ≡ true
        lives e = elim (cases_Bool (is_lame end)) [
          | inl is ↦ is
          | inr other ↦ absurd (false≢true (sym e ∙ ap not other))
        ]

    by : (b : Bool) → carries_servers r end ≡ b
        → cond b (record { pieces = pieces; authority = servers_from r pieces r.authority; end = end })
        (ending pieces end)
        ≡ record { pieces = pieces; authority = servers; end = end }
    by true carries =
        let both = and_parts m.header.aa (not (is_lame end)) carries in
        let living : end ≢ lame =
        λ is. false≢true (sym (ap (λ (x : End). not (is_lame x)) is) ∙ both.1) in
        ap (λ (ss : List Piece). record { pieces = pieces; authority = ss; end = end })
        (servers_only r pieces (servers_from r pieces r.authority) servers
        (servers_allowed r pieces differ) (h.servers_are both.0 living))
    by false isnt = ap (λ (ss : List Piece). record { pieces = pieces; authority = ss; end = end })
        (sym (none m.header.aa refl isnt))

only_carried : (c : Config) (m : Message) (q : Question) (route : ℕ) (pieces servers : List Piece) (end : End)
    → AllDiffer c.routes → HasShapes m → IsCarriedBy c m q route pieces servers end
    → walk_of c m q route ≡ record { pieces = pieces; authority = servers; end = end }
only_carried c m q route pieces servers end differ shapes h =
    let r : Reply = reply_of c m q route in
    ap (with_servers r) (own_walk_only r pieces end differ shapes.authority h.each h.walk)
    ∙ servers_beside c m q route pieces servers end differ h

pub carried_exactly : CarriedExactly
carried_exactly = record { is = is_carried; only = only_carried }
