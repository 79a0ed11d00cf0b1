-- The authority section's name servers, gathered by a loop.
use Rattle.std.proofs.Common.{◌≡◌, ℕ, Bool, true, false, List, [], ◌∷◌, ◌++◌, length, refl, sym, ap, ◌∙◌, append_assoc}
use Rattle.std.specs.Prelude.{◌&&◌, ◌||◌}
use Rattle.std.specs.List.{list_any}
use Rattle.std.proofs.lemmas.Bool.{cond-true, cond-false}
use Rattle.std.proofs.lemmas.List.{append-nil}
use Rattle.std.proofs.lemmas.List.Folds.{list_any-append}
use Rattle.dns_message.specs.Values.{Record}
use Rattle.trust_rank.specs.Values.{Piece, Reply}
use Rattle.trust_rank.specs.Walks.{has_owner, is_server_for, begins_set, servers_with, servers_at, servers_from}
use Rattle.trust_rank.proofs.PieceLaws.{empty}

-- an owner is in two joined lists if in the first or the second
pub among_both : (name : List (List ℕ)) (ps qs : List Piece) → list_any (has_owner name) (ps ++ qs) ≡ (list_any (has_owner name) ps || list_any (has_owner name) qs)
among_both name ps qs = list_any-append (has_owner name) ps qs

and_no : (x : Bool) → (x && false) ≡ false
and_no true = refl
and_no false = refl

and_yes : (x : Bool) → (x && true) ≡ x
and_yes true = refl
and_yes false = refl

-- a record begins no set if the owner already has a piece
pub begins_none : (r : Reply) (carried : List Piece) (s : Record) → list_any (has_owner s.owner) carried ≡ true → begins_set r carried s ≡ false
begins_none r carried s there = rw there (and_no (is_server_for r s))

-- a record of a new owner begins a set if the record fits
pub begins_one : (r : Reply) (carried : List Piece) (s : Record) → list_any (has_owner s.owner) carried ≡ false → begins_set r carried s ≡ is_server_for r s
begins_one r carried s none = rw none (and_yes (is_server_for r s))

-- a record that begins no set adds none
pub none_put : (r : Reply) (carried sets : List Piece) (first : Record) (others : List Record) → begins_set r carried first ≡ false → sets ≡ sets ++ servers_at r carried first others
none_put r carried sets first others other =
    sym (append-nil sets) ∙ ap (λ (ps : List Piece). sets ++ ps) (sym (cond-false (begins_set r carried first) (servers_with r first others ∷ []) [] other))

-- a record that begins a set adds the set
pub one_put : (r : Reply) (carried sets : List Piece) (first : Record) (others : List Record) (p : Piece) → begins_set r carried first ≡ true → p ≡ servers_with r first others
    → sets ++ p ∷ [] ≡ sets ++ servers_at r carried first others
one_put r carried sets first others p here is =
    ap (λ (q : Piece). sets ++ q ∷ []) is ∙ ap (λ (ps : List Piece). sets ++ ps) (sym (cond-true (begins_set r carried first) (servers_with r first others ∷ []) [] here))

-- a step on to the next record
pub go_further : (r : Reply) (pieces sets new whole : List Piece) (rest others : List Record) (first : Record) → sets ++ servers_from r (pieces ++ sets) rest ≡ whole → rest ≡ first ∷ others
    → new ≡ sets ++ servers_at r (pieces ++ sets) first others → new ++ servers_from r (pieces ++ new) others ≡ whole
unfolding servers_from
go_further r pieces sets new whole rest others first so_far is more =
    let put : List Piece = servers_at r (pieces ++ sets) first others in
    ap (λ (ps : List Piece). ps ++ servers_from r (pieces ++ ps) others) more
    ∙ append_assoc sets put (servers_from r (pieces ++ (sets ++ put)) others)
    ∙ ap (λ (ps : List Piece). sets ++ (put ++ servers_from r ps others)) (sym (append_assoc pieces sets put))
    ∙ sym (ap (λ (rs : List Record). sets ++ servers_from r (pieces ++ sets) rs) is)
    ∙ so_far

-- no record is left
pub all_put : (r : Reply) (pieces sets whole : List Piece) (rest : List Record) → sets ++ servers_from r (pieces ++ sets) rest ≡ whole → length rest ≡ 0 → sets ≡ whole
unfolding servers_from
all_put r pieces sets whole rest so_far none =
    sym (append-nil sets) ∙ sym (ap (λ (rs : List Record). sets ++ servers_from r (pieces ++ sets) rs) (empty rest none)) ∙ so_far
