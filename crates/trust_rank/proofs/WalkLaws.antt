-- The walk, as followed by a loop.
use Rattle.std.proofs.Common.{◌≡◌, ℕ, suc, Bool, false, List, [], ◌∷◌, ◌++◌, refl, sym, ap, ◌∙◌}
use Rattle.std.proofs.lemmas.Bool.{cond-false}
use Rattle.std.proofs.lemmas.List.{append-nil}
use Rattle.trust_rank.specs.Values.{Piece, End, elsewhere, Walk, Reply}
use Rattle.trust_rank.specs.Walks.{AtName, met_nothing, met_alias, met_at, ending, lame_walk, is_lame, with_alias, go_on, walk_from}

-- these pieces, and the walk after them
abbrev pub before : List Piece → Walk → Walk
before [] w = w
before (p ∷ ps) w = with_alias p (before ps w)

before_one_more : (ps : List Piece) (p : Piece) (w : Walk) → before (ps ++ p ∷ []) w ≡ before ps (with_alias p w)
before_one_more [] p w = refl
before_one_more (x ∷ ps) p w = ap (with_alias x) (before_one_more ps p w)

before_lame : (ps : List Piece) → before ps lame_walk ≡ lame_walk
before_lame [] = refl
before_lame (x ∷ ps) = ap (with_alias x) (before_lame ps)

before_end : (ps qs : List Piece) (end : End) → is_lame end ≡ false → before ps (ending qs end) ≡ ending (ps ++ qs) end
before_end [] qs end e = refl
before_end (x ∷ ps) qs end e = ap (with_alias x) (before_end ps qs end e) ∙ cond-false (is_lame end) lame_walk (ending (x ∷ (ps ++ qs)) end) e

-- on the way: the pieces so far and the walk from here are the whole walk
abbrev pub GoesOn : Reply → List Piece → ℕ → Bool → List (List ℕ) → Walk → Type 0
GoesOn r ps left is_first name whole = before ps (walk_from r left is_first name) ≡ whole

-- at a name, with aliases left
walk_here : (r : Reply) (ps : List Piece) (left less : ℕ) (is_first : Bool) (name : List (List ℕ)) (met : AtName) (whole : Walk) → GoesOn r ps left is_first name whole → left ≡ suc less
    → met ≡ met_at r is_first name → before ps (go_on (λ t. walk_from r less false t) name met) ≡ whole
unfolding walk_from
walk_here r ps left less is_first name met whole so_far is here =
    ap (λ (m : AtName). before ps (go_on (λ t. walk_from r less false t) name m)) here ∙ sym (ap (λ (n : ℕ). before ps (walk_from r n is_first name)) is) ∙ so_far

-- the walk ends here, before or with this piece
pub ends_here : (r : Reply) (ps qs : List Piece) (left less : ℕ) (is_first : Bool) (name : List (List ℕ)) (met : AtName) (end : End) (whole : Walk) → GoesOn r ps left is_first name whole → left ≡ suc less
    → met ≡ met_at r is_first name → go_on (λ t. walk_from r less false t) name met ≡ ending qs end → is_lame end ≡ false → ending (ps ++ qs) end ≡ whole
ends_here r ps qs left less is_first name met end whole so_far is here ends other =
    sym (ap (before ps) ends ∙ before_end ps qs end other) ∙ walk_here r ps left less is_first name met whole so_far is here

pub ends_before : (r : Reply) (ps : List Piece) (left less : ℕ) (is_first : Bool) (name : List (List ℕ)) (whole : Walk) → GoesOn r ps left is_first name whole → left ≡ suc less
    → met_nothing ≡ met_at r is_first name → ending ps (elsewhere name) ≡ whole
ends_before r ps left less is_first name whole so_far is here =
    ap (λ (xs : List Piece). ending xs (elsewhere name)) (sym (append-nil ps)) ∙ ends_here r ps [] left less is_first name met_nothing (elsewhere name) whole so_far is here refl refl

pub ends_lame : (r : Reply) (ps : List Piece) (left less : ℕ) (is_first : Bool) (name : List (List ℕ)) (met : AtName) (whole : Walk) → GoesOn r ps left is_first name whole → left ≡ suc less
    → met ≡ met_at r is_first name → go_on (λ t. walk_from r less false t) name met ≡ lame_walk → lame_walk ≡ whole
ends_lame r ps left less is_first name met whole so_far is here ends = sym (ap (before ps) ends ∙ before_lame ps) ∙ walk_here r ps left less is_first name met whole so_far is here

-- an alias leads on
pub goes_on : (r : Reply) (ps : List Piece) (left less : ℕ) (is_first : Bool) (name target : List (List ℕ)) (p : Piece) (whole : Walk) → GoesOn r ps left is_first name whole → left ≡ suc less
    → met_alias p target ≡ met_at r is_first name → GoesOn r (ps ++ p ∷ []) less false target whole
goes_on r ps left less is_first name target p whole so_far is here =
    before_one_more ps p (walk_from r less false target) ∙ walk_here r ps left less is_first name (met_alias p target) whole so_far is here

-- no more aliases may be taken
pub ends_long : (r : Reply) (ps : List Piece) (left : ℕ) (is_first : Bool) (name : List (List ℕ)) (whole : Walk) → GoesOn r ps left is_first name whole → left ≡ 0 → ending ps (elsewhere name) ≡ whole
unfolding walk_from
ends_long r ps left is_first name whole so_far none =
    ap (λ (xs : List Piece). ending xs (elsewhere name)) (sym (append-nil ps)) ∙ sym (before_end ps [] (elsewhere name) refl)
    ∙ sym (ap (λ (n : ℕ). before ps (walk_from r n is_first name)) none) ∙ so_far
