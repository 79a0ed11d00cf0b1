-- The random words that a wire gives.
use Rattle.std.specs.Prelude.{◌≡◌, ℕ, zero, suc, List, [], ◌∷◌, true, false}
use Rattle.rand_chacha.specs.ChaCha.{ChaCha, next_word}
use Rattle.socket_wire.specs.declared.words.Words.{Words}

-- the next words of ChaCha with 12 rounds, as many as this number
abbrev pub next_words : ℕ → ChaCha → List ℕ
next_words zero random = []
next_words (suc more) random = (next_word 6 random).0 ∷ next_words more (next_word 6 random).1

-- the generator after this number of words
abbrev pub after_words : ℕ → ChaCha → ChaCha
after_words zero random = random
after_words (suc more) random = after_words more (next_word 6 random).1

-- Unspent words are given again; after spent words come the next eight of the generator.
pub record GivesWords (result : List ℕ) (before after : Words) : Type 0 where
  pub given : result ≡ after.drawn
  pub unspent : after.is_spent ≡ false
  pub again : before.is_spent ≡ false → after ≡ before
  pub anew : before.is_spent ≡ true
      → (after.drawn ≡ next_words 8 before.random) × (after.random ≡ after_words 8 before.random)
