use Rattle.std.proofs.Common.{◌≡◌, drop}
use Rattle.outstanding.specs.Draws.{udp_draw}
use Rattle.outstanding.proofs.draws.draw.Given as goal

-- the draw from the words left is the draw from all words
abbrev pub invariant-loop-word : goal.invariant-loop-word
invariant-loop-word g l = udp_draw (drop l.word-index l.word-items) l.inquiries.asks l.freed ≡ udp_draw l.fn.words l.inquiries.asks l.freed
