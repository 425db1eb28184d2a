-- A store each turn, and the seed of what is left stays the seed. Assumes nothing.
use mathlib.Core.Path.{◌≡◌}
use Prim.Native.Nat.{◌-◌}
use lib.ListN.{length}
use Rattle.sizes.specs.Six.{six}
use Rattle.pool.specs.Nodes.{words, seed_w}
use Rattle.pool.specs.Asks.{SpanAsk}
use Rattle.pages.proofs.seeding.store_span.Given as goal

-- the rest may be stored, and the seed of the rest is the whole seed
abbrev pub invariant-loop-at : goal.invariant-loop-at
invariant-loop-at l =
    SpanAsk l.pool l.last l.at l.span.end.0 × (length l.pool ≡ length l.initial.pool)
    × (seed_w six (l.span.end.0 - l.at) (words l.pool l.last) l.at l.span.end.0 ≡ seed_w six (l.span.end.0 - l.initial.at) (words l.initial.pool l.initial.last) l.initial.at l.span.end.0)

abbrev pub decreases-loop-at : goal.decreases-loop-at
decreases-loop-at l = l.span.end.0 - l.at
