-- The walk as it runs: a node's check enters its block, and the block's check walks over the children one by one. Assumes nothing.
use Rattle.std.proofs.Common.{◌≡◌, ◌+◌, ◌-◌, ◌*◌, ◌<◌}
use Rattle.sizes.specs.Six.{six}
use Rattle.sizes.specs.Size.{code_of}
use Rattle.pool.specs.Words.{fan_out_of}
use Rattle.pool.specs.Check.{walk_block}
use Rattle.pages.specs.Walk.{grown_below, grown_below_children, used_of}
use Rattle.pages.proofs.sound.Walk.+check.Given as goal

-- a block is checked by its parent's size: each call falls
abbrev pub decreases-block_check : goal.decreases-block_check
decreases-block_check l = code_of l.size * 2

abbrev pub decreases-node_check : goal.decreases-node_check
decreases-node_check l = code_of l.size * 2 + 1

-- what is left of the block is walked from the count so far as the whole was
abbrev pub invariant-block_check-loop-number : goal.invariant-block_check-loop-number
invariant-block_check-loop-number l = record {
  below : l.grown < used_of l.self;
  same : walk_block (grown_below l.self (code_of l.below)) (l.first.0 + l.number) (l.base.0 + l.number * l.frames) l.frames (fan_out_of six (code_of l.fn.size) - l.number) l.grown ≡ grown_below_children l.self (code_of l.fn.size) l.first.0 l.base.0 l.fn.count;
}
