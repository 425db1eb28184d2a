-- The sweep goes from block to block.
use Rattle.std.proofs.Common.{◌≡◌, ◌-◌, ◌≤◌}
use Rattle.sizes.specs.Six.{six, most_code}
use Rattle.pool.specs.Words.{fan_out_of}
use Rattle.pool.specs.Check.{sweep}
use Rattle.pages.specs.Walk.{used_of}
use Rattle.pages.proofs.sound.Walk.sweep.Given as goal

-- what is left from the block on has the answer
abbrev pub invariant-loop-block : goal.invariant-loop-block
invariant-loop-block l = record {
  some : 1 ≤ l.block;
  within : l.block ≤ used_of l.self;
  same : sweep (fan_out_of six) l.self.pool.now most_code (used_of l.self - 1) 1 0 ≡ sweep (fan_out_of six) l.self.pool.now most_code (used_of l.self - l.block) l.block 0;
}

abbrev pub decreases-loop-block : goal.decreases-loop-block
decreases-loop-block l = used_of l.self - l.block
