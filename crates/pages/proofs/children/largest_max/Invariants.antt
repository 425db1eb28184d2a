-- `largest_max` keeps the larger of what it has seen and what is left. Assumes nothing.
use Rattle.std.proofs.Common.{◌≡◌, ◌<◌, drop, max}
use Rattle.model.specs.Lists.{maximum}
use Rattle.pool.specs.Words.{max_of}
use Rattle.pages.proofs.children.largest_max.Given as goal

abbrev pub invariant-loop-word : goal.invariant-loop-word
invariant-loop-word l =
    (l.largest < 8) × (max l.largest (maximum max_of (drop l.word-index l.children)) ≡ maximum max_of l.children)
