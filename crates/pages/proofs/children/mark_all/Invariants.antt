-- `mark_all` rewrites the words one by one. Assumes nothing.
use Rattle.std.proofs.Common.{◌≡◌}
use Rattle.pool.specs.Nodes.{map_run, with_marks}
use Rattle.pages.proofs.children.mark_all.Given as goal

abbrev pub invariant-loop-word : goal.invariant-loop-word
invariant-loop-word l = l.children ≡ map_run (with_marks l.marks) l.initial.children 0 l.word-index
