-- words_below: the words of a path, counted size by size. Assumes nothing.
use Rattle.sizes.specs.Size.{code_of}
use Rattle.pages.proofs.room.+words_below.Given as goal

abbrev pub decreases-words_below : goal.decreases-words_below
decreases-words_below l = code_of l.size
