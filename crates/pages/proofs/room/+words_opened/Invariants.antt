-- words_opened: the words that a store or an acquire opens, read on the way down. Assumes nothing.
use Rattle.sizes.specs.Size.{code_of}
use Rattle.pages.proofs.room.+words_opened.Given as goal

abbrev pub decreases-words_opened : goal.decreases-words_opened
decreases-words_opened l = code_of l.size
