use native.Mathlib.Omega.{arith}
use Rattle.pages.proofs.Seeds.{seed-way}
use Rattle.pages.proofs.room.seed_room.Goals as goal

pub words_opened-total-requires : goal.words_opened-total-requires
words_opened-total-requires c = seed-way c.largest_fit-size.result c.args.pool.now c.args.start.0 c.loop-at.at.0 c.args.end.0 c.requires (omega arith)
