-- The total is that of the sizes below. Assumes nothing.
use mathlib.Core.List.{List, ◌∷◌}
use mathlib.Core.Path.{◌≡◌}
use Prim.Native.Nat.{ℕ, suc, ◌+◌, ◌*◌, ◌≤◌}
use Rattle.sizes.specs.Six.{six, most_children}
use Rattle.model.specs.Calls.{Region}
use Rattle.pool.specs.Limits.{places, most_frames}
use Rattle.pool.specs.Planned.{blocks_by}
use Rattle.pool.specs.Regions.{regions_of}
use Rattle.pages.specs.declared.span.Span.{Span}
use Rattle.pages.specs.declared.state.State.{State}
use Rattle.pages.proofs.plan.room_of.Given as goal

-- the span in front, and the regions
abbrev pub all : State → Span → List Region
all state span = record { start = span.start.0; end = span.end.0 } ∷ regions_of six state.starts state.ends

-- more words than one size has
abbrev pub most : ℕ
most = (most_children + 1) * ((places + 1) * most_frames)

abbrev pub invariant-loop-size : goal.invariant-loop-size
invariant-loop-size l =
    (l.total ≤ (l.size-index + 1) * most) × (l.total ≡ suc (blocks_by six (all l.state l.span) l.size-index))
