-- The journals of `specs/Cases`, computed. Assumes nothing.
use mathlib.Core.Path.{refl}
use Rattle.sizes.specs.Ladder.{largest as largest_code, fan_out}
use Rattle.model.specs.Ladder.{fan, frames, top, probes}
use Rattle.model.specs.Lists.{maximum, sum, all, first}
use Rattle.model.specs.Tree.{largest, words, merge, free_frames, opened, handed_on, store, remove, pick}
use Rattle.model.specs.TreeStore.{any_free, largest_fit, seed_from, used, act, tests, step}
use Rattle.model.specs.Frames.{count}
use Rattle.model.specs.Calls.{seeded}
use Rattle.model.specs.FrameStore.{frame_step, frame_act, refusals, lowest_free, largest_free, first_below, all_below, whole, bare}
use Rattle.model.specs.Cases.{answers_from, FrameJournal, lines_from, Journal, Cascade, LowestFirst, Inside, Touching, LastFrame, TooShort, JustFits}

pub journal : Journal
unfolding lines_from largest_code fan_out fan frames top probes maximum sum all first largest words merge free_frames opened handed_on store remove pick any_free largest_fit seed_from used act tests step
journal = refl

pub cascade : Cascade
unfolding lines_from largest_code fan_out fan frames top probes maximum sum all first largest words merge free_frames opened handed_on store remove pick any_free largest_fit seed_from used act tests step
cascade = refl

pub lowest-first : LowestFirst
unfolding lines_from largest_code fan_out fan frames top probes maximum sum all first largest words merge free_frames opened handed_on store remove pick any_free largest_fit seed_from used act tests step
lowest-first = refl

pub inside : Inside
unfolding lines_from largest_code fan_out fan frames top probes maximum sum all first largest words merge free_frames opened handed_on store remove pick any_free largest_fit seed_from used act tests step
inside = refl

pub touching : Touching
unfolding lines_from largest_code fan_out fan frames top probes maximum sum all first largest words merge free_frames opened handed_on store remove pick any_free largest_fit seed_from used act tests step
touching = refl

pub last_frame : LastFrame
unfolding lines_from largest_code fan_out fan frames top probes maximum sum all first largest words merge free_frames opened handed_on store remove pick any_free largest_fit seed_from used act tests step
last_frame = refl

pub too_short : TooShort
unfolding lines_from largest_code fan_out fan frames top probes maximum sum all first largest words merge free_frames opened handed_on store remove pick any_free largest_fit seed_from used act tests step
too_short = refl

pub just-fits : JustFits
unfolding lines_from largest_code fan_out fan frames top probes maximum sum all first largest words merge free_frames opened handed_on store remove pick any_free largest_fit seed_from used act tests step
just-fits = refl

pub frame-journal : FrameJournal
unfolding answers_from frame_step frame_act refusals lowest_free largest_free first_below all_below whole bare seeded count probes frames fan top largest_code fan_out
frame-journal = refl
