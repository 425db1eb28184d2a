-- The cases of document 01's journal and lines, computed. Assumes nothing.
use mathlib.Core.Path.{refl}
use Rattle.journal.specs.Entries.{number, entry_of}
use Rattle.journal.specs.Lines.{width, decimal, spaced, printed, line_text}
use Rattle.journal.specs.Cases.{Document, Printed}

pub document : Document
unfolding number entry_of
document = record {
  seed = refl;
  first = refl;
  second = refl;
  third = refl;
  release = refl;
  again = refl;
  report = refl;
  end = refl;
  cut_seed = refl;
  cut_acquire = refl;
  cut_release = refl;
  unknown_low = refl;
  unknown_high = refl;
}

pub lines : Printed
unfolding width decimal spaced printed line_text
lines = record { acquire = refl; report = refl; bad = refl }
