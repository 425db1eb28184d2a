-- What a reader behind a buffer has left: the bytes that were read ahead, and then the reader's.
use Rattle.std.specs.Prelude.{ℕ, List, slice_range}
use Rattle.std.specs.declared.option.Option.{Option}
use Rattle.std.specs.Io.KnownBytes.{prepend_known}
use Rattle.replay.specs.declared.input.Source.{Source}

-- the bytes that were read and are not yet taken
abbrev pub ahead : {T : Type 0} → Source T → List ℕ
ahead s = slice_range s.bytes s.start s.end

-- those, and then the reader's, where these are known
abbrev pub left : {T : Type 0} → (T → Option (List ℕ)) → Source T → Option (List ℕ)
left remaining s = prepend_known (ahead s) (remaining s.reader)
