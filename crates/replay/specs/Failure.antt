-- Why a replay stops before its end.
use Rattle.std.specs.Prelude.{⊤}
use Rattle.replay.specs.declared.failure.Failure.{Failure}
use Rattle.replay.specs.declared.failure.Failure.TheVariants.{Input, Output, TooLong}

-- it is the reader's failure
abbrev pub IsInput : Failure → Type 0
IsInput (Input e) = ⊤
IsInput (Output e) = ⊥
IsInput TooLong = ⊥
