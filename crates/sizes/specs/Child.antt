-- A child that a node may have, in numbers: where there is none both are 0.
use Rattle.std.specs.Prelude.{ℕ, Option, Some, None}
use Rattle.sizes.specs.Size.{code_of}
use Rattle.sizes.specs.declared.node.Child.{Child}

abbrev pub address_or_0 : Option Child → ℕ
address_or_0 None = 0
address_or_0 (Some c) = c.address.0

abbrev pub code_or_0 : Option Child → ℕ
code_or_0 None = 0
code_or_0 (Some c) = code_of c.size
