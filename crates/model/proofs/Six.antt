-- The laws and demands of the six sizes: the one instance of what is proved over any ladder. Assumes nothing.
use mathlib.Core.Path.{◌≡◌, refl}
use Prim.Native.Nat.{ℕ, zero-le}
use native.Mathlib.Omega.{arith}
use Rattle.sizes.specs.Ladder.{largest as largest_code, bytes, fan_out}
use Rattle.sizes.specs.Six.{six}
use Rattle.sizes.proofs.Six.{six-multiplies}
use Rattle.model.specs.Ladder.{fan, top, fans}
use Rattle.model.specs.Laws.{OfTables, SixProbes}
use Rattle.model.specs.Demands.{Demand2, Demand3}
use Rattle.model.specs.Rust.{word}
use Rattle.model.specs.AsOriginal.{Addressable, AsOriginal}
use Rattle.model.proofs.Probes.{probes-fans, fans-antitone}
use Rattle.model.proofs.Laws.{of_tables}
use Rattle.model.proofs.Demand2.{demand2}
use Rattle.model.proofs.Demand3.{demand3}
use Rattle.model.proofs.AsOriginal.{as-original}

pub six-tables : OfTables six
six-tables = of_tables six six-multiplies

-- 128 TiB are below 2^64
pub six-addressable : Addressable six
unfolding bytes largest_code word
six-addressable = omega arith

-- the fan-outs of the six sizes add up to 1,412
fans-six : fans six (top six) 0 ≡ 1412
unfolding fans fan top largest_code fan_out
fans-six = refl

-- no probe count of the six sizes is higher
pub probes-six : SixProbes
probes-six d' b h = omega (arith, probes-fans six (top six) d' b h, fans-antitone six (top six) 0 d' zero-le, fans-six)

module _ (most n : ℕ) where
  pub six-demand2 : Demand2 six most n
  six-demand2 = demand2 six most n

  pub six-demand3 : Demand3 six most n
  six-demand3 = demand3 six most n

  pub six-as-original : AsOriginal six most n
  six-as-original = as-original six most n
