-- The six sizes of document 01, as its table has them.
use Rattle.std.specs.Prelude.{[], ◌∷◌, ℕ, pred, length, get_or}
use Rattle.sizes.specs.Ladder.{Ladder}

-- by code: none, 4 KiB, 16 KiB, 2 MiB, 1 GiB, 512 GiB, 128 TiB
abbrev pub six : Ladder
six = record {
  sizes = 0 ∷ 4096 ∷ 16384 ∷ 2097152 ∷ 1073741824 ∷ 549755813888 ∷ 140737488355328 ∷ [];
  fan_outs = 0 ∷ 0 ∷ 4 ∷ 128 ∷ 512 ∷ 512 ∷ 256 ∷ [];
}

-- no code is higher, no page has more bytes, no node more children
abbrev pub most_code : ℕ
most_code = pred (length six.sizes)

abbrev pub most_bytes : ℕ
most_bytes = get_or six.sizes 6 0

abbrev pub most_children : ℕ
most_children = get_or six.fan_outs 5 0
