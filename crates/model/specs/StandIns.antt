-- What the original's allocator needs of the rest of the monitor, as small as in the oracle's stand_ins.rs. A page size is its code, an address is in bytes; `start_address` is the Rust's name.
use Rattle.std.specs.Prelude.{Bool, List, ℕ, zero, suc, ◌+◌, ◌%◌, ltb, eqb}
use Rattle.std.proofs.Math.Option.{Option, none, some}
use Rattle.sizes.specs.Ladder.{Ladder, bytes, smaller}
use Rattle.model.specs.Rust.{Ends, gives, ◌>>=◌, ◌>>◌, assert, plus, times, over, unwrap, element, collect_from, for_each}

-- the errors that the allocator names
pub data Error : Type 0 where
  TooMuchMemory : Error
  OutOfPages : Error

-- Option<PageSize>: a code, where 0 is no size
abbrev pub coded : ℕ → Option ℕ
coded zero = none
coded (suc c) = some (suc c)

-- confidential_address_at_offset_bounded(address, offset, end).is_ok()
abbrev pub is_bounded : (address offset end : ℕ) → Bool
is_bounded address offset end = ltb (address + offset) end

-- a page: a base and a size
pub record Page : Type 0 where
  pub start_address : ℕ
  pub size : ℕ

-- Page::init
abbrev pub init : (address size : ℕ) → Page
init address size = record { start_address = address; size = size }

module _ (L : Ladder) where
  -- the smaller pages of a page, in ascending order
  unfoldable pub divide : Page → Ends (List Page)
  divide page = do
    below ← unwrap (coded (smaller L page.size))
    number ← over (bytes L page.size) (bytes L below)
    collect_from 0 number (λ index. do
      offset ← times index (bytes L below)
      address ← plus page.start_address offset
      gives (init address below))

  -- the page of the new size at the first page's base; the pages must be just those that dividing it gives
  unfoldable pub merge_pages : List Page → (size : ℕ) → Ends Page
  merge_pages pages size = do
    page ← element pages 0
    assert (eqb (page.start_address % bytes L size) 0)
    end ← for_each pages page.start_address (λ end page. do
      assert (eqb page.size (smaller L size))
      assert (eqb page.start_address end)
      plus end (bytes L page.size))
    last ← plus page.start_address (bytes L size)
    assert (eqb end last)
    gives (init page.start_address size)
