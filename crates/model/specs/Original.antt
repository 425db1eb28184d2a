-- The original's allocator (allocator.rs of IBM/ACE-RISCV) on values, function by function, in its order as far as a definition stands before its use. Names are the Rust's, but for `StorageNode`, `token_of`, `max_of`, `empty_node`, `empty_allocator` and `region_loop`.
-- Each assert, unwrap, index and step of arithmetic of the Rust is here and may end in `panics`, as does a loop that has no turns left. Sizes are codes of a ladder, addresses are in bytes.
use Rattle.std.specs.Prelude.{if◌then◌else◌, ◌&&◌, not, List, [], ℕ, zero, suc, ◌+◌, ◌-◌, ◌%◌, leb, ltb, eqb, length, set, replicate}
use Rattle.std.proofs.Math.Option.{Option, none, some}
use Rattle.sizes.specs.Ladder.{Ladder, smallest, largest, bytes, fan_out, smaller, larger}
use Rattle.model.specs.Lists.{all}
use Rattle.model.specs.Rust.{Ends, panics, gives, ◌>>=◌, ◌>>◌, assert, plus, times, minus, over, is_some, unwrap, at_least, max_option, Result, ok, unwrap_ok, ensure, element, is_empty, position, max_of_all, map_collect, for_each, while}
use Rattle.model.specs.StandIns.{Error, TooMuchMemory, OutOfPages, coded, is_bounded, Page, init, divide, merge_pages}

-- a node, for the type of its children
pub record StorageNode (A : Type 0) : Type 0 where
  pub page_token : Option Page
  pub max_allocable_page_size : Option ℕ
  pub children : List A

-- the nodes of a code: their children have the code below. No node has the code 0
abbrev pub PageStorageTreeNode : ℕ → Type 0
PageStorageTreeNode zero = Unit {0}
PageStorageTreeNode (suc c) = StorageNode (PageStorageTreeNode c)

-- the token of a child, its largest allocable size, and a child without any (PageStorageTreeNode::empty)
abbrev pub token_of : (c : ℕ) → PageStorageTreeNode c → Option Page
token_of zero self = none
token_of (suc c) self = self.page_token

abbrev pub max_of : (c : ℕ) → PageStorageTreeNode c → Option ℕ
max_of zero self = none
max_of (suc c) self = self.max_allocable_page_size

abbrev pub empty_node : (c : ℕ) → PageStorageTreeNode c
empty_node zero = tt
empty_node (suc c) = record { page_token = none; max_allocable_page_size = none; children = [] }

-- the allocator, of a root of the given size
pub record PageAllocator (page_size : ℕ) : Type 0 where
  pub base_address : ℕ
  pub root : PageStorageTreeNode page_size

-- PageAllocator::empty, where the Rust's size is the largest
abbrev pub empty_allocator : (c : ℕ) → PageAllocator c
empty_allocator c = record { base_address = 0; root = empty_node c }

-- puts the token into the node itself
unfoldable pub store_page_token_in_this_node : (c : ℕ) → Page → PageStorageTreeNode c → PageStorageTreeNode c
store_page_token_in_this_node zero page self = tt
store_page_token_in_this_node (suc c) page self = record { page_token = some page; max_allocable_page_size = some page.size; children = self.children }

-- takes the token out of the node itself
unfoldable pub acquire_page_token_from_this_node : (c : ℕ) → PageStorageTreeNode c → Ends (Page × PageStorageTreeNode c)
acquire_page_token_from_this_node zero self = panics
acquire_page_token_from_this_node (suc c) self = do
  assert (is_some self.page_token)
  page ← unwrap self.page_token
  gives (page, record { page_token = none; max_allocable_page_size = none; children = self.children })

-- in the functions that change a node of code suc c, c is its children's code
module _ (L : Ladder) where
  -- the largest page size that is aligned at the address and ends in the region, from a size that is aligned
  unfoldable pub find_largest_page_size : (size address end : ℕ) → Ends ℕ
  find_largest_page_size size address end = do
    aligned ← while (largest L) (λ c. gives (is_some (coded (larger L c)) && eqb (address % bytes L (larger L c)) 0)) (larger L) size
    while (largest L) (λ c. do
      last ← minus (bytes L c) 1
      gives (not (is_bounded address last end) && is_some (coded (smaller L c)))) (smaller L) aligned

  -- makes the children if there are none
  unfoldable pub initialize_children_if_needed : (c : ℕ) → PageStorageTreeNode (suc c) → PageStorageTreeNode (suc c)
  initialize_children_if_needed c self =
      let children = if is_empty self.children then replicate (fan_out L (suc c)) (empty_node c) else self.children in
      record { page_token = self.page_token; max_allocable_page_size = self.max_allocable_page_size; children = children }

  -- the index of the child that can store the token
  unfoldable pub calculate_child_index : (base c : ℕ) → Page → Ends ℕ
  calculate_child_index base c page = do
    assert (ltb page.size c)
    offset ← minus page.start_address base
    below ← unwrap (coded (smaller L c))
    over offset (bytes L below)

  -- hands the node's token on to the children, if it has one
  unfoldable pub divide_page_token_if_necessary : (c base : ℕ) → PageStorageTreeNode (suc c) → Ends (PageStorageTreeNode (suc c))
  divide_page_token_if_necessary c base self = elim self.page_token [
    | none ↦ gives self
    | some page ↦ do
      pages ← divide L page
      assert (eqb (length pages) (length self.children))
      children ← for_each pages self.children (λ children page. do
        index ← calculate_child_index base (suc c) page
        child ← element children index
        gives (set children index (store_page_token_in_this_node c page child)))
      below ← unwrap (coded (smaller L (suc c)))
      gives (record { page_token = none; max_allocable_page_size = some below; children = children })
  ]

  -- merges the children's tokens, if all have one
  unfoldable pub try_to_merge_page_tokens : (c : ℕ) → PageStorageTreeNode (suc c) → Ends (PageStorageTreeNode (suc c))
  try_to_merge_page_tokens c self = if all (λ child. is_some (token_of c child)) self.children
      then (do
        (pages, children) ← map_collect (acquire_page_token_from_this_node c) self.children
        merged ← merge_pages L pages (suc c)
        assert (eqb merged.size (suc c))
        gives (record { page_token = some merged; max_allocable_page_size = some (suc c); children = children }))
      else gives self

  -- the base address and the size of the child at the index
  unfoldable pub child_address_and_size : (base c index : ℕ) → Ends (ℕ × ℕ)
  child_address_and_size base c index = do
    assert (is_some (coded (smaller L c)))
    below ← unwrap (coded (smaller L c))
    address ← plus base (← times index (bytes L below))
    gives (address, below)

  -- stores the token at its place in the node or below, and gives the largest size that the node then offers
  unfoldable pub store_page_token : (c base : ℕ) → Page → PageStorageTreeNode c → Ends (PageStorageTreeNode c × ℕ)
  store_page_token zero base page self = panics
  store_page_token (suc c) base page self = do
    assert (leb page.size (suc c))
    this ← if eqb (suc c) page.size
        then (do
          assert (eqb base page.start_address)
          assert (eqb (suc c) page.size)
          gives (store_page_token_in_this_node (suc c) page self))
        else (do
          assert (is_some (coded (smaller L (suc c))))
          let opened = initialize_children_if_needed c self
          index ← calculate_child_index base (suc c) page
          (address, below) ← child_address_and_size base (suc c) index
          child ← element opened.children index
          (stored, allocable) ← store_page_token c address page child
          let most = max_option opened.max_allocable_page_size (some allocable)
          try_to_merge_page_tokens c (record { page_token = opened.page_token; max_allocable_page_size = most; children = set opened.children index stored }))
    most ← unwrap this.max_allocable_page_size
    gives (this, most)

  -- takes a token of the wanted size out of the node or from below
  unfoldable pub acquire_page_token : (c base want : ℕ) → PageStorageTreeNode c → Ends (Result Page Error × PageStorageTreeNode c)
  acquire_page_token zero base want self = panics
  acquire_page_token (suc c) base want self = ensure (at_least self.max_allocable_page_size want) OutOfPages self (if eqb (suc c) want
      then (do
        assert (is_some self.page_token)
        (page, left) ← acquire_page_token_from_this_node (suc c) self
        assert (eqb base page.start_address)
        assert (eqb (suc c) page.size)
        gives (ok page, left))
      else (do
        assert (is_some (coded (smaller L (suc c))))
        divided ← divide_page_token_if_necessary c base (initialize_children_if_needed c self)
        index ← position (λ child. at_least (max_of c child) want) divided.children
        (address, below) ← child_address_and_size base (suc c) index
        child ← element divided.children index
        (result, left) ← acquire_page_token c address want child
        page ← unwrap_ok result
        let children = set divided.children index left
        gives (ok page, record { page_token = divided.page_token; max_allocable_page_size = max_of_all (max_of c) children; children = children })))

  -- the loop below, with the size of the turn before
  unfoldable pub region_loop : (turns c base before address end : ℕ) → PageStorageTreeNode c → Ends (PageStorageTreeNode c)
  region_loop zero c base before address end root = panics
  region_loop (suc n) c base before address end root = do
    size ← find_largest_page_size before address end
    last ← minus (bytes L size) 1
    stored ← if is_bounded address last end
        then (do
          (this, allocable) ← store_page_token c base (init address size) root
          gives this)
        else gives root
    if is_bounded address (bytes L size) end then region_loop n c base size (address + bytes L size) end stored else gives stored

  -- stores the region in as few tokens as can be
  unfoldable pub add_memory_region : (c start end : ℕ) → PageAllocator c → Ends (Result (Unit {0}) Error × PageAllocator c)
  add_memory_region c start end self = do
    assert (eqb (start % bytes L smallest) 0)
    assert (eqb (end % bytes L smallest) 0)
    assert (ltb start end)
    ensure (leb end (bytes L c)) TooMuchMemory self (do
      root ← region_loop (end - start) c self.base_address smallest start end self.root
      gives (ok tt, record { base_address = self.base_address; root = root }))

  -- takes a page of the size
  unfoldable pub acquire_page : (c want : ℕ) → PageAllocator c → Ends (Result Page Error × PageAllocator c)
  acquire_page c want self = do
    (result, root) ← acquire_page_token c self.base_address want self.root
    gives (result, record { base_address = self.base_address; root = root })

  -- takes pages back
  unfoldable pub release_pages : (c : ℕ) → List Page → PageAllocator c → Ends (PageAllocator c)
  release_pages c pages self = for_each pages self (λ self page. do
    (root, allocable) ← store_page_token c self.base_address page self.root
    gives (record { base_address = self.base_address; root = root }))
