-- What the steps of the original that look at one node and its children do to the picture of a tree. Assumes nothing.
use mathlib.Core.Path.{◌≡◌, refl, sym, ap, ◌∙◌}
use mathlib.Core.Bool.{Bool, true, false, cond, and-eq-true_iff, false≢true}
use mathlib.Core.Option.{none, some}
use mathlib.Core.List.{List, [], ◌∷◌, ◌++◌, map}
use Prim.Native.Nat.{ℕ, zero, suc, ◌+◌, ◌*◌, ◌-◌, ◌/◌, ◌≤◌, ◌<◌}
use native.Mathlib.Omega.{arith}
use native.Mathlib.Nat.{not-suc-le-zero, mul-div_cancel}
use lib.Dec.{eqb}
use lib.ListN.{length, set, replicate, length-append}
use lib.Seq.{set_at, append_snoc}
use borrow.Author.Tests.{lt-ltb, le-leb, eq-eqb}
use Rattle.sizes.specs.Ladder.{Ladder, smallest, largest as largest_code, bytes, smaller}
use Rattle.sizes.specs.Laws.{MultipliesUp}
use Rattle.model.specs.Ladder.{fan, frames}
use Rattle.model.specs.Lists.{maximum, all}
use Rattle.model.specs.Tree.{node, Tree, token, empty, mark, child, largest, merge, Sound, opened, handed_on}
use Rattle.model.specs.Rust.{◌>>=◌, ◌>>◌, Ends, gives, assert, word, plus, times, is_some, element, map_collect, collect_from, for_each}
use Rattle.model.specs.StandIns.{coded, Page, init, divide, merge_pages}
use Rattle.model.specs.Original.{PageStorageTreeNode, token_of, max_of, empty_node, store_page_token_in_this_node, acquire_page_token_from_this_node, initialize_children_if_needed, calculate_child_index, divide_page_token_if_necessary, try_to_merge_page_tokens}
use Rattle.model.proofs.Ladder.{fan-pos, fan-is, bytes-fan, bytes-some, smaller-suc}
use Rattle.model.proofs.Lists.{maximum-zero, get_or-rep}
use Rattle.model.proofs.Free.{largest-empty}
use Rattle.model.proofs.Picture.{given, spread, NodeAt, picture}
use Rattle.model.proofs.OriginalLists.{spread-length, spread-all, spread-replicate, element-behind}
use Rattle.model.proofs.OriginalLadder.{index_is}

some-given : (v : Bool) (p : Page) → is_some (given v p) ≡ v
some-given true p = refl
some-given false p = refl

-- opening offers nothing new
largest-opened : (L : Ladder) (d : ℕ) (v : Bool) (ks : List (Tree d)) → largest (suc d) (node v (opened L d ks)) ≡ largest (suc d) (node v ks)
unfolding largest opened maximum
largest-opened L d true ks = refl
largest-opened L d false [] = maximum-zero (largest d) (replicate (fan L (suc d)) (empty d)) (empty d) (λ i. rw (get_or-rep (fan L (suc d)) i (empty d)) (largest-empty d))
largest-opened L d false (k ∷ ks) = refl

module _ (L : Ladder) where
  -- the loops of Page::merge, of Page::divide and of divide_page_token_if_necessary
  abbrev merge_loop : (size : ℕ) → List Page → (end : ℕ) → Ends ℕ
  merge_loop size pages end = for_each pages end (λ end page. do
    assert (eqb page.size (smaller L size))
    assert (eqb page.start_address end)
    plus end (bytes L page.size)
    )

  abbrev divide_at : (size base i n : ℕ) → Ends (List Page)
  divide_at size base i n = collect_from i n (λ index. do
    offset ← times index (bytes L size)
    address ← plus base offset
    gives (init address size)
    )

  abbrev divide_loop : (c base : ℕ) → List Page → List (PageStorageTreeNode c) → Ends (List (PageStorageTreeNode c))
  divide_loop c base pages children = for_each pages children (λ children page. do
    index ← calculate_child_index L base (suc c) page
    child ← element children index
    gives (set children index (store_page_token_in_this_node c page child))
    )

  -- n pages of a size, side by side
  unfoldable pages_from : (size n address : ℕ) → List Page
  pages_from size zero address = []
  pages_from size (suc n) address = init address size ∷ pages_from size n (address + bytes L size)

  pages-length : (size n base : ℕ) → length (pages_from size n base) ≡ n
  unfolding pages_from
  pages-length size zero base = refl
  pages-length size (suc n) base = ap suc (pages-length size n (base + bytes L size))

  -- the token and the largest size of a picture
  pub picture-token : (d base : ℕ) (t : Tree d) → (picture L d base t).page_token ≡ given (token d t) (init base (suc d))
  unfolding picture
  picture-token zero base t = refl
  picture-token (suc d) base (node v ks) = refl

  picture-has : (d base : ℕ) (t : Tree d) → is_some (token_of (suc d) (picture L d base t)) ≡ token d t
  picture-has d base t = rw (picture-token d base t) (some-given (token d t) (init base (suc d)))

  pub picture-most : (d base : ℕ) (t : Tree d) → max_of (suc d) (picture L d base t) ≡ coded (largest d t)
  unfolding picture
  picture-most zero base t = refl
  picture-most (suc d) base (node v ks) = refl

  pub picture-empty : (d base : ℕ) → picture L d base (empty d) ≡ empty_node (suc d)
  unfolding picture largest maximum spread
  picture-empty zero base = refl
  picture-empty (suc d) base = refl

  -- a node gets a token, and loses it
  pub picture-store : (d base : ℕ) (t : Tree d) → store_page_token_in_this_node (suc d) (init base (suc d)) (picture L d base t) ≡ picture L d base (mark d true t)
  unfolding picture largest store_page_token_in_this_node
  picture-store zero base t = refl
  picture-store (suc d) base (node v ks) = refl

  pub picture-acquire : (d base : ℕ) (t : Tree d) → Sound L d t → token d t ≡ true
      → acquire_page_token_from_this_node (suc d) (picture L d base t) ≡ gives (init base (suc d), picture L d base (mark d false t))
  unfolding picture largest acquire_page_token_from_this_node
  picture-acquire zero base true s e = refl
  picture-acquire zero base false s e = absurd (false≢true e)
  picture-acquire (suc d) base (node true ks) s e = rw (s.quiet refl)
  picture-acquire (suc d) base (node false ks) s e = absurd (false≢true e)

  -- all children lose theirs
  acquire-all : (d step base : ℕ) (ks : List (Tree d)) → step ≡ bytes L (suc d) → ((i : ℕ) → Sound L d (child d ks i)) → all (token d) ks ≡ true
      → map_collect (acquire_page_token_from_this_node (suc d)) (spread (picture L d) base step ks) ≡ gives (pages_from (suc d) (length ks) base, spread (picture L d) base step (map (mark d false) ks))
  unfolding map_collect spread pages_from all
  acquire-all d step base [] e s h = refl
  acquire-all d step base (k ∷ ks) e s h =
      let x = (and-eq-true_iff (token d k) (all (token d) ks)).0 h in
      rw (picture-acquire d base k (s 0) x.0, acquire-all d step (base + step) ks e (λ i. s (suc i)) x.1, e)

module _ (L : Ladder) (m : MultipliesUp L) (d base : ℕ) (here : NodeAt L (suc d) base) where
  code : suc (suc d) ≤ largest_code L
  code = here.code

  bytes-here : 0 < bytes L (suc d)
  bytes-here = bytes-some L m d (omega (arith, code))

  -- the pages of a block's children merge into its page
  merge-loop : (n address : ℕ) → address + n * bytes L (suc d) < word → merge_loop L (suc (suc d)) (pages_from L (suc d) n address) address ≡ gives (address + n * bytes L (suc d))
  unfolding for_each pages_from
  merge-loop zero address w = let e : address ≡ address + 0 * bytes L (suc d) = omega arith in ap gives e
  merge-loop (suc n) address w =
      let e : address + bytes L (suc d) + n * bytes L (suc d) ≡ address + suc n * bytes L (suc d) = omega arith in
      rw (smaller-suc L m d code, eq-eqb (suc d) (suc d) refl, eq-eqb address address refl, lt-ltb (address + bytes L (suc d)) word (omega arith))
      ((rw (smaller-suc L m d code) at (merge-loop n (address + bytes L (suc d)) (omega arith))) ∙ ap gives e)

  merge-pages : (n : ℕ) → 0 < n → n * bytes L (suc d) ≡ bytes L (suc (suc d)) → merge_pages L (pages_from L (suc d) n base) (suc (suc d)) ≡ gives (init base (suc (suc d)))
  unfolding merge_pages pages_from element
  merge-pages zero z e = absurd (not-suc-le-zero z)
  merge-pages (suc n) z e =
      rw (here.aligned, merge-loop (suc n) base (omega (arith, here.ends)), e, lt-ltb (base + bytes L (suc (suc d))) word here.ends, eq-eqb (base + bytes L (suc (suc d))) (base + bytes L (suc (suc d))) refl)

  -- merging is the tree's
  pub merge-is : (ks : List (Tree d)) → length ks ≡ fan L (suc d) → ((i : ℕ) → Sound L d (child d ks i))
      → try_to_merge_page_tokens L (suc d) (picture L (suc d) base (node false ks)) ≡ gives (picture L (suc d) base (merge d ks))
  unfolding try_to_merge_page_tokens picture merge largest
  merge-is ks len s = go (all (token d) ks) refl
    where
      same : all (λ k. is_some (token_of (suc d) k)) (spread (picture L d) base (bytes L (suc d)) ks) ≡ all (token d) ks
      same = spread-all (picture L d) (λ k. is_some (token_of (suc d) k)) (token d) (picture-has L d) base (bytes L (suc d)) ks

      n : length ks * bytes L (suc d) ≡ bytes L (suc (suc d))
      n = ap (λ (x : ℕ). x * bytes L (suc d)) len ∙ sym (bytes-fan L m d code)

      go : (x : Bool) → all (token d) ks ≡ x → try_to_merge_page_tokens L (suc d) (picture L (suc d) base (node false ks)) ≡ gives (picture L (suc d) base (merge d ks))
      go false e = rw (same ∙ e, e, try_to_merge_page_tokens)
      go true e = rw (same ∙ e, e, try_to_merge_page_tokens, acquire-all L d (bytes L (suc d)) base ks refl s e, merge-pages (length ks) (omega (arith, fan-pos L d)) n, eq-eqb (suc (suc d)) (suc (suc d)) refl)

  -- opening is the tree's
  pub initialize-is : (v : Bool) (ks : List (Tree d)) → initialize_children_if_needed L (suc d) (picture L (suc d) base (node v ks)) ≡ picture L (suc d) base (node v (opened L d ks))
  unfolding initialize_children_if_needed picture spread opened
  initialize-is v [] = rw (largest-opened L d v [], spread-replicate (picture L d) (empty d) (empty_node (suc d)) (picture-empty L d) base (bytes L (suc d)) (fan L (suc d)), fan-is L m d code)
  initialize-is v (k ∷ ks) = refl

  -- the child's number
  pub index_of : (b address d' : ℕ) → d' < suc d → address ≡ base + b * bytes L smallest → calculate_child_index L base (suc (suc d)) (init address (suc d')) ≡ gives (b / frames L d)
  unfolding calculate_child_index
  index_of b address d' l e = rw (lt-ltb (suc d') (suc (suc d)) (omega arith), le-leb base address (omega arith), smaller-suc L m d code, lt-ltb 0 (bytes L (suc d)) bytes-here, index_is L m d base b address code e)

  -- the place of the child that starts at an address
  index_at : (i address : ℕ) → address ≡ base + i * bytes L (suc d) → calculate_child_index L base (suc (suc d)) (init address (suc d)) ≡ gives i
  unfolding calculate_child_index
  index_at i address e =
      let z : address - base ≡ i * bytes L (suc d) = omega arith in
      rw (lt-ltb (suc d) (suc (suc d)) (omega arith), le-leb base address (omega arith), smaller-suc L m d code, z, lt-ltb 0 (bytes L (suc d)) bytes-here, mul-div_cancel i bytes-here)

  -- each child behind pre gets its token
  divide-loop : (pre : List (PageStorageTreeNode (suc d))) (address : ℕ) (ks : List (Tree d)) → address ≡ base + length pre * bytes L (suc d)
      → divide_loop L (suc d) base (pages_from L (suc d) (length ks) address) (pre ++ spread (picture L d) address (bytes L (suc d)) ks)
      ≡ gives (pre ++ spread (picture L d) address (bytes L (suc d)) (map (mark d true) ks))
  unfolding for_each pages_from spread
  divide-loop pre address [] e = refl
  divide-loop pre address (k ∷ ks) e =
      let y = picture L d address (mark d true k) in
      let B = bytes L (suc d) in
      let l : address + B ≡ base + length (pre ++ (y ∷ [])) * B = omega (arith, ap (λ (x : ℕ). x * B) (length-append pre (y ∷ []))) in
      let ih = divide-loop (pre ++ (y ∷ [])) (address + B) ks l in
      rw (index_at (length pre) address e, element-behind pre (picture L d address k) (spread (picture L d) (address + B) B ks), picture-store L d address k, set_at pre (picture L d address k) (spread (picture L d) (address + B) B ks) y (length pre) refl)
      (rw (append_snoc pre y (spread (picture L d) (address + B) B ks), append_snoc pre y (spread (picture L d) (address + B) B (map (mark d true) ks))) at ih)

  pages-loop : (n i : ℕ) → base + i * bytes L (suc d) + n * bytes L (suc d) < word → divide_at L (suc d) base i n ≡ gives (pages_from L (suc d) n (base + i * bytes L (suc d)))
  unfolding collect_from pages_from
  pages-loop zero i w = refl
  pages-loop (suc n) i w =
      let B = bytes L (suc d) in
      let e : base + suc i * B ≡ base + i * B + B = omega arith in
      rw (lt-ltb (i * B) word (omega (arith, bytes-here)), lt-ltb (base + i * B) word (omega (arith, bytes-here)), pages-loop n (suc i) (omega arith), e)

  pages-of : (n : ℕ) → n ≡ fan L (suc d) → divide L (init base (suc (suc d))) ≡ gives (pages_from L (suc d) n base)
  unfolding divide
  pages-of n e =
      let z : base + 0 * bytes L (suc d) ≡ base = omega arith in
      let w : base + 0 * bytes L (suc d) + n * bytes L (suc d) < word = omega (arith, here.ends, bytes-fan L m d code, ap (λ (x : ℕ). x * bytes L (suc d)) e) in
      rw (smaller-suc L m d code, lt-ltb 0 (bytes L (suc d)) bytes-here, bytes-fan L m d code, mul-div_cancel (fan L (suc d)) bytes-here, ← e, pages-loop n 0 w, z)

  -- handing on is the tree's
  pub divide_is : (v : Bool) (ks : List (Tree d)) → length (opened L d ks) ≡ fan L (suc d)
      → divide_page_token_if_necessary L (suc d) base (picture L (suc d) base (node v (opened L d ks)))
      ≡ gives (record { page_token = none; max_allocable_page_size = cond v (some (suc d)) (coded (largest (suc d) (node v ks))); children = spread (picture L d) base (bytes L (suc d)) (handed_on L d v ks) })
  unfolding divide_page_token_if_necessary picture divide handed_on
  divide_is false ks len = rw (largest-opened L d false ks)
  divide_is true ks len =
      let O = opened L d ks in
      let B = bytes L (suc d) in
      let z : base ≡ base + 0 * B = omega arith in
      rw (pages-of (length O) len, pages-length L (suc d) (length O) base, spread-length (picture L d) base B O, eq-eqb (length O) (length O) refl, divide-loop [] base O z, smaller-suc L m d code)
