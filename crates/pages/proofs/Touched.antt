-- What the count of the nodes that regions touch needs of its numbers, one place and one code each. Assumes nothing.
use mathlib.Core.Path.{◌≡◌, refl, sym, ap, ap₂, ◌∙◌}
use mathlib.Core.Bool.{Bool, true, false, not, true≢false}
use mathlib.Core.List.{List, ◌∷◌}
use Prim.Native.Nat.{ℕ, zero, suc, pred, ◌+◌, ◌*◌, ◌-◌, ◌/◌, ◌%◌, ◌≤◌, ◌<◌}
use native.Mathlib.Omega.{arith}
use native.Mathlib.Nat.{mul-le-mul, le-div_iff_mul-le, div-add-mod'}
use native.Mathlib.Numerals.{sub-one, add-one}
use lib.Dec.{eqb}
use lib.ListN.{length, get_or, drop, drop_of_length-le}
use borrow.Author.Tests.{eq-eqb, ne_eqb}
use Rattle.sizes.specs.Ladder.{largest, address_frame}
use Rattle.sizes.specs.Six.{six, most_code, most_children}
use Rattle.sizes.specs.Size.{code_of}
use Rattle.sizes.specs.declared.page_size.PageSize.{PageSize}
use Rattle.sizes.proofs.Six.{six-multiplies}
use Rattle.sizes.proofs.Size.{code-some, code-most}
use Rattle.model.specs.Ladder.{frames, top}
use Rattle.model.specs.Calls.{Region}
use Rattle.model.specs.Frames.{bit}
use Rattle.model.specs.Lists.{sum}
use Rattle.model.specs.TreeStore.{overlap}
use Rattle.model.proofs.Free.{frames-mod}
use Rattle.pool.specs.Limits.{places, most_frames}
use Rattle.pool.specs.Words.{fan_out_of, frames_of}
use Rattle.pool.specs.Regions.{regions_of}
use Rattle.pool.specs.RegionTest.{regions_pass, region_at}
use Rattle.pool.specs.Planned.{meets, new_nodes, touched_by, blocks_by, room_by}
use Rattle.pool.proofs.Cover.{and-true}
use Rattle.pool.proofs.Regions.{passes-frames}
use Rattle.pool.proofs.RegionTest.{passes_of, regions-here, regions-past, pass-stop, pass-past}
use Rattle.pool.proofs.Sizes.{top-frames, root-level}

-- ---- the nodes of n frames
-- the node of a frame of memory ends within memory
pub node-within : (n f : ℕ) → 1 ≤ n → most_frames % n ≡ 0 → f < most_frames → suc (f / n) * n ≤ most_frames
node-within n f some even l =
    let below : most_frames / n ≤ f / n → ⊥ = λ h. omega (arith, (le-div_iff_mul-le some).0 h, div-add-mod' most_frames n, even) in
    (le-div_iff_mul-le some).0 (omega (arith, below))

-- what the code reads of one node
pub met-none : (rs : List Region) (n i o : ℕ) → o ≡ sum (overlap (i * n) n) rs → o ≡ 0 → bit (meets rs n i) ≡ 0
unfolding meets
met-none rs n i o e z = ap (λ (k : ℕ). bit (not (eqb k 0))) (sym e) ∙ ap (λ (v : Bool). bit (not v)) (eq-eqb o 0 z)

pub met_some : (rs : List Region) (n i o : ℕ) → o ≡ sum (overlap (i * n) n) rs → (o ≡ 0 → ⊥) → bit (meets rs n i) ≡ 1
unfolding meets
met_some rs n i o e z = ap (λ (k : ℕ). bit (not (eqb k 0))) (sym e) ∙ ap (λ (v : Bool). bit (not v)) (ne_eqb o 0 z)

-- ... and of the first and the last node
span : (lo hi : ℕ) → lo ≤ hi → hi - lo + 1 ≡ suc hi - lo
span lo hi l = omega arith

module _ (rs : List Region) (a e n : ℕ) where
  pub new-one : (r x : ℕ) → a / n ≡ (e - 1) / n → x ≡ bit (meets rs n (a / n)) → x ≤ 1 → r ≡ (e - 1) / n - a / n + 1 - x → r ≡ new_nodes rs a e n
  unfolding new_nodes
  new-one r x s hx b h = rw (sym (sub-one e), eq-eqb (a / n) ((e - 1) / n) s) (omega (arith, hx, h, s))

  pub new-more : (r x y : ℕ) → (a / n ≡ (e - 1) / n → ⊥) → a / n ≤ (e - 1) / n → x ≡ bit (meets rs n (a / n)) → x ≤ 1 → y ≡ bit (meets rs n ((e - 1) / n)) → y ≤ 1
      → r ≡ (e - 1) / n - a / n + 1 - x - y → r ≡ new_nodes rs a e n
  unfolding new_nodes
  new-more r x y s l hx b hy c h = rw (sym (sub-one e), ne_eqb (a / n) ((e - 1) / n) s) (h ∙ ap (λ (k : ℕ). k - x - y) (span (a / n) ((e - 1) / n) l) ∙ ap₂ (λ (i j : ℕ). suc ((e - 1) / n) - a / n - i - j) hx hy)

-- ---- the places of the regions
module _ (ss es : List ℕ) (i : ℕ) (hs : i < length ss) (he : i < length es) where
  pub touched-here : (n : ℕ) → get_or es i 0 ≡ 0 → touched_by (regions_of six (drop i ss) (drop i es)) n ≡ 0
  unfolding touched_by
  touched-here n e = rw (regions-here six ss es i hs he e)

  pub touched-past : (n f g : ℕ) → (get_or es i 0 ≡ 0 → ⊥) → f ≡ address_frame six (get_or ss i 0) → g ≡ address_frame six (get_or es i 0)
      → touched_by (regions_of six (drop i ss) (drop i es)) n ≡ new_nodes (regions_of six (drop (i + 1) ss) (drop (i + 1) es)) f g n + touched_by (regions_of six (drop (i + 1) ss) (drop (i + 1) es)) n
  unfolding touched_by
  touched-past n f g e hf hg = rw (regions-past six ss es i hs he e, hf, hg)

  -- the regions from i on pass, so the one at i does, and those behind it do
  module _ (e : get_or es i 0 ≡ 0 → ⊥) (p : regions_pass six (drop i ss) (drop i es) ≡ true) where
    here : (v : Bool) → region_at six ss es i ≡ v → region_at six ss es i ≡ true
    here true h = h
    here false h = absurd (true≢false (sym p ∙ pass-stop six ss es i hs he e h))

    pub pass-next : regions_pass six (drop (i + 1) ss) (drop (i + 1) es) ≡ true
    pass-next = sym (pass-past six ss es i hs he e (here (region_at six ss es i) refl)) ∙ p

    pub place-frames : (f g : ℕ) → f ≡ address_frame six (get_or ss i 0) → g ≡ address_frame six (get_or es i 0) → (f < g) × (g ≤ most_frames)
    unfolding region_at
    place-frames f g hf hg =
        let w = passes-frames six six-multiplies (get_or ss i 0) (get_or es i 0) (passes_of six (get_or ss i 0) (get_or es i 0) (and-true (here (region_at six ss es i) refl)).0) in
        (omega (arith, hf, hg, w.some), omega (arith, hg, w.within, top-frames))

pub touched-end : (ss es : List ℕ) (i n : ℕ) → length ss ≤ i → touched_by (regions_of six (drop i ss) (drop i es)) n ≡ 0
unfolding touched_by regions_of
touched-end ss es i n h = rw (drop_of_length-le ss {i = i} h)

-- the region in front, and the others
pub touched-all : (r : Region) (rs : List Region) (n x y : ℕ) → x ≡ new_nodes rs r.start r.end n → y ≡ x + touched_by rs n → y ≡ touched_by (r ∷ rs) n
unfolding touched_by
touched-all r rs n x y e h = omega (arith, e, h)

-- ---- the codes of the six sizes
-- memory is a multiple of each
pub frames-divide : (code : ℕ) → 1 ≤ code → code ≤ most_code → most_frames % frames_of six code ≡ 0
frames-divide zero lo hi = absurd (omega arith)
frames-divide (suc d) lo hi = ap (λ (n : ℕ). n % frames six d) (sym top-frames) ∙ frames-mod six d (top six) (omega (arith, root-level))

-- ... as is said of a size
pub size-divides : (size : PageSize) → most_frames % frames_of six (code_of size) ≡ 0
size-divides size = frames-divide (code_of size) (code-some size) (code-most size)

-- the blocks of one code more
pub blocks-next : (gs : List Region) (code f s t : ℕ) → 2 ≤ code → f ≡ fan_out_of six code → s ≡ frames_of six code → t ≡ touched_by gs s → blocks_by six gs (pred (pred (code + 1))) ≡ (f + 1) * t + blocks_by six gs (pred (pred code))
unfolding blocks_by
blocks-next gs zero f s t lo hf hs ht = absurd (omega arith)
blocks-next gs (suc zero) f s t lo hf hs ht = absurd (omega arith)
blocks-next gs (suc (suc d)) f s t lo hf hs ht = rw (add-one (suc (suc d)), add-one f, hf, ht, hs)

-- ... are at most as many as all children of all nodes, each region's counted by itself
pub blocks-most : (f t : ℕ) → f ≤ most_children → t ≤ (places + 1) * most_frames → (f + 1) * t ≤ (most_children + 1) * ((places + 1) * most_frames)
blocks-most f t hf ht = let h : f + 1 ≤ most_children + 1 = omega arith in mul-le-mul h ht

-- behind the largest code all are counted
pub room-all : (gs : List Region) (code : ℕ) → code ≡ most_code + 1 → suc (blocks_by six gs (pred (pred code))) ≡ room_by six gs
unfolding room_by top largest
room-all gs code e = ap (λ (c : ℕ). suc (blocks_by six gs (pred (pred c)))) e
