use Rattle.std.proofs.Common.{List, ℕ, pred, ◌≡◌, ◌+◌, ◌*◌, ◌-◌, ◌≤◌, ◌<◌, length, leb, refl, sym, ap, ap₂, ◌∙◌, subst, sub-one, arith}
use Rattle.sizes.specs.Six.{six, most_children}
use Rattle.sizes.specs.Size.{code_of}
use Rattle.sizes.proofs.Six.{fan_out-most}
use Rattle.sizes.proofs.Size.{code-some, code-most, same-size, under-size}
use Rattle.model.specs.Ladder.{frames}
use Rattle.model.specs.Lists.{first}
use Rattle.pool.specs.Words.{fan_out_of, first_child, frames_of, max_of}
use Rattle.pool.specs.Nodes.{Taken, mark_w, refresh_w, take_w, children_first, words}
use Rattle.pool.proofs.AskTake.{taken, take-here, take_open, take-run, take-look, TakeDown, take-down-at}
use Rattle.pool.proofs.Sizes.{fan_out-at, frames-below}
use Rattle.pages.proofs.Runs.{length-run}
use Rattle.pages.proofs.node.+acquire_page_token.Goals as goal
use Rattle.pages.proofs.node.+acquire_page_token.Goals.{After-first_child-first, After-first_child_with_room-number, After-frames_in}

-- after opening and handing on there is a child with room
abbrev look : (t : ℕ) (c : After-first_child-first t) →
    (let a = c.args in let pool : List ℕ = c.divide_page_token_if_necessary.new.pool in let at : ℕ = c.first_child-first.result.0 in
    (at ≡ first_child pool a.node.0) × (at + fan_out_of six (code_of a.size) ≤ length pool) × (children_first (code_of a.wanted) pool at (fan_out_of six (code_of a.size)) < fan_out_of six (code_of a.size)))
look t c =
    let a = c.args in
    let i = c.initialize_children_if_needed-opened in
    let d = c.divide_page_token_if_necessary in
    let pool : List ℕ = d.new.pool in
    let n : ℕ = fan_out_of six (code_of a.size) in
    let at : c.first_child-first.result.0 ≡ first_child pool a.node.0 = omega (arith, c.first_child-first.ensures, c.at.ensures) in
    let l = take-look (code_of a.size) (code_of a.wanted) a.pool.now a.used a.node.0 i.new.pool pool c.requires (under-size a.size a.wanted c.requires.deep (sym c.eq.ensures ∙ c.if-eq.false)) i.ensures.pool d.ensures in
    (at, omega (arith, at, l.1), omega (arith, l.2, ap (λ (x : ℕ). children_first (code_of a.wanted) pool x n) at))

-- the child's number, in the words of the pool
number : (t : ℕ) (c : After-first_child_with_room-number t) →
    (let a = c.args in c.first_child_with_room-number.result ≡ children_first (code_of a.wanted) c.divide_page_token_if_necessary.new.pool c.first_child-first.result.0 (fan_out_of six (code_of a.size)))
unfolding children_first
number t c = c.first_child_with_room-number.ensures ∙ ap (first (λ v. leb (code_of c.args.wanted) (max_of v))) c.children.ensures

-- what the call below asks for and gives
down : (t : ℕ) (c : After-first_child_with_room-number t) →
    (let a = c.args in let i = c.initialize_children_if_needed-opened in let d = c.divide_page_token_if_necessary in
    let at : ℕ = c.first_child-first.result.0 in let n : ℕ = c.first_child_with_room-number.result in
    TakeDown (code_of a.size) (code_of a.wanted) a.pool.now a.used a.node.0 d.new.pool i.result (code_of c.in-Some.below) (at + n) n (frames six (pred (pred (code_of a.size)))))
down t c =
    let a = c.args in
    let i = c.initialize_children_if_needed-opened in
    let d = c.divide_page_token_if_necessary in
    let at : ℕ = c.first_child-first.result.0 in
    let n : ℕ = c.first_child_with_room-number.result in
    let e : code_of c.in-Some.below ≡ code_of a.size - 1 = c.in-Some.ensures.below in
    take-down-at (code_of a.size) (code_of a.wanted) a.pool.now a.used a.node.0 i.new.pool d.new.pool i.result (code_of c.in-Some.below) at (at + n) (fan_out_of six (code_of a.size)) n (frames six (pred (pred (code_of a.size))))
    c.requires (under-size a.size a.wanted c.requires.deep (sym c.eq.ensures ∙ c.if-eq.false)) i.ensures.pool d.ensures i.ensures.used (e ∙ sub-one (code_of a.size))
    (omega (arith, c.first_child-first.ensures, c.at.ensures)) refl (number t c) refl refl

-- the frames of a child
size : (t : ℕ) (c : After-frames_in t) → c.frames_in.result ≡ frames six (pred (pred (code_of c.args.size)))
size t c =
    let a = c.args in
    let l = under-size a.size a.wanted c.requires.deep (sym c.eq.ensures ∙ c.if-eq.false) in
    c.frames_in.ensures.exact ∙ ap (frames_of six) c.in-Some.ensures.below ∙ frames-below (code_of a.size) (omega (arith, l, code-some a.wanted))

-- so the child is one of the most that a node has
near : (t : ℕ) (c : After-first_child-first t) (i : ℕ) →
    i ≡ children_first (code_of c.args.wanted) c.divide_page_token_if_necessary.new.pool c.first_child-first.result.0 (fan_out_of six (code_of c.args.size)) → i < most_children
near t c i e =
    let n : ℕ = code_of c.args.size in
    let l = under-size c.args.size c.args.wanted c.requires.deep (sym c.eq.ensures ∙ c.if-eq.false) in
    omega (arith, (look t c).2, e, fan_out-most n, fan_out-at n (omega (arith, l, code-some c.args.wanted)) (code-most c.args.size))

pub returns-then-eq : goal.returns-then-eq
returns-then-eq t c =
    let a = c.args in
    let before = words a.pool.now a.used in
    let e : code_of a.size ≡ code_of a.wanted = same-size a.size a.wanted (sym c.eq.ensures ∙ c.if-eq.true) in
    let h = take-here (code_of a.size) before a.node.0 (code-some a.size) in
    let k = subst (λ (x : ℕ). take_w six (pred (code_of a.size)) (pred x) before a.node.0 ≡ taken (mark_w 0 before a.node.0) 0 0) e h in
    record {
      pool = c.set_marks.ensures ∙ ap (λ (x : Taken). x.words.pool) (sym k);
      used = ap (λ (x : Taken). x.words.used) (sym k);
      base = ap (λ (x : Taken). x.base) (sym k);
      probes = ap (λ (x : Taken). x.probes) (sym k);
      few = omega arith;
    }

pub initialize_children_if_needed-opened-requires-clause-node : goal.initialize_children_if_needed-opened-requires-clause-node
initialize_children_if_needed-opened-requires-clause-node t c =
    let a = c.args in
    take_open (code_of a.size) (code_of a.wanted) a.pool.now a.used a.node.0 c.requires (under-size a.size a.wanted c.requires.deep (sym c.eq.ensures ∙ c.if-eq.false))

pub divide_page_token_if_necessary-requires-clause-node : goal.divide_page_token_if_necessary-requires-clause-node
divide_page_token_if_necessary-requires-clause-node t c =
    let i = c.initialize_children_if_needed-opened in
    let a = c.args in
    take-run (code_of a.size) (code_of a.wanted) a.pool.now a.used a.node.0 i.new.pool c.requires (under-size a.size a.wanted c.requires.deep (sym c.eq.ensures ∙ c.if-eq.false)) i.ensures.pool

pub children-requires-clause-within : goal.children-requires-clause-within
children-requires-clause-within t c = (look t (goal.at.children-requires-clause-within t c).After-first_child-first).1

pub first_child_with_room-number-requires : goal.first_child_with_room-number-requires
unfolding children_first
first_child_with_room-number-requires t c =
    let k = look t (goal.at.first_child_with_room-number-requires t c).After-first_child-first in
    let e = length-run c.divide_page_token_if_necessary.new.pool c.first_child-first.result.0 (fan_out_of six (code_of c.args.size)) k.1 in
    omega (arith, k.2, e, ap length c.children.ensures, ap (first (λ v. leb (code_of c.args.wanted) (max_of v))) c.children.ensures)

pub overflow_add-child : goal.overflow_add-child
overflow_add-child t c = let k = (down t (goal.at.overflow_add-child t c).After-first_child_with_room-number).ask in omega (arith, k.readable.at, k.readable.fit, k.cap)

pub acquire_page_token-taken-requires : goal.acquire_page_token-taken-requires
acquire_page_token-taken-requires t c =
    let e : code_of c.in-Some.below ≡ code_of c.args.size - 1 = c.in-Some.ensures.below in
    (omega (arith, e, code-some c.args.size), (down t (goal.at.acquire_page_token-taken-requires t c).After-first_child_with_room-number).ask)

pub refresh_max-requires : goal.refresh_max-requires
refresh_max-requires t c = (down t (goal.at.refresh_max-requires t c).After-first_child_with_room-number).after c.acquire_page_token-taken.new.pool c.acquire_page_token-taken.ensures.pool

pub overflow_mul-result : goal.overflow_mul-result
overflow_mul-result t c =
    let k = goal.at.overflow_mul-result t c in
    let n : ℕ = c.first_child_with_room-number.result in
    omega (arith, (down t k.After-first_child_with_room-number).small, ap (λ (x : ℕ). n * x) (size t k.After-frames_in))

pub overflow_add-result : goal.overflow_add-result
overflow_add-result t c =
    let k = goal.at.overflow_add-result t c in
    let n : ℕ = c.first_child_with_room-number.result in
    omega (arith, (down t k.After-first_child_with_room-number).small, ap (λ (x : ℕ). n * x) (size t k.After-frames_in), c.acquire_page_token-taken.ensures.base)

pub overflow_add-result-2 : goal.overflow_add-result-2
overflow_add-result-2 t c =
    let k = goal.at.overflow_add-result-2 t c in
    let n = near t k.After-first_child-first c.first_child_with_room-number.result (number t k.After-first_child_with_room-number) in
    omega (arith, n, c.acquire_page_token-taken.ensures.few, code-most c.in-Some.below)

pub overflow_add-result-3 : goal.overflow_add-result-3
overflow_add-result-3 t c =
    let k = goal.at.overflow_add-result-3 t c in
    let n = near t k.After-first_child-first c.first_child_with_room-number.result (number t k.After-first_child_with_room-number) in
    omega (arith, n, c.acquire_page_token-taken.ensures.few, code-most c.in-Some.below)

pub returns : goal.returns
returns t c =
    let k = goal.at.returns t c in
    let r = c.acquire_page_token-taken in
    let a = c.args in
    let n : ℕ = c.first_child_with_room-number.result in
    let e = (down t k.After-first_child_with_room-number).same in
    let below : code_of c.in-Some.below ≡ code_of a.size - 1 = c.in-Some.ensures.below in
    let few = near t k.After-first_child-first n (number t k.After-first_child_with_room-number) in
    record {
      pool = c.refresh_max.ensures ∙ ap (λ (x : List ℕ). refresh_w six (pred (pred (code_of a.size))) x a.node.0) r.ensures.pool ∙ sym (ap (λ (x : Taken). x.words.pool) e);
      used = r.ensures.used ∙ sym (ap (λ (x : Taken). x.words.used) e);
      base = ap₂ (λ (x y : ℕ). n * x + y) (size t k.After-frames_in) r.ensures.base ∙ sym (ap (λ (x : Taken). x.base) e);
      probes = ap (λ (x : ℕ). x + n + 1) r.ensures.probes ∙ sym (ap (λ (x : Taken). x.probes) e);
      few = omega (arith, few, r.ensures.few, below, code-some a.size);
    }
