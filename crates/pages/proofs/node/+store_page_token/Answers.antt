use Rattle.std.proofs.Common.{List, ℕ, pred, ◌≡◌, ◌+◌, ◌-◌, ◌/◌, ◌%◌, ◌<◌, set, sym, ap, ◌∙◌, subst, sub-one, arith}
use Rattle.sizes.specs.Six.{six}
use Rattle.sizes.specs.Size.{code_of}
use Rattle.sizes.proofs.Size.{code-some, code-most, same-size, under-size}
use Rattle.pool.specs.Words.{word, frames_of}
use Rattle.pool.specs.Nodes.{Words, with_marks, mark_w, store_w, words}
use Rattle.pool.proofs.Ask.{open-ask, store-here, Down, store-down-at}
use Rattle.pool.proofs.Sizes.{frames-at, frames-own, frames-below}
use Rattle.pages.proofs.node.+store_page_token.Goals as goal
use Rattle.pages.proofs.node.+store_page_token.Goals.{After-step_down-to}

-- what the call below asks for and gives
down : (t : ℕ) (c : After-step_down-to t) →
    (let a = c.args in let i = c.initialize_children_if_needed-opened in let to = c.step_down-to.result in
    Down (code_of a.size) (code_of a.wanted) a.pool.now a.used a.node.0 a.base.0 i.new.pool i.result (code_of c.in-Some.below) to.child.0 to.within.0)
down t c =
    let a = c.args in
    let i = c.initialize_children_if_needed-opened in
    let to = c.step_down-to in
    let l : code_of a.wanted < code_of a.size = under-size a.size a.wanted c.requires.deep (sym c.eq.ensures ∙ c.if-eq.false) in
    let e : code_of c.in-Some.below ≡ code_of a.size - 1 = c.in-Some.ensures.below in
    let f = ap (frames_of six) e ∙ frames-below (code_of a.size) (omega (arith, l, code-some a.wanted)) in
    store-down-at (code_of a.size) (code_of a.wanted) a.pool.now a.used a.node.0 a.base.0 i.new.pool i.result (code_of c.in-Some.below) to.result.child.0 to.result.within.0
    c.requires l i.ensures.pool i.ensures.used (e ∙ sub-one (code_of a.size))
    (omega (arith, to.ensures.child, c.first_child.ensures, c.at.ensures, ap (λ (x : ℕ). a.base.0 / x) f)) (to.ensures.within ∙ ap (λ (x : ℕ). a.base.0 % x) f)

pub returns-then-eq : goal.returns-then-eq
returns-then-eq t c =
    let a = c.args in
    let pool : List ℕ = a.pool.now in
    let e : code_of a.size ≡ code_of a.wanted = same-size a.size a.wanted (sym c.eq.ensures ∙ c.if-eq.true) in
    let h = store-here (code_of a.size) (words pool a.used) a.node.0 a.base.0 (code-some a.size) in
    let k = subst (λ (x : ℕ). store_w six (pred (code_of a.size)) (pred x) (words pool a.used) a.node.0 a.base.0 ≡ mark_w (8 + code_of a.size) (words pool a.used) a.node.0) e h in
    record {
      pool = c.set_marks.ensures ∙ ap (λ (x : ℕ). set pool a.node.0 (with_marks x (word pool a.node.0))) c.token_marks.ensures.exact ∙ ap (λ (x : Words). x.pool) (sym k);
      used = ap (λ (x : Words). x.used) (sym k);
    }

pub initialize_children_if_needed-opened-requires-clause-node : goal.initialize_children_if_needed-opened-requires-clause-node
initialize_children_if_needed-opened-requires-clause-node t c =
    let a = c.args in
    open-ask (code_of a.size) (code_of a.wanted) a.pool.now a.used a.node.0 a.base.0 c.requires (under-size a.size a.wanted c.requires.deep (sym c.eq.ensures ∙ c.if-eq.false))

pub step_down-to-requires : goal.step_down-to-requires
step_down-to-requires t c =
    let n : ℕ = code_of c.args.size in
    let k = frames-at n (code-some c.args.size) (code-most c.args.size) in
    record { frame = omega (arith, k.2, c.requires.base, frames-own n (code-some c.args.size)); place = omega (arith, c.first_child.ensures) }

pub store_page_token-last-requires : goal.store_page_token-last-requires
store_page_token-last-requires t c =
    let e : code_of c.in-Some.below ≡ code_of c.args.size - 1 = c.in-Some.ensures.below in
    (omega (arith, e, code-some c.args.size), (down t (goal.at.store_page_token-last-requires t c).After-step_down-to).ask)

pub try_to_merge_page_tokens-requires : goal.try_to_merge_page_tokens-requires
try_to_merge_page_tokens-requires t c = (down t (goal.at.try_to_merge_page_tokens-requires t c).After-step_down-to).after c.store_page_token-last.new.pool c.store_page_token-last.ensures.pool

pub returns : goal.returns
returns t c =
    let last = c.store_page_token-last in
    let e = (down t (goal.at.returns t c).After-step_down-to).same last.new.pool last.result last.ensures.pool last.ensures.used in
    record { pool = c.try_to_merge_page_tokens.ensures ∙ e.0; used = e.1 }
