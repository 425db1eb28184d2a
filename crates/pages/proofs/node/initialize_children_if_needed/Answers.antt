-- An open node stays, another one is opened. Assumes nothing.
use Rattle.std.proofs.Common.{◌≡◌, pred, ◌+◌, ℕ, sym, ap, ◌∙◌, arith}
use Rattle.sizes.specs.Size.{code_of}
use Rattle.pool.specs.Nodes.{Words}
use Rattle.pool.specs.Words.{word, link_of}
use Rattle.pool.proofs.Ask.{open-law, open-not}
use Rattle.pages.proofs.node.initialize_children_if_needed.Goals as goal

pub returns-in-Some : goal.returns-in-Some
returns-in-Some c =
    let e = open-not (pred (pred (code_of c.args.size))) c.args.pool.now c.args.used c.args.node.0 (λ z. omega (arith, z, c.in-Some.ensures.opened.0, c.at.ensures)) in
    record { pool = ap (λ (x : Words). x.pool) (sym e); used = ap (λ (x : Words). x.used) (sym e) }

pub returns-in-None : goal.returns-in-None
returns-in-None c =
    let z : link_of (word c.args.pool.now c.args.node.0) ≡ 0 = omega (arith, c.in-None.ensures.unopened, c.at.ensures) in
    let e = open-law (code_of c.args.size) c.args.pool.now c.args.used c.args.node.0 c.requires.node z in
    record { pool = c.open_node.ensures ∙ e.0; used = ap (λ (x : ℕ). c.args.used + x + 1) c.children_in.ensures.exact ∙ e.1 }
