use native.Mathlib.Omega.{arith}
use mathlib.Core.Path.{sym, ◌∙◌}
use Rattle.pages.proofs.Ways.{path-first}
use Rattle.pages.proofs.room.+words_below.Goals as goal

pub returns-then-base-eq0-clause-exact : goal.returns-then-base-eq0-clause-exact
returns-then-base-eq0-clause-exact t c =
    let a = c.args in
    omega (arith, path-first a.size a.wanted c.in-Some.below a.base.0 c.requires (sym c.eq.ensures ∙ c.if-eq.false) c.in-Some.ensures.below (omega arith), c.children_in.ensures.exact, c.words_below.ensures.exact)
