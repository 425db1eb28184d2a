-- Each turn takes a region's nodes, which lie behind those that are counted. Assumes nothing.
use mathlib.Core.List.{List}
use mathlib.Core.Path.{◌≡◌}
use Prim.Native.Nat.{ℕ, ◌+◌, ◌≤◌, ◌<◌}
use native.Mathlib.Omega.{arith}
use lib.ListN.{length}
use Rattle.sizes.specs.Six.{six}
use Rattle.sizes.specs.Size.{code_of}
use Rattle.pool.specs.Regions.{regions_of}
use Rattle.pool.specs.Words.{frames_of}
use Rattle.pages.proofs.Touched.{touched-here, touched-past, touched-end, touched-all, pass-next, place-frames}
use Rattle.pages.proofs.plan.touched_nodes.Goals as goal
use Rattle.pages.proofs.plan.touched_nodes.Invariants.{from}

pub returns-in_default : goal.returns-in_default
returns-in_default c =
    let ss : List ℕ = c.args.state.now.starts in
    let es : List ℕ = c.args.state.now.ends in
    let i : ℕ = c.loop-i.i in
    let n : ℕ = frames_of six (code_of c.args.size) in
    let k = c.new_nodes-total in
    let ls : i < length ss = omega arith in
    let le : i < length es = omega arith in
    let all : c.loop-i.total ≡ k.result + from ss es n 0 = omega (arith, c.loop-i.invariant.2, touched-here ss es i ls le n c.in_default.ensures.unused) in
    record {
      exact = touched-all (record { start = c.args.span.start.0; end = c.args.span.end.0 }) (regions_of six ss es) n k.result c.loop-i.total k.ensures.exact all;
      most = omega (arith, c.loop-i.invariant.0);
    }

pub invariant_of-new_nodes : goal.invariant_of-new_nodes
invariant_of-new_nodes c =
    let ss : List ℕ = c.args.state.now.starts in
    let es : List ℕ = c.args.state.now.ends in
    let i : ℕ = c.loop-i.i in
    let k = c.in-Some.ensures in
    let ls : i < length ss = omega arith in
    let le : i < length es = omega arith in
    let w = place-frames ss es i ls le k.used c.loop-i.invariant.1 c.in-Some.start.0 c.in-Some.end.0 k.start k.end in
    record { some = w.0; within = w.1 }

pub loop-i-preserved : goal.loop-i-preserved
loop-i-preserved c =
    let ss : List ℕ = c.args.state.now.starts in
    let es : List ℕ = c.args.state.now.ends in
    let i : ℕ = c.loop-i.i in
    let n : ℕ = frames_of six (code_of c.args.size) in
    let k = c.in-Some.ensures in
    let ls : i < length ss = omega arith in
    let le : i < length es = omega arith in
    let past = touched-past ss es i ls le n c.in-Some.start.0 c.in-Some.end.0 k.used k.start k.end in
    (omega (arith, c.loop-i.invariant.0, c.new_nodes-total-in-loop-i.ensures.most), pass-next ss es i ls le k.used c.loop-i.invariant.1, omega (arith, c.loop-i.invariant.2, past, c.new_nodes-total-in-loop-i.ensures.exact))

pub returns-clause-exact : goal.returns-clause-exact
returns-clause-exact c =
    let ss : List ℕ = c.args.state.now.starts in
    let es : List ℕ = c.args.state.now.ends in
    let i : ℕ = c.loop-i.i in
    let n : ℕ = frames_of six (code_of c.args.size) in
    let k = c.new_nodes-total in
    let l : length ss ≤ i = omega arith in
    let all : c.loop-i.total ≡ k.result + from ss es n 0 = omega (arith, c.loop-i.invariant.2, touched-end ss es i n l) in
    touched-all (record { start = c.args.span.start.0; end = c.args.span.end.0 }) (regions_of six ss es) n k.result c.loop-i.total k.ensures.exact all
