use native.Mathlib.Omega.{arith}
use mathlib.Core.Path.{refl, ◌∙◌}
use mathlib.Core.List.{[], ◌∷◌}
use Prim.Native.Nat.{◌-◌, ◌<◌}
use lib.ListN.{length, set, length-set}
use Rattle.file_checks.proofs.Circles.{search_start, search_on, search_round, search_end, turned_round, turned_at}
use Rattle.file_checks.proofs.circle.search.Goals as goal

pub loop-top-init : goal.loop-top-init
loop-top-init c =
    let T = c.args.nodes.now in
    let E = c.args.edges.now in
    let C = c.args.cs.now in
    let W = c.args.way.now in
    let i = c.args.node.0 in
    let hi : i < length C = omega (arith, c.requires.node_in_bounds, c.requires.walking.enough) in
    (refl, (refl, search_start T E C W i (length W - 1) c.requires.node_in_bounds c.requires.node_value c.requires.walking (omega (arith, hi, c.requires.cs_in_bounds))))

pub advance-requires : goal.advance-requires
advance-requires c =
    let C = c.args.cs.now in
    let W = c.args.way.now in
    let i = c.args.node.0 in
    let l = c.loop-top in
    record { closed = c.requires.closed; walking = l.invariant.1.1.walking; cs_in_bounds = omega (arith, l.invariant.0, l.invariant.1.0, length-set C i 1, length-set W (length W - 1) (i ∷ 0 ∷ []), c.requires.cs_in_bounds); top_in_bounds = c.loop-top-test.true }

pub returns-in_default : goal.returns-in_default
returns-in_default c =
    let T = c.args.nodes.now in
    let E = c.args.edges.now in
    let C = c.args.cs.now in
    let i = c.args.node.0 in
    search_round T E C _ i (turned_round c.advance.ensures c.in_default.is)

pub loop-top-smaller : goal.loop-top-smaller
loop-top-smaller c =
    (turned_at c.advance.ensures c.in-Some.is).1.fewer

pub loop-top-preserved : goal.loop-top-preserved
loop-top-preserved c =
    let T = c.args.nodes.now in
    let E = c.args.edges.now in
    let C = c.args.cs.now in
    let i = c.args.node.0 in
    let l = c.loop-top in
    (c.advance.auto.cs ∙ l.invariant.0, (c.advance.auto.way ∙ l.invariant.1.0, search_on T E (set C i 1) l.cs l.way l.top _ _ _ l.invariant.1.1 (turned_at c.advance.ensures c.in-Some.is)))

pub returns : goal.returns
returns c =
    let T = c.args.nodes.now in
    let E = c.args.edges.now in
    let C = c.args.cs.now in
    let i = c.args.node.0 in
    let l = c.loop-top in
    search_end T E C l.cs l.way i l.top (omega (arith, c.requires.node_in_bounds, c.requires.walking.enough)) c.loop-top-test.false l.invariant.1.1
