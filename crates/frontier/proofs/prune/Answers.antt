-- `frontier::prune` meets its contract. The invariant: of the order that is left the same stay as of the first. The measure is the number of candidates.
use mathlib.Core.Path.{refl, sym, ◌∙◌}
use lib.Dec.{lit<}
use Rattle.frontier.specs.Candidates.{carried}
use Rattle.frontier.proofs.Searching.{whole}
use Rattle.frontier.proofs.Sifting.{at_column, at_cost, begin, s_at, done, dear_at, drop, next}
use Rattle.frontier.proofs.prune.Goals as goal

pub loop-cost-init : goal.loop-cost-init
loop-cost-init c = λ x e d p. begin p

pub search-way-requires : goal.search-way-requires
search-way-requires c = whole (c.loop-cost.invariant (carried c.args.candidate) refl refl c.requires).sound

pub none_dearer-requires : goal.none_dearer-requires
none_dearer-requires c = let g = c.loop-cost.invariant (carried c.args.candidate) refl refl c.requires in s_at c.requires g (c.search-way.ensures (whole g.sound))

pub shape_of-frontier-then-none_dearer : goal.shape_of-frontier-then-none_dearer
shape_of-frontier-then-none_dearer c = (c.loop-cost.invariant (carried c.args.candidate) refl refl c.requires).len

pub returns-then-none_dearer : goal.returns-then-none_dearer
returns-then-none_dearer c = λ p. let g = c.loop-cost.invariant (carried c.args.candidate) refl refl p in done p g (c.search-way.ensures (whole g.sound)) (sym c.none_dearer.ensures ∙ c.if-none_dearer.true)

pub get-column-requires : goal.get-column-requires
get-column-requires c = let g = c.loop-cost.invariant (carried c.args.candidate) refl refl c.requires in (dear_at c.requires g (c.search-way.ensures (whole g.sound)) (sym c.none_dearer.ensures ∙ c.if-none_dearer.false), lit< tt)

pub discard-b-requires : goal.discard-b-requires
discard-b-requires c = let g = c.loop-cost.invariant (carried c.args.candidate) refl refl c.requires in drop c.requires g (c.search-way.ensures (whole g.sound)) (sym c.none_dearer.ensures ∙ c.if-none_dearer.false) c.get-column.ensures

pub loop-cost-smaller : goal.loop-cost-smaller
loop-cost-smaller c =
    let g = c.loop-cost.invariant (carried c.args.candidate) refl refl c.requires in
    let e = c.search-way.ensures (whole g.sound) in
    let h = sym c.none_dearer.ensures ∙ c.if-none_dearer.false in
    (next c.requires g e h c.get-column.ensures (c.discard-b.ensures (drop c.requires g e h c.get-column.ensures))).1

pub loop-cost-preserved : goal.loop-cost-preserved
loop-cost-preserved c = λ x i j p.
    let g = c.loop-cost.invariant x i j p in
    let e = at_column j (c.search-way.ensures (whole g.sound)) in
    let h = at_cost _ _ i (sym c.none_dearer.ensures ∙ c.if-none_dearer.false) in
    (next p g e h c.get-column.ensures (c.discard-b.ensures (drop p g e h c.get-column.ensures))).0
