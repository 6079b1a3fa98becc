use mathlib.Core.Path.{◌≡◌, subst, ◌∙◌}
use mathlib.Core.List.{List}
use Prim.Native.Nat.{ℕ, ◌≤◌, ◌<◌}
use native.Mathlib.Omega.{arith}
use lib.Dec.{lit<}
use Rattle.avl.specs.Holds.{key, Gone}
use Rattle.avl.specs.Frames.{frame_cleared}
use Rattle.avl.proofs.Into.{high}
use Rattle.avl.proofs.Out.{FormD, form_d, the_d, has_l, has_r, d_falls_l, d_falls_r, d_graft_l, d_graft_r, d_done_l, d_done_r, pair, d_here}
use Rattle.avl.proofs.+remove.Goals as goal

-- the root's column, by which the search goes on
lt : {m : List ℕ} {root column here : ℕ} (q : FormD m root column) → here ≡ key m root → column < here → column < q.j
lt q e h = let i = e ∙ q.held.key_is in omega arith

gt : {m : List ℕ} {root column here : ℕ} (q : FormD m root column) → here ≡ key m root → here < column → q.j < column
gt q e h = let i = e ∙ q.held.key_is in omega arith

eq : {m : List ℕ} {root column here : ℕ} (q : FormD m root column) → here ≡ key m root → here ≤ column → column ≤ here → q.j ≡ column
eq q e g h = let i = e ∙ q.held.key_is in omega arith

pub get-here-requires : goal.get-here-requires
get-here-requires t c = ((the_d c.requires).held.at, lit< tt)

pub get-l-requires : goal.get-l-requires
get-l-requires t c = ((the_d c.requires).held.at, lit< tt)

pub get-r-requires : goal.get-r-requires
get-r-requires t c = ((the_d c.requires).held.at, lit< tt)

pub remove-d-requires : goal.remove-d-requires
remove-d-requires t c =
    let q = the_d c.requires in
    (subst (λ z. high c.args.frontier.now c.get-l.result < z) c.decreases (d_falls_l q c.get-l.ensures), has_l q c.get-l.ensures (lt q c.get-here.ensures c.if-column-here.true))

pub graft_left-requires : goal.graft_left-requires
graft_left-requires t c =
    let q = the_d c.requires in
    d_graft_l q (c.remove-d.ensures (has_l q c.get-l.ensures (lt q c.get-here.ensures c.if-column-here.true)))

pub returns-then-column-here : goal.returns-then-column-here
returns-then-column-here t c = form_d (λ t lo hi. Gone c.args.frontier.now c.graft_left.new.frontier c.graft_left.result c.remove-d.result.slot c.args.column t lo hi) λ q.
    let h = lt q c.get-here.ensures c.if-column-here.true in
    let u = c.remove-d.ensures (has_l q c.get-l.ensures h) in
    d_done_l q h u (c.graft_left.ensures (d_graft_l q u))

pub remove-d-requires-then-here-column : goal.remove-d-requires-then-here-column
remove-d-requires-then-here-column t c =
    let q = the_d c.requires in
    (subst (λ z. high c.args.frontier.now c.get-r.result < z) c.decreases (d_falls_r q c.get-r.ensures), has_r q c.get-r.ensures (gt q c.get-here.ensures c.if-here-column.true))

pub graft_right-requires : goal.graft_right-requires
graft_right-requires t c =
    let q = the_d c.requires in
    d_graft_r q (c.remove-d-then-here-column.ensures (has_r q c.get-r.ensures (gt q c.get-here.ensures c.if-here-column.true)))

pub returns-then-here-column : goal.returns-then-here-column
returns-then-here-column t c = form_d (λ t lo hi. Gone c.args.frontier.now c.graft_right.new.frontier c.graft_right.result c.remove-d-then-here-column.result.slot c.args.column t lo hi) λ q.
    let h = gt q c.get-here.ensures c.if-here-column.true in
    let u = c.remove-d-then-here-column.ensures (has_r q c.get-r.ensures h) in
    d_done_r q h u (c.graft_right.ensures (d_graft_r q u))

pub clear-requires : goal.clear-requires
clear-requires t c = (the_d c.requires).held.at

pub unite-requires : goal.unite-requires
unite-requires t c =
    let q = the_d c.requires in
    pair q c.get-l.ensures c.get-r.ensures (frame_cleared c.args.root q.j q.held.key_is c.clear.ensures)

pub returns-else-here-column : goal.returns-else-here-column
returns-else-here-column t c = form_d (λ t lo hi. Gone c.args.frontier.now c.unite.new.frontier c.unite.result c.args.root c.args.column t lo hi) λ q.
    let f = frame_cleared c.args.root q.j q.held.key_is c.clear.ensures in
    d_here q (eq q c.get-here.ensures c.if-column-here.false c.if-here-column.false) f (c.unite.ensures (pair q c.get-l.ensures c.get-r.ensures f))
