-- `avl::rotate_right` meets its contract: `Turn`'s steps at the memories that the calls leave.
use mathlib.Core.Path.{◌≡◌}
use mathlib.Core.List.{List}
use Prim.Native.Nat.{ℕ, suc}
use lib.Dec.{lit<}
use Rattle.avl.specs.Mem.{put}
use Rattle.avl.specs.MemLaws.{at_len}
use Rattle.avl.specs.Tree.{rot_r}
use Rattle.avl.specs.Tree.Tree.{node}
use Rattle.avl.specs.Holds.{left, right, Holds, Frame, Made, Spot}
use Rattle.avl.proofs.Turn.{FormL, form_l, the_l, r_at, r_one, r_two, r_three, r_four}
use Rattle.avl.proofs.rotate_right.Goals as goal

-- the upper slot after its store
abbrev one : {m m₁ : List ℕ} {y x b : ℕ} (p : FormL m y) → x ≡ left m y → b ≡ right m x → m₁ ≡ put m y 11 b → Spot m₁ y
one p e d q = record { l = p.b; k = p.k; r = p.c; lo = suc p.i; hi = p.hi; held = r_one p e d q }

-- the lower slot after its store
abbrev three : {m m₂ m₃ : List ℕ} {y x : ℕ} (p : FormL m y) → x ≡ left m y → Frame m m₂ p.k (suc p.k) → Holds m₂ y (node p.b y p.k p.c) → m₃ ≡ put m₂ x 12 y → Spot m₃ x
three {y = y} p e f h q = record { l = p.a; k = p.i; r = node p.b y p.k p.c; lo = p.lo; hi = p.hi; held = r_three p e f h q }

pub get-b-requires : goal.get-b-requires
get-b-requires c = (r_at (the_l c.requires) c.get-x.ensures, lit< tt)

pub update_height-requires : goal.update_height-requires
update_height-requires c = one (the_l c.requires) c.get-x.ensures c.get-b.ensures c.store.ensures

pub store-requires-2 : goal.store-requires-2
store-requires-2 c =
    let p = the_l c.requires in
    let u = c.update_height.ensures (one p c.get-x.ensures c.get-b.ensures c.store.ensures) in
    (at_len (r_two p c.get-b.result c.store.ensures u).len (r_at p c.get-x.ensures), lit< tt)

pub update_height-requires-2 : goal.update_height-requires-2
update_height-requires-2 c =
    let p = the_l c.requires in
    let u = c.update_height.ensures (one p c.get-x.ensures c.get-b.ensures c.store.ensures) in
    three p c.get-x.ensures (r_two p c.get-b.result c.store.ensures u) u.holds c.store-2.ensures

pub returns : goal.returns
returns c = form_l (λ l k r lo hi. Made _ _ _ (rot_r (node l _ k r)) lo hi) λ p.
    let u = c.update_height.ensures (one p c.get-x.ensures c.get-b.ensures c.store.ensures) in
    let f = r_two p c.get-b.result c.store.ensures u in
    r_four p c.get-x.ensures f c.store-2.ensures (c.update_height-2.ensures (three p c.get-x.ensures f u.holds c.store-2.ensures))
