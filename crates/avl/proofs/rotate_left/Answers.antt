-- `avl::rotate_left` meets its contract: `Turn`'s steps at the memories that the calls leave.
use mathlib.Core.Path.{◌≡◌}
use mathlib.Core.List.{List}
use Prim.Native.Nat.{ℕ, suc}
use lib.Dec.{lit<}
use Rattle.avl.specs.Mem.{put}
use Rattle.avl.specs.MemLaws.{at_len}
use Rattle.avl.specs.Tree.{rot_l}
use Rattle.avl.specs.Tree.Tree.{node}
use Rattle.avl.specs.Holds.{left, right, Holds, Frame, Made, Spot}
use Rattle.avl.proofs.Turn.{FormR, form_r, the_r, l_at, l_one, l_two, l_three, l_four}
use Rattle.avl.proofs.rotate_left.Goals as goal

-- the upper slot after its store
abbrev one : {m m₁ : List ℕ} {y x b : ℕ} (p : FormR m y) → x ≡ right m y → b ≡ left m x → m₁ ≡ put m y 12 b → Spot m₁ y
one p e d q = record { l = p.a; k = p.k; r = p.b; lo = p.lo; hi = p.i; held = l_one p e d q }

-- the lower slot after its store
abbrev three : {m m₂ m₃ : List ℕ} {y x : ℕ} (p : FormR m y) → x ≡ right m y → Frame m m₂ p.k (suc p.k) → Holds m₂ y (node p.a y p.k p.b) → m₃ ≡ put m₂ x 11 y → Spot m₃ x
three {y = y} p e f h q = record { l = node p.a y p.k p.b; k = p.i; r = p.c; lo = p.lo; hi = p.hi; held = l_three p e f h q }

pub get-b-requires : goal.get-b-requires
get-b-requires c = (l_at (the_r c.requires) c.get-x.ensures, lit< tt)

pub update_height-requires : goal.update_height-requires
update_height-requires c = one (the_r c.requires) c.get-x.ensures c.get-b.ensures c.store.ensures

pub store-requires-2 : goal.store-requires-2
store-requires-2 c =
    let p = the_r c.requires in
    let u = c.update_height.ensures (one p c.get-x.ensures c.get-b.ensures c.store.ensures) in
    (at_len (l_two p c.get-b.result c.store.ensures u).len (l_at p c.get-x.ensures), lit< tt)

pub update_height-requires-2 : goal.update_height-requires-2
update_height-requires-2 c =
    let p = the_r c.requires in
    let u = c.update_height.ensures (one p c.get-x.ensures c.get-b.ensures c.store.ensures) in
    three p c.get-x.ensures (l_two p c.get-b.result c.store.ensures u) u.holds c.store-2.ensures

pub returns : goal.returns
returns c = form_r (λ l k r lo hi. Made _ _ _ (rot_l (node l _ k r)) lo hi) λ p.
    let u = c.update_height.ensures (one p c.get-x.ensures c.get-b.ensures c.store.ensures) in
    let f = l_two p c.get-b.result c.store.ensures u in
    l_four p c.get-x.ensures f c.store-2.ensures (c.update_height-2.ensures (three p c.get-x.ensures f u.holds c.store-2.ensures))
