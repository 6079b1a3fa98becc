-- A rotation, store by store. m is the memory before; after the store to the upper slot it is m₁, after its height m₂, after the store to the lower slot m₃, after its height m₄.
use mathlib.Core.Path.{◌≡◌, refl, sym, ◌∙◌, ap, subst}
use mathlib.Core.List.{List}
use Prim.Native.Nat.{ℕ, suc, ◌<◌}
use native.Mathlib.Omega.{arith}
use lib.Dec.{lit<, lit≤}
use Rattle.avl.specs.Mem.{put, At}
use Rattle.avl.specs.Tree.{Tree, ht, rot_l, rot_r}
use Rattle.avl.specs.TreeLaws.{rot_l_ord, rot_r_ord}
use Rattle.avl.specs.Tree.Tree.{leaf, node}
use Rattle.avl.specs.Holds.{left, right, Holds, Open, Frame, Made, Spot, SpotL, SpotR, Laid}
use Rattle.avl.specs.Frames.{frame_wide, frame_trans, keep_below, keep_above}
use Rattle.avl.proofs.Steps.{right_of, left_of, right_keep, left_keep, opened, link_l, link_r, linked}

-- a slot with a left child, and one with a right child
pub record FormL (m : List ℕ) (y : ℕ) : Type 0 where
  pub a : Tree
  pub x : ℕ
  pub i : ℕ
  pub b : Tree
  pub k : ℕ
  pub c : Tree
  pub lo : ℕ
  pub hi : ℕ
  pub held : Open m y (node a x i b) k c lo hi

pub record FormR (m : List ℕ) (y : ℕ) : Type 0 where
  pub a : Tree
  pub k : ℕ
  pub b : Tree
  pub x : ℕ
  pub i : ℕ
  pub c : Tree
  pub lo : ℕ
  pub hi : ℕ
  pub held : Open m y a k (node b x i c) lo hi

module _ {m : List ℕ} {y : ℕ} (p : FormL m y) where
  pub r_x : {x : ℕ} → x ≡ left m y → x ≡ p.x
  r_x e = e ∙ p.held.l_held.is

  pub r_at : {x : ℕ} → x ≡ left m y → At m x
  r_at e = subst (λ z. At m z) (sym (r_x e)) p.held.l_held.at

  pub r_one : {m₁ : List ℕ} {x b : ℕ} → x ≡ left m y → b ≡ right m x → m₁ ≡ put m y 11 b → Open m₁ y p.b p.k p.c (suc p.i) p.hi
  r_one {m₁} {x} {b} e d q =
      link_l (suc p.i) b p.b (right_of p.held) q (omega arith) p.held.l_ord.3
      (subst (λ z. Holds m z p.b) (sym (d ∙ ap (λ z. right m z) (r_x e))) p.held.l_held.r_held)

  pub r_two : {m₁ m₂ : List ℕ} (b : ℕ) → m₁ ≡ put m y 11 b → Made m₁ m₂ y (node p.b y p.k p.c) p.k (suc p.k) → Frame m m₂ p.k (suc p.k)
  r_two b q u = frame_trans (linked y 11 b (lit≤ tt) (lit< tt) p.held.key_is q) u.frame

  -- the lower slot, before its store
  r_low : {m₂ : List ℕ} → Frame m m₂ p.k (suc p.k) → Open m₂ p.x p.a p.i p.b p.lo p.k
  r_low f =
      let o = p.held in
      opened (left m y) p.lo p.k (omega arith) o.l_ord
      (keep_below p.lo p.k (left m y) (node p.a p.x p.i p.b) f (omega arith) o.l_ord o.l_held)

  pub r_three : {m₂ m₃ : List ℕ} {x : ℕ} → x ≡ left m y → Frame m m₂ p.k (suc p.k) → Holds m₂ y (node p.b y p.k p.c) → m₃ ≡ put m₂ x 12 y → Open m₃ x p.a p.i (node p.b y p.k p.c) p.lo p.hi
  r_three {m₂} {m₃} {x} e f h q =
      let o = p.held in
      subst (λ z. Open m₃ z p.a p.i (node p.b y p.k p.c) p.lo p.hi) (sym (r_x e))
      (link_r p.hi y (node p.b y p.k p.c) (left_of (r_low f)) (subst (λ z. m₃ ≡ put m₂ z 12 y) (r_x e) q) (omega arith) o.bound (o.l_ord.1, o.to, o.l_ord.3, o.r_ord) h)

  pub r_four : {m₂ m₃ m₄ : List ℕ} {x : ℕ} → x ≡ left m y → Frame m m₂ p.k (suc p.k) → m₃ ≡ put m₂ x 12 y → Made m₃ m₄ x (node p.a x p.i (node p.b y p.k p.c)) p.i (suc p.i) → Made m m₄ x (node p.a p.x p.i (node p.b y p.k p.c)) p.lo p.hi
  r_four {m₂} {m₃} {m₄} {x} e f q u =
      let o = p.held in
      record {
        holds = subst (λ z. Holds m₄ x (node p.a z p.i (node p.b y p.k p.c))) (r_x e) u.holds;
        frame = frame_trans (frame_wide p.lo p.hi o.from o.to f)
            (frame_trans (frame_wide p.lo p.hi (omega arith) (omega arith) (linked p.x 12 y (lit≤ tt) (lit< tt) (r_low f).key_is (subst (λ z. m₃ ≡ put m₂ z 12 y) (r_x e) q)))
            (frame_wide p.lo p.hi (omega arith) (omega arith) u.frame));
      }

module _ {m : List ℕ} {y : ℕ} (p : FormR m y) where
  pub l_x : {x : ℕ} → x ≡ right m y → x ≡ p.x
  l_x e = e ∙ p.held.r_held.is

  pub l_at : {x : ℕ} → x ≡ right m y → At m x
  l_at e = subst (λ z. At m z) (sym (l_x e)) p.held.r_held.at

  pub l_one : {m₁ : List ℕ} {x b : ℕ} → x ≡ right m y → b ≡ left m x → m₁ ≡ put m y 12 b → Open m₁ y p.a p.k p.b p.lo p.i
  l_one {m₁} {x} {b} e d q =
      link_r p.i b p.b (left_of p.held) q (omega arith) (omega arith) p.held.r_ord.2
      (subst (λ z. Holds m z p.b) (sym (d ∙ ap (λ z. left m z) (l_x e))) p.held.r_held.l_held)

  pub l_two : {m₁ m₂ : List ℕ} (b : ℕ) → m₁ ≡ put m y 12 b → Made m₁ m₂ y (node p.a y p.k p.b) p.k (suc p.k) → Frame m m₂ p.k (suc p.k)
  l_two b q u = frame_trans (linked y 12 b (lit≤ tt) (lit< tt) p.held.key_is q) u.frame

  -- the lower slot, before its store
  l_low : {m₂ : List ℕ} → Frame m m₂ p.k (suc p.k) → Open m₂ p.x p.b p.i p.c (suc p.k) p.hi
  l_low f =
      let o = p.held in
      opened (right m y) (suc p.k) p.hi o.bound o.r_ord
      (keep_above (suc p.k) p.hi (right m y) (node p.b p.x p.i p.c) f (omega arith) o.r_ord o.r_held)

  pub l_three : {m₂ m₃ : List ℕ} {x : ℕ} → x ≡ right m y → Frame m m₂ p.k (suc p.k) → Holds m₂ y (node p.a y p.k p.b) → m₃ ≡ put m₂ x 11 y → Open m₃ x (node p.a y p.k p.b) p.i p.c p.lo p.hi
  l_three {m₂} {m₃} {x} e f h q =
      let o = p.held in
      subst (λ z. Open m₃ z (node p.a y p.k p.b) p.i p.c p.lo p.hi) (sym (l_x e))
      (link_l p.lo y (node p.a y p.k p.b) (right_of (l_low f)) (subst (λ z. m₃ ≡ put m₂ z 11 y) (l_x e) q) (omega arith) (o.from, o.r_ord.0, o.l_ord, o.r_ord.2) h)

  pub l_four : {m₂ m₃ m₄ : List ℕ} {x : ℕ} → x ≡ right m y → Frame m m₂ p.k (suc p.k) → m₃ ≡ put m₂ x 11 y → Made m₃ m₄ x (node (node p.a y p.k p.b) x p.i p.c) p.i (suc p.i) → Made m m₄ x (node (node p.a y p.k p.b) p.x p.i p.c) p.lo p.hi
  l_four {m₂} {m₃} {m₄} {x} e f q u =
      let o = p.held in
      record {
        holds = subst (λ z. Holds m₄ x (node (node p.a y p.k p.b) z p.i p.c)) (l_x e) u.holds;
        frame = frame_trans (frame_wide p.lo p.hi o.from o.to f)
            (frame_trans (frame_wide p.lo p.hi (omega arith) (omega arith) (linked p.x 11 y (lit≤ tt) (lit< tt) (l_low f).key_is (subst (λ z. m₃ ≡ put m₂ z 11 y) (l_x e) q)))
            (frame_wide p.lo p.hi (omega arith) (omega arith) u.frame));
      }

-- ---- a child, and a child that was turned
module _ {m : List ℕ} {s : ℕ} (p : FormL m s) where
  abbrev pub spot_l : {x : ℕ} → x ≡ left m s → Spot m x
  spot_l {x} e = record {
    l = p.a;
    k = p.i;
    r = p.b;
    lo = p.lo;
    hi = p.k;
    held = subst (λ z. Open m z p.a p.i p.b p.lo p.k) (sym (r_x p e)) (opened (left m s) p.lo p.k (omega arith) p.held.l_ord p.held.l_held);
  }

  pub relaid_l : {m₁ m₂ : List ℕ} {x q : ℕ} → x ≡ left m s → Made m m₁ q (rot_l (node p.a x p.i p.b)) p.lo p.k → m₂ ≡ put m₁ s 11 q → Laid m m₂ s (rot_l (node p.a p.x p.i p.b)) p.k p.c p.lo p.hi
  relaid_l {m₁} {m₂} {x} {q} e u w =
      let o = p.held in
      let h = right_keep u.frame (omega arith) (right_of o) in
      let v = subst (λ z. Holds m₁ q (rot_l (node p.a z p.i p.b))) (r_x p e) u.holds in
      record {
        held = link_l p.lo q (rot_l (node p.a p.x p.i p.b)) h w o.from (rot_l_ord p.lo p.k (node p.a p.x p.i p.b) o.l_ord) v;
        frame = frame_trans (frame_wide p.lo p.hi (omega arith) (omega arith) u.frame) (frame_wide p.lo p.hi o.from o.to (linked s 11 q (lit≤ tt) (lit< tt) h.key_is w));
      }

module _ {m : List ℕ} {s : ℕ} (p : FormR m s) where
  abbrev pub spot_r : {x : ℕ} → x ≡ right m s → Spot m x
  spot_r {x} e = record {
    l = p.b;
    k = p.i;
    r = p.c;
    lo = suc p.k;
    hi = p.hi;
    held = subst (λ z. Open m z p.b p.i p.c (suc p.k) p.hi) (sym (l_x p e)) (opened (right m s) (suc p.k) p.hi p.held.bound p.held.r_ord p.held.r_held);
  }

  pub relaid_r : {m₁ m₂ : List ℕ} {x q : ℕ} → x ≡ right m s → Made m m₁ q (rot_r (node p.b x p.i p.c)) (suc p.k) p.hi → m₂ ≡ put m₁ s 12 q → Laid m m₂ s p.a p.k (rot_r (node p.b p.x p.i p.c)) p.lo p.hi
  relaid_r {m₁} {m₂} {x} {q} e u w =
      let o = p.held in
      let h = left_keep u.frame (omega arith) (left_of o) in
      let v = subst (λ z. Holds m₁ q (rot_r (node p.b z p.i p.c))) (l_x p e) u.holds in
      record {
        held = link_r p.hi q (rot_r (node p.b p.x p.i p.c)) h w o.to o.bound (rot_r_ord (suc p.k) p.hi (node p.b p.x p.i p.c) o.r_ord) v;
        frame = frame_trans (frame_wide p.lo p.hi (omega arith) (omega arith) u.frame) (frame_wide p.lo p.hi o.from o.to (linked s 12 q (lit≤ tt) (lit< tt) h.key_is w));
      }

-- ---- from a slot that has a child to the child's parts
pub form_l : {m : List ℕ} {s : ℕ} (P : Tree → ℕ → Tree → ℕ → ℕ → Type 0) → ((q : FormL m s) → P (node q.a q.x q.i q.b) q.k q.c q.lo q.hi) → (p : SpotL m s) → P p.l p.k p.r p.lo p.hi
form_l {m} {s} P f p = go p.l p.held p.has
  where
    go : (l : Tree) → Open m s l p.k p.r p.lo p.hi → 0 < ht l → P l p.k p.r p.lo p.hi
    go leaf o h = absurd (omega arith)
    go (node a x i b) o h = f (record { a = a; x = x; i = i; b = b; k = p.k; c = p.r; lo = p.lo; hi = p.hi; held = o })

pub form_r : {m : List ℕ} {s : ℕ} (P : Tree → ℕ → Tree → ℕ → ℕ → Type 0) → ((q : FormR m s) → P q.a q.k (node q.b q.x q.i q.c) q.lo q.hi) → (p : SpotR m s) → P p.l p.k p.r p.lo p.hi
form_r {m} {s} P f p = go p.r p.held p.has
  where
    go : (r : Tree) → Open m s p.l p.k r p.lo p.hi → 0 < ht r → P p.l p.k r p.lo p.hi
    go leaf o h = absurd (omega arith)
    go (node b x i c) o h = f (record { a = p.l; k = p.k; b = b; x = x; i = i; c = c; lo = p.lo; hi = p.hi; held = o })

pub the_l : {m : List ℕ} {s : ℕ} → SpotL m s → FormL m s
the_l {m} {s} = form_l (λ _ _ _ _ _. FormL m s) (λ q. q)

pub the_r : {m : List ℕ} {s : ℕ} → SpotR m s → FormR m s
the_r {m} {s} = form_r (λ _ _ _ _ _. FormR m s) (λ q. q)

pub laid_same : {m : List ℕ} {s k lo hi : ℕ} {l r : Tree} → Open m s l k r lo hi → Laid m m s l k r lo hi
laid_same o = record { held = o; frame = record { len = refl; rest = λ t j h. refl; below = λ t j h g. refl; above = λ t j h g. refl } }

-- a slot whose height was put right, with its trees
abbrev pub again : {m n : List ℕ} {s : ℕ} (p : Spot m s) → Made m n s (node p.l s p.k p.r) p.k (suc p.k) → Spot n s
again {m} {n} {s} p u =
    let o = p.held in
    record { l = p.l; k = p.k; r = p.r; lo = p.lo; hi = p.hi; held = opened s p.lo p.hi o.bound (o.from, o.to, o.l_ord, o.r_ord) u.holds }

-- what is made after such a step is made from the start
pub after : {m n o : List ℕ} {s q : ℕ} {t : Tree} (p : Spot m s) → Frame m n p.k (suc p.k) → Made n o q t p.lo p.hi → Made m o q t p.lo p.hi
after p f u = record { holds = u.holds; frame = frame_trans (frame_wide p.lo p.hi p.held.from p.held.to f) u.frame }

pub then : {m n o : List ℕ} {q lo hi : ℕ} {t : Tree} → Frame m n lo hi → Made n o q t lo hi → Made m o q t lo hi
then f u = record { holds = u.holds; frame = frame_trans f u.frame }
