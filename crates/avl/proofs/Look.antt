-- A search down a tree: what is left of it at a link answers for the whole.
use mathlib.Core.Path.{◌≡◌, refl, sym, ◌∙◌, ap, subst}
use mathlib.Core.Logic.{◌≢◌}
use mathlib.Core.List.{List}
use Prim.Native.Nat.{ℕ, ◌<◌}
use native.Mathlib.Omega.{arith}
use Rattle.avl.specs.Mem.{At}
use Rattle.avl.specs.Tree.{Tree, same_of, before_of, from_of, Seen}
use Rattle.avl.specs.TreeLaws.{seen_leaf, seen_l, seen_r, seen_here}
use Rattle.avl.specs.Tree.Tree.{leaf, node}
use Rattle.avl.specs.Holds.{nil, key, left, right, Holds, Whole}
use Rattle.avl.proofs.Steps.{held_at}
use Rattle.avl.proofs.Into.{high, high_is}

pub record Walk (m : List ℕ) (k cur b f : ℕ) (t₀ : Tree) : Type 0 where
  pub t : Tree
  pub holds : Holds m cur t
  pub agree : Seen k t₀ nil nil nil (same_of k t nil) (before_of k t b) (from_of k t f)

pub start : {m : List ℕ} {root : ℕ} (k : ℕ) (p : Whole m root) → Walk m k root nil nil p.t
start k p = record { t = p.t; holds = p.holds; agree = record { same = refl; before = refl; from = refl } }

-- what follows what
on : {k : ℕ} {t₀ : Tree} {x y z x' y' z' : ℕ} → Seen k t₀ nil nil nil x y z → x ≡ x' → y ≡ y' → z ≡ z' → Seen k t₀ nil nil nil x' y' z'
on s a b c = record { same = s.same ∙ a; before = s.before ∙ b; from = s.from ∙ c }

module _ {m : List ℕ} {k cur b f : ℕ} {t₀ : Tree} (w : Walk m k cur b f t₀) where
  pub w_at : cur ≢ nil → At m cur
  w_at n = held_at m cur w.t n w.holds

  pub step_l : {h x : ℕ} → cur ≢ nil → h ≡ key m cur → k < h → x ≡ left m cur → (Walk m k x b cur t₀) × (high m x < high m cur)
  step_l {h} {x} n e g d = go w.t w.holds w.agree
    where
      go : (t : Tree) → Holds m cur t → Seen k t₀ nil nil nil (same_of k t nil) (before_of k t b) (from_of k t f) → (Walk m k x b cur t₀) × (high m x < high m cur)
      go leaf q a = absurd (n q)
      go (node l s j r) q a =
          let u : key m cur ≡ j = ap (λ z. key m z) q.is ∙ q.key_is in
          let v = seen_l k l s j r nil b f (omega arith) in
          let y : Holds m x l = subst (λ z. Holds m z l) (sym (d ∙ ap (λ z. left m z) q.is)) q.l_held in
          (record { t = l; holds = y; agree = on a v.same v.before (v.from ∙ ap (λ z. from_of k l z) (sym q.is)) }, omega (arith, high_is m x l y, high_is m cur (node l s j r) q))

  pub step_r : {h x : ℕ} → cur ≢ nil → h ≡ key m cur → h < k → x ≡ right m cur → (Walk m k x cur f t₀) × (high m x < high m cur)
  step_r {h} {x} n e g d = go w.t w.holds w.agree
    where
      go : (t : Tree) → Holds m cur t → Seen k t₀ nil nil nil (same_of k t nil) (before_of k t b) (from_of k t f) → (Walk m k x cur f t₀) × (high m x < high m cur)
      go leaf q a = absurd (n q)
      go (node l s j r) q a =
          let u : key m cur ≡ j = ap (λ z. key m z) q.is ∙ q.key_is in
          let v = seen_r k l s j r nil b f (omega arith) in
          let y : Holds m x r = subst (λ z. Holds m z r) (sym (d ∙ ap (λ z. right m z) q.is)) q.r_held in
          (record { t = r; holds = y; agree = on a v.same (v.before ∙ ap (λ z. before_of k r z) (sym q.is)) v.from }, omega (arith, high_is m x r y, high_is m cur (node l s j r) q))

  pub found : {h : ℕ} → cur ≢ nil → h ≡ key m cur → h ≡ k → Seen k t₀ nil nil nil cur b cur
  found {h} n e g = go w.t w.holds w.agree
    where
      go : (t : Tree) → Holds m cur t → Seen k t₀ nil nil nil (same_of k t nil) (before_of k t b) (from_of k t f) → Seen k t₀ nil nil nil cur b cur
      go leaf q a = absurd (n q)
      go (node l s j r) q a =
          let u : key m cur ≡ j = ap (λ z. key m z) q.is ∙ q.key_is in
          let v = seen_here k l s j r nil b f (omega arith) in
          on a (v.same ∙ sym q.is) v.before (v.from ∙ sym q.is)

  pub none : cur ≡ nil → Seen k t₀ nil nil nil nil b f
  none e = go w.t w.holds w.agree
    where
      go : (t : Tree) → Holds m cur t → Seen k t₀ nil nil nil (same_of k t nil) (before_of k t b) (from_of k t f) → Seen k t₀ nil nil nil nil b f
      go leaf q a = let v = seen_leaf k nil b f in on a v.same v.before v.from
      go (node l s j r) q a = absurd (omega (arith, q.is, q.some))
