-- One turn of the removal of what a candidate leaves behind.
use mathlib.Core.Path.{◌≡◌, refl, sym, ◌∙◌, ap, subst}
use mathlib.Core.Logic.{◌≢◌}
use mathlib.Core.Bool.{Bool, true, false, not}
use mathlib.Core.List.{List, ◌∷◌}
use Prim.Native.Nat.{ℕ, ◌≤◌, ◌<◌}
use native.Mathlib.Omega.{arith}
use lib.ListN.{length, length-append}
use lib.Dec.{lit<}
use Rattle.cost.specs.Cost.{Cost}
use Rattle.cost.specs.Order.{Cheap}
use Rattle.cost.specs.Logic.{no_both}
use Rattle.layout.specs.Frontier.{Cand, covers, keep}
use Rattle.avl.specs.Mem.{word, At}
use Rattle.avl.specs.Tree.{Tree, Seen, On, slot_of}
use Rattle.avl.specs.Near.{Least}
use Rattle.avl.specs.Members.{In, Place}
use Rattle.avl.specs.Slots.{in_more}
use Rattle.avl.specs.Holds.{nil}
use Rattle.frontier.specs.declared.Builder.{Builder}
use Rattle.frontier.specs.Candidates.{Pending, cost_at, candidate_at}
use Rattle.frontier.specs.Kept.{Sound, Drop, Dropped, Fresh, Sifted, prunes, stays_by, none_dearer}
use Rattle.frontier.proofs.Covering.{any_none, none_any, keep_all, keep_drop}
use Rattle.frontier.proofs.Searching.{col, least, dearer, low_at, all_stay, dear_goes}

-- a candidate is its words
pub candidate_same : (m n : List ℕ) (s : ℕ) → ((j : ℕ) → j < 8 → word n s j ≡ word m s j) → candidate_at n s ≡ candidate_at m s
candidate_same m n s f = rw (f 0 (lit< tt), f 1 (lit< tt), f 2 (lit< tt), f 3 (lit< tt), f 4 (lit< tt), f 5 (lit< tt), f 6 (lit< tt), f 7 (lit< tt))

pub falls_same : (m n : List ℕ) (x y : ℕ) → candidate_at n x ≡ candidate_at m x → candidate_at n y ≡ candidate_at m y → (word m x 3 ≤ word m y 3 → Cheap (cost_at m y) (cost_at m x)) → word n x 3 ≤ word n y 3 → Cheap (cost_at n y) (cost_at n x)
falls_same m n x y e d f h =
    let g : Cheap (cost_at m y) (cost_at m x) = f (omega (arith, h, ap (λ z. z.column) e, ap (λ z. z.column) d)) in
    subst (λ z. Cheap z (cost_at n x)) (sym (ap (λ z. z.cost) d)) (subst (λ z. Cheap (cost_at m y) z) (sym (ap (λ z. z.cost) e)) g)

-- the loop knows x by its column and its cost alone
pub at_column : {i k same before from : ℕ} {t : Tree} → i ≡ k → Seen k t nil nil nil same before from → Seen i t nil nil nil same before from
at_column {i} {k} {same} {before} {from} {t} e s = subst (λ z. Seen z t nil nil nil same before from) (sym e) s

pub at_cost : (m : List ℕ) (s : ℕ) {a c : Cost} {r : Bool} → a ≡ c → none_dearer m s c ≡ r → none_dearer m s a ≡ r
at_cost m s e h = ap (λ z. none_dearer m s z) e ∙ h

-- the loop's state
pub record Stage (m₀ m : List ℕ) (b₀ b : Builder) (x : Cand Pending) (order : List ℕ) : Type 0 where
  pub sound : Sound m b
  pub agree : keep (stays_by m₀ x) order ≡ keep (stays_by m₀ x) sound.kept.order
  pub sub : (y : ℕ) → In y sound.kept.order → In y order
  pub rest : (s j : ℕ) → j < 8 → word m s j ≡ word m₀ s j
  pub len : length m ≡ length m₀
  pub used_is : b.used ≡ b₀.used
  pub fewer : b.live ≤ b₀.live

pub begin : {m : List ℕ} {b : Builder} {x : Cand Pending} (p : Fresh m b x) → Stage m m b b x p.sound.kept.order
begin p = record { sound = p.sound; agree = refl; sub = λ y i. i; rest = λ s j h. refl; len = refl; used_is = refl; fewer = omega arith }

module _ {m₀ m : List ℕ} {b₀ b : Builder} {x : Cand Pending} (p : Fresh m₀ b₀ x) (g : Stage m₀ m b₀ b x p.sound.kept.order) where
  pub is_same : (y : ℕ) → candidate_at m y ≡ candidate_at m₀ y
  is_same y = candidate_same m₀ m y (g.rest y)

  -- none that is left prunes x
  abbrev pub fresh : Fresh m b x
  fresh = record { sound = g.sound; none = none_any (prunes m x) g.sound.kept.order (λ y i h. no_both (covers (candidate_at m₀ y) x) (subst (λ z. covers z x ≡ true) (is_same y) h) (any_none (prunes m₀ x) p.sound.kept.order p.none y (g.sub y i))) }

  module _ {same before s : ℕ} (e : Seen x.column g.sound.kept.t nil nil nil same before s) where
    pub s_at : s ≢ nil → At m s
    s_at n = low_at fresh e n

    pub done : none_dearer m s x.cost ≡ true → Sifted m₀ m b₀ b x p.sound.kept.order
    done h = record {
      sound = g.sound;
      order_is = sym (g.agree ∙ keep_all (stays_by m₀ x) g.sound.kept.order (λ y i. subst (λ z. not (covers x z) ≡ true) (is_same y) (all_stay fresh e h y i)));
      used_is = g.used_is;
      fewer = g.fewer;
      len = g.len;
      rest = g.rest;
    }

    -- the least at or above costs more: it goes
    module _ (h : none_dearer m s x.cost ≡ false) where
      some : s ≢ nil
      some = (dearer m s x.cost h).0

      pub dear_at : At m s
      dear_at = s_at some

      pub the : Least x.column g.sound.kept.t s
      the = least g.sound e some

      pub key : {a : ℕ} → a ≡ word m s 3 → a ≡ the.j
      key d = d ∙ col g.sound s the.j the.entry

      abbrev pub drop : {a : ℕ} → a ≡ word m s 3 → Drop m b a
      drop {a} d = record { kept = g.sound.kept; on = subst (λ y. On y g.sound.kept.t) (sym (key d)) the.on }

      slot_is : {a : ℕ} → a ≡ word m s 3 → slot_of a g.sound.kept.t ≡ s
      slot_is {a} d = ap (λ y. slot_of y g.sound.kept.t) (key d) ∙ the.is

      pub next : {a : ℕ} {o : List ℕ} {b' : Builder} → a ≡ word m s 3 → Dropped m o b b' a g.sound.kept.t g.sound.kept.order
          → (Stage m₀ o b₀ b' x p.sound.kept.order) × (b'.live < b.live)
      next {a} {o} {b'} d q = (
        record {
          sound = record { kept = q.kept; falls = λ u v i j l. falls_same m o u v (candidate_same m o u (q.rest u)) (candidate_same m o v (q.rest v)) (g.sound.falls u v (up u i) (up v j)) l };
          agree = g.agree ∙ (ap (λ z. keep (stays_by m₀ x) z) pl.whole_is ∙ (keep_drop (stays_by m₀ x) (slot_of a g.sound.kept.t) pl.us pl.bs gone ∙ ap (λ z. keep (stays_by m₀ x) z) (sym pl.less_is)));
          sub = λ y i. g.sub y (up y i);
          rest = λ u j l. q.rest u j l ∙ g.rest u j l;
          len = q.len ∙ g.len;
          used_is = q.used_is ∙ g.used_is;
          fewer = omega (arith, g.fewer, less);
        },
        less,
      )
        where
          pl : Place g.sound.kept.order q.kept.order (slot_of a g.sound.kept.t)
          pl = q.place

          less : b'.live < b.live
          less = omega (arith, q.kept.count, g.sound.kept.count, ap (λ z. length z) pl.whole_is, ap (λ z. length z) pl.less_is, length-append pl.us (slot_of a g.sound.kept.t ∷ pl.bs), length-append pl.us pl.bs)

          up : (u : ℕ) → In u q.kept.order → In u g.sound.kept.order
          up u i = subst (λ z. In u z) (sym pl.whole_is) (in_more u (slot_of a g.sound.kept.t) pl.us pl.bs (subst (λ z. In u z) pl.less_is i))

          gone : stays_by m₀ x (slot_of a g.sound.kept.t) ≡ false
          gone = subst (λ z. stays_by m₀ x z ≡ false) (sym (slot_is d)) (subst (λ z. not (covers x z) ≡ false) (is_same s) (dear_goes fresh e h))
