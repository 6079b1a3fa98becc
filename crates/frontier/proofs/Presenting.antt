-- A presented candidate: pruned, refused, or in, with what it removes out.
use mathlib.Core.Path.{◌≡◌, refl, sym, ◌∙◌, ap, subst}
use mathlib.Core.Logic.{◌≢◌, ◌⊎◌, inl, inr, ⊎_elim}
use mathlib.Core.Bool.{true, false, not}
use mathlib.Core.List.{List, [], ◌∷◌, ◌++◌, map, append-nil}
use Prim.Native.Nat.{ℕ, ◌+◌, ◌-◌, ◌≤◌, ◌<◌}
use native.Mathlib.Omega.{arith}
use lib.ListN.{length, length-append}
use lib.Dec.{lit<}
use Rattle.cost.specs.Order.{Cheap, cheap_refl}
use Rattle.cost.specs.Logic.{no_both, not_true}
use Rattle.layout.specs.Frontier.{Cand, covers, any, keep, present}
use Rattle.avl.specs.Mem.{word}
use Rattle.avl.specs.Tree.{Tree, Off, Entry}
use Rattle.avl.specs.Tree.Tree.{leaf, node}
use Rattle.avl.specs.Members.{In}
use Rattle.avl.specs.Slots.{in_case, out_in}
use Rattle.frontier.specs.declared.Builder.{Builder}
use Rattle.frontier.specs.declared.Effect.{Effect}
use Rattle.frontier.specs.Candidates.{Pending, cost_at, candidate_at, survivors}
use Rattle.frontier.specs.Kept.{Kept, Frontier, Admit, Admitted, Effects, Fresh, Sifted, After, Refused, prunes, stays_by}
use Rattle.frontier.specs.Walk.{map_length, survive, survive_length, present_pruned, present_kept}
use Rattle.frontier.proofs.Covering.{covers_same, goes_dear, stay_le, stay_ge, any_none, keep_in, any_map, keep_map, map_append, map_same}
use Rattle.frontier.proofs.Searching.{col, kept_in}
use Rattle.frontier.proofs.Sifting.{candidate_same, falls_same}

module _ {m : List ℕ} {b : Builder} (p : Kept m b) (x : Cand Pending) where
  any_is : any (λ k. covers k x) (survivors m b) ≡ any (prunes m x) p.order
  any_is = ap (λ z. any (λ k. covers k x) z) (survive p) ∙ any_map (λ k. covers k x) (candidate_at m) p.order

  pub rule_pruned : any (prunes m x) p.order ≡ true → present covers (survivors m b) x ≡ survivors m b
  rule_pruned e = present_pruned (survivors m b) x (any_is ∙ e)

  pub rule_kept : any (prunes m x) p.order ≡ false → present covers (survivors m b) x ≡ map (candidate_at m) (keep (stays_by m x) p.order) ++ x ∷ []
  rule_kept e = present_kept (survivors m b) x (any_is ∙ e) ∙ ap (λ z. z ++ x ∷ []) (ap (λ z. keep (λ k. not (covers x k)) z) (survive p) ∙ keep_map (λ k. not (covers x k)) (candidate_at m) p.order)

module _ {m : List ℕ} {size : ℕ} {b : Builder} (p : Frontier m size b) (x : Cand Pending) where
  -- what is known of each effect
  pub as_told : {r q : Effect} → Effects m x p.sound.kept.order r → r ≡ q → Effects m x p.sound.kept.order q
  as_told e t = subst (λ z. Effects m x p.sound.kept.order z) t e

  pub was_pruned : any (prunes m x) p.sound.kept.order ≡ true → After m m size b b x 1
  was_pruned e = record { frontier = p; most = omega (arith, p.sound.kept.count, p.sound.kept.sum); survivors_are = sym (rule_pruned p.sound.kept x e); pruned_is = omega (arith, ap (λ z. length z) (rule_pruned p.sound.kept x e)) }

  abbrev pub fresh : any (prunes m x) p.sound.kept.order ≡ false → Fresh m b x
  fresh n = record { sound = p.sound; none = n }

  pub live_le : b.live ≤ size
  live_le = omega (arith, p.sound.kept.count, p.sound.kept.sum, p.within)

  module _ (n : any (prunes m x) p.sound.kept.order ≡ false) (all : keep (stays_by m x) p.sound.kept.order ≡ p.sound.kept.order) where
    -- x removes none, and there is no room for it
    pub refused : size ≤ b.live → Refused m m size b x (b.live + 1)
    refused h = record { same = refl; more = omega (arith, h, p.sound.kept.count, long); needed_is = omega (arith, p.sound.kept.count, long); live_is = omega (arith, survive_length p.sound.kept) }
      where
        long : length (present covers (survivors m b) x) ≡ length p.sound.kept.order + 1
        long = ap (λ z. length z) (rule_kept p.sound.kept x n) ∙ (length-append (map (candidate_at m) (keep (stays_by m x) p.sound.kept.order)) (x ∷ [])
            ∙ ap (λ z. z + 1) (map_length (candidate_at m) (keep (stays_by m x) p.sound.kept.order) ∙ ap (λ z. length z) all))

    -- nothing need be taken out
    abbrev pub as_it_is : Sifted m m b b x p.sound.kept.order
    as_it_is = record { sound = p.sound; order_is = sym all; used_is = refl; fewer = omega arith; len = refl; rest = λ s j l. refl }

pub off_by : (k : ℕ) (t : Tree) → ((x : ℕ) → Entry x k t → ⊥) → Off k t
off_by k leaf f = tt
off_by k (node l s j r) f = ((λ e. f s (inl (refl, e))), off_by k l (λ x e. f x (inr (inl e))), off_by k r (λ x e. f x (inr (inr e))))

-- ---- in, with what it removes out
module _ {m : List ℕ} {size : ℕ} {b : Builder} (p : Frontier m size b) (x : Cand Pending) (n : any (prunes m x) p.sound.kept.order ≡ false)
    {m₁ : List ℕ} {b₁ : Builder} (z : Sifted m m₁ b b₁ x p.sound.kept.order) where
  -- what is left was there, and stays; none of it prunes x
  was : (y : ℕ) → In y z.sound.kept.order → In y p.sound.kept.order × (stays_by m x y ≡ true)
  was y i = keep_in (stays_by m x) p.sound.kept.order y (subst (λ w. In y w) z.order_is i)

  not_by : (y : ℕ) → In y z.sound.kept.order → covers (candidate_at m y) x ≡ false
  not_by y i = any_none (prunes m x) p.sound.kept.order n y (was y i).0

  as_was : (y : ℕ) → candidate_at m₁ y ≡ candidate_at m y
  as_was y = candidate_same m m₁ y (z.rest y)

  pub new : (y : ℕ) → Entry y x.column z.sound.kept.t → ⊥
  new y e =
      let i = kept_in z.sound y x.column e in
      let q : word m y 3 ≡ x.column = sym (z.rest y 3 (lit< tt)) ∙ col z.sound y x.column e in
      no_both (covers x (candidate_at m y)) (goes_dear x (candidate_at m y) (omega arith) (sym (covers_same (candidate_at m y) x q) ∙ not_by y i)) (not_true (covers x (candidate_at m y)) (was y i).1)

  pub few_left : length (keep (stays_by m x) p.sound.kept.order) < length p.sound.kept.order → b₁.live < size
  few_left h = omega (arith, h, z.sound.kept.count, ap (λ w. length w) z.order_is, p.sound.kept.count, live_le p x)

  abbrev pub room : b₁.live < size → Admit m₁ b₁ x.column
  room h = record { roomy = record { size = size; kept = z.sound.kept; few = h; within = omega (arith, z.used_is, p.within); room = omega (arith, z.len, p.room); bound = p.bound }; off = off_by x.column z.sound.kept.t new }

  module _ {m₂ : List ℕ} {b₂ : Builder} (u : Admitted m₁ m₂ size b₁ b₂ x z.sound.kept.order) where
    other : (y : ℕ) → In y z.sound.kept.order → y ≢ u.s
    other y i e = out_in u.s z.sound.kept.order u.out (subst (λ w. In w z.sound.kept.order) e i)

    as_is : (y : ℕ) → In y z.sound.kept.order → candidate_at m₂ y ≡ candidate_at m y
    as_is y i = candidate_same m₁ m₂ y (λ j l. u.rest y j (other y i) l) ∙ as_was y

    which : (y : ℕ) → In y u.kept.order → (y ≡ u.s) ⊎ In y z.sound.kept.order
    which y i = ⊎_elim (λ e. inl e) (λ w. inr (subst (λ v. In y v) (append-nil z.sound.kept.order) w)) (in_case y u.s z.sound.kept.order [] (subst (λ w. In y w) u.order_is i))

    -- the new one
    mine : (y : ℕ) → y ≡ u.s → candidate_at m₂ y ≡ x
    mine y e = ap (λ w. candidate_at m₂ w) e ∙ u.own

    pairs : (y v : ℕ) → (y ≡ u.s) ⊎ In y z.sound.kept.order → (v ≡ u.s) ⊎ In v z.sound.kept.order → word m₂ y 3 ≤ word m₂ v 3 → Cheap (cost_at m₂ v) (cost_at m₂ y)
    pairs y v (inl a) (inl d) h = subst (λ w. Cheap w (cost_at m₂ y)) (ap (λ w. w.cost) (mine y a ∙ sym (mine v d))) (cheap_refl (cost_at m₂ y))
    pairs y v (inl a) (inr i) h = subst (λ w. Cheap (cost_at m₂ v) w) (sym (ap (λ w. w.cost) (mine y a))) (subst (λ w. Cheap w x.cost) (sym (ap (λ w. w.cost) (as_is v i)))
        (stay_le x (candidate_at m v) (omega (arith, h, ap (λ w. w.column) (mine y a), ap (λ w. w.column) (as_is v i))) (was v i).1))
    pairs y v (inr i) (inl d) h = subst (λ w. Cheap (cost_at m₂ v) w) (sym (ap (λ w. w.cost) (as_is y i))) (subst (λ w. Cheap w (cost_at m y)) (sym (ap (λ w. w.cost) (mine v d)))
        (stay_ge x (candidate_at m y) (omega (arith, h, ap (λ w. w.column) (mine v d), ap (λ w. w.column) (as_is y i))) (not_by y i)))
    pairs y v (inr i) (inr j) h = falls_same m m₂ y v (as_is y i) (as_is v j) (p.sound.falls y v (was y i).0 (was v j).0) h

    live_is : b₂.live ≡ b₁.live + 1
    live_is = omega (arith, u.kept.count, ap (λ w. length w) u.order_is, length-append z.sound.kept.order (u.s ∷ []), z.sound.kept.count)

    listed : survivors m₂ b₂ ≡ present covers (survivors m b) x
    listed = survive u.kept ∙ (ap (λ w. map (candidate_at m₂) w) u.order_is ∙ (map_append (candidate_at m₂) z.sound.kept.order (u.s ∷ [])
        ∙ (ap (λ w. w ++ candidate_at m₂ u.s ∷ []) (map_same (candidate_at m₂) (candidate_at m) z.sound.kept.order as_is)
        ∙ (ap (λ w. map (candidate_at m) z.sound.kept.order ++ w ∷ []) u.own
        ∙ (ap (λ w. map (candidate_at m) w ++ x ∷ []) z.order_is ∙ sym (rule_kept p.sound.kept x n))))))

    pub joined : {k : ℕ} → k ≡ b.live - b₁.live → After m m₂ size b b₂ x k
    joined {k} e = record {
      frontier = record { sound = record { kept = u.kept; falls = λ y v i j h. pairs y v (which y i) (which v j) h }; within = u.within; room = omega (arith, u.len, z.len, p.room); bound = p.bound };
      most = omega (arith, u.most, z.used_is);
      survivors_are = listed;
      pruned_is = omega (arith, e, ap (λ w. length w) listed, survive_length u.kept, survive_length p.sound.kept, live_is, z.fewer);
    }
