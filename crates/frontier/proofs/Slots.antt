-- The words of one slot: a candidate written into it, and a slot taken for it.
use mathlib.Core.Path.{◌≡◌, refl, sym, ◌∙◌, ap, subst}
use mathlib.Core.Logic.{◌≢◌, inl, inr}
use mathlib.Core.List.{List, [], ◌∷◌}
use Prim.Native.Nat.{ℕ, suc, ◌+◌, ◌<◌}
use native.Mathlib.Omega.{arith}
use lib.ListN.{length}
use lib.Dec.{lit<}
use Rattle.cost.specs.declared.ConsumerCost.{ConsumerCost}
use Rattle.avl.specs.Mem.{word, put, At}
use Rattle.avl.specs.MemLaws.{at_len, len_put, same, other_field, other_slot}
use Rattle.avl.specs.Members.{In, Out, Once, Apart}
use Rattle.avl.specs.Slots.{in_out}
use Rattle.avl.specs.Holds.{nil, cleared}
use Rattle.frontier.specs.declared.ScratchCandidate.{ScratchCandidate}
use Rattle.frontier.specs.declared.Builder.{Builder}
use Rattle.frontier.specs.Candidates.{carried, written_cost, written_plan}
use Rattle.frontier.specs.Kept.{Spare, Roomy, Taken, Filled}

-- ---- stores to one slot
pub record OnSlot (m n : List ℕ) (s : ℕ) : Type 0 where
  pub len : length n ≡ length m
  pub other : (u j : ℕ) → u ≢ s → j < 14 → word n u j ≡ word m u j

on_put : (m : List ℕ) (s k x : ℕ) → k < 14 → OnSlot m (put m s k x) s
on_put m s k x l = record { len = len_put m s k x; other = λ u j d h. other_slot m s k x u j d l h }

on_then : {m n o : List ℕ} {s : ℕ} → OnSlot m n s → OnSlot n o s → OnSlot m o s
on_then f g = record { len = g.len ∙ f.len; other = λ u j d h. g.other u j d h ∙ f.other u j d h }

-- the cost's words
module _ (m : List ℕ) (s : ℕ) (c : ConsumerCost) where
  abbrev c₁ : List ℕ
  c₁ = put m s 0 c.overflow_high

  abbrev c₂ : List ℕ
  c₂ = put c₁ s 1 c.overflow_low

  cost_on : OnSlot m (written_cost m s c) s
  cost_on = on_then (on_put m s 0 c.overflow_high (lit< tt)) (on_then (on_put c₁ s 1 c.overflow_low (lit< tt)) (on_put c₂ s 2 c.burden (lit< tt)))

  module _ (a : At m s) where
    cost_0 : word (written_cost m s c) s 0 ≡ c.overflow_high
    cost_0 = other_field c₂ s 2 c.burden s 0 (omega arith) (lit< tt) (lit< tt) ∙ (other_field c₁ s 1 c.overflow_low s 0 (omega arith) (lit< tt) (lit< tt) ∙ same m s 0 c.overflow_high a (lit< tt))

    cost_1 : word (written_cost m s c) s 1 ≡ c.overflow_low
    cost_1 = other_field c₂ s 2 c.burden s 1 (omega arith) (lit< tt) (lit< tt) ∙ same c₁ s 1 c.overflow_low (at_len (len_put m s 0 c.overflow_high) a) (lit< tt)

    cost_2 : word (written_cost m s c) s 2 ≡ c.burden
    cost_2 = same c₂ s 2 c.burden (at_len (len_put c₁ s 1 c.overflow_low ∙ len_put m s 0 c.overflow_high) a) (lit< tt)

-- the precedence and the plan's words
module _ (m : List ℕ) (s p k x y : ℕ) where
  abbrev p₁ : List ℕ
  p₁ = put m s 4 p

  abbrev p₂ : List ℕ
  p₂ = put p₁ s 5 k

  abbrev p₃ : List ℕ
  p₃ = put p₂ s 6 x

  plan_on : OnSlot m (written_plan m s p k x y) s
  plan_on = on_then (on_put m s 4 p (lit< tt)) (on_then (on_put p₁ s 5 k (lit< tt)) (on_then (on_put p₂ s 6 x (lit< tt)) (on_put p₃ s 7 y (lit< tt))))

  plan_low : (j : ℕ) → j < 4 → word (written_plan m s p k x y) s j ≡ word m s j
  plan_low j l = other_field p₃ s 7 y s j (omega arith) (lit< tt) (omega arith) ∙ (other_field p₂ s 6 x s j (omega arith) (lit< tt) (omega arith) ∙ (other_field p₁ s 5 k s j (omega arith) (lit< tt) (omega arith) ∙ other_field m s 4 p s j (omega arith) (lit< tt) (omega arith)))

  module _ (a : At m s) where
    plan_4 : word (written_plan m s p k x y) s 4 ≡ p
    plan_4 = other_field p₃ s 7 y s 4 (omega arith) (lit< tt) (lit< tt) ∙ (other_field p₂ s 6 x s 4 (omega arith) (lit< tt) (lit< tt) ∙ (other_field p₁ s 5 k s 4 (omega arith) (lit< tt) (lit< tt) ∙ same m s 4 p a (lit< tt)))

    plan_5 : word (written_plan m s p k x y) s 5 ≡ k
    plan_5 = other_field p₃ s 7 y s 5 (omega arith) (lit< tt) (lit< tt) ∙ (other_field p₂ s 6 x s 5 (omega arith) (lit< tt) (lit< tt) ∙ same p₁ s 5 k (at_len (len_put m s 4 p) a) (lit< tt))

    plan_6 : word (written_plan m s p k x y) s 6 ≡ x
    plan_6 = other_field p₃ s 7 y s 6 (omega arith) (lit< tt) (lit< tt) ∙ same p₂ s 6 x (at_len (len_put p₁ s 5 k ∙ len_put m s 4 p) a) (lit< tt)

    plan_7 : word (written_plan m s p k x y) s 7 ≡ y
    plan_7 = same p₃ s 7 y (at_len (len_put p₂ s 6 x ∙ (len_put p₁ s 5 k ∙ len_put m s 4 p)) a) (lit< tt)

-- the tree's words
module _ (m : List ℕ) (s : ℕ) where
  abbrev t₁ : List ℕ
  t₁ = put m s 11 nil

  abbrev t₂ : List ℕ
  t₂ = put t₁ s 12 nil

  clear_on : OnSlot m (cleared m s) s
  clear_on = on_then (on_put m s 11 nil (lit< tt)) (on_then (on_put t₁ s 12 nil (lit< tt)) (on_put t₂ s 13 1 (lit< tt)))

  clear_low : (j : ℕ) → j < 11 → word (cleared m s) s j ≡ word m s j
  clear_low j l = other_field t₂ s 13 1 s j (omega arith) (lit< tt) (omega arith) ∙ (other_field t₁ s 12 nil s j (omega arith) (lit< tt) (omega arith) ∙ other_field m s 11 nil s j (omega arith) (lit< tt) (omega arith))

  module _ (a : At m s) where
    clear_11 : word (cleared m s) s 11 ≡ nil
    clear_11 = other_field t₂ s 13 1 s 11 (omega arith) (lit< tt) (lit< tt) ∙ (other_field t₁ s 12 nil s 11 (omega arith) (lit< tt) (lit< tt) ∙ same m s 11 nil a (lit< tt))

    clear_12 : word (cleared m s) s 12 ≡ nil
    clear_12 = other_field t₂ s 13 1 s 12 (omega arith) (lit< tt) (lit< tt) ∙ same t₁ s 12 nil (at_len (len_put m s 11 nil) a) (lit< tt)

    clear_13 : word (cleared m s) s 13 ≡ 1
    clear_13 = same t₂ s 13 1 (at_len (len_put t₁ s 12 nil ∙ len_put m s 11 nil) a) (lit< tt)

-- a candidate written into a slot
abbrev pub f₁ : List ℕ → ℕ → ScratchCandidate → List ℕ
f₁ m s c = written_cost m s c.cost

abbrev pub f₂ : List ℕ → ℕ → ScratchCandidate → List ℕ
f₂ m s c = put (f₁ m s c) s 3 c.last

abbrev pub f₃ : List ℕ → ℕ → ScratchCandidate → List ℕ
f₃ m s c = written_plan (f₂ m s c) s c.precedence c.kind c.first c.second

pub filled : (m : List ℕ) (s : ℕ) (c : ScratchCandidate) → At m s → Filled m (cleared (f₃ m s c) s) s (carried c)
filled m s c a = record {
  len = on.len;
  own = rw (low 0 (lit< tt) ∙ cost_0 m s c.cost a, low 1 (lit< tt) ∙ cost_1 m s c.cost a, low 2 (lit< tt) ∙ cost_2 m s c.cost a, third, up 4 (lit< tt) ∙ plan_4 n₂ s c.precedence c.kind c.first c.second a₂, up 5 (lit< tt) ∙ plan_5 n₂ s c.precedence c.kind c.first c.second a₂, up 6 (lit< tt) ∙ plan_6 n₂ s c.precedence c.kind c.first c.second a₂, up 7 (lit< tt) ∙ plan_7 n₂ s c.precedence c.kind c.first c.second a₂);
  l_is = clear_11 n₃ s a₃;
  r_is = clear_12 n₃ s a₃;
  h_is = clear_13 n₃ s a₃;
  other = on.other;
}
  where
    n₁ : List ℕ
    n₁ = f₁ m s c

    n₂ : List ℕ
    n₂ = f₂ m s c

    n₃ : List ℕ
    n₃ = f₃ m s c

    on₁ : OnSlot m (f₁ m s c) s
    on₁ = cost_on m s c.cost

    on₂ : OnSlot m (f₂ m s c) s
    on₂ = on_then on₁ (on_put (f₁ m s c) s 3 c.last (lit< tt))

    on₃ : OnSlot m (f₃ m s c) s
    on₃ = on_then on₂ (plan_on (f₂ m s c) s c.precedence c.kind c.first c.second)

    on : OnSlot m (cleared (f₃ m s c) s) s
    on = on_then on₃ (clear_on (f₃ m s c) s)

    a₂ : At (f₂ m s c) s
    a₂ = at_len on₂.len a

    a₃ : At (f₃ m s c) s
    a₃ = at_len on₃.len a

    up : (j : ℕ) → j < 11 → word (cleared (f₃ m s c) s) s j ≡ word (f₃ m s c) s j
    up j l = clear_low (f₃ m s c) s j l

    mid : (j : ℕ) → j < 4 → word (cleared (f₃ m s c) s) s j ≡ word (f₂ m s c) s j
    mid j l = up j (omega arith) ∙ plan_low (f₂ m s c) s c.precedence c.kind c.first c.second j l

    low : (j : ℕ) → j < 3 → word (cleared (f₃ m s c) s) s j ≡ word (f₁ m s c) s j
    low j l = mid j (omega arith) ∙ other_field (f₁ m s c) s 3 c.last s j (omega arith) (lit< tt) (omega arith)

    third : word (cleared (f₃ m s c) s) s 3 ≡ c.last
    third = mid 3 (lit< tt) ∙ same (f₁ m s c) s 3 c.last (at_len on₁.len a) (lit< tt)

-- ---- the first free slot
pub record First (m : List ℕ) (p : ℕ) (frees : List ℕ) : Type 0 where
  pub xs : List ℕ
  pub is : frees ≡ p ∷ xs
  pub at : At m p
  pub some : p < nil
  pub rest : Spare m (word m p 10) xs

pub first : (m : List ℕ) (p : ℕ) (frees : List ℕ) → p ≢ nil → Spare m p frees → First m p frees
first m p [] n h = absurd (n h)
first m p (x ∷ xs) n h =
    let e = sym h.is in
    record { xs = xs; is = ap (λ z. z ∷ xs) e; at = subst (λ z. At m z) e h.at; some = subst (λ z. z < nil) e h.some; rest = subst (λ z. Spare m (word m z 10) xs) e h.rest }

pub spare_none : (m : List ℕ) (p : ℕ) (frees : List ℕ) → p ≡ nil → Spare m p frees → frees ≡ []
spare_none m p [] e h = refl
spare_none m p (x ∷ xs) e h = absurd (omega (arith, h.is, h.some))

apart_none : (xs : List ℕ) → Apart xs []
apart_none [] = tt
apart_none (x ∷ xs) = (tt, apart_none xs)

apart_tail : (ys : List ℕ) (z : ℕ) (zs : List ℕ) → Apart ys (z ∷ zs) → Apart ys zs
apart_tail [] z zs a = tt
apart_tail (y ∷ ys) z zs a = (a.0.1, apart_tail ys z zs a.1)

apart_head : (ys : List ℕ) (z : ℕ) (zs : List ℕ) → Apart ys (z ∷ zs) → Out z ys
apart_head [] z zs a = tt
apart_head (y ∷ ys) z zs a = ((λ e. a.0.0 (sym e)), apart_head ys z zs a.1)

module _ {m : List ℕ} {b : Builder} (p : Roomy m b) where
  -- no free slot: the first that was not used
  pub taken_new : b.free ≡ nil → Taken m p.size p.kept.order b.used nil (b.used + 1) b.used
  taken_new e = record {
    frees = [];
    at = record { room = omega (arith, less, p.room) };
    some = omega (arith, less, p.bound);
    out = in_out b.used p.kept.order (λ i. omega (arith, p.kept.low b.used i));
    spare = refl;
    once = (tt, tt);
    apart = apart_none p.kept.order;
    sum = omega (arith, none, p.kept.sum);
    most = omega (arith, none, p.kept.sum);
    own = omega arith;
    low = λ x i. omega (arith, p.kept.low x i);
    low_free = λ x i. absurd i;
    within = omega (arith, less);
  }
    where
      none : length p.kept.frees ≡ 0
      none = ap (λ z. length z) (spare_none m b.free p.kept.frees e p.kept.spare)

      less : b.used < p.size
      less = omega (arith, none, p.kept.sum, p.kept.count, p.few)

  pub fst : b.free ≢ nil → First m b.free p.kept.frees
  fst n = first m b.free p.kept.frees n p.kept.spare

  pub taken_free : {x : ℕ} → b.free ≢ nil → x ≡ word m b.free 10 → Taken m p.size p.kept.order b.free x b.used b.used
  taken_free {x} n e = record {
    frees = (fst n).xs;
    at = (fst n).at;
    some = (fst n).some;
    out = apart_head p.kept.order b.free (fst n).xs parts;
    spare = subst (λ z. Spare m z (fst n).xs) (sym e) (fst n).rest;
    once = subst (λ z. Once z) (fst n).is p.kept.once_free;
    apart = apart_tail p.kept.order b.free (fst n).xs parts;
    sum = omega (arith, p.kept.sum, len);
    most = omega (arith, p.kept.sum, len);
    own = low' b.free (inl refl);
    low = p.kept.low;
    low_free = λ y i. low' y (inr i);
    within = p.within;
  }
    where
      parts : Apart p.kept.order (b.free ∷ (fst n).xs)
      parts = subst (λ z. Apart p.kept.order z) (fst n).is p.kept.apart

      len : length p.kept.frees ≡ suc (length (fst n).xs)
      len = ap (λ z. length z) (fst n).is

      low' : (y : ℕ) → In y (b.free ∷ (fst n).xs) → y < b.used
      low' y i = p.kept.low_free y (subst (λ z. In y z) (sym (fst n).is) i)
