-- The frontier through a removal: the tree, then the order, then the free slots.
use mathlib.Core.Path.{◌≡◌, refl, sym, ◌∙◌, ap, subst}
use mathlib.Core.Logic.{◌≢◌, inl, inr, ⊎_elim}
use mathlib.Core.List.{List, [], ◌∷◌, ◌++◌}
use Prim.Native.Nat.{ℕ, suc, ◌+◌, ◌-◌, ◌≤◌, ◌<◌}
use native.Mathlib.Omega.{arith}
use lib.ListN.{length, length-append}
use lib.Dec.{lit<, lit≤}
use Rattle.avl.specs.Mem.{word, put, At}
use Rattle.avl.specs.MemLaws.{at_len, len_put, same, other_field, other_slot}
use Rattle.avl.specs.Tree.{Tree, del, slot_of, slots}
use Rattle.avl.specs.Tree.Tree.{leaf, node}
use Rattle.avl.specs.TreeLaws.{del_ord, del_avl}
use Rattle.avl.specs.Members.{In, Out, Once, Apart, Same, Place}
use Rattle.avl.specs.Slots.{del_place, in_mid, in_more, out_in, split, once_less, same_less}
use Rattle.avl.specs.Holds.{nil, top, left, right, Holds, Gone, Has}
use Rattle.frontier.specs.declared.Builder.{Builder}
use Rattle.frontier.specs.Candidates.{next}
use Rattle.frontier.specs.Chain.{Seg, Chained, Within}
use Rattle.frontier.specs.Kept.{Spare, Kept, Drop, Dropped}
use Rattle.frontier.proofs.Segments.{seg_put}

-- a tree reads no link of the order or of the free slots
pub holds_same : (m n : List ℕ) (p : ℕ) (t : Tree) → length n ≡ length m → ((u j : ℕ) → j < 14 → j ≢ 8 → j ≢ 9 → j ≢ 10 → word n u j ≡ word m u j) → Holds m p t → Holds n p t
holds_same m n p leaf e f h = h
holds_same m n p (node l s k r) e f h =
    let g : (j : ℕ) → j < 14 → j ≢ 8 → j ≢ 9 → j ≢ 10 → word n s j ≡ word m s j = λ j a b c d. f s j a b c d in
    record {
      is = h.is;
      at = at_len e h.at;
      some = h.some;
      key_is = g 3 (lit< tt) (omega arith) (omega arith) (omega arith) ∙ h.key_is;
      tall_is = g 13 (lit< tt) (omega arith) (omega arith) (omega arith) ∙ h.tall_is;
      l_held = rw (g 11 (lit< tt) (omega arith) (omega arith) (omega arith)) (holds_same m n (left m s) l e f h.l_held);
      r_held = rw (g 12 (lit< tt) (omega arith) (omega arith) (omega arith)) (holds_same m n (right m s) r e f h.r_held);
    }

-- the order reads its own links alone, and the free slots theirs
pub seg_same : (m n : List ℕ) (p c : ℕ) (xs : List ℕ) (q e : ℕ) → length n ≡ length m → ((u j : ℕ) → 8 ≤ j → j < 10 → word n u j ≡ word m u j) → Seg m p c xs q e → Seg n p c xs q e
seg_same m n p c [] q e l f h = h
seg_same m n p c (x ∷ xs) q e l f h = record {
  is = h.is;
  at = at_len l h.at;
  some = h.some;
  prev_is = f x 8 (lit≤ tt) (lit< tt) ∙ h.prev_is;
  rest = rw (f x 9 (lit≤ tt) (lit< tt)) (seg_same m n x (next m x) xs q e l f h.rest);
}

pub spare_same : (m n : List ℕ) (p : ℕ) (xs : List ℕ) → length n ≡ length m → ((u : ℕ) → word n u 10 ≡ word m u 10) → Spare m p xs → Spare n p xs
spare_same m n p [] l f h = h
spare_same m n p (x ∷ xs) l f h = record { is = h.is; at = at_len l h.at; some = h.some; rest = rw (f x) (spare_same m n (word m x 10) xs l f h.rest) }

pub spare_put : (m : List ℕ) (s v p : ℕ) (xs : List ℕ) → Out s xs → Spare m p xs → Spare (put m s 10 v) p xs
spare_put m s v p [] o h = h
spare_put m s v p (x ∷ xs) o h = record {
  is = h.is;
  at = at_len (len_put m s 10 v) h.at;
  some = h.some;
  rest = rw (other_slot m s 10 v x 10 (λ z. o.0 (sym z)) (lit< tt) (lit< tt)) (spare_put m s v (word m x 10) xs o.1 h.rest);
}

-- lists apart
pub apart_of : (s : ℕ) (xs zs : List ℕ) → In s xs → Apart xs zs → Out s zs
apart_of s [] zs i a = absurd i
apart_of s (x ∷ xs) zs i a = ⊎_elim (λ e. subst (λ y. Out y zs) (sym e) a.0) (λ g. apart_of s xs zs g a.1) i

pub apart_by : (xs zs : List ℕ) → ((s : ℕ) → In s xs → Out s zs) → Apart xs zs
apart_by [] zs f = tt
apart_by (x ∷ xs) zs f = (f x (inl refl), apart_by xs zs (λ s i. f s (inr i)))

module _ {m : List ℕ} {b : Builder} {column : ℕ} (p : Drop m b column) where
  abbrev pub has : Has m b.root column
  has = let k = p.kept in record { t = k.t; lo = 0; hi = top; holds = k.holds; ord = k.ord; bound = lit≤ tt; on = p.on }

  -- the slot and where it stands in the order
  abbrev pub s : ℕ
  s = slot_of column p.kept.t

  pub pl : Place (slots p.kept.t) (slots (del column p.kept.t)) s
  pl = del_place column p.kept.t p.on

  pub in_order : In s p.kept.order
  in_order = p.kept.agree.to s (subst (λ z. In s z) (sym pl.whole_is) (in_mid s pl.us pl.bs))

  abbrev pub cut : (us : List ℕ) × (bs : List ℕ) × (p.kept.order ≡ us ++ s ∷ bs)
  cut = split s p.kept.order in_order

  pub once_cut : Once (cut.0 ++ s ∷ cut.1)
  once_cut = subst (λ z. Once z) cut.2 p.kept.once

  pub long : length p.kept.order ≡ suc (length cut.0 + length cut.1)
  long = omega (arith, ap (λ z. length z) cut.2, length-append cut.0 (s ∷ cut.1))

  pub live_is : b.live ≡ suc (length cut.0 + length cut.1)
  live_is = p.kept.count ∙ long

  -- after the tree: the slot still stands in the order
  abbrev pub within : {n : List ℕ} {r x : ℕ} → Gone m n r x column p.kept.t 0 top → Within n x b.head b.tail
  within {n} {r} {x} g = record {
    ys = cut.0;
    zs = cut.1;
    seg = subst (λ z. Seg n nil b.head (cut.0 ++ z ∷ cut.1) b.tail nil) (sym g.is) (seg_same m n nil b.head (cut.0 ++ s ∷ cut.1) b.tail nil g.made.frame.len (λ u j a d. g.made.frame.rest u j (omega arith)) (subst (λ z. Seg m nil b.head z b.tail nil) cut.2 p.kept.seg));
    once = subst (λ z. Once (cut.0 ++ z ∷ cut.1)) (sym g.is) once_cut;
  }

  out_free : Out s p.kept.frees
  out_free = apart_of s p.kept.order p.kept.frees in_order p.kept.apart

  was : (y : ℕ) → In y (cut.0 ++ cut.1) → In y p.kept.order
  was y i = subst (λ z. In y z) (sym cut.2) (in_more y s cut.0 cut.1 i)

  pub dropped : {n o q : List ℕ} {r x h l : ℕ} → Gone m n r x column p.kept.t 0 top → Chained n o h l (cut.0 ++ cut.1) → q ≡ put o x 10 b.free
      → Dropped m q b (record { root = r; head = h; tail = l; free = x; used = b.used; live = b.live - 1 }) column p.kept.t p.kept.order
  dropped {n} {o} {q} {r} {x} {h} {l} g c e = subst (λ z. Dropped m z b b' column p.kept.t p.kept.order) (sym e) it
    where
      b' : Builder
      b' = record { root = r; head = h; tail = l; free = x; used = b.used; live = b.live - 1 }

      k : Kept m b
      k = p.kept

      at_o : At o x
      at_o = at_len c.frame.len g.lone.at

      once_x : Once (cut.0 ++ x ∷ cut.1)
      once_x = subst (λ z. Once (cut.0 ++ z ∷ cut.1)) (sym g.is) once_cut

      out_x : Out x (cut.0 ++ cut.1)
      out_x = (once_less x cut.0 cut.1 once_x).1

      free_x : Out x k.frees
      free_x = subst (λ z. Out z k.frees) (sym g.is) out_free

      low_x : x < b.used
      low_x = omega (arith, g.is, k.low s in_order)

      lens : length (put o x 10 b.free) ≡ length m
      lens = len_put o x 10 b.free ∙ (c.frame.len ∙ g.made.frame.len)

      low : (u j : ℕ) → j < 11 → j ≢ 8 → j ≢ 9 → word o u j ≡ word m u j
      low u j a d f = c.frame.rest u j (omega arith) d f ∙ g.made.frame.rest u j a

      it : Dropped m (put o x 10 b.free) b b' column p.kept.t p.kept.order
      it = record {
        kept = record {
          t = del column k.t;
          order = cut.0 ++ cut.1;
          frees = x ∷ k.frees;
          holds = holds_same o (put o x 10 b.free) r (del column k.t) (len_put o x 10 b.free) (λ u j a d f z. other_field o x 10 b.free u j z (lit< tt) a)
              (holds_same n o r (del column k.t) c.frame.len (λ u j a d f z. c.frame.rest u j a d f) g.made.holds);
          ord = del_ord 0 top column k.t k.ord;
          avl = (del_avl column k.t k.avl).avl;
          seg = seg_put o x 10 b.free nil h (cut.0 ++ cut.1) l nil (lit< tt) out_x c.seg;
          spare = record {
            is = refl;
            at = at_len (len_put o x 10 b.free) at_o;
            some = g.lone.some;
            rest = rw (same o x 10 b.free at_o (lit< tt)) (spare_put o x b.free b.free k.frees free_x (spare_same m o b.free k.frees (c.frame.len ∙ g.made.frame.len) (λ u. low u 10 (lit< tt) (omega arith) (omega arith)) k.spare));
          };
          once_t = subst (λ z. Once z) (sym pl.less_is) (once_less s pl.us pl.bs (subst (λ z. Once z) pl.whole_is k.once_t)).0;
          once = (once_less x cut.0 cut.1 once_x).0;
          once_free = (free_x, k.once_free);
          apart = apart_by (cut.0 ++ cut.1) (x ∷ k.frees) (λ y i. ((λ z. out_in x (cut.0 ++ cut.1) out_x (subst (λ w. In w (cut.0 ++ cut.1)) z i)), apart_of y k.order k.frees (was y i) k.apart));
          agree = subst (λ z. Same z (cut.0 ++ cut.1)) (sym pl.less_is) (same_less s pl.us pl.bs cut.0 cut.1 (subst (λ z. Once z) pl.whole_is k.once_t) once_cut
              (subst (λ z. Same z (cut.0 ++ s ∷ cut.1)) pl.whole_is (subst (λ z. Same (slots k.t) z) cut.2 k.agree)));
          count = omega (arith, live_is, length-append cut.0 cut.1);
          sum = omega (arith, k.sum, long, length-append cut.0 cut.1);
          low = λ y i. k.low y (was y i);
          low_free = λ y i. ⊎_elim (λ (z : y ≡ x). subst (λ w. w < b.used) (sym z) low_x) (λ w. k.low_free y w) i;
          fit = omega (arith, k.fit, lens);
          small = k.small;
        };
        place = record { us = cut.0; bs = cut.1; whole_is = cut.2; less_is = refl };
        used_is = refl;
        len = lens;
        rest = λ u j a. other_field o x 10 b.free u j (omega arith) (lit< tt) (omega arith) ∙ low u j (omega arith) (omega arith) (omega arith);
      }
