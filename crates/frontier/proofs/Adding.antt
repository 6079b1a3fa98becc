-- A new candidate: a slot is taken and filled, put last in the order, and put into the tree.
use mathlib.Core.Path.{◌≡◌, refl, sym, ◌∙◌, ap, subst}
use mathlib.Core.Logic.{◌≢◌, ◌⊎◌, inl, inr, ⊎_elim}
use mathlib.Core.List.{List, [], ◌∷◌, ◌++◌, append-nil}
use Prim.Native.Nat.{ℕ, ◌+◌, ◌<◌}
use native.Mathlib.Omega.{arith}
use lib.ListN.{length, length-append}
use lib.Dec.{lit<, lit≤}
use Rattle.layout.specs.Frontier.{Cand}
use Rattle.avl.specs.Mem.{word}
use Rattle.avl.specs.MemLaws.{at_len}
use Rattle.avl.specs.Tree.{Tree, ins, slots}
use Rattle.avl.specs.Tree.Tree.{leaf, node}
use Rattle.avl.specs.TreeLaws.{ins_ord, ins_avl}
use Rattle.avl.specs.Members.{In, Out, Once, Same, Place}
use Rattle.avl.specs.Slots.{ins_place, in_mid, in_more, in_out, out_in, in_case}
use Rattle.avl.specs.Holds.{nil, top, left, right, Holds, Made, Room}
use Rattle.frontier.specs.declared.Builder.{Builder}
use Rattle.frontier.specs.Candidates.{Pending, next}
use Rattle.frontier.specs.Chain.{Seg, Chained, Without}
use Rattle.frontier.specs.Kept.{Spare, Kept, Taken, Filled, Admit, Admitted}
use Rattle.frontier.proofs.Segments.{out_append}
use Rattle.frontier.proofs.Whole.{holds_same, seg_same, spare_same, apart_by, apart_of}

-- ---- what has not the slot is as it was
module _ (m n : List ℕ) (s : ℕ) (len : length n ≡ length m) (other : (u j : ℕ) → u ≢ s → j < 14 → word n u j ≡ word m u j) where
  pub holds_out : (p : ℕ) (t : Tree) → Out s (slots t) → Holds m p t → Holds n p t
  holds_out p leaf o h = h
  holds_out p (node l x k r) o h =
      let q = out_append s (slots l) (x ∷ slots r) o in
      let d : x ≢ s = λ z. q.1.0 (sym z) in
      record {
        is = h.is;
        at = at_len len h.at;
        some = h.some;
        key_is = other x 3 d (lit< tt) ∙ h.key_is;
        tall_is = other x 13 d (lit< tt) ∙ h.tall_is;
        l_held = rw (other x 11 d (lit< tt)) (holds_out (left m x) l q.0 h.l_held);
        r_held = rw (other x 12 d (lit< tt)) (holds_out (right m x) r q.1.1 h.r_held);
      }

  pub seg_out : (p c : ℕ) (xs : List ℕ) (q e : ℕ) → Out s xs → Seg m p c xs q e → Seg n p c xs q e
  seg_out p c [] q e o h = h
  seg_out p c (x ∷ xs) q e o h =
      let d : x ≢ s = λ z. o.0 (sym z) in
      record { is = h.is; at = at_len len h.at; some = h.some; prev_is = other x 8 d (lit< tt) ∙ h.prev_is; rest = rw (other x 9 d (lit< tt)) (seg_out x (next m x) xs q e o.1 h.rest) }

  spare_out : (p : ℕ) (xs : List ℕ) → Out s xs → Spare m p xs → Spare n p xs
  spare_out p [] o h = h
  spare_out p (x ∷ xs) o h =
      let d : x ≢ s = λ z. o.0 (sym z) in
      record { is = h.is; at = at_len len h.at; some = h.some; rest = rw (other x 10 d (lit< tt)) (spare_out (word m x 10) xs o.1 h.rest) }

-- ---- lists with one more
out_more : (x s : ℕ) (us bs : List ℕ) → x ≢ s → Out x (us ++ bs) → Out x (us ++ s ∷ bs)
out_more x s [] bs n o = (n, o)
out_more x s (u ∷ us) bs n o = (o.0, out_more x s us bs n o.1)

once_more : (s : ℕ) (us bs : List ℕ) → Once (us ++ bs) → Out s (us ++ bs) → Once (us ++ s ∷ bs)
once_more s [] bs o q = (q, o)
once_more s (u ∷ us) bs o q = (out_more u s us bs (λ z. q.0 (sym z)) o.0, once_more s us bs o.1 q.1)

same_more : (s : ℕ) (us bs cs ds : List ℕ) → Same (us ++ bs) (cs ++ ds) → Same (us ++ s ∷ bs) (cs ++ s ∷ ds)
same_more s us bs cs ds e = record {
  to = λ x i. ⊎_elim (λ (z : x ≡ s). subst (λ y. In y (cs ++ s ∷ ds)) (sym z) (in_mid s cs ds)) (λ h. in_more x s cs ds (e.to x h)) (in_case x s us bs i);
  back = λ x i. ⊎_elim (λ (z : x ≡ s). subst (λ y. In y (us ++ s ∷ bs)) (sym z) (in_mid s us bs)) (λ h. in_more x s us bs (e.back x h)) (in_case x s cs ds i);
}

module _ {m : List ℕ} {b : Builder} {k : ℕ} (p : Admit m b k) {s free used : ℕ} (g : Taken m p.roomy.size p.roomy.kept.order s free used b.used) where
  abbrev a : Kept m b
  a = p.roomy.kept

  pub out_slots : Out s (slots p.roomy.kept.t)
  out_slots = in_out s (slots p.roomy.kept.t) (λ i. out_in s p.roomy.kept.order g.out (p.roomy.kept.agree.to s i))

  abbrev pub without : {n : List ℕ} {x : Cand Pending} → Filled m n s x → Without n s b.head b.tail
  without {n} f = record { xs = p.roomy.kept.order; seg = seg_out m n s f.len f.other nil b.head p.roomy.kept.order b.tail nil g.out p.roomy.kept.seg; once = p.roomy.kept.once; out = g.out; at = at_len f.len g.at; some = g.some }

  abbrev pub room : {n o : List ℕ} {x : Cand Pending} {h l : ℕ} → k < top → x.column ≡ k → Filled m n s x → Chained n o h l (p.roomy.kept.order ++ s ∷ []) → Room o b.root s
  room {n} {o} to ck f c = record {
    t = p.roomy.kept.t;
    k = k;
    lo = 0;
    hi = top;
    holds = holds_same n o b.root p.roomy.kept.t c.frame.len (λ u j q r d e. c.frame.rest u j q r d) (holds_out m n s f.len f.other b.root p.roomy.kept.t out_slots p.roomy.kept.holds);
    ord = p.roomy.kept.ord;
    off = p.off;
    from = omega arith;
    to = to;
    bound = lit≤ tt;
    fresh = record {
      is = refl;
      at = at_len (c.frame.len ∙ f.len) g.at;
      some = g.some;
      key_is = c.frame.rest s 3 (lit< tt) (omega arith) (omega arith) ∙ (ap (λ z. z.column) f.own ∙ ck);
      tall_is = c.frame.rest s 13 (lit< tt) (omega arith) (omega arith) ∙ f.h_is;
      l_held = c.frame.rest s 11 (lit< tt) (omega arith) (omega arith) ∙ f.l_is;
      r_held = c.frame.rest s 12 (lit< tt) (omega arith) (omega arith) ∙ f.r_is;
    };
  }

  pub admitted : {n o q : List ℕ} {x : Cand Pending} {h l r : ℕ} → k < top → Filled m n s x → Chained n o h l (p.roomy.kept.order ++ s ∷ []) → Made o q r (ins s k p.roomy.kept.t) 0 top
      → Admitted m q p.roomy.size b (record { root = r; head = h; tail = l; free = free; used = used; live = b.live + 1 }) x p.roomy.kept.order
  admitted {n} {o} {q} {x} {h} {l} {r} to f c u = record {
    kept = record {
      t = ins s k a.t;
      order = a.order ++ s ∷ [];
      frees = g.frees;
      holds = u.holds;
      ord = ins_ord 0 top s k a.t (omega arith) to p.off a.ord;
      avl = (ins_avl s k a.t a.avl).avl;
      seg = seg_same o q nil h (a.order ++ s ∷ []) l nil u.frame.len (λ v j w d. u.frame.rest v j (omega arith)) c.seg;
      spare = spare_same n q free g.frees (u.frame.len ∙ c.frame.len) (λ v. u.frame.rest v 10 (lit< tt) ∙ c.frame.rest v 10 (lit< tt) (omega arith) (omega arith)) (spare_out m n s f.len f.other free g.frees g.once.0 g.spare);
      once_t = subst (λ z. Once z) (sym pl.whole_is) (once_more s pl.us pl.bs (subst (λ z. Once z) pl.less_is a.once_t) (subst (λ z. Out s z) pl.less_is out_slots));
      once = once_more s a.order [] (subst (λ z. Once z) (sym (append-nil a.order)) a.once) (subst (λ z. Out s z) (sym (append-nil a.order)) g.out);
      once_free = g.once.1;
      apart = apart_by (a.order ++ s ∷ []) g.frees (λ y i. ⊎_elim (λ (z : y ≡ s). subst (λ w. Out w g.frees) (sym z) g.once.0) (λ w. apart_of y a.order g.frees w g.apart) (old y i));
      agree = subst (λ z. Same z (a.order ++ s ∷ [])) (sym pl.whole_is) (same_more s pl.us pl.bs a.order [] (subst (λ z. Same z (a.order ++ [])) pl.less_is (subst (λ z. Same (slots a.t) z) (sym (append-nil a.order)) a.agree)));
      count = omega (arith, a.count, long);
      sum = omega (arith, g.sum, long);
      low = λ y i. ⊎_elim (λ (z : y ≡ s). subst (λ w. w < used) (sym z) g.own) (λ w. g.low y w) (old y i);
      low_free = g.low_free;
      fit = omega (arith, g.within, p.roomy.room, lens);
      small = omega (arith, g.within, p.roomy.bound);
    };
    s = s;
    out = g.out;
    order_is = refl;
    own = rw (keeps 0 (lit< tt), keeps 1 (lit< tt), keeps 2 (lit< tt), keeps 3 (lit< tt), keeps 4 (lit< tt), keeps 5 (lit< tt), keeps 6 (lit< tt), keeps 7 (lit< tt)) f.own;
    most = omega (arith, g.most, a.count);
    within = g.within;
    len = lens;
    rest = λ v j d w. u.frame.rest v j (omega arith) ∙ (c.frame.rest v j (omega arith) (omega arith) (omega arith) ∙ f.other v j d (omega arith));
  }
    where
      pl : Place (slots (ins s k p.roomy.kept.t)) (slots p.roomy.kept.t) s
      pl = ins_place s k p.roomy.kept.t

      long : length (p.roomy.kept.order ++ s ∷ []) ≡ length p.roomy.kept.order + 1
      long = length-append p.roomy.kept.order (s ∷ [])

      old : (y : ℕ) → In y (p.roomy.kept.order ++ s ∷ []) → (y ≡ s) ⊎ In y p.roomy.kept.order
      old y i = ⊎_elim (λ e. inl e) (λ w. inr (subst (λ z. In y z) (append-nil p.roomy.kept.order) w)) (in_case y s p.roomy.kept.order [] i)

      lens : length q ≡ length m
      lens = u.frame.len ∙ (c.frame.len ∙ f.len)

      keeps : (j : ℕ) → j < 8 → word q s j ≡ word n s j
      keeps j w = u.frame.rest s j (omega arith) ∙ c.frame.rest s j (omega arith) (omega arith) (omega arith)
