-- What the search of the tree says of the candidates in the order.
use mathlib.Core.Path.{◌≡◌, refl, sym, ◌∙◌, ap, subst}
use mathlib.Core.Logic.{◌≢◌, inl, inr, ⊎_elim}
use mathlib.Core.Bool.{Bool, true, false, not, ◌||◌}
use mathlib.Core.List.{List, [], ◌∷◌, ◌++◌}
use Prim.Native.Nat.{ℕ, ◌≤◌, ◌<◌}
use native.Mathlib.Omega.{arith}
use lib.ListN.{length}
use lib.Dec.{lit≤, eqb}
use borrow.Author.Tests.{eq-eqb, ne_eqb, eqb-true, eqb-false}
use Rattle.cost.specs.Cost.{Cost, cheap, cheaper}
use Rattle.cost.specs.Order.{cheap_trans, cheap_is, is_cheap}
use Rattle.cost.specs.Logic.{no_both, same_test, or_left, or_right, false_if}
use Rattle.layout.specs.Frontier.{Cand, covers, any, keep}
use Rattle.layout.specs.Covers.{covers_is}
use Rattle.layout.proofs.Least.{cheaper_by}
use Rattle.avl.specs.Mem.{word, At}
use Rattle.avl.specs.Tree.{Tree, same_of, before_of, from_of, Seen, slots, Entry}
use Rattle.avl.specs.Tree.Tree.{leaf, node}
use Rattle.avl.specs.TreeLaws.{lt_or}
use Rattle.avl.specs.Near.{Least, Below, Greatest, from_spec, same_spec, before_spec, entry_key, entry_of}
use Rattle.avl.specs.Members.{In}
use Rattle.avl.specs.Slots.{in_mid}
use Rattle.avl.specs.Holds.{nil, top, Holds, Whole}
use Rattle.avl.specs.declared.Way.{Way}
use Rattle.frontier.specs.declared.Builder.{Builder}
use Rattle.frontier.specs.Candidates.{Pending, cost_at, candidate_at}
use Rattle.frontier.specs.Kept.{Sound, Looked, Fresh, prunes, stays_by, none_dearer}
use Rattle.frontier.proofs.Covering.{covers_same, covers_below, stays_low, stays_cheap, goes_dear, some_any, any_some, any_none, none_any, keep_all, keep_less}

pub entry_at : (m : List ℕ) (p x j : ℕ) (t : Tree) → Holds m p t → Entry x j t → (x < nil) × At m x
entry_at m p x j leaf h e = absurd e
entry_at m p x j (node l s i r) h e = ⊎_elim (λ z. subst (λ y. (y < nil) × At m y) (sym z.0) (h.some, h.at))
    (λ z. ⊎_elim (λ w. entry_at m (word m s 11) x j l h.l_held w) (λ w. entry_at m (word m s 12) x j r h.r_held w) z) e

pub in_slots : (x j : ℕ) (t : Tree) → Entry x j t → In x (slots t)
in_slots x j leaf e = absurd e
in_slots x j (node l s i r) e = ⊎_elim (λ z. subst (λ y. In y (slots l ++ s ∷ slots r)) (sym z.0) (in_mid s (slots l) (slots r)))
    (λ z. ⊎_elim (λ w. in_left x (slots l) (s ∷ slots r) (in_slots x j l w)) (λ w. in_right x (slots l) (s ∷ slots r) (inr (in_slots x j r w))) z) e
  where
    in_left : (y : ℕ) (xs ys : List ℕ) → In y xs → In y (xs ++ ys)
    in_left y [] ys i = absurd i
    in_left y (a ∷ xs) ys i = ⊎_elim (λ z. inl z) (λ z. inr (in_left y xs ys z)) i

    in_right : (y : ℕ) (xs ys : List ℕ) → In y ys → In y (xs ++ ys)
    in_right y [] ys i = i
    in_right y (a ∷ xs) ys i = inr (in_right y xs ys i)

-- a kept slot and its column
module _ {m : List ℕ} {b : Builder} (p : Sound m b) where
  abbrev t : Tree
  t = p.kept.t

  abbrev pub whole : Whole m b.root
  whole = record { t = p.kept.t; lo = 0; hi = top; holds = p.kept.holds; ord = p.kept.ord; bound = lit≤ tt }

  pub col : (x j : ℕ) → Entry x j t → word m x 3 ≡ j
  col x j e = entry_key m b.root x j t p.kept.holds e

  pub kept_in : (x j : ℕ) → Entry x j t → In x p.kept.order
  kept_in x j e = p.kept.agree.to x (in_slots x j t e)

  pub entry : (x : ℕ) → In x p.kept.order → Entry x (word m x 3) t
  entry x i = let e = entry_of x t (p.kept.agree.back x i) in subst (λ z. Entry x z t) (sym (col x e.0 e.1)) e.1

  pub there : (x j : ℕ) → Entry x j t → (x < nil) × At m x
  there x j e = entry_at m b.root x j t p.kept.holds e

  -- what is known after a search, and after it said that none prunes x
  abbrev pub looked : {k : ℕ} {way : Way} → Seen k p.kept.t nil nil nil way.same way.before way.from → Looked m k way
  looked e = record { b = b; sound = p; seen = e }

  abbrev pub fresh_by : {x : Cand Pending} {r : Bool} → r ≡ any (prunes m x) p.kept.order → r ≡ false → Fresh m b x
  fresh_by e h = record { sound = p; none = sym e ∙ h }

-- a search for the column k
module _ {m : List ℕ} {b : Builder} (p : Sound m b) {k same before from : ℕ} (e : Seen k p.kept.t nil nil nil same before from) where
  abbrev u : Tree
  u = p.kept.t

  -- the least column at k or above
  pub least : from ≢ nil → Least k u from
  least n = ⊎_elim
      (λ (z : (from_of k u nil ≡ nil) × Below k u). absurd (n (sym e.from ∙ z.0)))
      (λ (z : Least k u (from_of k u nil)). subst (λ y. Least k u y) e.from z)
      (from_spec 0 top k u nil p.kept.ord)

  pub none_above : from ≡ nil → (x : ℕ) → In x p.kept.order → word m x 3 < k
  none_above n x i = ⊎_elim
      (λ (z : (from_of k u nil ≡ nil) × Below k u). z.1.all x (word m x 3) (entry p x i))
      (λ (z : Least k u (from_of k u nil)). absurd (omega (arith, n, e.from, (there p (from_of k u nil) z.j z.entry).0)))
      (from_spec 0 top k u nil p.kept.ord)

  -- the column itself
  pub hit : same ≢ nil → Entry same k u
  hit n = ⊎_elim
      (λ (h : Entry (same_of k u nil) k u). subst (λ z. Entry z k u) e.same h)
      (λ (h : (same_of k u nil ≡ nil) × ((x : ℕ) → Entry x k u → ⊥)). absurd (n (sym e.same ∙ h.0)))
      (same_spec 0 top k u nil p.kept.ord)

  pub miss : same ≡ nil → (x : ℕ) → Entry x k u → ⊥
  miss n = ⊎_elim
      (λ (h : Entry (same_of k u nil) k u). λ x w. omega (arith, n, e.same, (there p (same_of k u nil) k h).0))
      (λ (h : (same_of k u nil ≡ nil) × ((x : ℕ) → Entry x k u → ⊥)). h.1)
      (same_spec 0 top k u nil p.kept.ord)

  -- the greatest below it, where it is not there
  pub nearest : same ≡ nil → before ≢ nil → Greatest k u before
  nearest n o = ⊎_elim
      (λ (h : (before_of k u nil ≡ nil) × ((x i : ℕ) → Entry x i u → k < i)). absurd (o (sym e.before ∙ h.0)))
      (λ (h : Greatest k u (before_of k u nil)). subst (λ y. Greatest k u y) e.before h)
      (before_spec 0 top k u nil p.kept.ord (miss n))

  pub none_below : same ≡ nil → before ≡ nil → (x : ℕ) → In x p.kept.order → k < word m x 3
  none_below n o x i = ⊎_elim
      (λ (h : (before_of k u nil ≡ nil) × ((x i : ℕ) → Entry x i u → k < i)). h.1 x (word m x 3) (entry p x i))
      (λ (h : Greatest k u (before_of k u nil)). absurd (omega (arith, o, e.before, (there p (before_of k u nil) h.j h.entry).0)))
      (before_spec 0 top k u nil p.kept.ord (miss n))

-- ---- whether x is pruned
module _ {m : List ℕ} {way : Way} (x : Cand Pending) (p : Looked m x.column way) where
  pub same_at : way.same ≢ nil → At m way.same
  same_at n = (there p.sound way.same x.column (hit p.sound p.seen n)).1

  -- by the one at its column
  pub by_same : {r : Bool} → way.same ≢ nil → r ≡ cheap (cost_at m way.same) x.cost → r ≡ any (prunes m x) p.sound.kept.order
  by_same {r} n d = d ∙ same_test (cheap (cost_at m way.same) x.cost) (any (prunes m x) p.sound.kept.order)
      (λ h. some_any (prunes m x) way.same p.sound.kept.order i (covers_same (candidate_at m way.same) x q ∙ h))
      (λ h. let z = any_some (prunes m x) p.sound.kept.order h in let w = covers_is (candidate_at m z.x) x z.is in
      is_cheap (cost_at m way.same) x.cost (cheap_trans (p.sound.falls z.x way.same z.at i (omega (arith, w.column_le, q))) w.cost_le))
    where
      q : word m way.same 3 ≡ x.column
      q = col p.sound way.same x.column (hit p.sound p.seen n)

      i : In way.same p.sound.kept.order
      i = kept_in p.sound way.same x.column (hit p.sound p.seen n)

  no_same : way.same ≡ nil → (y : ℕ) → In y p.sound.kept.order → word m y 3 ≡ x.column → ⊥
  no_same n y i z = miss p.sound p.seen n y (subst (λ w. Entry y w p.sound.kept.t) z (entry p.sound y i))

  pub before_at : way.same ≡ nil → way.before ≢ nil → At m way.before
  before_at n o = let h = nearest p.sound p.seen n o in (there p.sound way.before h.j h.entry).1

  -- by the nearest lower column
  pub by_before : {r : Bool} → way.same ≡ nil → way.before ≢ nil → r ≡ cheaper (cost_at m way.before) x.cost → r ≡ any (prunes m x) p.sound.kept.order
  by_before {r} n o d = d ∙ same_test (cheaper (cost_at m way.before) x.cost) (any (prunes m x) p.sound.kept.order)
      (λ g. some_any (prunes m x) way.before p.sound.kept.order i (covers_below (candidate_at m way.before) x (omega (arith, q, h.to)) ∙ g))
      (λ g. let z = any_some (prunes m x) p.sound.kept.order g in
      let w = covers_is (candidate_at m z.x) x z.is in
      let l : word m z.x 3 < x.column = omega (arith, w.column_le, no_same n z.x z.at) in
      cheaper_by (cost_at m way.before) (cost_at m z.x) x.cost (p.sound.falls z.x way.before z.at i (omega (arith, q, h.most z.x (word m z.x 3) (entry p.sound z.x z.at) l))) (sym (covers_below (candidate_at m z.x) x l) ∙ z.is))
    where
      h : Greatest x.column p.sound.kept.t way.before
      h = nearest p.sound p.seen n o

      q : word m way.before 3 ≡ h.j
      q = col p.sound way.before h.j h.entry

      i : In way.before p.sound.kept.order
      i = kept_in p.sound way.before h.j h.entry

  -- all columns are higher
  pub by_none : way.same ≡ nil → way.before ≡ nil → false ≡ any (prunes m x) p.sound.kept.order
  by_none n o = sym (none_any (prunes m x) p.sound.kept.order (λ y i h. omega (arith, (covers_is (candidate_at m y) x h).column_le, none_below p.sound p.seen n o y i)))

-- ---- whether x removes any
pub no_slot : (m : List ℕ) (s : ℕ) (c : Cost) → s ≡ nil → true ≡ none_dearer m s c
unfolding none_dearer
no_slot m s c e = rw (eq-eqb s nil e)

pub at_slot : {r : Bool} (m : List ℕ) (s : ℕ) (c : Cost) → s ≢ nil → r ≡ cheap (cost_at m s) c → r ≡ none_dearer m s c
unfolding none_dearer
at_slot m s c n e = rw (ne_eqb s nil n) e

pub dearer : (m : List ℕ) (s : ℕ) (c : Cost) → none_dearer m s c ≡ false → (s ≢ nil) × (cheap (cost_at m s) c ≡ false)
unfolding none_dearer
dearer m s c h = (eqb-false s nil (false_if (eqb s nil) (λ e. no_both (none_dearer m s c) (or_left (eqb s nil) (cheap (cost_at m s) c) e) h)), false_if (cheap (cost_at m s) c) (λ e. no_both (none_dearer m s c) (or_right (eqb s nil) (cheap (cost_at m s) c) e) h))

module _ {m : List ℕ} {b : Builder} {x : Cand Pending} (p : Fresh m b x) {same before s : ℕ} (e : Seen x.column p.sound.kept.t nil nil nil same before s) where
  not_by : (y : ℕ) → In y p.sound.kept.order → covers (candidate_at m y) x ≡ false
  not_by y i = any_none (prunes m x) p.sound.kept.order p.none y i

  pub low_at : s ≢ nil → At m s
  low_at n = let z = least p.sound e n in (there p.sound s z.j z.entry).1

  low_in : s ≢ nil → In s p.sound.kept.order
  low_in n = let z = least p.sound e n in kept_in p.sound s z.j z.entry

  -- the least column at or above costs no more: all stay
  cheap_stay : s ≢ nil → cheap (cost_at m s) x.cost ≡ true → (y : ℕ) → In y p.sound.kept.order → stays_by m x y ≡ true
  cheap_stay n h y i = let z = least p.sound e n in ⊎_elim
      (λ (a : word m y 3 < x.column). stays_low x (candidate_at m y) a)
      (λ (a : x.column ≤ word m y 3). stays_cheap x (candidate_at m y) a (not_by y i)
      (is_cheap (cost_at m y) x.cost (cheap_trans (p.sound.falls s y (low_in n) i (omega (arith, col p.sound s z.j z.entry, z.least y (word m y 3) (entry p.sound y i) a))) (cheap_is (cost_at m s) x.cost h))))
      (lt_or (word m y 3) x.column)

  pub all_stay : none_dearer m s x.cost ≡ true → (y : ℕ) → In y p.sound.kept.order → stays_by m x y ≡ true
  unfolding none_dearer
  all_stay h y i = go (eqb s nil) refl h
    where
      go : (t : Bool) → eqb s nil ≡ t → (t || cheap (cost_at m s) x.cost) ≡ true → stays_by m x y ≡ true
      go true q d = stays_low x (candidate_at m y) (none_above p.sound e (eqb-true s nil q) y i)
      go false q d = cheap_stay (eqb-false s nil q) d y i

  -- it costs more: it goes
  pub dear_goes : none_dearer m s x.cost ≡ false → stays_by m x s ≡ false
  dear_goes h =
      let d = dearer m s x.cost h in
      let z = least p.sound e d.0 in
      ap not (goes_dear x (candidate_at m s) (omega (arith, col p.sound s z.j z.entry, z.from)) d.1)

  pub all_kept : none_dearer m s x.cost ≡ true → keep (stays_by m x) p.sound.kept.order ≡ p.sound.kept.order
  all_kept h = keep_all (stays_by m x) p.sound.kept.order (all_stay h)

  pub fewer_kept : none_dearer m s x.cost ≡ false → length (keep (stays_by m x) p.sound.kept.order) < length p.sound.kept.order
  fewer_kept h = keep_less (stays_by m x) s p.sound.kept.order (low_in (dearer m s x.cost h).0) (dear_goes h)
