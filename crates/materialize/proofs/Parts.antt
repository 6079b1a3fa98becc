-- What the leaves write: parts of the output, rows of spans.
use mathlib.Core.Path.{◌≡◌, refl, sym, ap, subst, ◌∙◌}
use mathlib.Core.Bool.{Bool, true, false}
use mathlib.Core.List.{List, [], ◌∷◌, ◌++◌, append-nil}
use Prim.Native.Nat.{ℕ, suc, ◌+◌, ◌-◌, ◌≤◌, ◌<◌, ◌^◌}
use native.Mathlib.Omega.{arith}
use native.Mathlib.Nat.{add-zero}
use native.Mathlib.Numerals.{add-one}
use borrow.Author.Tests.{eqb-true, eqb-false}
use lib.Dec.{eqb}
use lib.ListN.{length, length-drop, get_or, set, take, drop, take-append-drop}
use lib.Seq.{get_or-set_same, get_or-set_other, take_all, drop-drop, take-suc-set, take-set-lt, drop-set-lt, get_or-take}
use Rattle.materialize.specs.declared.Walk.{Walk}
use Rattle.materialize.specs.declared.Act.{Act}
use Rattle.materialize.specs.declared.Act.TheVariants.{Pass, Put, Line, Open, Close}
use Rattle.materialize.specs.Rows.{Row, parent_word, Fits}
use Rattle.materialize.specs.Walks.{pile, innermost, close_last, tail, opened, rows, Room}
use Rattle.materialize.specs.Writes.{wrote, Under, depth_after, mark_of, marked, ActFits}
use Rattle.materialize.proofs.Turns.{pile_one}

-- what a part of a slice, lent and written, leaves in the whole
pub part_wrote : (out ys bs post : List ℕ) (at : ℕ) → at + length bs ≤ length out → length post ≡ 0
    → ys ≡ bs ++ drop (length bs) (take (length out - at) (drop at out)) → take at out ++ (ys ++ post) ≡ wrote bs at out
part_wrote out ys bs [] at h n e =
    let f : length (drop at out) ≤ length out - at = omega (arith, length-drop at out) in
    rw (e, take_all (length out - at) (drop at out) f, drop-drop (length bs) at out, append-nil)
part_wrote out ys bs (x ∷ post) at h n e = absurd (omega arith)

none_left : (out : List ℕ) (at : ℕ) → length (drop (length out - at) (drop at out)) ≡ 0
none_left out at = omega (arith, length-drop (length out - at) (drop at out), length-drop at out)

pub wrote_none : (at : ℕ) (l : List ℕ) → l ≡ wrote [] at l
wrote_none at l = rw (add-zero at) (sym (take-append-drop at l))

pub under_top : (n : ℕ) (o : List ℕ) (d t : ℕ) → d ≡ suc t → Under n (pile o d) → get_or o t 0 < n
under_top n o d t e h = (subst (λ (k : ℕ). Under n (pile o k)) e h).0

pub under_more : (n m : ℕ) (o : List ℕ) → n ≤ m → Under n o → Under m o
under_more n m [] l h = tt
under_more n m (x ∷ o) l h = (omega (arith, h.0), under_more n m o l h.1)

pub top_under : (w z : Walk) (o : List ℕ) (n : ℕ) → Room Close n w z → Under w.spans (pile o w.depth) → get_or o (w.depth - 1) 0 < w.spans
top_under w z o n r u = under_top w.spans o w.depth (w.depth - 1) (omega (arith, r.1)) u

-- the rows after an act
abbrev pub spans_after : Act → Walk → List ℕ → List Row → List Row
spans_after a w h s = marked (mark_of a w h) s

module _ (w z : Walk) (o : List ℕ) (s : List Row) (bytes : List ℕ) where
  pub open_is : (a : Act) → Room a (length bytes) w z → w.depth ≤ length o → z.depth ≤ length o → pile (depth_after a w o) z.depth ≡ opened a w.spans (pile o w.depth)
  open_is Pass r l m = ap (pile o) r.1
  open_is (Put t n) r l m = ap (pile o) r.1
  open_is (Line i) r l m = ap (pile o) r.1
  open_is (Open k) r l m = rw r.1 (pile_one o w.depth w.spans (omega (arith, r.1)))
  open_is Close r l m = let e : w.depth ≡ suc z.depth = omega (arith, r.1) in sym (ap (λ (d : ℕ). tail (pile o d)) e)

  pub rows_is : (a : Act) → Room a (length bytes) w z → z.spans ≤ length s → Under w.spans (pile o w.depth)
      → take z.spans (spans_after a w o s) ≡ rows a w.at (pile o w.depth) (take w.spans s)
  rows_is Pass r l u = ap (λ (k : ℕ). take k s) r.0
  rows_is (Put t n) r l u = ap (λ (k : ℕ). take k s) r.0
  rows_is (Line i) r l u = ap (λ (k : ℕ). take k s) r.0
  rows_is (Open k) r l u = rw (r.0, add-one w.spans) (take-suc-set s w.spans _ (omega (arith, r.0)))
  rows_is Close r l u =
      let m = get_or o (w.depth - 1) 0 in
      let h : m < w.spans = top_under w z o (length bytes) r u in
      let e : w.depth ≡ suc (w.depth - 1) = omega (arith, r.1) in
      rw r.0 (take-set-lt w.spans s m (set (get_or s m []) 2 w.at) h
      ∙ (ap (λ (x : Row). set (take w.spans s) m (set x 2 w.at)) (sym (get_or-take w.spans s m [] h))
      ∙ sym (ap (λ (d : ℕ). close_last (take w.spans s) (pile o d) w.at) e)))

  pub past_is : (a : Act) → Room a (length bytes) w z → Under w.spans (pile o w.depth) → drop z.spans (spans_after a w o s) ≡ drop z.spans s
  past_is Pass r u = refl
  past_is (Put t n) r u = refl
  past_is (Line i) r u = refl
  past_is (Open k) r u = drop-set-lt z.spans s w.spans _ (omega (arith, r.0))
  past_is Close r u = drop-set-lt z.spans s (get_or o (w.depth - 1) 0) _ (omega (arith, r.0, top_under w z o (length bytes) r u))

  pub spans_rise : (a : Act) → Room a (length bytes) w z → w.spans ≤ z.spans
  spans_rise Pass r = omega (arith, r.0)
  spans_rise (Put t n) r = omega (arith, r.0)
  spans_rise (Line i) r = omega (arith, r.0)
  spans_rise (Open k) r = omega (arith, r.0)
  spans_rise Close r = omega (arith, r.0)

  under_tail : (n : ℕ) (l : List ℕ) → Under n l → Under n (tail l)
  under_tail n [] u = tt
  under_tail n (x ∷ l) u = u.1

  pub under_is : (a : Act) → Room a (length bytes) w z → Under w.spans (pile o w.depth) → Under z.spans (opened a w.spans (pile o w.depth))
  under_is Pass r u = under_more w.spans z.spans (pile o w.depth) (spans_rise Pass r) u
  under_is (Put t n) r u = under_more w.spans z.spans (pile o w.depth) (spans_rise (Put t n) r) u
  under_is (Line i) r u = under_more w.spans z.spans (pile o w.depth) (spans_rise (Line i) r) u
  under_is (Open k) r u = (omega (arith, r.0), under_more w.spans z.spans (pile o w.depth) (spans_rise (Open k) r) u)
  under_is Close r u = under_more w.spans z.spans (tail (pile o w.depth)) (spans_rise Close r) (under_tail w.spans (pile o w.depth) u)

pub parent_low : (n : ℕ) (l : List ℕ) → Under n l → parent_word (innermost l) ≤ n
parent_low n [] u = omega arith
parent_low n (x ∷ l) u = omega (arith, u.0)

-- a row replaced by one that fits
set_fits : (s : List Row) (n : ℕ) (x : Row) (k : ℕ) → n < length s → Fits x → ((k ≡ n → ⊥) → Fits (get_or s k [])) → Fits (get_or (set s n x) k [])
set_fits s n x k l f h = go (eqb k n) refl
  where
    go : (t : Bool) → eqb k n ≡ t → Fits (get_or (set s n x) k [])
    go true e = rw (eqb-true k n e, get_or-set_same s n x [] l) f
    go false e = let d = eqb-false k n e in rw (get_or-set_other s n k x [] (λ q. omega (arith, d))) (h d)

end_fits : (x : Row) (e : ℕ) → Fits x → Fits (set x 2 e)
end_fits x e f = (rw (get_or-set_other x 2 0 e 0 (λ z. omega arith)) f.0, rw (get_or-set_other x 2 3 e 0 (λ z. omega arith)) f.1)

module _ (w z : Walk) (o : List ℕ) (s : List Row) (bytes : List ℕ) where
  pub rows_fit : (a : Act) → Room a (length bytes) w z → w.spans ≤ 2 ^ 32 → w.spans ≤ length s → z.spans ≤ length s → Under w.spans (pile o w.depth)
      → ((k : ℕ) → k < w.spans → Fits (get_or s k [])) → ActFits a → (k : ℕ) → k < z.spans → Fits (get_or (spans_after a w o s) k [])
  rows_fit Pass r v m l u f g k h = f k (omega (arith, r.0))
  rows_fit (Put t n) r v m l u f g k h = f k (omega (arith, r.0))
  rows_fit (Line i) r v m l u f g k h = f k (omega (arith, r.0))
  rows_fit (Open x) r v m l u f g k h =
      set_fits s w.spans _ k (omega (arith, r.0)) (g, omega (arith, parent_low w.spans (pile o w.depth) u)) (λ d. f k (omega (arith, d, r.0)))
  rows_fit Close r v m l u f g k h =
      let n = get_or o (w.depth - 1) 0 in
      let q : n < w.spans = top_under w z o (length bytes) r u in
      set_fits s n _ k (omega arith) (end_fits (get_or s n []) w.at (f n q)) (λ d. f k (omega (arith, r.0)))

pub drop_later : {A : Type 0} (n m : ℕ) (s r : List A) → n ≤ m → drop n s ≡ drop n r → drop m s ≡ drop m r
drop_later n m s r h e =
    let q : n + (m - n) ≡ m = omega arith in
    subst (λ (k : ℕ). drop k s ≡ drop k r) q (sym (drop-drop (m - n) n s) ∙ (ap (drop (m - n)) e ∙ drop-drop (m - n) n r))
