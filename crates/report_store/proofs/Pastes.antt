-- Laws of `paste`, for items of any type: what is before and after it, and that an insertion is two of them, a removal one.
use mathlib.Core.Path.{◌≡◌, sym, ap, ◌∙◌, subst}
use mathlib.Core.List.{List, [], ◌∷◌, ◌++◌, map, append_assoc}
use Prim.Native.Nat.{ℕ, suc, ◌+◌, ◌-◌, ◌≤◌, ◌<◌}
use native.Mathlib.Omega.{arith}
use lib.ListN.{length, get_or, set, take, drop, length-drop, length-map, get_or-append}
use lib.Seq.{paste, take-suc, set_at, take_at, drop_at, take-append-le, take-take, take-add, take-length, length-take-le, get_or-take, get_or-drop, take-paste, drop-paste, length-paste}
use Rattle.report.specs.Report.{insert_at, remove_at}
use Rattle.report.specs.Lists.{drop_take, map_take}
use Rattle.report_store.specs.Moves.{moved_up}

module _ {A : Type 0} where
  -- ---- a paste's parts

  pub get_or_before : (d : List A) (to : ℕ) (s : List A) (n i : ℕ) (z : A) → i < to → to ≤ length d → get_or (paste d to s n) i z ≡ get_or d i z
  get_or_before d to s n i z h l =
      ap (λ (r : List A). get_or r i z) (append_assoc (take to d) (take n s) (drop (to + n) d))
      ∙ get_or-append (take to d) (take n s ++ drop (to + n) d) z i (omega (arith, length-take-le to d l))
      ∙ get_or-take to d i z h

  pub get_or_after : (d : List A) (to : ℕ) (s : List A) (n i : ℕ) (z : A) → to + n ≤ i → to ≤ length d → n ≤ length s → get_or (paste d to s n) i z ≡ get_or d i z
  get_or_after d to s n i z h l k =
      let e : to + n + (i - (to + n)) ≡ i = omega arith in
      subst
      (λ (j : ℕ). get_or (paste d to s n) j z ≡ get_or d j z)
      e
      (sym (get_or-drop (to + n) (paste d to s n) (i - (to + n)) z)
      ∙ ap (λ (r : List A). get_or r (i - (to + n)) z) (drop-paste d to s n l k)
      ∙ get_or-drop (to + n) d (i - (to + n)) z)

  take_before : (d : List A) (to : ℕ) (s : List A) (n i : ℕ) → i ≤ to → to ≤ length d → take i (paste d to s n) ≡ take i d
  take_before d to s n i h l =
      ap (take i) (append_assoc (take to d) (take n s) (drop (to + n) d))
      ∙ take-append-le i (take to d) (take n s ++ drop (to + n) d) (omega (arith, length-take-le to d l))
      ∙ take-take i to d h

  pasted : (d : List A) (to : ℕ) (s : List A) (n : ℕ) → to ≤ length d → n ≤ length s → take n (drop to (paste d to s n)) ≡ take n s
  pasted d to s n l k =
      ap (λ (r : List A). take n (drop to r)) (append_assoc (take to d) (take n s) (drop (to + n) d))
      ∙ ap (take n) (drop_at (take to d) (take n s ++ drop (to + n) d) to (length-take-le to d l))
      ∙ take_at (take n s) (drop (to + n) d) n (length-take-le n s k)

  -- ---- one item more, before what is pasted

  pub paste_front : (d : List A) (k : ℕ) (s : List A) (w : ℕ) (a : A) → k < length d → set (paste d (suc k) s w) k a ≡ paste d k (a ∷ s) (suc w)
  paste_front d k s w a h =
      let p : List A = take k d in
      let r : List A = drop (k + suc w) d in
      let x : A = get_or d k a in
      let e : suc k + w ≡ k + suc w = omega arith in
      let cut : paste d (suc k) s w ≡ p ++ x ∷ (take w s ++ r) =
      rw (e, take-suc d k a h) (ap (λ (l : List A). l ++ r) (append_assoc p (x ∷ []) (take w s)) ∙ append_assoc p (x ∷ take w s) r) in
      ap (λ (l : List A). set l k a) cut
      ∙ set_at p x (take w s ++ r) a k (length-take-le k d (omega arith))
      ∙ sym (append_assoc p (a ∷ take w s) r)

  -- ---- an insertion, a removal

  moved_length : (m m₁ : List A) (used at n : ℕ) → at ≤ used → used + n ≤ length m → m₁ ≡ moved_up m used at n → length m₁ ≡ length m
  moved_length m m₁ used at n h l e = ap length e ∙ length-paste m (at + n) (drop at m) (used - at) (omega arith) (omega (arith, length-drop at m))

  -- what stood behind has moved up, and the first n of s are in the gap
  pub inserted : (m m₁ m₂ s : List A) (used at n : ℕ) → at ≤ used → used + n ≤ length m → n ≤ length s → m₁ ≡ moved_up m used at n → m₂ ≡ paste m₁ at s n
      → take (used + n) m₂ ≡ insert_at at (take n s) (take used m)
  inserted m m₁ m₂ s used at n h l k e₁ e₂ =
      let w : ℕ = used - at in
      let u : used ≡ at + w = omega arith in
      let v : used + n ≡ at + n + w = omega arith in
      let long : at ≤ length m₁ = omega (arith, moved_length m m₁ used at n h l e₁) in
      let before : take at m₁ ≡ take at m = rw e₁ (take_before m (at + n) (drop at m) w at (omega arith) (omega arith)) in
      let after : take w (drop (at + n) m₁) ≡ take w (drop at m) = rw e₁ (pasted m (at + n) (drop at m) w (omega arith) (omega (arith, length-drop at m))) in
      let stood : drop at (take used m) ≡ take w (drop at m) = ap (λ (j : ℕ). drop at (take j m)) u ∙ drop_take at w m in
      rw (v, e₂, take-add (at + n) w (paste m₁ at s n), take-paste m₁ at s n long k, drop-paste m₁ at s n long k, before, after, take-take at used m h, stood)
      (append_assoc (take at m) (take n s) (take w (drop at m)))

  pub inserted_all : (m m₁ m₂ s : List A) (used at : ℕ) → at ≤ used → used + length s ≤ length m → m₁ ≡ moved_up m used at (length s) → m₂ ≡ paste m₁ at s (length s)
      → take (used + length s) m₂ ≡ insert_at at s (take used m)
  inserted_all m m₁ m₂ s used at h l e₁ e₂ =
      inserted m m₁ m₂ s used at (length s) h l (omega arith) e₁ e₂ ∙ ap (λ (r : List A). insert_at at r (take used m)) (take-length s)

  pub removed : (m m₁ : List A) (used at n : ℕ) → at + n ≤ used → used ≤ length m → m₁ ≡ paste m at (drop (at + n) m) (used - (at + n)) → take (used - n) m₁ ≡ remove_at at n (take used m)
  removed m m₁ used at n h l e =
      let w : ℕ = used - (at + n) in
      let u : used ≡ at + n + w = omega arith in
      let v : used - n ≡ at + w = omega arith in
      let stood : drop (at + n) (take used m) ≡ take w (drop (at + n) m) = ap (λ (j : ℕ). drop (at + n) (take j m)) u ∙ drop_take (at + n) w m in
      ap (λ (j : ℕ). take j m₁) v
      ∙ ap (take (at + w)) e
      ∙ take-paste m at (drop (at + n) m) w (omega arith) (omega (arith, length-drop (at + n) m))
      ∙ rw (take-take at used m (omega arith), stood)

pub inserted_each : {A B : Type 0} (f : A → B) (m m₁ m₂ : List B) (l : List A) (used at n : ℕ) → at ≤ used → used + n ≤ length m → n ≤ length l → m₁ ≡ moved_up m used at n → m₂ ≡ paste m₁ at (map f l) n
    → take (used + n) m₂ ≡ insert_at at (map f (take n l)) (take used m)
inserted_each {B = B} f m m₁ m₂ l used at n h r k e₁ e₂ =
    inserted m m₁ m₂ (map f l) used at n h r (omega (arith, length-map l f)) e₁ e₂ ∙ ap (λ (s : List B). insert_at at s (take used m)) (sym (map_take f n l))
