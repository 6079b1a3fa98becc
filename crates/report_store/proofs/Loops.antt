-- What the loops by items keep, of items of any type: at first, and a turn.
use mathlib.Core.Path.{◌≡◌, sym, ap, ◌∙◌}
use mathlib.Core.List.{List}
use Prim.Native.Nat.{ℕ, zero, suc, ◌+◌, ◌-◌, ◌≤◌, ◌<◌}
use native.Mathlib.Omega.{arith}
use lib.ListN.{length, get_or, set, drop, length-drop}
use lib.Seq.{paste, paste-zero, paste-suc, drop-cons, get_or-drop}
use Rattle.report_store.specs.Moves.{moved_up}
use Rattle.report_store.proofs.Pastes.{get_or_before, get_or_after, paste_front}

module _ {A : Type 0} where
  -- ---- up: what stands from i on has moved

  pub up_first : (m : List A) (used n : ℕ) → m ≡ moved_up m used used n
  up_first m used n =
      let e : used - used ≡ 0 = omega arith in
      rw e (paste-zero m (used + n) (drop used m))

  pub up_more : (m now : List A) (used n i : ℕ) (x : A) → 0 < i → i ≤ used → used + n ≤ length m → now ≡ moved_up m used i n → x ≡ get_or now (i - 1) x
      → set now (i - 1 + n) x ≡ moved_up m used (i - 1) n
  up_more m now used n zero x p h l e r = absurd (omega arith)
  up_more m now used n (suc i) x p h l e r =
      let w : ℕ = used - suc i in
      let e₁ : suc i - 1 ≡ i = omega arith in
      let e₂ : used - i ≡ suc w = omega arith in
      let e₃ : suc i + n ≡ suc (i + n) = omega arith in
      let stood : x ≡ get_or m i x = (rw e₁ at r) ∙ rw e (get_or_before m (suc i + n) (drop (suc i) m) w i x (omega arith) (omega arith)) in
      rw (e₁, e₂, drop-cons m i x (omega arith), ← stood, e, e₃) (paste_front m (i + n) (drop (suc i) m) w x (omega arith))

  -- ---- down: what stood from at + n to i has moved

  pub down_first : (m : List A) (at n : ℕ) → m ≡ paste m at (drop (at + n) m) (at + n - (at + n))
  down_first m at n =
      let e : at + n - (at + n) ≡ 0 = omega arith in
      rw e (paste-zero m at (drop (at + n) m))

  pub down_more : (m now : List A) (at n i : ℕ) (x : A) → at + n ≤ i → i < length m → now ≡ paste m at (drop (at + n) m) (i - (at + n)) → x ≡ get_or now i x
      → set now (i - n) x ≡ paste m at (drop (at + n) m) (i + 1 - (at + n))
  down_more m now at n i x h l e r =
      let w : ℕ = i - (at + n) in
      let s = drop (at + n) m in
      let e₁ : i - n ≡ at + w = omega arith in
      let e₂ : i + 1 - (at + n) ≡ suc w = omega arith in
      let e₃ : at + n + w ≡ i = omega arith in
      let moved : get_or s w x ≡ get_or m i x = get_or-drop (at + n) m w x ∙ ap (λ (j : ℕ). get_or m j x) e₃ in
      let stood : get_or s w x ≡ x = moved ∙ sym (r ∙ rw e (get_or_after m at s w i x (omega arith) (omega arith) (omega (arith, length-drop (at + n) m)))) in
      rw (e₁, e₂, e) (ap (λ (y : A). set (paste m at s w) (at + w) y) (sym stood) ∙ paste-suc m at s w x (omega arith) (omega (arith, length-drop (at + n) m)))
