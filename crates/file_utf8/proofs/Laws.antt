-- What one byte makes of what is wanted, and the loop over a text.
use mathlib.Core.Path.{◌≡◌, refl, sym, ap, ◌∙◌, subst}
use mathlib.Core.Bool.{Bool, false, false≢true}
use mathlib.Core.List.{List, [], ◌∷◌}
use Prim.Native.Nat.{ℕ, zero, suc, ◌+◌, ◌-◌, ◌≤◌, ◌<◌}
use native.Mathlib.Omega.{arith}
use native.Mathlib.Numerals.{add-one}
use lib.Dec.{eqb}
use lib.ListN.{length, get_or, drop}
use borrow.Author.Tests.{ne_eqb}
use lib.Seq.{drop-cons}
use Rattle.file_utf8.specs.declared.Wanted.{Wanted}
use Rattle.std.specs.Prelude.{Option, Some, None}
use Rattle.file_utf8.specs.Utf8.{Utf8}
use Rattle.file_utf8.specs.Bytewise.{more, low, high, rest, well}
use Rattle.file_utf8.specs.Rows.{rest_ascii, rest_none, rest_first, rest_low, rest_high, rest_next}
use Rattle.file_utf8.proofs.Rows.{utf8_well}
use Rattle.file_utf8.specs.Follows.{start, wants, FollowsCase, Follows}

-- ---- a first byte

pub begin_ascii : (a : ℕ) → a < 128 → Follows start a (Some start)
begin_ascii a h = record { by = λ s. rest_ascii 128 191 a s h }

pub begin_ill : (a n : ℕ) → 128 ≤ a → n ≡ more a → n ≡ 0 → Follows start a None
begin_ill a n h e z = record { by = λ s. rest_none 128 191 a s h (sym e ∙ z) }

pub begin_first : (a n i j : ℕ) → 128 ≤ a → n ≡ more a → (n ≡ 0 → ⊥) → i ≡ low a → j ≡ high a → Follows start a (Some (record { left = n; low = i; high = j }))
begin_first a n i j h e z f g = record { by = λ s. rest_first 128 191 a s h (λ m. z (e ∙ m)) ∙ rw (e, f, g) }

-- the bounds matter only inside a character
any_bounds : (l h l₁ h₁ : ℕ) (s : List ℕ) → rest zero l h s ≡ rest zero l₁ h₁ s
unfolding rest
any_bounds l h l₁ h₁ [] = refl
any_bounds l h l₁ h₁ (a ∷ s) = refl

pub begun : (w : Wanted) (b : ℕ) (r : Option Wanted) → w.left ≡ 0 → Follows start b r → Follows w b r
begun w b (Some z) e f = record { by = λ s. rw e (any_bounds w.low w.high 128 191 (b ∷ s)) ∙ f.by s }
begun w b None e f = record { by = λ s. rw e (any_bounds w.low w.high 128 191 (b ∷ s)) ∙ f.by s }

-- ---- another byte of a character

inside : (n : ℕ) → (n ≡ 0 → ⊥) → suc (n - 1) ≡ n
inside n h = omega (arith, h)

pub next_low : (w : Wanted) (b : ℕ) → (w.left ≡ 0 → ⊥) → b < w.low → Follows w b None
next_low w b e h = record { by = λ s. subst (λ (n : ℕ). rest n w.low w.high (b ∷ s) ≡ false) (inside w.left e) (rest_low (w.left - 1) w.low w.high b s h) }

pub next_high : (w : Wanted) (b : ℕ) → (w.left ≡ 0 → ⊥) → w.low ≤ b → w.high < b → Follows w b None
next_high w b e h k = record { by = λ s. subst (λ (n : ℕ). rest n w.low w.high (b ∷ s) ≡ false) (inside w.left e) (rest_high (w.left - 1) w.low w.high b s h k) }

pub next_in : (w : Wanted) (b : ℕ) → (w.left ≡ 0 → ⊥) → w.low ≤ b → b ≤ w.high → Follows w b (Some (record { left = w.left - 1; low = 128; high = 191 }))
next_in w b e h k =
    record { by = λ s. subst (λ (n : ℕ). rest n w.low w.high (b ∷ s) ≡ rest (w.left - 1) 128 191 s) (inside w.left e) (rest_next (w.left - 1) w.low w.high b s h k) }

-- ---- the loop: what is wanted from k on is what is tested of the whole

pub record So (text : List ℕ) (w : Wanted) (k : ℕ) : Type 0 where
  pub inside : k ≤ length text
  pub same : well text ≡ wants w (drop k text)

at_k : (text : List ℕ) (k : ℕ) → k < length text → drop k text ≡ get_or text k 0 ∷ drop (k + 1) text
at_k text k h = rw (add-one) (drop-cons text k 0 h)

-- at an equal answer
case_of : (w : Wanted) (b : ℕ) (r r₁ : Option Wanted) → Follows w b r → r ≡ r₁ → FollowsCase w b r₁
case_of w b r r₁ f e = subst (λ (z : Option Wanted). FollowsCase w b z) e f.by

pub so_ill : (text : List ℕ) (w : Wanted) (k : ℕ) (r : Option Wanted) → So text w k → k < length text → Follows w (get_or text k 0) r → r ≡ None → Utf8 text → ⊥
so_ill text w k r i h f e u =
    let q = case_of w (get_or text k 0) r None f e (drop (k + 1) text) in
    false≢true (sym q ∙ (sym (ap (wants w) (at_k text k h)) ∙ (sym i.same ∙ (utf8_well text).0 u)))

-- nothing more is wanted
abbrev pub full : ℕ → Bool
full n = eqb n 0

pub at_end : (n l h : ℕ) → rest n l h [] ≡ full n
unfolding rest
at_end zero l h = refl
at_end (suc n) l h = sym (ne_eqb (suc n) 0 (λ e. omega (arith, e)))
