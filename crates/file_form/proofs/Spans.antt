-- The ways in which a text's bytes are taken.
use mathlib.Core.Path.{◌≡◌, refl}
use mathlib.Core.List.{List, ◌++◌}
use Prim.Native.Nat.{ℕ, ◌+◌, ◌-◌, ◌≤◌, ◌<◌}
use native.Mathlib.Omega.{arith}
use lib.ListN.{length, take, drop, length-drop}
use lib.Seq.{sets, length-take-le}
use borrow.Author.Tests.{le-leb, lt-leb, eq-eqb, ne_eqb}
use Rattle.file_fields.specs.declared.Step.{Step}
use Rattle.file_fields.specs.Fields.{got, refused}
use Rattle.file_form.specs.Texts.{span_at}
use Rattle.file_form.proofs.Lists.{put_back}

pub span_late : (s b : List ℕ) (l : Step) (total : ℕ) → (l.fault ≡ 0 → ⊥)
    → (refused l.fault l.at ≡ span_at s l) × (b ≡ sets b total (take (span_at s l).value (drop l.at s)))
unfolding span_at
span_late s b l total f = rw (ne_eqb l.fault 0 f) (refl, refl)

pub span_short : (s b : List ℕ) (l : Step) (total : ℕ) → l.fault ≡ 0 → length s < l.at + l.value
    → (refused 2 l.at ≡ span_at s l) × (b ≡ sets b total (take (span_at s l).value (drop l.at s)))
unfolding span_at
span_short s b l total f h = rw (eq-eqb l.fault 0 f, lt-leb (l.at + l.value) (length s) h) (refl, refl)

pub span_whole : (s b ys : List ℕ) (l : Step) (total k m : ℕ) → l.fault ≡ 0 → l.at + l.value ≤ length s → total + l.value ≤ length b
    → k ≡ length b - total
    → m ≡ l.value
    → ys ≡ take m (drop l.at s) ++ drop (length (take m (drop l.at s))) (take k (drop total b))
    → (got l.value (l.at + l.value) ≡ span_at s l) × (take total b ++ (ys ++ drop k (drop total b)) ≡ sets b total (take (span_at s l).value (drop l.at s)))
unfolding span_at
span_whole s b ys l total k m f h room ek em ey =
    let n : length (take l.value (drop l.at s)) ≡ l.value = length-take-le l.value (drop l.at s) (simp length-drop (omega arith)) in
    rw (eq-eqb l.fault 0 f, le-leb (l.at + l.value) (length s) h)
    (refl, put_back b (take l.value (drop l.at s)) ys total k ek (omega arith) (rw em at ey))
