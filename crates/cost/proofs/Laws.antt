-- Laws for the functions of this crate: sums of halves, products of columns, the order of halves.
use Rattle.std.proofs.Common.{◌≡◌, ℕ, ◌+◌, ◌-◌, ◌*◌, ◌^◌, ◌<◌, ◌≤◌, Bool, true, false, ltb, sym, refl, ap, ap₂, lt_of_lt_of_le, le_of_lt, lt_irrefl, not-le_of_lt, arith, ltb-false, ltb-true, le-ltb, lt-ltb, eq-eqb, ne_eqb, leb-true}
use Rattle.std.specs.Ordering.{MatchOrdering, nat_cmp, partial_ordering_then, partial_le, partial_lt, is_some_and, is_le, is_lt}
use Rattle.std.proofs.Common.{Ordering, Less, Equal, Greater, Some, not}
use Rattle.std.proofs.lemmas.Cmp.{ranked}
use mathlib.Core.Option.{none, some}
use Rattle.cost.proofs.Halves.{high_less, low_less, same}
use Rattle.cost.specs.Cost.{Cost, cheap}
use Rattle.cost.specs.Charge.{charged, text_cost, newline_cost}
use Rattle.cost.specs.Rising.{charged_small}
use Rattle.cost.specs.Logic.{false_if}
use Rattle.cost.specs.Order.{Cheap, cheap_is, is_cheap}
use Rattle.cost.specs.Value.{value, pick_option, halved_within, cost, past, within, text_outcome, newline_outcome, outcome}
use Rattle.cost.specs.contracts.ConsumerCostPartialOrd.TheImpl.{partial_cmp-value}
use Rattle.cost.specs.declared.ConsumerCost.{ConsumerCost}
use Rattle.std.specs.Prelude.{Option, None, Result, Err, IsErrAnd, ok_or}
use Rattle.std.proofs.lemmas.Result.{err_from_is_err_and}
use Rattle.cost.specs.declared.Reason.{Reason}
use Rattle.cost.specs.declared.Reason.TheVariants.{Column, Overflow, Burden}

zero_one : ◌≡◌ {A = ℕ} 0 1 → ⊥
zero_one z = omega arith

pub no_place : {n : ℕ} → 2 ^ 128 ≤ n → none ≡ halved_within n
unfolding halved_within
no_place h = rw (le-ltb _ _ h)

pub has_place : {n m : ℕ} → m ≡ n → n < 2 ^ 128 → some m ≡ halved_within n
unfolding halved_within
has_place e h = rw (lt-ltb _ _ h, e)

-- what the two cases of a sum of halves say of the sum
pub place_none : {n : ℕ} → none ≡ halved_within n → 2 ^ 128 ≤ n
unfolding halved_within
place_none {n} e = go (ltb n (2 ^ 128)) refl e
  where
    go : (t : Bool) → ltb n (2 ^ 128) ≡ t → none ≡ pick_option t n → 2 ^ 128 ≤ n
    go true q f = let z : ◌≡◌ {A = ℕ} 0 1 = cc in absurd (zero_one z)
    go false q f = ltb-false n (2 ^ 128) q

pub record Fits (m n : ℕ) : Type 0 where
  pub same : m ≡ n
  pub below : n < 2 ^ 128

pub place_some : {n m : ℕ} → some m ≡ halved_within n → Fits m n
unfolding halved_within
place_some {n} {m} e = go (ltb n (2 ^ 128)) refl e
  where
    go : (t : Bool) → ltb n (2 ^ 128) ≡ t → some m ≡ pick_option t n → Fits m n
    go true q f = record { same = cc; below = ltb-true n (2 ^ 128) q }
    go false q f = let z : ◌≡◌ {A = ℕ} 0 1 = cc in absurd (zero_one z)

-- what `o.ok_or(e)?` leaves by, where o is none
pub left_by : {A : Type 0} (o : Option A) (r : Result ConsumerCost Reason) (d e : Reason) → IsErrAnd r (λ x. x ≡ d) → o ≡ None → Err d ≡ ok_or o e → outcome r ≡ past e
left_by o r d e h n v =
    let p = err_from_is_err_and r h in
    let w = rw n at v in
    let q : d ≡ e = cc in
    rw (p.1, p.2, q)

pub within_overflow : (c : Cost) → 2 ^ 128 ≤ c.overflow → past Overflow ≡ within c
unfolding within
within_overflow c h = rw (le-ltb _ _ h)

pub within_burden : (c : Cost) → c.overflow < 2 ^ 128 → 2 ^ 64 ≤ c.burden → past Burden ≡ within c
unfolding within
within_burden c h k = rw (lt-ltb _ _ h, le-ltb _ _ k)

pub within_both : (c d : Cost) → d.overflow ≡ c.overflow → d.burden ≡ c.burden → c.overflow < 2 ^ 128 → c.burden < 2 ^ 64 → cost d ≡ within c
unfolding within
within_both c d e f h k = rw (lt-ltb _ _ h, lt-ltb _ _ k) (ap₂ (λ (x y : ℕ). cost (record { overflow = x; burden = y })) e f)

-- the charge of an excess under rule 2, and under another
pub by_excess : (r w c n : ℕ) → r ≡ 2 → n ≡ c - w → n ≡ charged r w c
unfolding charged
by_excess r w c n e f = rw (eq-eqb r 2 e) f

pub by_square : (r w c n : ℕ) → (r ≡ 2 → ⊥) → n ≡ c - w → n * n ≡ charged r w c
unfolding charged
by_square r w c n e f = rw (ne_eqb r 2 e, f)

pub text_past : (r w column width : ℕ) → 2 ^ 32 ≤ column + width → past Column ≡ text_outcome r w column width
unfolding text_outcome
text_past r w column width h = rw (le-ltb _ _ h)

pub text_is : (r w column width : ℕ) (d : Cost) → column + width < 2 ^ 32 → d ≡ text_cost (charged r w) column width → cost d ≡ text_outcome r w column width
unfolding text_outcome
text_is r w column width d h e = rw (lt-ltb _ _ h, e)

-- a newline's cost has its place
pub newline_fits : (r w newline indent : ℕ) → newline < 2 ^ 32 → indent < 2 ^ 32 → cost (newline_cost (charged r w) newline indent) ≡ newline_outcome r w newline indent
unfolding newline_outcome
newline_fits r w newline indent h k = within_both _ _ refl refl (lt_of_lt_of_le (charged_small r w indent k) (leb-true (2 ^ 64) (2 ^ 128) refl)) (omega arith)

pub at_most : (a b : Cost) → Cheap a b → true ≡ cheap a b
at_most a b h = sym (is_cheap a b h)

pub dearer : (a b : Cost) → (Cheap a b → ⊥) → false ≡ cheap a b
dearer a b h = sym (false_if (cheap a b) λ e. h (cheap_is a b e))

at_burden : (a b : Cost) (o : Ordering) → a.overflow ≡ b.overflow → MatchOrdering o (a.burden < b.burden) (a.burden ≡ b.burden) (b.burden < a.burden) → is_le o ≡ cheap a b
at_burden a b Less e h = at_most a b (record { overflow_le = omega arith; burden_le = λ _. omega arith })
at_burden a b Equal e h = at_most a b (record { overflow_le = omega arith; burden_le = λ _. omega arith })
at_burden a b Greater e h = dearer a b λ k. not-le_of_lt h (k.burden_le e)

below_burden : (a b : Cost) (o : Ordering) → a.overflow ≡ b.overflow → MatchOrdering o (a.burden < b.burden) (a.burden ≡ b.burden) (b.burden < a.burden) → is_lt o ≡ not (cheap b a)
below_burden a b Less e h = ap not (dearer b a λ k. not-le_of_lt h (k.burden_le (sym e)))
below_burden a b Equal e h = ap not (at_most b a (record { overflow_le = omega arith; burden_le = λ _. omega arith }))
below_burden a b Greater e h = ap not (at_most b a (record { overflow_le = omega arith; burden_le = λ _. omega arith }))

less_overflow : (a b : Cost) → a.overflow < b.overflow → true ≡ cheap a b
less_overflow a b h = at_most a b (record { overflow_le = le_of_lt h; burden_le = λ e. absurd (lt_irrefl _ (rw e at h)) })

more_overflow : (a b : Cost) → b.overflow < a.overflow → false ≡ cheap a b
more_overflow a b h = dearer a b λ k. not-le_of_lt h k.overflow_le

-- the derived order of costs, by high half, low half and burden, is that of what they stand for: by overflow and burden
module _ (a b : ConsumerCost) (p : a.overflow_low < 2 ^ 64) (q : b.overflow_low < 2 ^ 64) where
  module _ (t : Ordering → Bool) (r : Bool) (below : (value a).overflow < (value b).overflow → t Less ≡ r) (above : (value b).overflow < (value a).overflow → t Greater ≡ r) (level : (o : Ordering) → (value a).overflow ≡ (value b).overflow → MatchOrdering o (a.burden < b.burden) (a.burden ≡ b.burden) (b.burden < a.burden) → t o ≡ r) where
    by_low : (o : Ordering) → a.overflow_high ≡ b.overflow_high → MatchOrdering o (a.overflow_low < b.overflow_low) (a.overflow_low ≡ b.overflow_low) (b.overflow_low < a.overflow_low) → is_some_and t (partial_ordering_then (Some o) (Some (nat_cmp a.burden b.burden))) ≡ r
    by_low Less e h = below (low_less (2 ^ 64) a.overflow_high a.overflow_low b.overflow_high b.overflow_low e h)
    by_low Equal e h = level _ (same (2 ^ 64) a.overflow_high a.overflow_low b.overflow_high b.overflow_low e h) (ranked a.burden b.burden _ refl)
    by_low Greater e h = above (low_less (2 ^ 64) b.overflow_high b.overflow_low a.overflow_high a.overflow_low (sym e) h)

    by_high : (o : Ordering) → MatchOrdering o (a.overflow_high < b.overflow_high) (a.overflow_high ≡ b.overflow_high) (b.overflow_high < a.overflow_high) → is_some_and t (partial_ordering_then (Some o) (partial_ordering_then (Some (nat_cmp a.overflow_low b.overflow_low)) (Some (nat_cmp a.burden b.burden)))) ≡ r
    by_high Less h = below (high_less (2 ^ 64) a.overflow_high a.overflow_low b.overflow_high b.overflow_low h p)
    by_high Equal h = by_low _ h (ranked a.overflow_low b.overflow_low _ refl)
    by_high Greater h = above (high_less (2 ^ 64) b.overflow_high b.overflow_low a.overflow_high a.overflow_low h q)

  pub le_is : partial_le partial_cmp-value.it a b ≡ cheap (value a) (value b)
  le_is = by_high is_le _ (less_overflow _ _) (more_overflow _ _) (at_burden _ _) _ (ranked a.overflow_high b.overflow_high _ refl)

  pub lt_is : partial_lt partial_cmp-value.it a b ≡ not (cheap (value b) (value a))
  lt_is = by_high is_lt _ (λ h. ap not (more_overflow _ _ h)) (λ h. ap not (less_overflow _ _ h)) (below_burden _ _) _ (ranked a.overflow_high b.overflow_high _ refl)

-- an overflow that has its place in the low half
pub low_only : (x y burden : ℕ) → x ≡ y → value (record { overflow_high = 0; overflow_low = x; burden = burden }) ≡ record { overflow = y; burden = burden }
low_only x y burden e = let f : 0 * 2 ^ 64 + x ≡ y = omega arith in ap (λ (z : ℕ). record { overflow = z; burden = burden }) f
