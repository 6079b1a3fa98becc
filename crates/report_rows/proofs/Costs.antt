-- Laws for the sum of costs: what a turn of the loop leaves, and that a sum past its widths stays so.
use mathlib.Core.Path.{◌≡◌, refl, sym, ap, subst, ◌∙◌}
use mathlib.Core.Bool.{Bool, true, false, cond}
use mathlib.Core.List.{List, [], ◌∷◌, ◌++◌, map, map-append}
use Prim.Native.Nat.{ℕ, zero, suc, ◌+◌, ◌-◌, ◌^◌, ◌≤◌, ◌<◌}
use native.Mathlib.Nat.{not-le_of_lt, lt_of_le_of_lt, add-zero, add-suc}
use native.Mathlib.Numerals.{add-one}
use native.Mathlib.Omega.{arith}
use lib.Dec.{ltb, eqb}
use lib.ListN.{length, get_or, take}
use lib.Seq.{take-suc, length-take-le}
use borrow.Author.Tests.{ltb-true, ltb-false, eqb-true, eqb-false, eq-eqb, ne_eqb}
use Rattle.std.specs.Prelude.{Result, Ok, Err}
use Rattle.cost.specs.Cost.{Cost, zero_cost, add}
use Rattle.cost.specs.Value.{cost, past, if_so, within, value, outcome}
use Rattle.cost.specs.declared.Reason.{Reason}
use Rattle.cost.specs.declared.Reason.TheVariants.{Overflow, Burden}
use Rattle.cost.specs.declared.ConsumerCost.{ConsumerCost}
use Rattle.cost.proofs.Halves.{two_digits}
use Rattle.report.specs.Report.{remove_at}
use Rattle.report.specs.Answers.{CostFits}
use Rattle.report.specs.Memory.{Words, cost_at}
use Rattle.report_rows.specs.Costs.{cost_sum, cost_but, CostTold, told, past as past_told}
use Rattle.report_rows.specs.WholeCost.{same_cost, cost_nil, cost_cons, cost_append}
use Rattle.report_rows.proofs.Removed.{removed_nil, removed_last, removed_other}

-- ---- widths

-- no part is smaller
record Grows (a b : Cost) : Type 0 where
  pub overflow : a.overflow ≤ b.overflow
  pub burden : a.burden ≤ b.burden

-- what an addition says
pub record Added (c d : Cost) : Type 0 where
  pub same : d ≡ c
  pub fits : CostFits c

pub added : (c d : Cost) → cost d ≡ within c → Added c d
unfolding within
added c d e = go (ltb c.overflow (2 ^ 128)) (ltb c.burden (2 ^ 64)) refl refl e
  where
    go : (s t : Bool) → ltb c.overflow (2 ^ 128) ≡ s → ltb c.burden (2 ^ 64) ≡ t → cost d ≡ if_so s (if_so t (cost c) (past Burden)) (past Overflow) → Added c d
    go true true p q f = record { same = cc; fits = record { overflow = ltb-true _ _ p; burden = ltb-true _ _ q } }
    go true false p q f = let z : ◌≡◌ {A = ℕ} 0 1 = cc in absurd (omega arith)
    go false t p q f = let z : ◌≡◌ {A = ℕ} 0 1 = cc in absurd (omega arith)

pub not_added : (c : Cost) (r : Reason) → past r ≡ within c → CostFits c → ⊥
unfolding within
not_added c r e f = go (ltb c.overflow (2 ^ 128)) (ltb c.burden (2 ^ 64)) refl refl e
  where
    go : (s t : Bool) → ltb c.overflow (2 ^ 128) ≡ s → ltb c.burden (2 ^ 64) ≡ t → past r ≡ if_so s (if_so t (cost c) (past Burden)) (past Overflow) → ⊥
    go true true p q h = let z : ◌≡◌ {A = ℕ} 0 1 = cc in absurd (omega arith)
    go true false p q h = not-le_of_lt f.burden (ltb-false c.burden (2 ^ 64) q)
    go false t p q h = not-le_of_lt f.overflow (ltb-false c.overflow (2 ^ 128) p)

-- ---- the rows but one

pub but_skipped : (t : List Words) (skip i : ℕ) → i ≡ skip → zero_cost ≡ cost_but t skip i
unfolding cost_but
but_skipped t skip i e = rw (eq-eqb i skip e)

pub but_other : (t : List Words) (skip i : ℕ) → (i ≡ skip → ⊥) → cost_at (get_or t i []) ≡ cost_but t skip i
unfolding cost_but
but_other t skip i h = rw (ne_eqb i skip h)

-- the cost of the first n rows but one
unfoldable pub first_but : List Words → ℕ → ℕ → Cost
first_but t skip n = cost_sum (map cost_at (remove_at skip 1 (take n t)))

cost_snoc : (l : List Words) (w : Words) → cost_sum (map cost_at (l ++ (w ∷ []))) ≡ add (cost_sum (map cost_at l)) (cost_at w)
cost_snoc l w =
    let one : cost_sum (cost_at w ∷ []) ≡ cost_at w = cost_cons (cost_at w) [] ∙ rw cost_nil (same_cost (add-zero _) (add-zero _)) in
    ap cost_sum (map-append cost_at l (w ∷ [])) ∙ cost_append (map cost_at l) (cost_at w ∷ []) ∙ ap (add (cost_sum (map cost_at l))) one

first_none : (t : List Words) (skip : ℕ) → first_but t skip 0 ≡ zero_cost
unfolding first_but
first_none t skip = rw (removed_nil {A = Words} skip) cost_nil

first_next : (t : List Words) (skip i : ℕ) → i < length t → first_but t skip (suc i) ≡ add (first_but t skip i) (cost_but t skip i)
unfolding first_but cost_but
first_next t skip i h = ap (λ (l : List Words). cost_sum (map cost_at (remove_at skip 1 l))) (take-suc t i [] h) ∙ go (eqb i skip) refl
  where
    go : (b : Bool) → eqb i skip ≡ b → cost_sum (map cost_at (remove_at skip 1 (take i t ++ (get_or t i [] ∷ [])))) ≡ add (cost_sum (map cost_at (remove_at skip 1 (take i t)))) (cond b zero_cost (cost_at (get_or t i [])))
    go true e = ap (λ (l : List Words). cost_sum (map cost_at l)) (removed_last (take i t) (get_or t i []) skip (omega (arith, eqb-true i skip e, length-take-le i t (omega arith)))) ∙ same_cost (sym (add-zero _)) (sym (add-zero _))
    go false e = ap (λ (l : List Words). cost_sum (map cost_at l)) (removed_other (take i t) (get_or t i []) skip (λ q. eqb-false i skip e (omega (arith, q, length-take-le i t (omega arith))))) ∙ cost_snoc (remove_at skip 1 (take i t)) (get_or t i [])

-- more rows, no less
first_grows : (t : List Words) (skip i d : ℕ) → i + d ≤ length t → Grows (first_but t skip i) (first_but t skip (i + d))
first_grows t skip i zero h = rw (add-zero i) (record { overflow = omega arith; burden = omega arith })
first_grows t skip i (suc d) h =
    let e = first_next t skip (i + d) (omega arith) in
    let g = first_grows t skip i d (omega arith) in
    rw (add-suc i d, e) (record { overflow = omega (arith, g.overflow); burden = omega (arith, g.burden) })

-- ---- the loop

-- the sum after i rows
pub record Running (t : List Words) (skip : ℕ) (start : Cost) (i : ℕ) (sum : Cost) : Type 0 where
  pub same : sum ≡ add start (first_but t skip i)
  pub fits : CostFits sum

pub at_first : (t : List Words) (skip : ℕ) (c : ConsumerCost) → c.overflow_high < 2 ^ 64 → c.overflow_low < 2 ^ 64 → c.burden < 2 ^ 64 → Running t skip (value c) 0 (value c)
at_first t skip c h l b = record {
  same = rw (first_none t skip) (same_cost (sym (add-zero _)) (sym (add-zero _)));
  fits = record { overflow = two_digits (2 ^ 64) _ _ h l; burden = b };
}

module _ (t : List Words) (skip : ℕ) (start : Cost) (i : ℕ) (sum c : Cost) (so : Running t skip start i sum) (is : c ≡ cost_but t skip i) (h : i < length t) where
  next_is : add sum c ≡ add start (first_but t skip (suc i))
  next_is = rw (so.same, is, first_next t skip i h) (same_cost (omega arith) (omega arith))

  pub goes_on : (r : Result ConsumerCost Reason) (v : ConsumerCost) → outcome r ≡ within (add sum c) → r ≡ Ok v → Running t skip start (i + 1) (value v)
  goes_on r v e q =
      let a : Added (add sum c) (value v) = added (add sum c) (value v) (sym (ap outcome q) ∙ e) in
      rw (add-one i) (record { same = a.same ∙ next_is; fits = subst CostFits (sym a.same) a.fits })

  -- past its widths already, and the rest makes it no smaller
  pub stops : (n : ℕ) (r : Result ConsumerCost Reason) (x : Reason) → outcome r ≡ within (add sum c) → r ≡ Err x → i < n → n ≤ length t → CostTold (add start (first_but t skip n)) (Err x)
  stops n r x e q k l = past_told λ f. not_added (add sum c) x (sym (ap outcome q) ∙ e)
      (let m : suc i + (n - suc i) ≡ n = omega arith in
      let g : Grows (first_but t skip (suc i)) (first_but t skip n) = rw m at (first_grows t skip (suc i) (n - suc i) (omega arith)) in
      rw next_is (record { overflow = lt_of_le_of_lt (omega (arith, g.overflow)) f.overflow; burden = omega (arith, f.burden, g.burden) }))

pub all_told : (t : List Words) (skip : ℕ) (start : Cost) (i n : ℕ) (v : ConsumerCost) → Running t skip start i (value v) → i ≡ n → CostTold (add start (first_but t skip n)) (Ok v)
all_told t skip start i n v so e = rw (← e) (told so.same (subst CostFits so.same so.fits))
