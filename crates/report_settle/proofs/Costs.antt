-- The cost of the whole page with a row more or less, from sums.
use mathlib.Core.Path.{◌≡◌, sym, ap, ap₂, subst, ◌∙◌}
use mathlib.Core.List.{List, [], ◌∷◌, map}
use Prim.Native.Nat.{ℕ, ◌+◌, ◌-◌, ◌*◌, ◌≤◌, ◌<◌}
use native.Mathlib.Nat.{lt_of_le_of_lt}
use native.Mathlib.Omega.{arith}
use lib.ListN.{length, length-map}
use Rattle.std.specs.Prelude.{Result, Ok, Err}
use Rattle.cost.specs.Cost.{Cost, add}
use Rattle.cost.specs.Value.{value, outcome, within}
use Rattle.cost.specs.declared.Reason.{Reason}
use Rattle.cost.specs.declared.ConsumerCost.{ConsumerCost}
use Rattle.layout.specs.Report.{newline_at, whole_cost}
use Rattle.report.specs.Report.{insert_at, remove_at}
use Rattle.report.specs.Answers.{CostFits}
use Rattle.report.specs.Memory.{Words, cost_at}
use Rattle.report.specs.Lists.{remove_none, length_insert, length_remove, map_remove}
use Rattle.report_rows.specs.Costs.{cost_sum, CostTold, past}
use Rattle.report_rows.specs.WholeCost.{same_cost, cost_insert, whole_cost_is}
use Rattle.report_rows.proofs.Costs.{added, not_added}

module _ (n rows place : ℕ) (t : List Words) (is : length t ≡ rows) (h : place ≤ rows) where
  with_is : (c : Cost) → whole_cost n (insert_at place (c ∷ []) (map cost_at t)) ≡ add (add (newline_at (n * (rows + 1 - 1))) c) (cost_sum (map cost_at t))
  with_is c =
      let cs = map cost_at t in
      let k : length cs ≡ rows = length-map t cost_at ∙ is in
      let l : length (insert_at place (c ∷ []) cs) - 1 ≡ rows + 1 - 1 = omega (arith, length_insert place (c ∷ []) cs (omega (arith, h, k)), k) in
      whole_cost_is n (insert_at place (c ∷ []) cs)
      ∙ ap₂ (λ (x : Cost) (y : ℕ). add x (newline_at (n * y))) (cost_insert place c cs) l
      ∙ same_cost (omega arith) (omega arith)

  module _ (start cost : ConsumerCost) (s : value start ≡ newline_at (n * (rows + 1 - 1))) (r : Result ConsumerCost Reason) (e : outcome r ≡ within (add (value start) (value cost))) where
    -- past its widths already
    pub with_past : (reason : Reason) → r ≡ Err reason → CostTold (whole_cost n (insert_at place (value cost ∷ []) (map cost_at t))) (Err reason)
    with_past reason q =
        past (λ f. not_added (add (value start) (value cost)) reason (sym (ap outcome q) ∙ e)
        (let g = subst CostFits (with_is (value cost)) f in
        record {
          overflow = lt_of_le_of_lt (omega (arith, ap (λ (z : Cost). z.overflow) s)) g.overflow;
          burden = omega (arith, g.burden, ap (λ (z : Cost). z.burden) s);
        }))

    pub with_told : (sum : ConsumerCost) → r ≡ Ok sum → {z : Result ConsumerCost Reason} → CostTold (add (value sum) (cost_sum (map cost_at (remove_at rows 1 t)))) z → CostTold (whole_cost n (insert_at place (value cost ∷ []) (map cost_at t))) z
    with_told sum q {z} w =
        let a = added (add (value start) (value cost)) (value sum) (sym (ap outcome q) ∙ e) in
        let v : add (value sum) (cost_sum (map cost_at (remove_at rows 1 t))) ≡ whole_cost n (insert_at place (value cost ∷ []) (map cost_at t))
        = ap₂ (λ (x : Cost) (y : List Words). add x (cost_sum (map cost_at y))) a.same (remove_none rows t (omega (arith, is))) ∙ ap (λ (x : Cost). add (add x (value cost)) (cost_sum (map cost_at t))) s ∙ sym (with_is (value cost)) in
        subst (λ (x : Cost). CostTold x z) v w

-- a row less
pub without_told : (n rows place : ℕ) (t : List Words) → length t ≡ rows → place < rows → (start : ConsumerCost) → value start ≡ newline_at (n * (rows - 1 - 1)) → {z : Result ConsumerCost Reason} → CostTold (add (value start) (cost_sum (map cost_at (remove_at place 1 t)))) z
    → CostTold (whole_cost n (remove_at place 1 (map cost_at t))) z
without_told n rows place t is h start s {z} w =
    let cs = map cost_at t in
    let k : length cs ≡ rows = length-map t cost_at ∙ is in
    let l : length (remove_at place 1 cs) - 1 ≡ rows - 1 - 1 = omega (arith, length_remove place 1 cs (omega (arith, h, k)), k) in
    let v : whole_cost n (remove_at place 1 cs) ≡ add (value start) (cost_sum (map cost_at (remove_at place 1 t)))
    = whole_cost_is n (remove_at place 1 cs)
    ∙ ap₂ (λ (x : List Cost) (y : ℕ). add (cost_sum x) (newline_at (n * y))) (sym (map_remove cost_at place 1 t)) l
    ∙ ap (λ (x : Cost). add (cost_sum (map cost_at (remove_at place 1 t))) x) (sym s)
    ∙ same_cost (omega arith) (omega arith) in
    subst (λ (x : Cost). CostTold x z) (sym v) w
