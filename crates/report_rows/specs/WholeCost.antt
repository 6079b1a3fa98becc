-- Laws of costs summed: of parts, of a cost more, and the whole page's cost by them; what a told cost says.
use Rattle.std.specs.Prelude.{◌≡◌, Result, Ok, Err, refl, List, [], ◌∷◌, ◌++◌, ℕ, suc, ◌-◌, ◌*◌, length, take, drop}
use Rattle.std.proofs.Common.{sym, ap, ap₂, subst, ◌∙◌, mul-zero, mul-suc, arith, take-append-drop}
use Rattle.cost.specs.Cost.{Cost, zero_cost, add}
use Rattle.cost.specs.Value.{value}
use Rattle.cost.specs.declared.Reason.{Reason}
use Rattle.cost.specs.declared.ConsumerCost.{ConsumerCost}
use Rattle.layout.specs.Report.{newline_at, costs_below, whole_cost}
use Rattle.report.specs.Report.{insert_at}
use Rattle.report.specs.Answers.{CostFits}
use Rattle.report_rows.specs.Costs.{cost_sum, CostTold, told, past}

-- costs are the same if their parts are
pub same_cost : {a b : Cost} → a.overflow ≡ b.overflow → a.burden ≡ b.burden → a ≡ b
same_cost e f = ap₂ (λ (x y : ℕ). record { overflow = x; burden = y }) e f

pub cost_nil : cost_sum [] ≡ zero_cost
unfolding cost_sum
cost_nil = refl

pub cost_cons : (c : Cost) (cs : List Cost) → cost_sum (c ∷ cs) ≡ add c (cost_sum cs)
unfolding cost_sum
cost_cons c cs = refl

pub cost_append : (cs ds : List Cost) → cost_sum (cs ++ ds) ≡ add (cost_sum cs) (cost_sum ds)
unfolding cost_sum
cost_append [] ds = same_cost (omega arith) (omega arith)
cost_append (c ∷ cs) ds = let e = cost_append cs ds in same_cost (omega (arith, ap (λ (z : Cost). z.overflow) e)) (omega (arith, ap (λ (z : Cost). z.burden) e))

pub cost_insert : (i : ℕ) (c : Cost) (cs : List Cost) → cost_sum (insert_at i (c ∷ []) cs) ≡ add c (cost_sum cs)
cost_insert i c cs =
    let e : cost_sum (insert_at i (c ∷ []) cs) ≡ add (cost_sum (take i cs)) (add c (cost_sum (drop i cs))) = cost_append (take i cs) (c ∷ drop i cs) ∙ ap (add (cost_sum (take i cs))) (cost_cons c (drop i cs)) in
    let f : cost_sum cs ≡ add (cost_sum (take i cs)) (cost_sum (drop i cs)) = sym (ap cost_sum (take-append-drop i cs)) ∙ cost_append (take i cs) (drop i cs) in
    rw (e, f) (same_cost (omega arith) (omega arith))

below_is : (n : ℕ) (cs : List Cost) → costs_below n cs ≡ add (cost_sum cs) (newline_at (n * length cs))
unfolding cost_sum
below_is n [] = same_cost refl (omega (arith, mul-zero n))
below_is n (c ∷ cs) =
    let e = below_is n cs in
    same_cost (omega (arith, ap (λ (z : Cost). z.overflow) e)) (omega (arith, ap (λ (z : Cost). z.burden) e, mul-suc n (length cs)))

-- the rows' costs, and a newline cost for each row but one
pub whole_cost_is : (n : ℕ) (cs : List Cost) → whole_cost n cs ≡ add (cost_sum cs) (newline_at (n * (length cs - 1)))
unfolding cost_sum
whole_cost_is n [] = same_cost refl (omega (arith, mul-zero n))
whole_cost_is n (c ∷ cs) =
    let e = below_is n cs in
    let f : suc (length cs) - 1 ≡ length cs = omega arith in
    rw f (same_cost (omega (arith, ap (λ (z : Cost). z.overflow) e)) (omega (arith, ap (λ (z : Cost). z.burden) e)))

-- what an answer says of the cost
module _ {c : Cost} where
  pub told_value : {r : Result ConsumerCost Reason} {v : ConsumerCost} → CostTold c r → r ≡ Ok v → value v ≡ c
  told_value {v = v} (told {v = w} e f) q = let p : w ≡ v = cc in subst (λ (z : ConsumerCost). value z ≡ c) p e
  told_value (past n) q = let z : ◌≡◌ {A = ℕ} 0 1 = cc in absurd (omega arith)

  pub told_fits : {r : Result ConsumerCost Reason} {v : ConsumerCost} → CostTold c r → r ≡ Ok v → CostFits c
  told_fits (told e f) q = f
  told_fits (past n) q = let z : ◌≡◌ {A = ℕ} 0 1 = cc in absurd (omega arith)

  pub told_past : {r : Result ConsumerCost Reason} {x : Reason} → CostTold c r → r ≡ Err x → CostFits c → ⊥
  told_past (told e f) q = let z : ◌≡◌ {A = ℕ} 0 1 = cc in absurd (omega arith)
  told_past (past n) q = n
