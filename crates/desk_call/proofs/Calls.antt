-- From the gate, the call under it and the charge to a call for a desk.
use Rattle.std.specs.Prelude.{Err}
use mathlib.Core.Path.{◌≡◌, refl, sym, subst}
use mathlib.Core.Bool.{Bool}
use mathlib.Core.List.{List}
use Prim.Native.Nat.{ℕ, ◌≤◌}
use native.Mathlib.Omega.{arith}
use Rattle.file_checks.specs.Told.{Told}
use Rattle.stats.specs.Counts.{none_counted}
use Rattle.solve_workspace.specs.declared.Bounds.{Bounds}
use Rattle.solve_workspace.specs.declared.RenderOptions.{RenderOptions}
use Rattle.materialize.specs.Rows.{Row}
use Rattle.render.specs.declared.page.Refusal.{Refusal}
use Rattle.render.specs.declared.order.Lengths.{Lengths}
use Rattle.render.specs.Order.{InOrder}
use Rattle.render.specs.Rendered.{Rendered, refusal_with, Stands}
use Rattle.render.specs.Drafts.{Drafted}
use Rattle.render.specs.Call.{Rendering, Drafting}
use Rattle.render.proofs.Pages.{unaltered}
use Rattle.desks.specs.declared.Desks.{Desks}
use Rattle.desks.specs.declared.DeskAnswer.{DeskAnswer}
use Rattle.desks.specs.Desks.{remaining, charged, gate_number}
use Rattle.desks.specs.Lent.{within, work_in, charging}
use Rattle.desks.specs.Calls.{DeskRendering, DeskDrafting, DeskGate}
use Rattle.desks.proofs.Calling.{gated, opened, work_of_call, render_served, render_shut, plan_served}

-- ---- no work

pub nothing_done : (D : Desks) (d : ℕ) {x : Refusal} {g : ℕ} → x ≡ refusal_with g 0 none_counted → work_in (Err x) ≤ remaining D d
nothing_done D d {g = g} e = subst (λ (x : Refusal). work_in (Err x) ≤ remaining D d) (sym e) (omega arith)

nothing_stands : (g : ℕ) (output : List ℕ) (rows : List Row) → Stands (Err (refusal_with g 0 none_counted)) output output rows rows
nothing_stands g output rows = record { output_is = unaltered output output refl; rows_are = unaltered rows rows refl; fitting = λ k h. absurd (omega (arith, h)); no_fit_checks = refl }

gate : (d : ℕ) {o : RenderOptions} {b : Bounds} {l : Lengths} {t : Bool} {g : ℕ} → Told (InOrder o b l) t → g ≡ gate_number t d → DeskGate (InOrder o b l) d g
gate d {o} {b} {l} {t} told is = subst (λ (n : ℕ). DeskGate (InOrder o b l) d n) (sym is) (gated t d told)

module _ (d : ℕ) (D : Desks) {file : List ℕ} {o : RenderOptions} {b : Bounds} {l : Lengths} where
  module _ {t : Bool} {g : ℕ} (told : Told (InOrder o b l) t) (is : g ≡ gate_number t d) where
    -- ---- the whole call

    pub shut_call : (output : List ℕ) (rows : List Row) {x : Refusal} {r : DeskAnswer} → (g ≡ 0 → ⊥) → x ≡ refusal_with g 0 none_counted → r ≡ charging (Err x) d D
        → DeskRendering d D file o b l output output rows rows r.answer × (r.desks ≡ charged D d (work_in r.answer))
    shut_call output rows ne e c = rw (c, e) (render_shut output rows ne (gate d told is) (nothing_stands g output rows), refl)

    module _ {c : Bounds} (open_gate : g ≡ 0) (bounds_are : c ≡ within D d b) {output₀ output : List ℕ} {rows₀ rows : List Row} {a : Rendered} (R : Rendering file o c l output₀ output rows₀ rows a) where
      for_desk : DeskRendering d D file o b l output₀ output rows₀ rows a
      for_desk = let w = opened open_gate (gate d told is) in render_served w.0 w.1 (subst (λ (z : Bounds). Rendering file o z l output₀ output rows₀ rows a) bounds_are R)

      pub call_left : work_in a ≤ remaining D d
      call_left = work_of_call for_desk

      pub served_call : {r : DeskAnswer} → r ≡ charging a d D → DeskRendering d D file o b l output₀ output rows₀ rows r.answer × (r.desks ≡ charged D d (work_in r.answer))
      served_call e = rw e (for_desk, refl)

    -- ---- its first half

    pub shut_plan : (plans texts : List Row) (bytes : List ℕ) {x : Refusal} → (g ≡ 0 → ⊥) → x ≡ refusal_with g 0 none_counted → DeskDrafting d D file o b l plans texts bytes (Err x)
    shut_plan plans texts bytes ne e = rw e record { half = record { by = λ output rows. render_shut output rows ne (gate d told is) (nothing_stands g output rows) }; lent = λ f e. let z : ◌≡◌ {A = ℕ} 0 1 = cc in absurd (omega (arith, z)) }

    pub served_plan : {c : Bounds} {plans texts : List Row} {bytes : List ℕ} {r : Drafted} → g ≡ 0 → c ≡ within D d b → Drafting file o c l plans texts bytes r → DeskDrafting d D file o b l plans texts bytes r
    served_plan {plans = plans} {texts = texts} {bytes = bytes} {r = r} z e R = let w = opened z (gate d told is) in plan_served r w.0 w.1 (subst (λ (x : Bounds). Drafting file o x l plans texts bytes r) e R)
