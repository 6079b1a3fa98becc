-- A call on one file, from what it promises by itself to what it promises for a desk.
use Rattle.std.specs.Prelude.{Ok, Err}
use mathlib.Core.Path.{◌≡◌, refl, sym, subst}
use mathlib.Core.Bool.{Bool, true, false}
use mathlib.Core.List.{List}
use Prim.Native.Nat.{ℕ, ◌≤◌}
use native.Mathlib.Omega.{arith}
use native.Mathlib.Decide.{dec_lt}
use mathlib.Core.Logic.{by_cases}
use Rattle.machine.specs.Numbers.{listed}
use Rattle.machine.specs.Events.{no_counts}
use Rattle.machine.specs.Events.{Bounds as Limits}
use Rattle.machine.specs.Answer.{Answer, refused}
use Rattle.file_checks.specs.Told.{Told}
use Rattle.answer.specs.Answer.{Ordered, lent_as, Answers, out_of_order, wrong_file, laid_out}
use Rattle.answer.specs.Page.{Promised, right_refusal}
use Rattle.stats.specs.Counts.{none_counted}
use Rattle.solve_workspace.specs.declared.Bounds.{Bounds}
use Rattle.solve_workspace.specs.declared.RenderOptions.{RenderOptions}
use Rattle.solve_workspace.specs.Meets.{limits}
use Rattle.materialize.specs.Rows.{Row}
use Rattle.render.specs.declared.page.Draft.{Draft}
use Rattle.render.specs.declared.order.Lengths.{Lengths}
use Rattle.render.specs.Order.{InOrder}
use Rattle.render.specs.Rendered.{Rendered, refusal_with, meant, Stands}
use Rattle.render.specs.Drafts.{Drafted, Drawn}
use Rattle.render.specs.Call.{settings, Rendering, Drafting}
use Rattle.desks.specs.declared.Desks.{Desks}
use Rattle.desks.specs.Desks.{last_desk, remaining, charged, work, gate_number}
use Rattle.desks.specs.Lent.{within, work_in}
use Rattle.desks.specs.Served.{Served, served, no_desk, Kept, as_the_call}
use Rattle.desks.specs.Served.{out_of_order as unordered, no_desk as kept_desk}
use Rattle.desks.specs.Layer.{charged_nothing, work_left, serving}
use Rattle.desks.specs.Kinds.{single, single_steady}
use Rattle.desks.proofs.Counting.{gate_28, gate_0}
use Rattle.desks.specs.Calls.{DeskRendering, DeskDrafting, DeskGate, opens, order, desk}

-- ---- the gate

pub gated : {lent : Type 0} (a : Bool) (d : ℕ) → Told lent a → DeskGate lent d (gate_number a d)
gated false d t = order (t.no refl)
gated {lent} true d t =
    by_cases (dec_lt last_desk d)
    (λ h. subst (λ (n : ℕ). DeskGate lent d n) (sym (gate_28 d h)) (desk (t.yes refl) h))
    (λ h. subst (λ (n : ℕ). DeskGate lent d n) (sym (gate_0 d (omega (arith, h)))) (opens (t.yes refl) (omega (arith, h))))

pub opened : {lent : Type 0} {d g : ℕ} → g ≡ 0 → DeskGate lent d g → lent × (d ≤ last_desk)
opened e (opens l h) = (l, h)
opened e (order n) = absurd (omega (arith, e))
opened e (desk l h) = absurd (omega (arith, e))

-- a call that it refuses, whatever kind of call that is
pub shut : {S : Type 0} {call : Limits → Answer → S → Type 0} {X : S} {lent : Type 0} {D : Desks} {d g : ℕ} {b : Limits} → (g ≡ 0 → ⊥) → DeskGate lent d g
    → Served lent D d call b X (refused g 0 no_counts) X (charged D d 0)
shut {call = call} {X = X} {lent = lent} {D = D} {d = d} {g = g} {b = b} ne h = subst (λ (E : Desks). Served lent D d call b X (refused g 0 no_counts) X E) (sym (charged_nothing D d)) (go ne h)
  where
    go : {n : ℕ} → (n ≡ 0 → ⊥) → DeskGate lent d n → Served lent D d call b X (refused n 0 no_counts) X D
    go z (opens l i) = absurd (z refl)
    go z (order n) = unordered n
    go z (desk l i) = no_desk l i

-- ---- what 1 asks is asked of sizes alone

pub order_within : (D : Desks) (d : ℕ) {o : RenderOptions} {b : Bounds} {l : Lengths} → InOrder o b l → InOrder o (within D d b) l
order_within D d i = record {
  options = i.options;
  tables = i.tables;
  solver = record {
    stacks = record { tasks = i.solver.stacks.tasks; results = i.solver.stacks.results; pending = i.solver.stacks.pending };
    memo = record { entries = i.solver.memo.entries; slots_for = i.solver.memo.slots_for; is = i.solver.memo.is; index = i.solver.memo.index };
    stores = record { kept = i.solver.stores.kept; frontier = i.solver.stores.frontier; plans = i.solver.stores.plans };
  };
  page = record { visit = i.page.visit; depth = i.page.depth; output = i.page.output; spans = i.page.spans };
}

-- with memory to match, nothing is left of 1
ordered : {o : RenderOptions} {b : Bounds} {l : Lengths} → InOrder o b l → Ordered (InOrder o b l) (settings o)
ordered i = record { wide = i.options.width; policy_known = i.options.policy; rule_known = i.options.rule; lent_enough = i }

pub answers_unit : {o : RenderOptions} {b : Bounds} {l : Lengths} {file : List ℕ} {d : Limits} {a : Answer} → InOrder o b l → Answers (InOrder o b l) file (settings o) d a → Answers (Unit {0}) file (settings o) d a
answers_unit i (out_of_order n) = absurd (n (ordered i))
answers_unit i (wrong_file n c m) = wrong_file n (lent_as tt c) m
answers_unit i (laid_out c m) = laid_out (lent_as tt c) m

-- ---- the call

pub work_meant : (r : Rendered) (output : List ℕ) (rows : List Row) → work (meant r output rows) ≡ work_in r
work_meant (Ok p) output rows = refl
work_meant (Err e) output rows = refl

-- a call does no more than its desk may still do
pub work_of_call : {d : ℕ} {D : Desks} {file : List ℕ} {o : RenderOptions} {b : Bounds} {l : Lengths} {output₀ output : List ℕ} {rows₀ rows : List Row} {a : Rendered} → DeskRendering d D file o b l output₀ output rows₀ rows a → work_in a ≤ remaining D d
work_of_call {file = file} {o = o} {output = output} {rows = rows} {a = a} R = omega (arith, work_left (single_steady file (settings o)) R.right.serving.answers, work_meant a output rows)

refusal : {d : ℕ} {file : List ℕ} {o : RenderOptions} {b : Bounds} {l : Lengths} {g : ℕ} → DeskGate (InOrder o b l) d g → (g ≡ 0 → ⊥) → Kept (Promised file (settings o)) (refused g 0 no_counts)
refusal (opens i h) ne = absurd (ne refl)
refusal (order n) ne = as_the_call (right_refusal {n = 1} (listed (omega arith) (omega arith)))
refusal (desk i h) ne = kept_desk

drawn_as : (D : Desks) (d : ℕ) {b : Bounds} {f : Draft} {plans texts : List Row} {bytes : List ℕ} → Drawn (within D d b) f plans texts bytes → Drawn b f plans texts bytes
drawn_as D d y = record {
  plans_in = y.plans_in;
  texts_in = y.texts_in;
  bytes_in = y.bytes_in;
  planned = y.planned;
  inside = y.inside;
  small = y.small;
  highest = y.highest;
  deepest = y.deepest;
  measured = y.measured;
  unvisited = y.unvisited;
  no_fit_checks = y.no_fit_checks;
}

module _ {d : ℕ} {D : Desks} {file : List ℕ} {o : RenderOptions} {b : Bounds} {l : Lengths} where
  pub render_served : {output₀ output : List ℕ} {rows₀ rows : List Row} {r : Rendered} → InOrder o b l → d ≤ last_desk → Rendering file o (within D d b) l output₀ output rows₀ rows r → DeskRendering d D file o b l output₀ output rows₀ rows r
  render_served {output = output} {rows = rows} {r = r} i h R = record {
    right = record {
      serving = serving (single_steady file (settings o))
          (subst (λ (w : ℕ). Served (InOrder o b l) D d (single file (settings o)) (limits b) tt (meant r output rows) tt (charged D d w)) (work_meant r output rows)
          (served i h (answers_unit (order_within D d i) R.answers)));
      promised = as_the_call R.promised;
    };
    stands = R.stands;
  }

  pub render_shut : {g : ℕ} (output : List ℕ) (rows : List Row) → (g ≡ 0 → ⊥) → DeskGate (InOrder o b l) d g → Stands (Err (refusal_with g 0 none_counted)) output output rows rows
      → DeskRendering d D file o b l output output rows rows (Err (refusal_with g 0 none_counted))
  render_shut output rows ne h t = record { right = record { serving = serving (single_steady file (settings o)) (shut ne h); promised = refusal h ne }; stands = t }

  -- ---- its first half

  pub plan_served : {plans texts : List Row} {bytes : List ℕ} (r : Drafted) → InOrder o b l → d ≤ last_desk → Drafting file o (within D d b) l plans texts bytes r → DeskDrafting d D file o b l plans texts bytes r
  plan_served (Ok f) i h R = record {
    half = record { by = (drawn_as D d R.half.by.0, record { by = λ u v x y m n w. render_served i h (R.half.by.1.by u v x y m n w) }) };
    lent = λ g e. i.page;
  }
  plan_served (Err e) i h R = record { half = record { by = λ u x. render_served i h (R.half.by u x) }; lent = λ g e. i.page }
