-- A step, told in words, with the sizes, the head and the desks that were given in words.
use mathlib.Core.Path.{◌≡◌, subst}
use mathlib.Core.List.{List}
use Prim.Native.Nat.{ℕ}
use lib.ListN.{length, get_or}
use Rattle.solve_workspace.specs.declared.Bounds.{Bounds}
use Rattle.render.specs.declared.order.Lengths.{Lengths}
use Rattle.desks.specs.declared.Desks.{Desks}
use Rattle.report.specs.Report.{Step, insert, remove}
use Rattle.report.specs.Memory.{Words}
use Rattle.report_gate.specs.declared.Head.{Head}
use Rattle.report_gate.specs.declared.Stores.{Stores}
use Rattle.report_gate.specs.Gates.{InsertionLent, RemovalLent}
use Rattle.report_step.specs.declared.DeskStep.{DeskStep}
use Rattle.report_step.specs.Stepping.{Stepping}
use Rattle.call_words.specs.Words.{words}
use Rattle.call_words.specs.Heads.{head_at, head_words}
use Rattle.call_words.specs.Accounts.{desks_at, desk_words}
use Rattle.gannozhi.specs.Reports.{Stepped}

module _ (desk : ℕ) (desks₀ was : List ℕ) {b c : Bounds} {h : Head} {D : Desks} (e : b ≡ c) (f : h ≡ head_at was) (g : D ≡ desks_at desks₀) {table₀ table : List Words} {files₀ files pages₀ pages : List ℕ} {marks₀ marks : List Words} {output₀ output : List ℕ} {spans₀ spans : List Words} {r : DeskStep} {desks is answer : List ℕ} {number : ℕ} where
  -- `lent`: what 1 asks of the step
  stepped : (s : Step) (lent : Head → Bounds → Type 0) → Stepping s (lent h b) desk D b h table₀ table files₀ files pages₀ pages marks₀ marks output₀ output spans₀ spans r
      → is ≡ head_words r.head → desks ≡ desk_words r.desks → answer ≡ words r.answer → number ≡ get_or (words r.answer) 0 0
      → Stepped desk desks₀ desks s (lent (head_at was) c) c was is table₀ table files₀ files pages₀ pages marks₀ marks output₀ output spans₀ spans answer number
  stepped s lent t i j a n = record {
    told = r;
    stepping = subst (λ (x : Bounds). Stepping s (lent (head_at was) x) desk (desks_at desks₀) x (head_at was) table₀ table files₀ files pages₀ pages marks₀ marks output₀ output spans₀ spans r) e
        (subst (λ (x : Head). Stepping s (lent x b) desk (desks_at desks₀) b x table₀ table files₀ files pages₀ pages marks₀ marks output₀ output spans₀ spans r) f
        (subst (λ (x : Desks). Stepping s (lent h b) desk x b h table₀ table files₀ files pages₀ pages marks₀ marks output₀ output spans₀ spans r) g t));
    head_is = i;
    desks_are = j;
    answer_is = a;
    number_is = n;
  }

  pub inserted : (place : ℕ) (file : List ℕ) (k : Stores) (l : Lengths) → Stepping (insert place file) (InsertionLent h b (length file) table₀ k l) desk D b h table₀ table files₀ files pages₀ pages marks₀ marks output₀ output spans₀ spans r
      → is ≡ head_words r.head → desks ≡ desk_words r.desks → answer ≡ words r.answer → number ≡ get_or (words r.answer) 0 0
      → Stepped desk desks₀ desks (insert place file) (InsertionLent (head_at was) c (length file) table₀ k l) c was is table₀ table files₀ files pages₀ pages marks₀ marks output₀ output spans₀ spans answer number
  inserted place file k l = stepped (insert place file) (λ x y. InsertionLent x y (length file) table₀ k l)

  pub removed : (place : ℕ) (k : Stores) → Stepping (remove place) (RemovalLent h b table₀ k) desk D b h table₀ table files₀ files pages₀ pages marks₀ marks output₀ output spans₀ spans r
      → is ≡ head_words r.head → desks ≡ desk_words r.desks → answer ≡ words r.answer → number ≡ get_or (words r.answer) 0 0
      → Stepped desk desks₀ desks (remove place) (RemovalLent (head_at was) c table₀ k) c was is table₀ table files₀ files pages₀ pages marks₀ marks output₀ output spans₀ spans answer number
  removed place k = stepped (remove place) (λ x y. RemovalLent x y table₀ k)
