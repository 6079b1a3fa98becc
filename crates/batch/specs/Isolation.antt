-- A batch is a sequence of calls of one desk that touch no report, so that what change 8 says of sequences (`desks` Isolation) is so for batches.
use Rattle.std.specs.Prelude.{◌≡◌, refl, List, [], ◌∷◌, ℕ}
use Rattle.std.proofs.Common.{sym, subst, ◌∙◌, eq-eqb, ne_eqb}
use Rattle.machine.specs.Answer.{Answer}
use Rattle.solve_workspace.specs.declared.Bounds.{Bounds}
use Rattle.solve_workspace.specs.declared.RenderOptions.{RenderOptions}
use Rattle.solve_workspace.specs.Meets.{limits}
use Rattle.render.specs.declared.order.Lengths.{Lengths}
use Rattle.render.specs.Order.{InOrder}
use Rattle.render.specs.Rendered.{meant}
use Rattle.render.specs.Call.{settings}
use Rattle.report.specs.Report.{Report}
use Rattle.desks.specs.Isolation.{Ask, on_file, desk_of, Touches, World, Does, alone, Runs, none, first, only, Apart}
use Rattle.batch.specs.Batch.{Batch, rest, rest_lent, One}
use Rattle.batch.specs.Sequence.{Singles, no_call, first_call}

-- calls of the desk alone, on files
abbrev pub Own : ℕ → List Ask → Type 0
Own d [] = Unit {0}
Own d (x ∷ xs) = ((desk_of x ≡ d) × ((i : ℕ) → Touches x i → ⊥)) × Own d xs

-- the world with the desks of a batch, whatever reports there are
abbrev pub world : Batch → (ℕ → Report) → World
world F reports = record { desks = F.shared.desks; reports = reports }

pub record Calls (d : ℕ) (F G : Batch) (reports : ℕ → Report) : Type 1 where
  pub asks : List Ask
  pub answers : List Answer
  pub runs : Runs (world F reports) asks answers (world G reports)
  pub own : Own d asks

-- a document's call
abbrev pub asked : ℕ → RenderOptions → Bounds → Lengths → List ℕ → Batch → Ask
asked d o b l file F = on_file d (InOrder o (rest b F.bytes F.spans) (rest_lent l F.bytes F.spans)) file (settings o) (limits (rest b F.bytes F.spans))

module _ {d : ℕ} {o : RenderOptions} {b : Bounds} {l : Lengths} where
  does : (reports : ℕ → Report) {file : List ℕ} {F G : Batch} (h : One d o b l file F G) → Does (world F reports) (asked d o b l file F) (meant h.told h.output h.rows) (world G reports)
  does reports {file} {F} h =
      subst (λ (G : Batch). Does (world F reports) (asked d o b l file F) (meant h.told h.output h.rows) (world G reports)) (sym h.after) (alone h.call.right.serving.answers)

  pub batch_runs : (reports : ℕ → Report) {files : List (List ℕ)} {F G : Batch} → Singles d o b l files F G → Calls d F G reports
  batch_runs reports no_call = record { asks = []; answers = []; runs = none; own = tt }
  batch_runs reports {F = F} (first_call {file = file} h s) =
      let c = batch_runs reports s in
      record { asks = asked d o b l file F ∷ c.asks; answers = meant h.told h.output h.rows ∷ c.answers; runs = first (does reports h) c.runs; own = ((refl, λ i t. t), c.own) }

-- so it is apart from every desk's reports, in whatever sequence it stands
pub own_apart : (d e : ℕ) (mine : ℕ → Type 0) (xs : List Ask) → Own d xs → Apart e mine xs
own_apart d e mine [] h = tt
own_apart d e mine (x ∷ xs) h = ((λ q i t. absurd (h.0.1 i t), λ q i t m. h.0.1 i t), own_apart d e mine xs h.1)

-- the calls of its desk among them are all of them, and none is another desk's
pub only_own : (d : ℕ) (xs : List Ask) → Own d xs → only d xs ≡ xs
only_own d [] h = refl
only_own d (x ∷ xs) h = rw (eq-eqb (desk_of x) d h.0.0, only_own d xs h.1) refl

pub only_other : (d e : ℕ) (xs : List Ask) → (d ≡ e → ⊥) → Own d xs → only e xs ≡ []
only_other d e [] n h = refl
only_other d e (x ∷ xs) n h = rw (ne_eqb (desk_of x) e (λ q. n (sym h.0.0 ∙ q)), only_other d e xs n h.1) refl
