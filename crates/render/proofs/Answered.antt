-- Laws for the answers by value.
use Rattle.std.specs.Prelude.{Result, Ok, Err, Some}
use Rattle.std.specs.Result.{IsErrAnd, result_err}
use Rattle.std.proofs.lemmas.Result.{err_from_is_err_and}
use mathlib.Core.Path.{◌≡◌, refl, sym, ap, ap₂, ◌∙◌}
use Prim.Native.Nat.{ℕ}
use Rattle.machine.specs.Events.{number}
use Rattle.stats.specs.declared.SolveStats.{SolveStats}
use Rattle.solve_workspace.specs.declared.Needs.{Needs}
use Rattle.materialize.specs.Answer.{Measured, why_of}
use Rattle.materialize.specs.declared.MeasuredPage.{MeasuredPage}
use Rattle.materialize.specs.declared.Passed.{Passed}
use Rattle.solve.specs.declared.SolvedCore.{SolvedCore}
use Rattle.render.specs.declared.page.Draft.{Draft}
use Rattle.render.specs.Rendered.{refusal_with, with_counts}
use Rattle.render.specs.Drafts.{page_needs, drafted}

-- what a `?` returns, where the error keeps its type
pub err_is : {T E : Type 0} {r : Result T E} {d : E} → IsErrAnd r (λ e. e ≡ d) → r ≡ Err d
err_is {r = r} h = let p = err_from_is_err_and r h in rw (p.1, p.2) refl

abbrev drawing : SolvedCore → ℕ → ℕ → ℕ → ℕ → ℕ → SolveStats → Needs → Draft
drawing c x y n s v k q = record { cost = c.cost; length = n; spans = s; visits = v; stats = k; needs = q; root = c.root; plans = c.plans; texts = x; bytes = y }

pub draft_page : (c : SolvedCore) (x y : ℕ) {w : SolveStats} {m : Measured} {g : MeasuredPage} {q : Needs} → m ≡ Ok g → w ≡ with_counts c.stats 0 → q ≡ page_needs c.needs g.bytes g.spans g.visit g.depth → Ok (drawing c x y g.bytes g.spans g.visits w q) ≡ drafted c x y m
draft_page c x y {g = p} e f g = ap₂ (λ (k : SolveStats) (q : Needs). Ok (drawing c x y p.bytes p.spans p.visits k q)) f g ∙ ap (λ (k : Measured). drafted c x y k) (sym e)

pub draft_refused : (c : SolvedCore) (x y : ℕ) {w : SolveStats} {m : Measured} {p : Passed} {n : ℕ} → m ≡ Err p → w ≡ with_counts c.stats p.visits → n ≡ number (why_of p.what) → Err (refusal_with n p.needed w) ≡ drafted c x y m
draft_refused c x y {w} {m} {p} {n} e f g = ap₂ (λ (i : ℕ) (k : SolveStats). Err (refusal_with i p.needed k)) g f ∙ ap (λ (k : Measured). drafted c x y k) (sym e)

-- an answer whose error is e (the edit byte_on_refusal cites it)
pub err_told : {T E : Type 0} (r : Result T E) {e : E} → Some e ≡ result_err r → r ≡ Err e
err_told (Ok x) p = cc
err_told (Err x) p = cc
