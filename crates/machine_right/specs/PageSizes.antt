-- Of output and spans a page needs what it has.
use Rattle.std.proofs.Math.Path.{◌≡◌}
use Rattle.std.proofs.Common.{ap, sym, ◌∙◌, arith}
use Rattle.std.specs.Prelude.{length}
use Rattle.std.proofs.Math.Option.{none}
use Rattle.layout.specs.Rules.{Rules}
use Rattle.layout.specs.Layout.{Plan}
use Rattle.machine.specs.Events.{Bounds, Counts, no_counts, Kind, output, spans, Prog, ret, ◌>>◌, Out, done}
use Rattle.machine.specs.Model.{Prepared, plan_at}
use Rattle.machine.specs.Solve.{Solved, solve}
use Rattle.machine.specs.Materializer.{Rendered, rendered, render, materialize}
use Rattle.machine.specs.Answer.{paged, answer}
use Rattle.machine.specs.Programs.{value, counts_after, value_bind, done_is}
use Rattle.machine.specs.Enough.{peak, peak_bind}
use Rattle.machine.specs.PageNeeds.{peak_then, output_need, spans_need}
use Rattle.machine.specs.Quiet.{no_output, no_spans}
use Rattle.machine.specs.Just.{ended}
use Rattle.machine.proofs.Just.{answer_need}
use Rattle.machine_right.specs.Materialized.{marks_are}

module _ (R : Rules) (P : Prepared) (b : Bounds) (page : Rendered) (k : Counts) (h : answer R P b ≡ paged page k) where
  abbrev chosen : Plan
  chosen = plan_at P.table (value (solve R P)).plans (value (solve R P)).root

  abbrev then_page : Solved → Prog Rendered
  then_page core = materialize (plan_at P.table core.plans core.root) >> ret (rendered (plan_at P.table core.plans core.root) core.cost)

  page_is : page ≡ rendered chosen (value (solve R P)).cost
  unfolding render
  page_is =
      let e : ◌≡◌ {A = Out Rendered} (done k page) (done (counts_after no_counts (render R P)) (value (render R P))) = done_is b no_counts (render R P) (ended R P b page k h) in
      let f : page ≡ value (render R P) = cc in
      f ∙ value_bind (solve R P) then_page ∙ value_bind (materialize chosen) (λ _. ret (rendered chosen (value (solve R P)).cost))

  whole_peak : (x : Kind) → peak x (solve R P) ≡ 0 → peak x (render R P) ≡ peak x (materialize chosen)
  unfolding render peak
  whole_peak x z = omega (arith, z, peak_bind x (solve R P) then_page, peak_then x (materialize chosen) (ret (rendered chosen (value (solve R P)).cost)))

  pub output_is : k.needs.output ≡ length page.bytes
  output_is = answer_need R P b page k h output ∙ whole_peak output (no_output R P) ∙ output_need chosen ∙ ap (λ (r : Rendered). length r.bytes) (sym page_is)

  pub spans_are : k.needs.spans ≡ length page.spans
  spans_are = answer_need R P b page k h spans ∙ whole_peak spans (no_spans R P) ∙ spans_need chosen ∙ sym (marks_are chosen 0 none 0) ∙ ap (λ (r : Rendered). length r.spans) (sym page_is)
