-- A document's page and spans have their place in what is free, so that a batch stays within its sizes; and what a document is lent is in order where the batch is.
use Rattle.std.specs.Prelude.{◌≡◌, Ok, Err, refl, List, ◌++◌, ℕ, ◌-◌, ◌≤◌, length, take, drop}
use Rattle.std.proofs.Common.{sym, subst, arith, length-append, length-drop, length-take-le}
use Rattle.std.proofs.lemmas.List.{length-map}
use Rattle.layout.specs.SpanWords.{span_of}
use Rattle.machine.specs.Events.{output, spans as spans_kind}
use Rattle.answer.specs.Demand.{needs_page}
use Rattle.solve_workspace.specs.declared.Bounds.{Bounds}
use Rattle.solve_workspace.specs.declared.RenderOptions.{RenderOptions}
use Rattle.solve_workspace.specs.Meets.{limits}
use Rattle.materialize.specs.Rows.{Row}
use Rattle.render.specs.declared.order.Lengths.{Lengths}
use Rattle.render.specs.Order.{InOrder}
use Rattle.render.specs.Rendered.{Rendered, meant, page_length, span_count}
use Rattle.render.specs.Call.{settings}
use Rattle.desks.specs.declared.Desks.{Desks}
use Rattle.desks.specs.Desks.{last_desk, allowed}
use Rattle.desks.specs.Layer.{came, lent_unit, served_by}
use Rattle.desks.specs.Kinds.{single}
use Rattle.desks.specs.Calls.{DeskRendering}
use Rattle.batch.specs.Batch.{Batch, rest, rest_lent, next, One, Filed, none, more}

-- ---- a page is within its sizes

module _ {d : ℕ} {D : Desks} {file : List ℕ} {o : RenderOptions} {b : Bounds} {l : Lengths} {out₀ out : List ℕ} {rows₀ rows : List Row} (lo : length out ≡ length out₀) (lr : length rows ≡ length rows₀) where
  pub page_within : (a : Rendered) → DeskRendering d D file o b l out₀ out rows₀ rows a → page_length a ≤ b.output
  page_within (Err z) g = omega arith
  page_within (Ok p) g =
      let e : length (take p.length out) ≡ p.length = length-take-le p.length out (omega (arith, lo, g.stands.output_is.within)) in
      omega (arith, e, (needs_page (came g.right.serving.answers refl)).0, g.right.serving.needs_within _ _ refl output)

  pub spans_within : (a : Rendered) → DeskRendering d D file o b l out₀ out rows₀ rows a → span_count a ≤ b.spans
  spans_within (Err z) g = omega arith
  spans_within (Ok p) g =
      let e : length (take p.spans rows) ≡ p.spans = length-take-le p.spans rows (omega (arith, lr, g.stands.rows_are.within)) in
      omega (arith, e, length-map (take p.spans rows) span_of, (needs_page (came g.right.serving.answers refl)).1, g.right.serving.needs_within _ _ refl spans_kind)

-- ---- a batch stays within its sizes

pub record Inside (b : Bounds) (F : Batch) : Type 0 where
  pub bytes_in : F.bytes ≤ b.output
  pub spans_in : F.spans ≤ b.spans
  pub output_lent : b.output ≤ length F.output
  pub rows_lent : b.spans ≤ length F.rows

kept_length : {A : Type 0} (n : ℕ) (was part : List A) → n ≤ length was → length part ≡ length (drop n was) → length (take n was ++ part) ≡ length was
kept_length n was part h e = omega (arith, length-append (take n was) part, length-take-le n was h, e, length-drop n was)

next_inside : (d : ℕ) {b : Bounds} {F : Batch} (a : Rendered) (out : List ℕ) (rows : List Row) → Inside b F → length out ≡ length (drop F.bytes F.output) → length rows ≡ length (drop F.spans F.rows)
    → page_length a ≤ b.output - F.bytes → span_count a ≤ b.spans - F.spans → Inside b (next d a out rows F)
next_inside d {b} {F} a out rows i lo lr n m = record {
  bytes_in = omega (arith, n, i.bytes_in);
  spans_in = omega (arith, m, i.spans_in);
  output_lent = omega (arith, i.output_lent, kept_length F.bytes F.output out (omega (arith, i.bytes_in, i.output_lent)) lo);
  rows_lent = omega (arith, i.rows_lent, kept_length F.spans F.rows rows (omega (arith, i.spans_in, i.rows_lent)) lr);
}

module _ {d : ℕ} {o : RenderOptions} {b : Bounds} {l : Lengths} where
  pub one_inside : {file : List ℕ} {F G : Batch} → Inside b F → One d o b l file F G → Inside b G
  one_inside i h =
      subst (Inside b) (sym h.after) (next_inside d h.told h.output h.rows i h.output_length h.rows_length
      (page_within h.output_length h.rows_length h.told h.call) (spans_within h.output_length h.rows_length h.told h.call))

  pub filed_inside : {files : List (List ℕ)} {F G : Batch} → Inside b F → Filed d o b l files F G → Inside b G
  filed_inside i none = i
  filed_inside i (more f h) = one_inside (filed_inside i f) h

-- ---- order

-- a part is as long as its size, so that 1 never comes for a document once the batch's own 1 has passed
pub part_in_order : {o : RenderOptions} {b : Bounds} {l : Lengths} (n m : ℕ) → InOrder o b l → InOrder o (rest b n m) (rest_lent l n m)
part_in_order {b = b} {l = l} n m i = record {
  options = i.options;
  tables = i.tables;
  solver = record {
    stacks = record { tasks = i.solver.stacks.tasks; results = i.solver.stacks.results; pending = i.solver.stacks.pending };
    memo = record { entries = i.solver.memo.entries; slots_for = i.solver.memo.slots_for; is = i.solver.memo.is; index = i.solver.memo.index };
    stores = record { kept = i.solver.stores.kept; frontier = i.solver.stores.frontier; plans = i.solver.stores.plans };
  };
  page = record { visit = i.page.visit; depth = i.page.depth; output = omega (arith, i.page.output); spans = omega (arith, i.page.spans) };
}

-- so each document is answered as by a single call for a desk that is there
pub was_tried : {d : ℕ} {o : RenderOptions} {b : Bounds} {l : Lengths} {file : List ℕ} {F G : Batch} → InOrder o b l → d ≤ last_desk → (h : One d o b l file F G)
    → single file (settings o) (allowed F.shared.desks d (limits (rest b F.bytes F.spans))) (meant h.told h.output h.rows) tt
was_tried {F = F} i e h = served_by e (lent_unit (part_in_order F.bytes F.spans i) h.call.right.serving.answers)
