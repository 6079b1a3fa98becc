-- The parts of a draft, by its cases.
use Rattle.std.specs.Prelude.{Ok, Err}
use mathlib.Core.Path.{◌≡◌, refl, sym, ap, subst, ◌∙◌}
use mathlib.Core.List.{List}
use Prim.Native.Nat.{ℕ, ◌+◌, ◌<◌}
use lib.ListN.{length, set}
use Rattle.solve_workspace.specs.declared.Bounds.{Bounds}
use Rattle.materialize.specs.declared.Capacity.{Capacity}
use Rattle.materialize.specs.declared.Walk.{Walk}
use Rattle.materialize.specs.Walks.{begin}
use Rattle.render.specs.declared.page.Draft.{Draft}
use Rattle.render.specs.declared.page.Refusal.{Refusal}
use Rattle.render.specs.Drafts.{Drafted, capacity}
use Rattle.printer.specs.declared.Start.{Start}
use Rattle.printer.specs.Delivered.{chosen_in, nothing_chosen, at_rest, start_of, start_words, RootedOf, Rooted}

module _ {a : Drafted} {d : Draft} (e : a ≡ Ok d) where
  pub page_rooted : {visit : List ℕ} → Rooted a visit → 0 < length visit
  page_rooted {visit} x = subst (RootedOf visit) e x.by

  pub page_start : (b : Bounds) (visit : List ℕ) {c : Capacity} {w : Walk} {visit' : List ℕ} → c ≡ capacity b → w ≡ begin → visit' ≡ set visit 0 (d.root.0 + 1)
      → (◌≡◌ {A = Start} (record { capacity = c; chosen = chosen_in d; walk = w }) (start_of b a)) × (visit' ≡ start_words a visit)
  page_start b visit i j k = (rw (e, i, j) refl, k ∙ sym (ap (λ (z : Drafted). start_words z visit) e))

module _ {a : Drafted} {x : Refusal} (e : a ≡ Err x) where
  pub refused_start : (b : Bounds) (visit : List ℕ) {c : Capacity} → c ≡ capacity b
      → (◌≡◌ {A = Start} (record { capacity = c; chosen = nothing_chosen; walk = at_rest }) (start_of b a)) × (visit ≡ start_words a visit)
  refused_start b visit i = (rw (e, i) refl, sym (ap (λ (z : Drafted). start_words z visit) e))
