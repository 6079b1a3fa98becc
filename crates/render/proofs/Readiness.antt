-- The tables of an accepted file are such as the solver and the materializer work on.
use Rattle.std.specs.Prelude.{Ok}
use mathlib.Core.Path.{◌≡◌, refl, ap}
use mathlib.Core.Logic.{by_cases}
use mathlib.Core.List.{List, []}
use Prim.Native.Nat.{ℕ, zero, suc, ◌<◌}
use native.Mathlib.Omega.{arith}
use native.Mathlib.Decide.{dec_lt}
use lib.ListN.{length, get_or-eq_default}
use Rattle.file_tables.specs.Tables.{Tables, kind, first, second, node_row}
use Rattle.layout.specs.Table.{Text}
use Rattle.file_form.specs.declared.fill.Counts.{Counts}
use Rattle.file_form.specs.Form.{tables_of}
use Rattle.file_encode.specs.Fields.{Bytes}
use Rattle.file_encode.specs.Trips.{encoded, tables_right, texts_inside}
use Rattle.file_checks.specs.References.{References}
use Rattle.file_checks.specs.Judged.{tables}
use Rattle.prepare.specs.File.{Means}
use Rattle.prepare.specs.Laws.{accepted_well}
use Rattle.machine_input.specs.Reading.{node_of_kind, node_of_row, prepared}
use Rattle.solve.specs.Accepts.{accepts}
use Rattle.solve.specs.Numbered.{TextsBelow}
use Rattle.answer.specs.Ready.{means_ready}
use Rattle.render.specs.Call.{Readied}

-- ---- a node names no text past the table's end

a_text : (edges : List ℕ) (κ a b x : ℕ) → node_of_kind edges κ a b ≡ Text x → (κ ≡ 1) × (a ≡ x)
a_text edges zero a b x e = let z : ◌≡◌ {A = ℕ} 0 1 = cc in absurd (omega arith)
a_text edges (suc zero) a b x e = (refl, cc)
a_text edges (suc (suc zero)) a b x e = let z : ◌≡◌ {A = ℕ} 0 1 = cc in absurd (omega arith)
a_text edges (suc (suc (suc zero))) a b x e = let z : ◌≡◌ {A = ℕ} 0 1 = cc in absurd (omega arith)
a_text edges (suc (suc (suc (suc zero)))) a b x e = let z : ◌≡◌ {A = ℕ} 0 1 = cc in absurd (omega arith)
a_text edges (suc (suc (suc (suc (suc zero))))) a b x e = let z : ◌≡◌ {A = ℕ} 0 1 = cc in absurd (omega arith)
a_text edges (suc (suc (suc (suc (suc (suc zero)))))) a b x e = let z : ◌≡◌ {A = ℕ} 0 1 = cc in absurd (omega arith)
a_text edges (suc (suc (suc (suc (suc (suc (suc zero))))))) a b x e = let z : ◌≡◌ {A = ℕ} 0 1 = cc in absurd (omega arith)
a_text edges (suc (suc (suc (suc (suc (suc (suc (suc zero)))))))) a b x e = let z : ◌≡◌ {A = ℕ} 0 1 = cc in absurd (omega arith)
a_text edges (suc (suc (suc (suc (suc (suc (suc (suc (suc zero))))))))) a b x e = let z : ◌≡◌ {A = ℕ} 0 1 = cc in absurd (omega arith)
a_text edges (suc (suc (suc (suc (suc (suc (suc (suc (suc (suc zero)))))))))) a b x e = let z : ◌≡◌ {A = ℕ} 0 1 = cc in absurd (omega arith)
a_text edges (suc (suc (suc (suc (suc (suc (suc (suc (suc (suc (suc κ))))))))))) a b x e = let z : ◌≡◌ {A = ℕ} 0 1 = cc in absurd (omega arith)

module _ (t : Tables) where
  abbrev bare : Tables
  bare = tables t.nodes t.edges t.choices t.texts [] 0 0 t.space

  -- past the table every number is an Empty, so that it names no text
  node_text_below : References t → (n x : ℕ) → (prepared bare).table.node n ≡ Text x → x < length t.texts
  unfolding node_of_row
  node_text_below h n x e = by_cases (dec_lt n (length t.nodes)) inside outside
    where
      k : (kind (node_row t n) ≡ 1) × (first (node_row t n) ≡ x)
      k = a_text t.edges (kind (node_row t n)) (first (node_row t n)) (second (node_row t n)) x e

      inside : n < length t.nodes → x < length t.texts
      inside i = omega (arith, k.1, (h.nodes.each n i).by_kind.text k.0)

      outside : (n < length t.nodes → ⊥) → x < length t.texts
      outside i = let p : kind (node_row t n) ≡ 0 = ap kind (get_or-eq_default t.nodes [] (omega arith)) in absurd (omega (arith, k.0, p))

  texts_below : References t → TextsBelow (length t.texts) (prepared bare)
  texts_below h = record { node_text = node_text_below h; space_text_below = h.space }

-- ---- of a file

pub file_readied : (s : List ℕ) → Bytes s → {n : Counts} → Means s (Ok n) → Readied (tables_of s)
file_readied s z m =
    let a = accepted_well m in
    let e = encoded s z a.0 in
    record {
      accepted = accepts (tables_of s) (means_ready s z m);
      below = texts_below (tables_of s) a.1.references;
      inside = record { within = texts_inside (tables_of s) e.sized.bytes (tables_right (tables_of s) e.right).texts };
    }
