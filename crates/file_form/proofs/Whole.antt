-- The header's counts and the running total are within their limits, and what the parts of a file say of the whole.
use mathlib.Core.Path.{◌≡◌, refl}
use mathlib.Core.Bool.{Bool, true, false}
use mathlib.Core.List.{List}
use Prim.Native.Nat.{ℕ, zero, suc, ◌≤◌}
use native.Mathlib.Omega.{arith}
use lib.ListN.{take}
use lib.Dec.{leb, eqb}
use borrow.Author.Tests.{leb-true}
use Rattle.file_fields.specs.declared.Step.{Step}
use Rattle.file_fields.specs.declared.header.Header.{Header}
use Rattle.file_fields.specs.Fields.{pick, refused, field_at, limited, count_at, bit}
use Rattle.file_fields.specs.Header.{h_map, h_nodes, h_edges, h_texts, h_annotations, h_choices, header_at}
use Rattle.file_form.specs.declared.texts.Run.{Run}
use Rattle.file_form.specs.Nodes.{after_nodes, read_node_rows}
use Rattle.file_form.specs.Numbers.{after_numbers, numbers, surplus}
use Rattle.file_form.specs.Texts.{t_map, t_width, t_length, t_end, after_texts, read_text_rows, text_bytes}
use Rattle.file_form.specs.Form.{f_nodes, f_edges, f_choices, f_texts, f_end, form_fault, tables_of, counts_of, Filling}
use Rattle.file_form.proofs.Turns.{totalled_le, span_in}

pub limited_le : (low high : ℕ) (f : Step) → (limited low high f).value ≤ high
unfolding limited
limited_le low high f = go (eqb f.fault 0) (leb low f.value) (leb f.value high) refl
  where
    go : (a b c : Bool) → leb f.value high ≡ c → (pick a (pick b (pick c f (refused 4 f.at)) (refused 4 f.at)) (refused f.fault f.at)).value ≤ high
    go true true true e = leb-true f.value high e
    go true true false e = omega arith
    go true false c e = omega arith
    go false b c e = omega arith

pub record Limits (h : Header) : Type 0 where
  pub nodes : h.nodes ≤ 4096
  pub edges : h.edges ≤ 16384
  pub texts : h.texts ≤ 4096
  pub annotations : h.annotations ≤ 4096
  pub choices : h.choices ≤ 16384

header_limits : (s : List ℕ) → Limits (header_at s)
unfolding header_at h_nodes h_edges h_texts h_annotations h_choices count_at
header_limits s =
    record {
      nodes = limited_le 1 4096 (field_at s (bit (h_map s).value 1) (h_map s));
      edges = limited_le 0 16384 (field_at s (bit (h_map s).value 2) (h_nodes s));
      texts = limited_le 1 4096 (field_at s (bit (h_map s).value 4) (h_edges s));
      annotations = limited_le 0 4096 (field_at s (bit (h_map s).value 8) (h_texts s));
      choices = limited_le 0 16384 (field_at s (bit (h_map s).value 16) (h_annotations s));
    }

pub limits : (s : List ℕ) (h : Header) → h ≡ header_at s → Limits h
limits s h e = rw e (header_limits s)

total_le : (s : List ℕ) (p : Step) (k : ℕ) → (after_texts s p k).total ≤ 65536
unfolding after_texts t_end t_length
total_le s p zero = omega arith
total_le s p (suc k) =
    let r = after_texts s p k in
    let l = t_length s r.total r.next in
    omega (arith, totalled_le r.total (field_at s (bit (t_map s r.total r.next).value 2) (t_width s r.total r.next)) (total_le s p k), (span_in s l).0)

pub run_le : (s : List ℕ) (p : Step) (k : ℕ) (v : Run) → v ≡ after_texts s p k → v.total ≤ 65536
run_le s p k v e = rw e (total_le s p k)

pub filling :
    (s : List ℕ) (h : Header) (q r u : Step) (v : Run) (w : Step) (ns : List (List ℕ)) (es xs : List ℕ) (ts : List (List ℕ)) (bs : List ℕ)
    → h ≡ header_at s
    → (q ≡ after_nodes s h.next h.nodes) × (take h.nodes ns ≡ read_node_rows s h.next h.nodes)
    → (r ≡ after_numbers s q h.edges) × (take h.edges es ≡ numbers s q h.edges)
    → (u ≡ after_numbers s r h.choices) × (take h.choices xs ≡ numbers s r h.choices)
    → (v ≡ after_texts s u h.texts) × ((take h.texts ts ≡ read_text_rows s u h.texts) × (take v.total bs ≡ text_bytes s u h.texts))
    → w ≡ surplus s v.next
    → Filling s
    (record {
      counts = record { nodes = h.nodes; edges = h.edges; choices = h.choices; texts = h.texts; bytes = v.total; annotations = h.annotations; root = record { 0 = h.root }; space = record { 0 = h.space } };
      fault = w.fault;
    })
    ns es xs ts bs
unfolding f_nodes f_edges f_choices f_texts f_end form_fault tables_of counts_of
filling s h q r u v w ns es xs ts bs e n a b t z =
    record {
      counts = rw (t.0, b.0, a.0, n.0, e);
      fault = rw (z, t.0, b.0, a.0, n.0, e);
      held = record {
        node_rows = rw (← e) n.1;
        edge_list = rw (← e, ← n.0) a.1;
        choice_list = rw (← e, ← n.0, ← a.0) b.1;
        text_rows = rw (← e, ← n.0, ← a.0, ← b.0) t.1.0;
        byte_list = rw (← e, ← n.0, ← a.0, ← b.0, ← t.0) t.1.1;
      };
    }
