-- The refusals of a file's form are 2 to 5.
use Rattle.std.specs.Prelude.{◌≡◌, Bool, false, List, length, ltb, leb, eqb}
use Rattle.std.proofs.Math.Bool.{true}
use Prim.Native.Nat.{ℕ, zero, suc, ◌≤◌, ◌+◌}
use Rattle.std.proofs.Common.{arith}
use Rattle.file_fields.specs.declared.Step.{Step}
use Rattle.file_fields.specs.Fields.{pick, got, refused, after, byte_at, word_at, nonzero, field_at, number_at, limited, count_at, formed}
use Rattle.file_fields.specs.Header.{h_map, h_nodes, h_edges, h_texts, h_annotations, h_choices, h_root, h_space, header_at}
use Rattle.file_form.specs.Nodes.{checked, map_at, kind_at, n_map, n_kind, n_first, n_second, n_flat, n_start, n_length, n_skipped, node_at, after_nodes}
use Rattle.file_form.specs.Numbers.{after_numbers, surplus}
use Rattle.file_form.specs.Texts.{totalled, span_at, t_map, t_width, t_length, t_end, after_texts}
use Rattle.file_form.specs.Form.{f_nodes, f_edges, f_choices, f_texts, f_end, form_fault}

-- no refusal, or one of 2 to 5
pub record Low (p : Step) : Type 0 where
  pub most : p.fault ≤ 5
  pub other : p.fault ≡ 1 → ⊥

low_got : (v at : ℕ) → Low (got v at)
low_got v at = record { most = omega arith; other = λ e. omega arith }

low_refused : (n at : ℕ) → n ≤ 5 → (n ≡ 1 → ⊥) → Low (refused n at)
low_refused n at h e = record { most = h; other = e }

two : (at : ℕ) → Low (refused 2 at)
two at = low_refused 2 at (omega arith) (λ e. omega arith)

three : (at : ℕ) → Low (refused 3 at)
three at = low_refused 3 at (omega arith) (λ e. omega arith)

four : (at : ℕ) → Low (refused 4 at)
four at = low_refused 4 at (omega arith) (λ e. omega arith)

again : (p : Step) → Low p → Low (refused p.fault p.at)
again p l = low_refused p.fault p.at l.most l.other

low_pick : (c : Bool) (p q : Step) → Low p → Low q → Low (pick c p q)
low_pick true p q a b = a
low_pick false p q a b = b

low_after : (p q : Step) → Low p → Low q → Low (after p q)
low_after p q a b = low_pick (eqb p.fault 0) q p b a

-- ---- the fields

module _ (s : List ℕ) where
  low_byte : (p : Step) → Low p → Low (byte_at s p)
  unfolding byte_at
  low_byte p l = low_after p _ l (low_pick (ltb p.at (length s)) _ _ (low_got _ _) (two _))

  low_word : (at : ℕ) → Low (word_at s at)
  unfolding word_at
  low_word at = low_pick (leb (at + 4) (length s)) _ _ (low_got _ _) (two _)

  low_nonzero : (w : Step) → Low w → Low (nonzero w)
  unfolding nonzero
  low_nonzero w l = low_after w _ l (low_pick (eqb w.value 0) _ _ (three _) l)

  low_field : (on : Bool) (p : Step) → Low p → Low (field_at s on p)
  unfolding field_at
  low_field on p l = low_after p _ l (low_pick on _ _ (low_nonzero (word_at s p.at) (low_word p.at)) (low_got _ _))

  low_number : (on : Bool) (p : Step) → Low p → Low (number_at s on p)
  unfolding number_at
  low_number on p l = low_after p _ l (low_pick on _ _ (low_word p.at) (low_got _ _))

  low_limited : (low high : ℕ) (f : Step) → Low f → Low (limited low high f)
  unfolding limited
  low_limited low high f l = low_pick (eqb f.fault 0) _ _ (low_pick (leb low f.value) _ _ (low_pick (leb f.value high) _ _ l (four _)) (four _)) (again f l)

  low_count : (on : Bool) (low high : ℕ) (p : Step) → Low p → Low (count_at s on low high p)
  unfolding count_at
  low_count on low high p l = low_limited low high (field_at s on p) (low_field on p l)

  low_formed : (high : ℕ) (f : Step) → Low f → Low (formed high f)
  unfolding formed
  low_formed high f l = low_after f _ l (low_pick (leb f.value high) _ _ l (three _))

  low_checked : (ok : Bool) (f : Step) → Low f → Low (checked ok f)
  unfolding checked
  low_checked ok f l = low_after f _ l (low_pick ok _ _ l (three _))

  -- ---- the header

  low_header : Low (header_at s).next
  unfolding header_at h_space h_root h_choices h_annotations h_texts h_edges h_nodes h_map
  low_header =
      low_field _ _ (low_field _ _ (low_count _ 0 16384 _ (low_count _ 0 4096 _ (low_count _ 1 4096 _ (low_count _ 0 16384 _ (low_count _ 1 4096 _ (low_formed 127 _ (low_byte (got 0 0) (low_got 0 0)))))))))

  -- ---- the records

  low_node : (p : Step) → Low p → Low (node_at s p).next
  unfolding node_at n_skipped n_length n_start n_flat n_second n_first n_kind n_map map_at kind_at
  low_node p l =
      low_field _ _ (low_field _ _ (low_field _ _ (low_number _ _ (low_field _ _ (low_field _ _ (low_checked _ _ (low_byte _ (low_checked _ _ (low_byte p l)))))))))

  low_nodes : (p : Step) (k : ℕ) → Low p → Low (after_nodes s p k)
  unfolding after_nodes
  low_nodes p zero l = l
  low_nodes p (suc k) l = low_node (after_nodes s p k) (low_nodes p k l)

  low_numbers : (p : Step) (k : ℕ) → Low p → Low (after_numbers s p k)
  unfolding after_numbers
  low_numbers p zero l = l
  low_numbers p (suc k) l = low_number true (after_numbers s p k) (low_numbers p k l)

  low_totalled : (total : ℕ) (f : Step) → Low f → Low (totalled total f)
  unfolding totalled
  low_totalled total f l = low_pick (eqb f.fault 0) _ _ (low_pick (leb (total + f.value) 65536) _ _ l (four _)) (again f l)

  low_span : (f : Step) → Low f → Low (span_at s f)
  unfolding span_at
  low_span f l = low_pick (eqb f.fault 0) _ _ (low_pick (leb (f.at + f.value) (length s)) _ _ (low_got _ _) (two _)) (again f l)

  low_text : (total : ℕ) (p : Step) → Low p → Low (t_end s total p)
  unfolding t_end t_length t_width t_map
  low_text total p l = low_span _ (low_totalled total _ (low_field _ _ (low_field _ _ (low_formed 3 _ (low_byte p l)))))

  low_texts : (p : Step) (k : ℕ) → Low p → Low (after_texts s p k).next
  unfolding after_texts
  low_texts p zero l = l
  low_texts p (suc k) l = low_text (after_texts s p k).total (after_texts s p k).next (low_texts p k l)

  low_surplus : (p : Step) → Low p → Low (surplus s p)
  unfolding surplus
  low_surplus p l = low_after p _ l (low_pick (eqb p.at (length s)) _ _ l (low_refused 5 _ (omega arith) (λ e. omega arith)))

  low_end : Low (f_end s)
  unfolding f_end f_texts f_choices f_edges f_nodes
  low_end = low_surplus _ (low_texts _ _ (low_numbers _ _ (low_numbers _ _ (low_nodes _ _ low_header))))

  pub form_faults : (form_fault s ≡ 0 → ⊥) → (2 ≤ form_fault s) × (form_fault s ≤ 5)
  unfolding form_fault
  form_faults ne = let h = low_end.other in (omega (arith, ne, h), low_end.most)
