-- What a node's kind asks of its first and second, kind by kind.
use mathlib.Core.Path.{◌≡◌, sym, ap, ◌∙◌}
use mathlib.Core.Logic.{◌⊎◌, inl, inr}
use mathlib.Core.Bool.{true, false}
use mathlib.Core.Option.{some}
use mathlib.Core.List.{List}
use Prim.Native.Nat.{ℕ, ◌+◌, ◌≤◌, ◌<◌}
use native.Mathlib.Omega.{arith}
use lib.Dec.{ltb, leb, eqb}
use borrow.Author.Tests.{eq-eqb, ne_eqb}
use Rattle.file_tables.specs.declared.Kind.{Kind}
use Rattle.file_tables.specs.declared.Kind.TheVariants.{Group, Nest, Align, Choice, Annotate, Penalty}
use Rattle.file_tables.specs.Kinds.{number_of}
use Rattle.file_tables.specs.Tables.{kind, first, second, flat, flat_mark, flat_word}
use Rattle.file_checks.specs.declared.Lengths.{Lengths}
use Rattle.file_checks.specs.Told.{Told}
use Rattle.file_checks.specs.References.{Child, of_group, of_nest, of_align, preferred, alternative, of_annotate, of_penalty, Ranged, seq, fill, KindNamed}
use Rattle.file_checks.proofs.Enumerated.{marked}
use Rattle.file_checks.specs.Tells.{tell_yes, tell_no, tell_lt, tell_le}

module _ (n : Lengths) (row : List ℕ) where
  -- from numbers alone, so that a kind answers each part by arithmetic
  build :
      (kind row ≡ 1 → first row < n.texts)
      → (kind row ≡ 10 → first row < n.annotations)
      → (5 ≤ kind row → kind row ≤ 9 → (kind row ≡ 6 → ⊥) → (kind row ≡ 7 → ⊥) → first row < n.nodes)
      → (7 ≤ kind row → kind row ≤ 11 → (kind row ≡ 8 → ⊥) → second row < n.nodes)
      → (4 ≤ kind row → kind row ≤ 6 → (kind row ≡ 5 → ⊥) → first row + second row ≤ n.edges)
      → KindNamed n row
  build text annotation one two range =
      record { text = text; annotation = annotation; child = child; edge_range = edges }
    where
      child : (j : ℕ) → Child row j → j < n.nodes
      child j (of_group e) = one (omega arith) (omega arith) (omega arith) (omega arith)
      child j (of_nest e) = two (omega arith) (omega arith) (omega arith)
      child j (of_align e) = one (omega arith) (omega arith) (omega arith) (omega arith)
      child j (preferred e) = one (omega arith) (omega arith) (omega arith) (omega arith)
      child j (alternative e) = two (omega arith) (omega arith) (omega arith)
      child j (of_annotate e) = two (omega arith) (omega arith) (omega arith)
      child j (of_penalty e) = two (omega arith) (omega arith) (omega arith)

      edges : Ranged row → first row + second row ≤ n.edges
      edges (seq e) = range (omega arith) (omega arith) (omega arith)
      edges (fill e) = range (omega arith) (omega arith) (omega arith)

  pub a_text : kind row ≡ 1 → Told (KindNamed n row) (ltb (first row) n.texts)
  a_text e = tell_lt _ _ (λ l. build (λ _. l) (λ a. omega arith) (λ a b c d. omega arith) (λ a b c. omega arith) (λ a b c. omega arith)) (λ k. k.text e)

  pub a_range : Ranged row → Told (KindNamed n row) (leb (first row + second row) n.edges)
  a_range (seq e) = tell_le _ _ (λ l. build (λ a. omega arith) (λ a. omega arith) (λ a b c d. omega arith) (λ a b c. omega arith) (λ a b c. l)) (λ k. k.edge_range (seq e))
  a_range (fill e) = tell_le _ _ (λ l. build (λ a. omega arith) (λ a. omega arith) (λ a b c d. omega arith) (λ a b c. omega arith) (λ a b c. l)) (λ k. k.edge_range (fill e))

  pub a_group : kind row ≡ 5 → Told (KindNamed n row) (ltb (first row) n.nodes)
  a_group e = tell_lt _ _ (λ l. build (λ a. omega arith) (λ a. omega arith) (λ a b c d. l) (λ a b c. omega arith) (λ a b c. omega arith)) (λ k. k.child _ (of_group e))

  pub an_align : kind row ≡ 8 → Told (KindNamed n row) (ltb (first row) n.nodes)
  an_align e = tell_lt _ _ (λ l. build (λ a. omega arith) (λ a. omega arith) (λ a b c d. l) (λ a b c. omega arith) (λ a b c. omega arith)) (λ k. k.child _ (of_align e))

  pub no_preferred : kind row ≡ 9 → n.nodes ≤ first row → Told (KindNamed n row) false
  no_preferred e h = tell_no (λ k. let l = k.child _ (preferred e) in omega arith)

  pub a_choice : kind row ≡ 9 → first row < n.nodes → Told (KindNamed n row) (ltb (second row) n.nodes)
  a_choice e h = tell_lt _ _ (λ l. build (λ a. omega arith) (λ a. omega arith) (λ a b c d. h) (λ a b c. l) (λ a b c. omega arith)) (λ k. k.child _ (alternative e))

  pub no_annotation : kind row ≡ 10 → n.annotations ≤ first row → Told (KindNamed n row) false
  no_annotation e h = tell_no (λ k. let l = k.annotation e in omega arith)

  pub an_annotate : kind row ≡ 10 → first row < n.annotations → Told (KindNamed n row) (ltb (second row) n.nodes)
  an_annotate e h = tell_lt _ _ (λ l. build (λ a. omega arith) (λ a. h) (λ a b c d. omega arith) (λ a b c. l) (λ a b c. omega arith)) (λ k. k.child _ (of_annotate e))

  pub a_nest : kind row ≡ 7 → Told (KindNamed n row) (ltb (second row) n.nodes)
  a_nest e = tell_lt _ _ (λ l. build (λ a. omega arith) (λ a. omega arith) (λ a b c d. omega arith) (λ a b c. l) (λ a b c. omega arith)) (λ k. k.child _ (of_nest e))

  pub a_penalty : kind row ≡ 11 → Told (KindNamed n row) (ltb (second row) n.nodes)
  a_penalty e = tell_lt _ _ (λ l. build (λ a. omega arith) (λ a. omega arith) (λ a b c d. omega arith) (λ a b c. l) (λ a b c. omega arith)) (λ k. k.child _ (of_penalty e))

  -- no other kind has a first or a second that names anything
  pub no_kind :
      (kind row ≡ 1 → ⊥) → (kind row ≡ 4 → ⊥) → (kind row ≡ 6 → ⊥) → (kind row ≡ 5 → ⊥) → (kind row ≡ 8 → ⊥) → (kind row ≡ 9 → ⊥)
      → (kind row ≡ 10 → ⊥) → (kind row ≡ 7 → ⊥) → (kind row ≡ 11 → ⊥) → Told (KindNamed n row) true
  no_kind k1 k4 k6 k5 k8 k9 k10 k7 k11 =
      tell_yes (record { text = λ e. absurd (k1 e); annotation = λ e. absurd (k10 e); child = child; edge_range = edges })
    where
      child : (j : ℕ) → Child row j → j < n.nodes
      child j (of_group e) = absurd (k5 e)
      child j (of_nest e) = absurd (k7 e)
      child j (of_align e) = absurd (k8 e)
      child j (preferred e) = absurd (k9 e)
      child j (alternative e) = absurd (k9 e)
      child j (of_annotate e) = absurd (k10 e)
      child j (of_penalty e) = absurd (k11 e)

      edges : Ranged row → first row + second row ≤ n.edges
      edges (seq e) = absurd (k4 e)
      edges (fill e) = absurd (k6 e)

  -- ---- the same by the kind itself

  of_kind : {k : Kind} (k₁ : Kind) → number_of k ≡ kind row → k ≡ k₁ → kind row ≡ number_of k₁
  of_kind k₁ e g = sym e ∙ ap number_of g

  pub first_child : {k : Kind} → number_of k ≡ kind row → (k ≡ Group) ⊎ (k ≡ Align) → Told (KindNamed n row) (ltb (first row) n.nodes)
  first_child e (inl g) = a_group (of_kind Group e g)
  first_child e (inr g) = an_align (of_kind Align e g)

  pub second_child : {k : Kind} → number_of k ≡ kind row → (k ≡ Nest) ⊎ (k ≡ Penalty) → Told (KindNamed n row) (ltb (second row) n.nodes)
  second_child e (inl g) = a_nest (of_kind Nest e g)
  second_child e (inr g) = a_penalty (of_kind Penalty e g)

  pub no_first : {k : Kind} → number_of k ≡ kind row → k ≡ Choice → n.nodes ≤ first row → Told (KindNamed n row) (ltb (first row) n.nodes)
  no_first e g h = let q = of_kind Choice e g in tell_lt _ _ (λ l. absurd (omega arith)) (λ k. k.child _ (preferred q))

  pub both_children : {k : Kind} → number_of k ≡ kind row → k ≡ Choice → first row < n.nodes → Told (KindNamed n row) (ltb (second row) n.nodes)
  both_children e g h = a_choice (of_kind Choice e g) h

  pub annotated : {k : Kind} → number_of k ≡ kind row → k ≡ Annotate → first row < n.annotations → Told (KindNamed n row) (ltb (second row) n.nodes)
  annotated e g h = an_annotate (of_kind Annotate e g) h

-- ---- the flat node

pub flat_here : (row : List ℕ) → flat_mark row ≡ 1 → flat row ≡ some (flat_word row)
flat_here row e = rw (eq-eqb (flat_mark row) 1 e)

pub flat_none : (row : List ℕ) (j : ℕ) → (flat_mark row ≡ 1 → ⊥) → flat row ≡ some j → ⊥
flat_none row j ne e = let z : ◌≡◌ {A = ℕ} 0 1 = cc (ne_eqb (flat_mark row) 1 ne) in omega arith

pub flat_only : (row : List ℕ) (n : ℕ) → flat_mark row ≡ 1 → flat_word row < n → (j : ℕ) → flat row ≡ some j → j < n
flat_only row n e l j h = let z : flat_word row ≡ j = (marked (eqb (flat_mark row) 1) (flat_word row) j h).1 in omega arith
