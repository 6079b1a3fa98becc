-- Laws of nodes as they are read.
use mathlib.Core.Path.{◌≡◌, refl, sym, ap, ◌∙◌}
use mathlib.Core.Logic.{◌⊎◌, inl, inr}
use mathlib.Core.Option.{Option, none, some}
use Rattle.file_tables.specs.Kinds.{number_of}
use Rattle.file_tables.specs.declared.Kind.{Kind}
use Rattle.file_tables.specs.declared.Kind.TheVariants.{Break, HardLine, Seq, Fill}
use mathlib.Core.List.{List, [], ◌∷◌}
use Prim.Native.Nat.{ℕ, zero, suc}
use native.Mathlib.Omega.{arith}
use lib.ListN.{get_or}
use Rattle.layout.specs.Rules.{Rules}
use Rattle.memo.specs.declared.MemoKey.{MemoKey}
use Rattle.file_tables.specs.Tables.{RowIs, Tables, width, text_row, node_row}
use Rattle.machine.specs.Model.{State, ExactChoice}
use Rattle.machine.specs.Solver.{begin_union, begin_kind, begin_text, checked_text, begin_sequence, begin_group, begin_choice}
use Rattle.solve_workspace.specs.Reading.{prepared, edge_part, node_of_kind, node_of_row, choice_of_row, choice_of_length}
use Rattle.solve_node.specs.declared.Leaf.TheVariants.{Empty, Text, Newline}
use Rattle.solve_node.specs.declared.Single.TheVariants.{Alias, Nest, Align, Annotate, Penalty}
use Rattle.solve_node.specs.declared.Inner.TheVariants.{Single as ASingle, Union, Choice}
use Rattle.solve_node.specs.declared.PreparedNode.{PreparedNode}
use Rattle.solve_node.specs.declared.PreparedNode.TheVariants.{Leaf as ALeaf, Inner as AnInner}
use Rattle.std.specs.Prelude.{Some, None}
use Rattle.file_tables.specs.declared.NodeId.{NodeId}
use Rattle.solve_node.specs.Begun.{NodeLink, begun, Begins, first_of, link_of}

module _ (R : Rules) (t : Tables) (n : ℕ) where
  pub empty_begins : (es : List ℕ) (a b : ℕ) → Begins R t n (node_of_kind es 0 a b) (ALeaf Empty)
  unfolding begin_kind
  empty_begins es a b = record { same = λ q S h. refl }

  pub text_begins : (es : List ℕ) (a b w : ℕ) → w ≡ width (text_row t a) → Begins R t n (node_of_kind es 1 a b) (ALeaf (Text (record { 0 = a }) w))
  unfolding begin_kind begin_text checked_text
  text_begins es a b w f = rw f (record { same = λ q S h. refl })

  pub newline_begins : (es : List ℕ) (a b : ℕ) (k : Kind) → (k ≡ Break) ⊎ (k ≡ HardLine) → Begins R t n (node_of_kind es (number_of k) a b) (ALeaf Newline)
  unfolding begin_kind
  newline_begins es a b k (inl e) = rw e (record { same = λ q S h. refl })
  newline_begins es a b k (inr e) = rw e (record { same = λ q S h. refl })

  sequence_begins : (l : List ℕ) (q : MemoKey) (S : State) → begin_sequence R (prepared t) l q S ≡ begun R (prepared t) t.choices (first_of l) q S
  unfolding begin_sequence
  sequence_begins [] q S = refl
  sequence_begins (k ∷ ks) q S = refl

  pub seq_begins : (es : List ℕ) (a b : ℕ) (k : Kind) (r : PreparedNode) → (k ≡ Seq) ⊎ (k ≡ Fill) → r ≡ first_of (edge_part es a b) → Begins R t n (node_of_kind es (number_of k) a b) r
  unfolding begin_kind
  seq_begins es a b k r (inl e) f = rw (e, f) (record { same = λ q S h. sequence_begins (edge_part es a b) q S })
  seq_begins es a b k r (inr e) f = rw (e, f) (record { same = λ q S h. sequence_begins (edge_part es a b) q S })

  pub nest_begins : (es : List ℕ) (a b : ℕ) → Begins R t n (node_of_kind es 7 a b) (AnInner (ASingle (Nest a (record { 0 = b }))))
  unfolding begin_kind
  nest_begins es a b = record { same = λ q S h. refl }

  pub align_begins : (es : List ℕ) (a b : ℕ) → Begins R t n (node_of_kind es 8 a b) (AnInner (ASingle (Align (record { 0 = a }))))
  unfolding begin_kind
  align_begins es a b = record { same = λ q S h. refl }

  pub annotate_begins : (es : List ℕ) (a b : ℕ) → Begins R t n (node_of_kind es 10 a b) (AnInner (ASingle (Annotate (record { 0 = a }) (record { 0 = b }))))
  unfolding begin_kind
  annotate_begins es a b = record { same = λ q S h. refl }

  pub penalty_begins : (es : List ℕ) (a b : ℕ) → Begins R t n (node_of_kind es 11 a b) (AnInner (ASingle (Penalty a (record { 0 = b }))))
  unfolding begin_kind
  penalty_begins es a b = record { same = λ q S h. refl }

  group_case : (x : Option ℕ) (r : NodeLink) → r ≡ link_of x → (f : NodeId) → r ≡ Some f → x ≡ some f.0
  group_case none r e f g = absurd (let z : None ≡ Some f = (sym e ∙ g) in let w : ◌≡◌ {A = ℕ} 0 1 = cc in omega arith)
  group_case (some m) r e f g = let z : Some (record { 0 = m }) ≡ Some f = (sym e ∙ g) in let w : record { 0 = m } ≡ f = cc in ap (λ (y : NodeId). some y.0) w

  group_nothing : (x : Option ℕ) (r : NodeLink) → r ≡ link_of x → r ≡ None → x ≡ none
  group_nothing none r e g = refl
  group_nothing (some m) r e g = absurd (let z : Some (record { 0 = m }) ≡ None = (sym e ∙ g) in let w : ◌≡◌ {A = ℕ} 0 1 = cc in omega arith)

  pub group_flat : (es : List ℕ) (a b : ℕ) (r : NodeLink) (f : NodeId) → r ≡ link_of ((prepared t).table.flat a) → r ≡ Some f → Begins R t n (node_of_kind es 5 a b) (AnInner (Union f (record { 0 = a })))
  unfolding begin_kind begin_group
  group_flat es a b r f e g = let x = group_case ((prepared t).table.flat a) r e f g in record { same = λ q S h. rw x }

  pub group_alone : (es : List ℕ) (a b : ℕ) (r : NodeLink) → r ≡ link_of ((prepared t).table.flat a) → r ≡ None → Begins R t n (node_of_kind es 5 a b) (AnInner (ASingle (Alias (record { 0 = a }))))
  unfolding begin_kind begin_group
  group_alone es a b r e g = let x = group_nothing ((prepared t).table.flat a) r e g in record { same = λ q S h. rw x }

  choice_none : (x : Option ExactChoice) → x ≡ none → (a b : ℕ) (q : MemoKey) (S : State) → begin_choice R (prepared t) x a b q S ≡ begin_union R (prepared t) a b q S
  unfolding begin_choice
  choice_none x e a b q S = rw e

  choice_some : (x y : Option ExactChoice) (c : ExactChoice) → x ≡ y → y ≡ some c → (a b : ℕ) (q : MemoKey) (S : State)
      → begin_choice R (prepared t) x a b q S ≡ begin_choice R (prepared t) y 0 0 q S
  unfolding begin_choice
  choice_some x y c e f a b q S = rw (e, f)

  list_of : (cs : List ℕ) (l s k : ℕ) → (l ≡ 0 → ⊥) → choice_of_length cs l s k ≡ some (record { alternatives = edge_part cs s l; skipped = k })
  list_of cs zero s k h = absurd (h refl)
  list_of cs (suc l) s k h = refl

  pub choice_plain : (r : List ℕ) → RowIs r (node_row t n) → get_or r 6 0 ≡ 0 → (es : List ℕ) (a b : ℕ) → Begins R t n (node_of_kind es 9 a b) (AnInner (Union (record { 0 = a }) (record { 0 = b })))
  unfolding begin_kind choice_of_row
  choice_plain r h e es a b =
      let z : get_or (node_row t n) 6 0 ≡ 0 = (sym (h.is 6) ∙ e) in
      record { same = λ q S x. choice_none ((prepared t).choices q.node) (rw (x, z)) a b q S }

  pub choice_listed : (r : List ℕ) → RowIs r (node_row t n) → (get_or r 6 0 ≡ 0 → ⊥) → (es : List ℕ) (a b : ℕ)
      → Begins R t n (node_of_kind es 9 a b) (AnInner (Choice (get_or r 5 0) (get_or r 6 0) (get_or r 7 0)))
  unfolding begin_kind choice_of_row
  choice_listed r h e es a b =
      record { same = λ q S x. choice_some ((prepared t).choices q.node) _ _ (rw (x, ← h.is 5, ← h.is 6, ← h.is 7) (list_of t.choices (get_or r 6 0) (get_or r 5 0) (get_or r 7 0) e)) refl a b q S }

-- a row by the kind that its number names
pub row_node : (es r row : List ℕ) (k : ℕ) → RowIs r row → ((es : List ℕ) (a b : ℕ) → node_of_kind es (get_or r 0 0) a b ≡ node_of_kind es k a b)
    → node_of_row es row ≡ node_of_kind es k (get_or r 1 0) (get_or r 2 0)
unfolding node_of_row
row_node es r row k h e = rw (← h.is 0, ← h.is 1, ← h.is 2) (e es (get_or r 1 0) (get_or r 2 0))

pub row_begins : {R : Rules} {t : Tables} {n : ℕ} {x : PreparedNode} (es r row : List ℕ) (k : ℕ) → RowIs r row → ((es : List ℕ) (a b : ℕ) → node_of_kind es (get_or r 0 0) a b ≡ node_of_kind es k a b)
    → Begins R t n (node_of_kind es k (get_or r 1 0) (get_or r 2 0)) x → Begins R t n (node_of_row es row) x
row_begins es r row k h e b = rw (row_node es r row k h e) b

-- a number past the kinds reads as the last
