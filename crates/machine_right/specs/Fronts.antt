-- The frontiers of a table's nodes, and how a node's is made of those that it refers to.
use Rattle.std.specs.Prelude.{ℕ, Bool, true, false, ◌≡◌}
use mathlib.Core.List.{List, [], ◌∷◌, map}
use Rattle.std.proofs.Math.Path.{refl}
use Rattle.memo.specs.declared.MemoKey.{MemoKey}
use Rattle.layout.specs.Document.{Doc, text, newline, cat, choice}
use Rattle.layout.specs.Rules.{Rules}
use Rattle.layout.specs.Layout.{Plan, blank, put, line}
use Rattle.layout.specs.Choice.{each}
use Rattle.layout.specs.Table.{Node, Table, Empty, Break, HardLine, Text, Seq, Fill, Group, Align, Nest, Choice, Annotate, Penalty, seq_doc, fill_doc, shape}
use Rattle.layout.specs.Frontier.{Cand, cand, after, covers, build, front}

abbrev pub Front : Type 0
Front = List (Cand Plan)

abbrev pub is_fill : Node → Bool
is_fill Empty = false
is_fill Break = false
is_fill HardLine = false
is_fill (Text t) = false
is_fill (Seq ks) = false
is_fill (Fill ks) = true
is_fill (Group k) = false
is_fill (Align k) = false
is_fill (Nest n k) = false
is_fill (Choice a b) = false
is_fill (Annotate a k) = false
is_fill (Penalty n k) = false

-- each left candidate followed by what g has at its end
unfoldable pub joins : (ℕ → Front) → Front → Front
joins g ls = each (λ l. map (after l) (g l.column)) ls

module _ (R : Rules) (T : Table) (D : ℕ → Doc) where
  -- a space or a newline
  unfoldable pub gap : ℕ → ℕ → Front
  gap i c = build covers (cand R c (put T.space) ∷ cand R c (line i) ∷ [])

  unfoldable pub spacing : Bool → ℕ → Front → Front
  spacing false i F = F
  spacing true i F = build covers (joins (gap i) F)

  -- after F, the children, each with its gap in a Fill
  unfoldable pub seqs : Bool → List ℕ → ℕ → Front → Front
  seqs fl [] i F = F
  seqs fl (k ∷ ks) i F = seqs fl ks i (build covers (joins (λ c. front R (D k) c i) (spacing fl i F)))

  unfoldable pub means : MemoKey → Front
  means q = front R (D q.node) q.column q.indent

  front_seq : (d : Doc) (ks : List ℕ) (c i : ℕ) → front R (seq_doc T D d ks) c i ≡ seqs false ks i (front R d c i)
  unfolding front seqs joins spacing
  front_seq d [] c i = refl
  front_seq d (k ∷ ks) c i = front_seq (cat d (D k)) ks c i

  front_fill : (d : Doc) (ks : List ℕ) (c i : ℕ) → front R (fill_doc T D d ks) c i ≡ seqs true ks i (front R d c i)
  unfolding front seqs joins spacing gap
  front_fill d [] c i = refl
  front_fill d (k ∷ ks) c i = front_fill (cat (cat d (choice (text T.space) newline)) (D k)) ks c i

  -- a Seq's or a Fill's frontier: its first child's, then the others
  abbrev pub Sequence : Node → List ℕ → ℕ → ℕ → Type 0
  Sequence v [] c i = front R (shape T D v) c i ≡ cand R c blank ∷ []
  Sequence v (k ∷ ks) c i = front R (shape T D v) c i ≡ seqs (is_fill v) ks i (front R (D k) c i)

  pub seq_is : (ks : List ℕ) (c i : ℕ) → Sequence (Seq ks) ks c i
  unfolding front
  seq_is [] c i = refl
  seq_is (k ∷ ks) c i = front_seq (D k) ks c i

  pub fill_is : (ks : List ℕ) (c i : ℕ) → Sequence (Fill ks) ks c i
  unfolding front
  fill_is [] c i = refl
  fill_is (k ∷ ks) c i = front_fill (D k) ks c i
