-- Document 01, "Prepared file" and "Layouts": the node table, and the document that each node is.
use Rattle.std.specs.Prelude.{◌≡◌, List, [], ◌∷◌, ℕ}
use Rattle.std.proofs.Math.Option.{Option, none, some}
use Rattle.layout.specs.Document.{Word, Doc, empty, text, newline, cat, nest, align, choice, annotate, penalty}

-- document 01's kinds; the numbers are nodes, except a Text's text and, before the child, a Nest's indent, an Annotate's annotation and a Penalty's amount
pub data Node : Type 0 where
  Empty Break HardLine : Node
  Text : ℕ → Node
  Seq Fill : List ℕ → Node
  Group Align : ℕ → Node
  Nest Choice Annotate Penalty : ℕ → ℕ → Node

pub record Table : Type 0 where
  pub node : ℕ → Node
  pub flat : ℕ → Option ℕ  -- a node's flat node
  pub texts : ℕ → Word
  pub space : Word  -- the space text

module _ (T : Table) (D : ℕ → Doc) where
  -- Seq: "all children in order"
  abbrev pub seq_doc : Doc → List ℕ → Doc
  seq_doc d [] = d
  seq_doc d (k ∷ ks) = seq_doc (cat d (D k)) ks

  -- Fill: "the same, with a space or a newline between neighbours, chosen at each gap"; the space is preferred
  abbrev pub fill_doc : Doc → List ℕ → Doc
  fill_doc d [] = d
  fill_doc d (k ∷ ks) = fill_doc (cat (cat d (choice (text T.space) newline)) (D k)) ks

  -- Group: "either the child's flat node, where it has one, presented first, or the child"
  abbrev pub group_doc : ℕ → Option ℕ → Doc
  group_doc k none = D k
  group_doc k (some f) = choice (D f) (D k)

  -- a node's document, given its children's; "an empty Seq or Fill is Empty", and a Choice's list changes nothing (ChoiceLists)
  abbrev pub shape : Node → Doc
  shape Empty = empty
  shape Break = newline
  shape HardLine = newline
  shape (Text t) = text (T.texts t)
  shape (Seq []) = empty
  shape (Seq (k ∷ ks)) = seq_doc (D k) ks
  shape (Fill []) = empty
  shape (Fill (k ∷ ks)) = fill_doc (D k) ks
  shape (Group k) = group_doc k (T.flat k)
  shape (Align k) = align (D k)
  shape (Nest n k) = nest n (D k)
  shape (Choice a b) = choice (D a) (D b)
  shape (Annotate a k) = annotate a (D k)
  shape (Penalty n k) = penalty n (D k)

  -- D has the document of every node: in a table without circle there is exactly one such D (Reading)
  abbrev pub Reads : Type 0
  Reads = (n : ℕ) → D n ≡ shape (T.node n)
