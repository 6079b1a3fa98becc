-- Documents: the calculus of "A Pretty Expressive Printer" with annotations and penalties. Table says which document a node is.
use Rattle.std.specs.Prelude.{List, ℕ}

pub record Word : Type 0 where  -- a text of the file: its display width and its bytes
  pub width : ℕ
  pub bytes : List ℕ

pub data Doc : Type 0 where
  empty : Doc  -- nothing
  text : Word → Doc  -- the text's bytes
  newline : Doc  -- a newline to the indent
  cat : Doc → Doc → Doc  -- the first, then the second
  nest : ℕ → Doc → Doc  -- the document, with so much added to the indent
  align : Doc → Doc  -- the document, with the indent set to the column where it begins
  choice : Doc → Doc → Doc  -- the preferred or the alternative
  annotate : ℕ → Doc → Doc  -- the document, a span of the given annotation
  penalty : ℕ → Doc → Doc  -- the document, at the given amount of burden
