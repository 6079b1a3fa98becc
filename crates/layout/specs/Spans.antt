-- Document 01, "Layouts": the spans of a layout, one for each Annotate laid out in it, in the order in which they open.
use Rattle.std.proofs.Math.Option.{Option, none, some}
use Rattle.std.specs.Prelude.{List, [], ◌∷◌, ◌++◌, ℕ, suc, ◌+◌, length}
use Rattle.layout.specs.Layout.{Plan, blank, put, line, join, mark, fee, page}

pub record Span : Type 0 where
  pub annotation : ℕ
  pub start : ℕ  -- the position on the page before the child
  pub end : ℕ  -- and after it
  pub parent : Option ℕ  -- the span of the nearest Annotate around it, by its number in this order

-- the spans of a layout that begins at a position of the page, within a span or none, with n spans opened before it
abbrev pub spans_from : Plan → ℕ → Option ℕ → ℕ → List Span
spans_from blank at up n = []
spans_from (put t) at up n = []
spans_from (line i) at up n = []
spans_from (join p q) at up n = spans_from p at up n ++ spans_from q (at + length (page p)) up (n + length (spans_from p at up n))
spans_from (mark k p) at up n = record { annotation = k; start = at; end = at + length (page p); parent = up } ∷ spans_from p at (some n) (suc n)
spans_from (fee a p) at up n = spans_from p at up n

abbrev pub spans : Plan → List Span
spans p = spans_from p 0 none 0
