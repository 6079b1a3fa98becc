-- Document 01, "Layouts": what a layout is, its page, its lines, overflow and burden, and which layouts a document allows. Whole numbers without a bound.
use mathlib.Core.List.{List, [], ◌∷◌, ◌++◌, foldr}
use Rattle.std.specs.Prelude.{ℕ, ◌+◌, replicate}
use Rattle.layout.specs.Document.{Word, Doc, empty, text, newline, cat, nest, align, choice, annotate, penalty}
use Rattle.layout.specs.Rules.{Rules}

-- a layout: what it puts, in order; how its joins nest changes neither page nor spans nor cost (Nesting)
pub data Plan : Type 0 where
  blank : Plan  -- nothing
  put : Word → Plan  -- a text or a space
  line : ℕ → Plan  -- a newline to the given indent
  join : Plan → Plan → Plan  -- the first, then the second
  mark : ℕ → Plan → Plan  -- an Annotate: its annotation, and its child laid out
  fee : ℕ → Plan → Plan  -- a Penalty: its amount, and its child laid out

-- "the bytes it puts, in order"; a newline is "byte 10 and as many bytes 32 as the indent"
abbrev pub page : Plan → List ℕ
page blank = []
page (put t) = t.bytes
page (line i) = 10 ∷ replicate i 32
page (join p q) = page p ++ page q
page (mark k p) = page p
page (fee a p) = page p

-- the column after a layout that begins at column c
abbrev pub last : Plan → ℕ → ℕ
last blank c = c
last (put t) c = c + t.width
last (line i) c = i
last (join p q) c = last q (last p c)
last (mark k p) c = last p c
last (fee a p) c = last p c

-- the columns of the lines that its newlines close: the indent plus the widths of the texts and spaces on each
abbrev pub closed : Plan → ℕ → List ℕ
closed blank c = []
closed (put t) c = []
closed (line i) c = c ∷ []
closed (join p q) c = closed p c ++ closed q (last p c)
closed (mark k p) c = closed p c
closed (fee a p) c = closed p c

-- the columns of its lines, "one line more than newlines"
abbrev pub lines : Plan → List ℕ
lines p = closed p 0 ++ (last p 0 ∷ [])

-- "the sum of over(columns)² over its lines"
abbrev pub overflow_of : Rules → Plan → ℕ
overflow_of R p = foldr (λ columns sum. R.charge columns + sum) 0 (lines p)

-- "the newline cost for each newline plus the amount of each Penalty laid out in it, each time it is"
abbrev pub burden_of : Rules → Plan → ℕ
burden_of R blank = 0
burden_of R (put t) = 0
burden_of R (line i) = R.newline_cost
burden_of R (join p q) = burden_of R p + burden_of R q
burden_of R (mark k p) = burden_of R p
burden_of R (fee a p) = burden_of R p + a

-- "the document allows every layout that some choices give": from column c and indent i on
pub data Allows (R : Rules) : Doc → ℕ → ℕ → Plan → Type 0 where
  is_empty : {c i : ℕ} → Allows R empty c i blank
  is_text : {c i : ℕ} {t : Word} → Allows R (text t) c i (put t)
  is_newline : {c i : ℕ} → Allows R newline c i (line i)
  is_cat : {c i : ℕ} {a b : Doc} {p q : Plan} → Allows R a c i p → Allows R b (last p c) i q → Allows R (cat a b) c i (join p q)
  is_nest : {c i n : ℕ} {d : Doc} {p : Plan} → Allows R d c (R.lower (i + n)) p → Allows R (nest n d) c i p
  is_align : {c i : ℕ} {d : Doc} {p : Plan} → Allows R d c (R.lower c) p → Allows R (align d) c i p
  is_first : {c i : ℕ} {a b : Doc} {p : Plan} → Allows R a c i p → Allows R (choice a b) c i p
  is_second : {c i : ℕ} {a b : Doc} {p : Plan} → Allows R b c i p → Allows R (choice a b) c i p
  is_annotate : {c i k : ℕ} {d : Doc} {p : Plan} → Allows R d c i p → Allows R (annotate k d) c i (mark k p)
  is_penalty : {c i n : ℕ} {d : Doc} {p : Plan} → Allows R d c i p → Allows R (penalty n d) c i (fee n p)
