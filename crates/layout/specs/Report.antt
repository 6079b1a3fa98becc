-- Document 02, change 2: a report's one document, "a Seq of the rows with a HardLine between neighbours". Its answer is its rows' answers, one below the other: page, spans and cost.
use Rattle.std.specs.Prelude.{◌≡◌, List, [], ◌∷◌, ◌++◌, map, ℕ, suc, ◌+◌, ◌≤◌, length}
use Rattle.std.proofs.Math.Path.{refl}
use Rattle.std.proofs.Common.{sym, ap, ap₂, ◌∙◌, append-nil, append_assoc, length-append, arith}
use Rattle.std.proofs.Math.Option.{Option, none, some}
use Rattle.std.proofs.lemmas.List.{map-append, length-map}
use Rattle.cost.specs.Cost.{Cost, zero_cost, add}
use Rattle.cost.specs.Rising.{at_zero}
use Rattle.layout.specs.Document.{Doc, empty, newline, cat}
use Rattle.layout.specs.Rules.{Rules}
use Rattle.layout.specs.Lawful.{Lawful}
use Rattle.layout.specs.Layout.{Plan, blank, put, line, join, mark, fee, page}
use Rattle.layout.specs.Choice.{price, chosen}
use Rattle.layout.specs.Running.{cost_from}
use Rattle.layout.specs.Telescope.{price_is}
use Rattle.layout.specs.Spans.{Span, spans_from, spans}
use Rattle.layout.specs.Table.{Table, HardLine, Seq, seq_doc, shape, Reads}

-- ---- the document, and the layout

abbrev pub below : Doc → List Doc → Doc
below d [] = d
below d (e ∷ es) = below (cat (cat d newline) e) es

-- without rows: Empty
abbrev pub report_doc : List Doc → Doc
report_doc [] = empty
report_doc (d ∷ ds) = below d ds

-- the children of that Seq: rows ks, and the HardLine h between neighbours
abbrev pub between_below : ℕ → List ℕ → List ℕ
between_below h [] = []
between_below h (k ∷ ks) = h ∷ k ∷ between_below h ks

abbrev pub between : ℕ → List ℕ → List ℕ
between h [] = []
between h (k ∷ ks) = k ∷ between_below h ks

module _ (T : Table) (D : ℕ → Doc) (reads : Reads T D) (h : ℕ) (hard : T.node h ≡ HardLine) where
  seq_below : (d : Doc) (ks : List ℕ) → seq_doc T D d (between_below h ks) ≡ below d (map D ks)
  seq_below d [] = refl
  seq_below d (k ∷ ks) = ap (λ (e : Doc). seq_doc T D (cat (cat d e) (D k)) (between_below h ks)) (reads h ∙ ap (shape T D) hard) ∙ seq_below (cat (cat d newline) (D k)) ks

  -- the Seq's document
  pub seq_report : (ks : List ℕ) → shape T D (Seq (between h ks)) ≡ report_doc (map D ks)
  seq_report [] = refl
  seq_report (k ∷ ks) = seq_below (D k) ks

abbrev pub under : Plan → List Plan → Plan
under p [] = p
under p (q ∷ qs) = under (join (join p (line 0)) q) qs

abbrev pub stacked : List Plan → Plan
stacked [] = blank
stacked (p ∷ ps) = under p ps

pub data Each (R : Rules) : List Doc → List Plan → Type 0 where
  no_row : Each R [] []
  one_more : {d : Doc} {p : Plan} {ds : List Doc} {ps : List Plan} → chosen R d ≡ some p → Each R ds ps → Each R (d ∷ ds) (p ∷ ps)

-- ---- its page

-- rows below a row: byte 10 before each
abbrev pub lines_below : List (List ℕ) → List ℕ
lines_below [] = []
lines_below (b ∷ bs) = 10 ∷ (b ++ lines_below bs)

-- byte 10 between neighbours
abbrev pub whole_page : List (List ℕ) → List ℕ
whole_page [] = []
whole_page (b ∷ bs) = b ++ lines_below bs

under_page : (p : Plan) (ps : List Plan) → page (under p ps) ≡ page p ++ lines_below (map page ps)
under_page p [] = sym (append-nil (page p))
under_page p (q ∷ qs) = under_page (join (join p (line 0)) q) qs ∙ append_assoc (page p ++ (10 ∷ [])) (page q) (lines_below (map page qs)) ∙ append_assoc (page p) (10 ∷ []) (page q ++ lines_below (map page qs))

pub stacked_page : (ps : List Plan) → page (stacked ps) ≡ whole_page (map page ps)
stacked_page [] = refl
stacked_page (p ∷ ps) = under_page p ps

-- ---- its spans

abbrev pub up_by : ℕ → Option ℕ → Option ℕ
up_by n none = none
up_by n (some k) = some (k + n)

-- a row's span on the whole page: its annotation stays
abbrev pub moved : ℕ → ℕ → Span → Span
moved at n s = record { annotation = s.annotation; start = s.start + at; end = s.end + at; parent = up_by n s.parent }

shift : (p : Plan) (at : ℕ) (up : Option ℕ) (n a k : ℕ) → spans_from p (at + a) (up_by k up) (n + k) ≡ map (moved a k) (spans_from p at up n)
shift blank at up n a k = refl
shift (put t) at up n a k = refl
shift (line i) at up n a k = refl
shift (join p q) at up n a k =
    let one = shift p at up n a k in
    let len : length (spans_from p (at + a) (up_by k up) (n + k)) ≡ length (spans_from p at up n) = ap length one ∙ length-map (spans_from p at up n) (moved a k) in
    let e : at + a + length (page p) ≡ at + length (page p) + a = omega arith in
    let f : n + k + length (spans_from p (at + a) (up_by k up) (n + k)) ≡ n + length (spans_from p at up n) + k = omega (arith, len) in
    ap₂ (λ (x y : List Span). x ++ y) one (ap₂ (λ (u v : ℕ). spans_from q u (up_by k up) v) e f ∙ shift q (at + length (page p)) up (n + length (spans_from p at up n)) a k)
    ∙ sym (map-append (moved a k) (spans_from p at up n) (spans_from q (at + length (page p)) up (n + length (spans_from p at up n))))
shift (mark m p) at up n a k =
    let e : at + a + length (page p) ≡ at + length (page p) + a = omega arith in
    let f : suc (n + k) ≡ suc n + k = omega arith in
    ap₂ (λ (x : ℕ) (y : List Span). record { annotation = m; start = at + a; end = x; parent = up_by k up } ∷ y) e
    (ap (λ (v : ℕ). spans_from p (at + a) (some (n + k)) v) f ∙ shift p at (some n) (suc n) a k)
shift (fee m p) at up n a k = shift p at up n a k

pub moved_spans : (p : Plan) (a k : ℕ) → spans_from p a none k ≡ map (moved a k) (spans p)
moved_spans p a k =
    let e : a ≡ 0 + a = omega arith in
    let f : k ≡ 0 + k = omega arith in
    ap₂ (λ (u v : ℕ). spans_from p u none v) e f ∙ shift p 0 none 0 a k

-- the spans of rows from a position and a number of spans on
abbrev pub spans_below : ℕ → ℕ → List (List ℕ) → List (List Span) → List Span
spans_below at n [] ss = []
spans_below at n (b ∷ bs) [] = []
spans_below at n (b ∷ bs) (s ∷ ss) = map (moved at n) s ++ spans_below (at + length b + 1) (n + length s) bs ss

-- of rows with these bytes and these spans: positions and parents moved, annotations not
abbrev pub whole_spans : List (List ℕ) → List (List Span) → List Span
whole_spans bs ss = spans_below 0 0 bs ss

unmoved : (l : List Span) → map (moved 0 0) l ≡ l
unmoved [] = refl
unmoved (s ∷ l) =
    let e : s.start + 0 ≡ s.start = omega arith in
    let f : s.end + 0 ≡ s.end = omega arith in
    rw (e, f, same s.parent) (ap (λ (r : List Span). s ∷ r) (unmoved l))
  where
    same : (o : Option ℕ) → up_by 0 o ≡ o
    same none = refl
    same (some k) = ap (λ (n : ℕ). some n) (omega arith)

rest_of : List Plan → ℕ → ℕ → List Span
rest_of ps at n = spans_below at n (map page ps) (map spans ps)

under_spans : (p : Plan) (ps : List Plan) → spans (under p ps) ≡ spans p ++ rest_of ps (length (page p) + 1) (length (spans p))
unfolding rest_of
under_spans p [] = sym (append-nil (spans p))
under_spans p (q ∷ qs) =
    let a : 0 + length (page p ++ (10 ∷ [])) ≡ length (page p) + 1 = omega (arith, length-append (page p) (10 ∷ [])) in
    let b : 0 + length (spans p ++ []) ≡ length (spans p) = ap (λ (l : List Span). 0 + length l) (append-nil (spans p)) ∙ (omega arith) in
    let two : spans (join (join p (line 0)) q) ≡ spans p ++ map (moved (length (page p) + 1) (length (spans p))) (spans q)
    = ap₂ (λ (x y : List Span). x ++ y) (append-nil (spans p)) (ap₂ (λ (u v : ℕ). spans_from q u none v) a b ∙ moved_spans q (length (page p) + 1) (length (spans p))) in
    let c : length (page (join (join p (line 0)) q)) + 1 ≡ length (page p) + 1 + length (page q) + 1 = omega (arith, length-append (page p ++ (10 ∷ [])) (page q), length-append (page p) (10 ∷ [])) in
    let d : length (spans (join (join p (line 0)) q)) ≡ length (spans p) + length (spans q)
    = ap length two ∙ length-append (spans p) (map (moved (length (page p) + 1) (length (spans p))) (spans q)) ∙ ap (λ (k : ℕ). length (spans p) + k) (length-map (spans q) (moved (length (page p) + 1) (length (spans p)))) in
    under_spans (join (join p (line 0)) q) qs
    ∙ ap₂ (λ (x y : List Span). x ++ y) two (ap₂ (λ (u v : ℕ). rest_of qs u v) c d)
    ∙ append_assoc (spans p) (map (moved (length (page p) + 1) (length (spans p))) (spans q)) (rest_of qs (length (page p) + 1 + length (page q) + 1) (length (spans p) + length (spans q)))

pub stacked_spans : (ps : List Plan) → spans (stacked ps) ≡ whole_spans (map page ps) (map spans ps)
unfolding rest_of
stacked_spans [] = refl
stacked_spans (p ∷ ps) =
    let a : length (page p) + 1 ≡ 0 + length (page p) + 1 = omega arith in
    let b : length (spans p) ≡ 0 + length (spans p) = omega arith in
    under_spans p ps ∙ ap₂ (λ (x y : List Span). x ++ y) (sym (unmoved (spans p))) (ap₂ (λ (u v : ℕ). rest_of ps u v) a b)

-- ---- its cost

-- a newline's cost: at indent 0 it is charged nothing but the newline cost n
abbrev pub newline_at : ℕ → Cost
newline_at n = record { overflow = 0; burden = n }

abbrev pub costs_below : ℕ → List Cost → Cost
costs_below n [] = zero_cost
costs_below n (c ∷ cs) = add (newline_at n) (add c (costs_below n cs))

-- the rows' costs, and the newline cost n for each newline between them
abbrev pub whole_cost : ℕ → List Cost → Cost
whole_cost n [] = zero_cost
whole_cost n (c ∷ cs) = add c (costs_below n cs)

add_zero : (c : Cost) → add c zero_cost ≡ c
add_zero c =
    let e : c.overflow + 0 ≡ c.overflow = omega arith in
    let f : c.burden + 0 ≡ c.burden = omega arith in
    rw (e, f)

add_assoc : (a b c : Cost) → add (add a b) c ≡ add a (add b c)
add_assoc a b c =
    let e : a.overflow + b.overflow + c.overflow ≡ a.overflow + (b.overflow + c.overflow) = omega arith in
    let f : a.burden + b.burden + c.burden ≡ a.burden + (b.burden + c.burden) = omega arith in
    rw (e, f)

module _ (R : Rules) (L : Lawful R) where
  under_cost : (p : Plan) (ps : List Plan) → cost_from R (under p ps) 0 ≡ add (cost_from R p 0) (costs_below R.newline_cost (map (λ q. cost_from R q 0) ps))
  under_cost p [] = sym (add_zero (cost_from R p 0))
  under_cost p (q ∷ qs) =
      let n = newline_at R.newline_cost in
      let rest = costs_below R.newline_cost (map (λ r. cost_from R r 0) qs) in
      under_cost (join (join p (line 0)) q) qs
      ∙ ap (λ (z : ℕ). add (add (add (cost_from R p 0) (record { overflow = z; burden = R.newline_cost })) (cost_from R q 0)) rest) (at_zero L.rising)
      ∙ add_assoc (add (cost_from R p 0) n) (cost_from R q 0) rest
      ∙ add_assoc (cost_from R p 0) n (add (cost_from R q 0) rest)

  prices : (ps : List Plan) → map (λ q. cost_from R q 0) ps ≡ map (price R) ps
  prices [] = refl
  prices (p ∷ ps) = ap₂ (λ (x : Cost) (y : List Cost). x ∷ y) (price_is R L p) (prices ps)

  pub stacked_cost : (ps : List Plan) → price R (stacked ps) ≡ whole_cost R.newline_cost (map (price R) ps)
  stacked_cost [] = sym (price_is R L blank)
  stacked_cost (p ∷ ps) = sym (price_is R L (under p ps)) ∙ under_cost p ps ∙ ap₂ (λ (x : Cost) (y : List Cost). add x (costs_below R.newline_cost y)) (price_is R L p) (prices ps)

-- ---- where a row's spans lie

abbrev up_word : Option ℕ → ℕ
up_word none = 0
up_word (some k) = suc k

-- start and end are positions up to top, and a parent is one of the first n spans
abbrev pub Inside : ℕ → ℕ → List Span → Type 0
Inside top n [] = Unit {0}
Inside top n (s ∷ l) = ((s.start ≤ top) × (s.end ≤ top) × (up_word s.parent ≤ n)) × Inside top n l

inside_more : (top over n m : ℕ) (l : List Span) → top ≤ over → n ≤ m → Inside top n l → Inside over m l
inside_more top over n m [] t e h = tt
inside_more top over n m (s ∷ l) t e h = ((omega (arith, h.0.0), omega (arith, h.0.1), omega (arith, h.0.2)), inside_more top over n m l t e h.1)

inside_append : (top n : ℕ) (l m : List Span) → Inside top n l → Inside top n m → Inside top n (l ++ m)
inside_append top n [] m h k = k
inside_append top n (s ∷ l) m h k = (h.0, inside_append top n l m h.1 k)

inside_from : (p : Plan) (at : ℕ) (up : Option ℕ) (n : ℕ) → up_word up ≤ n → Inside (at + length (page p)) (n + length (spans_from p at up n)) (spans_from p at up n)
inside_from blank at up n h = tt
inside_from (put t) at up n h = tt
inside_from (line i) at up n h = tt
inside_from (join p q) at up n h =
    let one = spans_from p at up n in
    let two = spans_from q (at + length (page p)) up (n + length one) in
    let b = length-append (page p) (page q) in
    let l = length-append one two in
    inside_append (at + length (page p ++ page q)) (n + length (one ++ two)) one two
    (inside_more (at + length (page p)) (at + length (page p ++ page q)) (n + length one) (n + length (one ++ two)) one (omega (arith, b)) (omega (arith, l)) (inside_from p at up n h))
    (inside_more (at + length (page p) + length (page q)) (at + length (page p ++ page q)) (n + length one + length two) (n + length (one ++ two)) two (omega (arith, b)) (omega (arith, l)) (inside_from q (at + length (page p)) up (n + length one) (omega arith)))
inside_from (mark m p) at up n h =
    let sub = spans_from p at (some n) (suc n) in
    ((omega arith, omega arith, omega arith), inside_more (at + length (page p)) (at + length (page p)) (suc n + length sub) (n + suc (length sub)) sub (omega arith) (omega arith) (inside_from p at (some n) (suc n) (omega arith)))
inside_from (fee m p) at up n h = inside_from p at up n h

-- no span starts or ends past its page, and its parent is one of the page's spans
pub inside : (p : Plan) → Inside (length (page p)) (length (spans p)) (spans p)
inside p = inside_more (0 + length (page p)) (length (page p)) (0 + length (spans p)) (length (spans p)) (spans p) (omega arith) (omega arith) (inside_from p 0 none 0 (omega arith))
