-- What the visit stack will come to, what a turn of the walk promises, and what the first pass does (`Answered`, which `render` cites).
use Rattle.std.specs.Prelude.{◌≡◌, Result, Ok, Err, Bool, false, cond, List, [], ◌∷◌, ◌++◌, map, ℕ, zero, suc, ◌+◌, ◌-◌, ◌≤◌, ◌<◌, ◌^◌, max, leb, length, get_or, set, take, drop, replicate}
use Rattle.std.proofs.Math.Option.{Option, none, some}
use Rattle.file_tables.specs.declared.AnnotationId.{AnnotationId}
use Rattle.layout.specs.Layout.{Plan, page}
use Rattle.layout.specs.Spans.{spans_from}
use Rattle.plan.specs.Arena.{arena}
use Rattle.plan.specs.Layouts.{Ranked}
use Rattle.machine.specs.Events.{Bounds, Counts, visit, depth, Prog, ret, emit, ◌>>◌, Out, done, run}
use Rattle.machine.specs.Events.{Visit as VisitEvent}
use Rattle.machine.specs.Materializer.{marks, visit_plan, materialize}
use Rattle.machine.specs.Enough.{peak}
use Rattle.machine.specs.Just.{bare_out}
use Rattle.materialize.specs.declared.Capacity.{Capacity}
use Rattle.materialize.specs.declared.Exhausted.{Exhausted}
use Rattle.materialize.specs.declared.Exhausted.TheVariants.{Visit, Depth, Output, Spans}
use Rattle.materialize.specs.declared.Walk.{Walk}
use Rattle.materialize.specs.declared.Act.{Act}
use Rattle.materialize.specs.declared.Act.TheVariants.{Pass, Put, Line, Open, Close}
use Rattle.materialize.specs.declared.Passed.{Passed}
use Rattle.materialize.specs.Rows.{Row, row_of}
use Rattle.materialize.specs.Texts.{layout, InBytes}
use Rattle.materialize.specs.Answer.{Measured, passed_with, with_visits, told, Sized, Needing, Small}

-- ---- runs

-- where a walk begins: the root is the one item
abbrev pub begin : Walk
begin = record { top = 1; depth = 0; at = 0; spans = 0; visits = 0 }

-- the solver's bounds and counts, whatever they are
pub record Around : Type 0 where
  pub bounds : Bounds
  pub counts : Counts

abbrev pub limits : Capacity → Bounds → Bounds
limits c b = record {
  stack = b.stack;
  memo = b.memo;
  kept = b.kept;
  frontier = b.frontier;
  plans = b.plans;
  visit = c.visit;
  depth = c.depth;
  output = c.output;
  spans = c.spans;
  work_limit = b.work_limit;
  visit_limit = c.visit_limit;
}

-- what comes of a program after v visits, without its needs
unfoldable pub ran : Capacity → Around → ℕ → Prog (Unit {0}) → Out (Unit {0})
ran c o v p = bare_out (run (limits c o.bounds) (with_visits o.counts v) p)

-- ---- the visit stack

pub data Work : Type 0 where
  Lay : Plan → Work
  Exit : Work

-- a word of the visit stack: 0 closes the last open span, and i + 1 is the plan i
abbrev pub item : (ℕ → Plan) → ℕ → Work
item g zero = Exit
item g (suc i) = Lay (g i)

-- the first n words as a stack, the last pushed first
abbrev pub pile : List ℕ → ℕ → List ℕ
pile s zero = []
pile s (suc n) = get_or s n 0 ∷ pile s n

abbrev pub works : (ℕ → Plan) → List ℕ → List Work
works g S = map (item g) S

abbrev pub plan : List Row → List Row → List ℕ → ℕ → Plan
plan P X bytes i = layout P (length P) X bytes i

-- the program that is left, with d spans open, at bytes and n spans so far
abbrev pub rest : List Work → ℕ → ℕ → ℕ → Prog (Unit {0})
rest [] d at n = ret tt
rest (Lay p ∷ w) d at n = visit_plan p (length w) d at n >> rest w d (at + length (page p)) (n + marks p)
rest (Exit ∷ w) d at n = emit VisitEvent (rest w (d - 1) at n)

abbrev pub ahead : List Work → Walk → Prog (Unit {0})
ahead W w = rest W w.depth w.at w.spans

abbrev pub pages : List Work → List ℕ
pages [] = []
pages (Lay p ∷ w) = page p ++ pages w
pages (Exit ∷ w) = pages w

abbrev pub marks_in : List Work → ℕ
marks_in [] = 0
marks_in (Lay p ∷ w) = marks p + marks_in w
marks_in (Exit ∷ w) = marks_in w

abbrev pub exits : List ℕ → ℕ
exits [] = 0
exits (zero ∷ S) = suc (exits S)
exits (suc i ∷ S) = exits S

-- ---- open spans, the last opened first

-- the span around what opens next
abbrev pub innermost : List ℕ → Option ℕ
innermost [] = none
innermost (n ∷ o) = some n

abbrev pub span_row : ℕ → ℕ → ℕ → Option ℕ → Row
span_row k s e up = row_of (record { annotation = k; start = s; end = e; parent = up })

abbrev pub close : List Row → ℕ → ℕ → List Row
close s n e = set s n (set (get_or s n []) 2 e)

-- what the rows so far, s, with o open, will come to
abbrev pub ends : List Work → List ℕ → ℕ → List Row → List Row
ends [] o at s = s
ends (Lay p ∷ w) o at s = ends w o (at + length (page p)) (s ++ map row_of (spans_from p at (innermost o) (length s)))
ends (Exit ∷ w) [] at s = ends w [] at s
ends (Exit ∷ w) (n ∷ o) at s = ends w o at (close s n at)

-- ---- acts

-- what an act puts on the page, and what it does to open spans and rows
abbrev pub puts : List ℕ → Act → List ℕ
puts bytes Pass = []
puts bytes (Put s l) = take l (drop s bytes)
puts bytes (Line i) = 10 ∷ replicate i 32
puts bytes (Open k) = []
puts bytes Close = []

abbrev pub tail : List ℕ → List ℕ
tail [] = []
tail (n ∷ o) = o

abbrev pub opened : Act → ℕ → List ℕ → List ℕ
opened Pass n o = o
opened (Put s l) n o = o
opened (Line i) n o = o
opened (Open k) n o = n ∷ o
opened Close n o = tail o

abbrev pub close_last : List Row → List ℕ → ℕ → List Row
close_last s [] at = s
close_last s (n ∷ o) at = close s n at

abbrev pub rows : Act → ℕ → List ℕ → List Row → List Row
rows Pass at o s = s
rows (Put t l) at o s = s
rows (Line i) at o s = s
rows (Open k) at o s = s ++ (span_row k.0 at at (innermost o) ∷ [])
rows Close at o s = close_last s o at

-- ---- the parts of a turn, once an item is taken

-- what a turn comes to
abbrev pub Visited : Type 0
Visited = Result (Walk × Act) Passed

abbrev pub went : Walk → Act → Visited
went z a = Ok (z, a)

abbrev pub stopped : Exhausted → ℕ → ℕ → Visited
stopped e needed v = Err (passed_with e needed v)

abbrev pub at_top : Walk → ℕ → Walk
at_top w t = record { top = t; depth = w.depth; at = w.at; spans = w.spans; visits = w.visits }

abbrev pub at_byte : Walk → ℕ → Walk
at_byte w n = record { top = w.top; depth = w.depth; at = n; spans = w.spans; visits = w.visits }

abbrev pub one_more : Walk → Walk
one_more w = record { top = w.top; depth = w.depth + 1; at = w.at; spans = w.spans + 1; visits = w.visits }

-- a text needs the bytes so far and all of its own
abbrev pub text_turn : Capacity → Walk → ℕ → ℕ → Visited
text_turn c w s l = cond (leb (w.at + l) c.output) (went (at_byte w (w.at + l)) (Put s l)) (stopped Output (w.at + l) w.visits)

-- a newline and its spaces are put one by one: the first that has no place needs one more than the size
abbrev pub newline_turn : Capacity → Walk → ℕ → Visited
newline_turn c w i = cond (leb (w.at + i + 1) c.output) (went (at_byte w (w.at + i + 1)) (Line i)) (stopped Output (c.output + 1) w.visits)

-- two words are pushed
abbrev pub two_turn : Capacity → Walk → Act → Visited
two_turn c w a = cond (leb (w.top + 2) c.visit) (went (at_top w (w.top + 2)) a) (stopped Visit (w.top + 2) w.visits)

abbrev pub two_words : Capacity → Walk → ℕ → ℕ → List ℕ → List ℕ
two_words c w below above e = cond (leb (w.top + 2) c.visit) (set (set e w.top below) (w.top + 1) above) e

-- an Annotate: spans, then depth, then the visit stack
abbrev pub annotate_turn : Capacity → Walk → AnnotationId → Visited
annotate_turn c w k =
    cond (leb (w.spans + 1) c.spans)
    (cond (leb (w.depth + 1) c.depth) (two_turn c (one_more w) (Open k)) (stopped Depth (w.depth + 1) w.visits))
    (stopped Spans (w.spans + 1) w.visits)

abbrev pub annotate_words : Capacity → Walk → ℕ → List ℕ → List ℕ
annotate_words c w above e = cond (leb (w.spans + 1) c.spans) (cond (leb (w.depth + 1) c.depth) (two_words c w 0 above e) e) e

-- ---- what is not tested

-- a turn that passes its tests
pub record Goes (r : Visited) : Type 0 where
  pub walk : Walk
  pub act : Act
  pub is : r ≡ went walk act

abbrev pub Sure : Bool → Visited → Type 0
Sure tested r = tested ≡ false → Goes r

-- what is left passes every test, for some bytes and whatever is around
pub record Passing (c : Capacity) (P X : List Row) (e : List ℕ) (w : Walk) : Type 0 where
  pub bytes : List ℕ
  pub inside : InBytes X bytes
  pub around : Around
  pub visits : ℕ
  pub passes : ran c around w.visits (ahead (works (plan P X bytes) (pile e w.top)) w) ≡ done (with_visits around.counts visits) tt

-- ---- between the turns

abbrev pub Valid : ℕ → List ℕ → Type 0
Valid n [] = Unit {0}
Valid n (x ∷ S) = (x ≤ n) × Valid n S

pub record Sound (c : Capacity) (n : ℕ) (S : List ℕ) (w : Walk) : Type 0 where
  pub top_le : w.top ≤ c.visit
  pub at_le : w.at ≤ c.output
  pub visits_le : w.visits ≤ c.visit_limit
  pub spans_le : w.spans ≤ c.spans
  pub depth_le : w.depth ≤ c.depth
  pub depth_is : w.depth ≡ exits S
  pub valid : Valid n S

-- what a turn may rely on
pub record Standing (c : Capacity) (P X : List Row) (e : List ℕ) (w : Walk) : Type 0 where
  pub some_left : 0 < w.top
  pub visit_lent : c.visit ≤ length e
  pub small : Small c
  pub few : length P < 2 ^ 32
  pub ranked : Ranked (length X) (arena P (length P))
  pub sound : Sound c (length P) (pile e w.top) w

-- what an act may rely on
abbrev pub Room : Act → ℕ → Walk → Walk → Type 0
Room Pass n w z = (z.spans ≡ w.spans) × (z.depth ≡ w.depth)
Room (Put s l) n w z = (z.spans ≡ w.spans) × (z.depth ≡ w.depth) × (s + l ≤ n)
Room (Line i) n w z = (z.spans ≡ w.spans) × (z.depth ≡ w.depth)
Room (Open k) n w z = (z.spans ≡ w.spans + 1) × (z.depth ≡ w.depth + 1)
Room Close n w z = (z.spans ≡ w.spans) × (w.depth ≡ z.depth + 1)

-- from the works W the walk has come to U by the act a; of visit stack and open spans it needs no more than they hold then, or than is needed further on
pub record Moved (c : Capacity) (o : Around) (bytes : List ℕ) (W : List Work) (w : Walk) (U : List Work) (z : Walk) (a : Act) : Type 0 where
  pub leads : ran c o w.visits (ahead W w) ≡ ran c o z.visits (ahead U z)
  pub put : pages W ≡ puts bytes a ++ pages U
  pub at_is : z.at ≡ w.at + length (puts bytes a)
  pub marked : z.spans + marks_in U ≡ w.spans + marks_in W
  pub spanned : (h : List ℕ) (s : List Row) → length s ≡ w.spans → ends W h w.at s ≡ ends U (opened a w.spans h) z.at (rows a w.at h s)
  pub room : Room a (length bytes) w z
  pub counted : z.visits ≡ w.visits + 1
  pub highest : max w.top (peak visit (ahead W w)) ≡ max (max w.top z.top) (peak visit (ahead U z))
  pub deepest : max w.depth (peak depth (ahead W w)) ≡ max (max w.depth z.depth) (peak depth (ahead U z))

pub record Walked (c : Capacity) (o : Around) (P X : List Row) (bytes S : List ℕ) (w : Walk) (U : List ℕ) (z : Walk) (a : Act) : Type 0 where
  pub moved : Moved c o bytes (works (plan P X bytes) S) w (works (plan P X bytes) U) z a
  pub sound : Sound c (length P) U z

-- the promise of a turn: e, x are the visit stack's words before and after
abbrev pub Turned : Capacity → Around → List Row → List Row → List ℕ → List ℕ → Walk → List ℕ → Visited → Type 0
Turned c o P X bytes e w x (Ok y) = Walked c o P X bytes (pile e w.top) w (pile x y.0.top) y.0 y.1
Turned c o P X bytes e w x (Err q) = ran c o w.visits (ahead (works (plan P X bytes) (pile e w.top)) w) ≡ told o.counts (Err q)

-- the promise of the first pass
pub record Answered (c : Capacity) (p : Plan) (r : Measured) : Type 0 where
  pub answer : (o : Around) → told o.counts r ≡ ran c o 0 (materialize p)
  pub sized : Sized p r
  pub needing : Needing p r
