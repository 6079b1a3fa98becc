-- What the second pass writes: what a turn asks and leaves, what holds between the turns, and what the whole pass promises. `render` and `records` cite the last two.
use Rattle.std.specs.Prelude.{◌≡◌, List, [], ◌∷◌, ◌++◌, ℕ, ◌+◌, ◌-◌, ◌≤◌, ◌<◌, ◌^◌, length, get_or, set, take, drop}
use Rattle.layout.specs.Layout.{Plan, page}
use Rattle.machine.specs.Events.{done}
use Rattle.machine.specs.Materializer.{materialize}
use Rattle.materialize.specs.declared.Capacity.{Capacity}
use Rattle.materialize.specs.declared.Walk.{Walk}
use Rattle.materialize.specs.declared.Act.{Act}
use Rattle.materialize.specs.declared.Act.TheVariants.{Pass, Put, Line, Open, Close}
use Rattle.materialize.specs.declared.Mark.{Mark}
use Rattle.materialize.specs.declared.Mark.TheVariants.{Nothing, Open as Opens, Close as Closes}
use Rattle.materialize.specs.declared.Chosen.{Chosen}
use Rattle.materialize.specs.declared.Step.{Step}
use Rattle.materialize.specs.Rows.{Row, parent_word, span_rows, Fits, AllFit}
use Rattle.materialize.specs.Texts.{InBytes}
use Rattle.materialize.specs.Answer.{with_visits, over}
use Rattle.materialize.specs.Walks.{Around, ran, pile, works, plan, ahead, pages, ends, innermost, close, puts, Passing, Sound, Standing}

-- bs lies in l from a position on
abbrev pub wrote : List ℕ → ℕ → List ℕ → List ℕ
wrote bs at l = take at l ++ (bs ++ drop (at + length bs) l)

abbrev pub Under : ℕ → List ℕ → Type 0
Under n [] = Unit {0}
Under n (x ∷ o) = (x < n) × Under n o

abbrev pub depth_after : Act → Walk → List ℕ → List ℕ
depth_after Pass w h = h
depth_after (Put s l) w h = h
depth_after (Line i) w h = h
depth_after (Open k) w h = set h w.depth w.spans
depth_after Close w h = h

-- what an act marks
abbrev pub mark_of : Act → Walk → List ℕ → Mark
mark_of Pass w h = Nothing
mark_of (Put t l) w h = Nothing
mark_of (Line i) w h = Nothing
mark_of (Open k) w h = Opens w.spans k w.at (parent_word (innermost (pile h w.depth)))
mark_of Close w h = Closes (get_or h (w.depth - 1) 0) w.at

-- what a mark makes of the rows
abbrev pub marked : Mark → List Row → List Row
marked Nothing s = s
marked (Opens n k at up) s = set s n (k.0 ∷ at ∷ at ∷ up ∷ [])
marked (Closes n at) s = close s n at

-- the span of a mark is one of n, and its parent has a place in a span record
abbrev pub MarkFits : ℕ → Mark → Type 0
MarkFits n Nothing = Unit {0}
MarkFits n (Opens i k at up) = (i < n) × (up ≤ 2 ^ 32)
MarkFits n (Closes i at) = i < n

-- an annotation's number has 32 bits
abbrev pub ActFits : Act → Type 0
ActFits Pass = Unit {0}
ActFits (Put t l) = Unit {0}
ActFits (Line i) = Unit {0}
ActFits (Open k) = k.0 < 2 ^ 32
ActFits Close = Unit {0}

-- an act's promise
pub record Performed (a : Act) (w : Walk) (bytes h₀ h out₀ out : List ℕ) (m : Mark) : Type 0 where
  pub output_is : out ≡ wrote (puts bytes a) w.at out₀
  pub depth_is : h ≡ depth_after a w h₀
  pub mark_is : m ≡ mark_of a w h₀
  pub fits : ActFits a

-- what an act asks of the memory
abbrev pub Allowed : Act → Walk → List ℕ → List ℕ → List ℕ → Type 0
Allowed Pass w bytes h out = Unit {0}
Allowed (Put t l) w bytes h out = (t + l ≤ length bytes) × (w.at + l ≤ length out)
Allowed (Line i) w bytes h out = w.at + i < length out
Allowed (Open k) w bytes h out = (w.depth < length h) × Under (2 ^ 32) (pile h w.depth)
Allowed Close w bytes h out = (0 < w.depth) × (w.depth ≤ length h)

-- a layout that passes every test
pub record Passes (c : Capacity) (p : Plan) : Type 0 where
  pub around : Around
  pub visits : ℕ
  pub passed : ran c around 0 (materialize p) ≡ done (with_visits around.counts visits) tt

-- the promise of the second pass
pub record Written (p : Plan) (out₀ out : List ℕ) (s₀ s : List Row) : Type 0 where
  pub output_is : out ≡ over (page p) out₀
  pub spans_is : s ≡ over (span_rows p) s₀
  pub fits : AllFit (span_rows p)

-- between the turns of the second pass
pub record Writing (c : Capacity) (P X : List Row) (bytes : List ℕ) (root : ℕ) (S : List ℕ) (w : Walk) (out₀ out h : List ℕ) (s₀ s : List Row) : Type 0 where
  pub around : Around
  pub visits : ℕ
  pub passes : ran c around w.visits (ahead (works (plan P X bytes) S) w) ≡ done (with_visits around.counts visits) tt
  pub page_is : take w.at out ++ pages (works (plan P X bytes) S) ≡ page (plan P X bytes root)
  pub page_past : drop w.at out ≡ drop w.at out₀
  pub spans_is : ends (works (plan P X bytes) S) (pile h w.depth) w.at (take w.spans s) ≡ span_rows (plan P X bytes root)
  pub spans_past : drop w.spans s ≡ drop w.spans s₀
  pub below : Under w.spans (pile h w.depth)
  pub fits : (k : ℕ) → k < w.spans → Fits (get_or s k [])

-- what a turn of the second pass may rely on
pub record Turning (c : Capacity) (P X : List Row) (bytes e h out : List ℕ) (w : Walk) : Type 0 where
  pub standing : Standing c P X e w
  pub inside : InBytes X bytes
  pub depth_lent : c.depth ≤ length h
  pub output_lent : c.output ≤ length out
  pub passing : Passing c P X e w
  pub below : Under w.spans (pile h w.depth)

-- its promise: one visit more, by which the run is led on; a mark among the spans; and what holds between the turns, of any rows, holds again of these rows marked
pub record Stepped (c : Capacity) (P X : List Row) (bytes e₀ h₀ out₀ : List ℕ) (w : Walk) (e h out : List ℕ) (r : Step) : Type 0 where
  pub counted : r.walk.visits ≡ w.visits + 1
  pub in_range : r.walk.visits < 2 ^ 64
  pub fits : MarkFits c.spans r.mark
  pub leads : (i : Around) → ran c i w.visits (ahead (works (plan P X bytes) (pile e₀ w.top)) w) ≡ ran c i r.walk.visits (ahead (works (plan P X bytes) (pile e r.walk.top)) r.walk)
  pub sound : Sound c (length P) (pile e r.walk.top) r.walk
  pub writing : (root : ℕ) (o : List ℕ) (s₀ s : List Row) → c.spans ≤ length s → Writing c P X bytes root (pile e₀ w.top) w o out₀ h₀ s₀ s
      → Writing c P X bytes root (pile e r.walk.top) r.walk o out h s₀ (marked r.mark s)

-- what is in use is lent
pub record InUse (k : Chosen) (P X : List Row) (bytes : List ℕ) : Type 0 where
  pub plans_lent : k.plans ≤ length P
  pub texts_lent : k.texts ≤ length X
  pub bytes_lent : k.bytes ≤ length bytes
