-- What callers go by: the arena read by number, layouts as the arena grows, the words of a pending plan.
use Rattle.std.specs.Prelude.{◌≡◌, Bool, true, false, cond, eqb, leb, Result, Ok, Err}
use Rattle.std.proofs.Math.Path.{refl, sym, ap, subst}
use Rattle.std.proofs.Common.{◌∙◌, ap₂, add-one, add-zero, eqb-true, leb-true, leb-false}
use mathlib.Core.List.{List, [], ◌∷◌, ◌++◌, append-nil}
use Prim.Native.Nat.{ℕ, zero, suc, ◌+◌, ◌≤◌, ◌<◌}
use native.Mathlib.Omega.{arith}
use Rattle.std.proofs.Math.ListN.{length, get_or, length-append}
use Rattle.std.proofs.lemmas.Bool.{eqb-false}
use Rattle.layout.specs.Document.{Word}
use Rattle.layout.specs.Layout.{Plan, blank, join, mark, fee}
use Rattle.plan.specs.declared.PlanNode.{PlanNode}
use Rattle.plan.specs.declared.PlanNode.TheVariants.{Empty, Text, Newline, Concat, Annotate, Penalty}
use Rattle.plan.specs.declared.PendingPlan.{PendingPlan}
use Rattle.plan.specs.declared.PendingPlan.TheVariants.{Existing, New}
use Rattle.plan.specs.declared.PlanId.{PlanId}
use Rattle.plan.specs.declared.Committed.{Committed}
use Rattle.plan.specs.declared.Full.{Full}
use Rattle.plan.specs.Records.{node_at, record_of, pending_of}
use Rattle.plan.specs.Arena.{arena, Pending, old, new, additions, numbered, Committing, room_for}
use Rattle.plan.specs.Layouts.{layout_of, read_layouts_after, layouts, layout_at, pending_layout, Fine, PendingFine, Ranked}

-- ---- the arena, read by number

get_last : {A : Type 0} (d : A) (l : List A) (x : A) → get_or (l ++ (x ∷ [])) (length l) d ≡ x
get_last d [] x = refl
get_last d (y ∷ l) x = get_last d l x

get_before : {A : Type 0} (d : A) (l m : List A) (i : ℕ) → i < length l → get_or (l ++ m) i d ≡ get_or l i d
get_before d [] m i h = absurd (omega arith)
get_before d (y ∷ l) m zero h = refl
get_before d (y ∷ l) m (suc i) h = get_before d l m i (omega arith)

pub arena_length : (rows : List (List ℕ)) (n : ℕ) → length (arena rows n) ≡ n
unfolding arena
arena_length rows zero = refl
arena_length rows (suc n) = length-append (arena rows n) (node_at rows n ∷ []) ∙ ap (λ z. z + 1) (arena_length rows n) ∙ add-one n

-- cases of i < n + 1
last_or : (i n : ℕ) (P : ℕ → Type 0) → i < suc n → (i < n → P i) → P n → P i
last_or i n P h before here = go (eqb i n) refl
  where
    go : (t : Bool) → eqb i n ≡ t → P i
    go true e = subst P (sym (eqb-true i n e)) here
    go false e = let w = eqb-false i n e in before (omega (arith, w))

-- what `plan_node` answers for a number below the count
pub arena_node : (rows : List (List ℕ)) (n i : ℕ) → i < n → get_or (arena rows n) i Empty ≡ node_at rows i
unfolding arena
arena_node rows zero i h = absurd (omega arith)
arena_node rows (suc n) i h =
    last_or i n (λ z. get_or (arena rows n ++ (node_at rows n ∷ [])) z Empty ≡ node_at rows z) h
    (λ l. get_before Empty (arena rows n) (node_at rows n ∷ []) i (rw (arena_length rows n) l) ∙ arena_node rows n i l)
    (subst (λ z. get_or (arena rows n ++ (node_at rows n ∷ [])) z Empty ≡ node_at rows n) (arena_length rows n) (get_last Empty (arena rows n) (node_at rows n)))

-- ---- layouts as the arena grows

module _ (texts : ℕ → Word) where
  after_append : (ps : List Plan) (l m : List PlanNode) → read_layouts_after texts ps (l ++ m) ≡ read_layouts_after texts (read_layouts_after texts ps l) m
  unfolding read_layouts_after
  after_append ps [] m = refl
  after_append ps (x ∷ l) m = after_append (ps ++ (layout_of texts ps x ∷ [])) l m

  after_length : (ps : List Plan) (l : List PlanNode) → length (read_layouts_after texts ps l) ≡ length ps + length l
  unfolding read_layouts_after
  after_length ps [] = omega arith
  after_length ps (x ∷ l) =
      let y = layout_of texts ps x in
      omega (arith, after_length (ps ++ (y ∷ [])) l, length-append ps (y ∷ []))

  after_old : (ps : List Plan) (l : List PlanNode) (i : ℕ) → i < length ps → get_or (read_layouts_after texts ps l) i blank ≡ get_or ps i blank
  unfolding read_layouts_after
  after_old ps [] i h = refl
  after_old ps (x ∷ l) i h =
      let y = layout_of texts ps x in
      after_old (ps ++ (y ∷ [])) l i (omega (arith, length-append ps (y ∷ []))) ∙ get_before blank ps (y ∷ []) i h

  pub layouts_length : (l : List PlanNode) → length (layouts texts l) ≡ length l
  unfolding layouts
  layouts_length l = omega (arith, after_length [] l)

  -- an old number keeps its layout
  pub layout_grow : (l m : List PlanNode) (i : ℕ) → i < length l → layout_at texts (l ++ m) i ≡ layout_at texts l i
  unfolding layouts
  layout_grow l m i h =
      ap (λ z. get_or z i blank) (after_append [] l m) ∙ after_old (read_layouts_after texts [] l) m i (omega (arith, after_length [] l))

  pub layouts_new : (l : List PlanNode) (x : PlanNode) → layouts texts (l ++ (x ∷ [])) ≡ layouts texts l ++ (layout_of texts (layouts texts l) x ∷ [])
  unfolding layouts read_layouts_after
  layouts_new l x = after_append [] l (x ∷ [])

  -- a new one has the layout of its record
  pub layout_new : (l : List PlanNode) (x : PlanNode) → layout_at texts (l ++ (x ∷ [])) (length l) ≡ layout_of texts (layouts texts l) x
  layout_new l x =
      ap (λ z. get_or z (length l) blank) (layouts_new l x)
      ∙ subst (λ z. get_or (layouts texts l ++ (layout_of texts (layouts texts l) x ∷ [])) z blank ≡ layout_of texts (layouts texts l) x)
      (layouts_length l) (get_last blank (layouts texts l) (layout_of texts (layouts texts l) x))

  -- a record's layout reads those of lower numbers alone
  pub layout_same : (ps qs : List Plan) (t n : ℕ) (x : PlanNode) → Fine t n x → ((j : ℕ) → j < n → get_or ps j blank ≡ get_or qs j blank)
      → layout_of texts ps x ≡ layout_of texts qs x
  layout_same ps qs t n Empty h k = refl
  layout_same ps qs t n (Text w) h k = refl
  layout_same ps qs t n (Newline i) h k = refl
  layout_same ps qs t n (Concat l r) h k = ap₂ join (k l.0 h.0) (k r.0 h.1)
  layout_same ps qs t n (Annotate a c) h k = ap (mark a.0) (k c.0 h)
  layout_same ps qs t n (Penalty a c) h k = ap (fee a) (k c.0 h)

  after_is : (ps : List Plan) (l : List PlanNode) (t j : ℕ) → j < length l → Fine t (length ps + j) (get_or l j Empty)
      → get_or (read_layouts_after texts ps l) (length ps + j) blank ≡ layout_of texts (read_layouts_after texts ps l) (get_or l j Empty)
  unfolding read_layouts_after
  after_is ps [] t j h w = absurd (omega arith)
  after_is ps (x ∷ l) t zero h w =
      let y = layout_of texts ps x in
      let qs = ps ++ (y ∷ []) in
      after_old qs l (length ps + 0) (omega (arith, length-append ps (y ∷ [])))
      ∙ subst (λ z. get_or qs z blank ≡ y) (sym (add-zero (length ps))) (get_last blank ps y)
      ∙ layout_same ps (read_layouts_after texts qs l) t (length ps + 0) x w (λ j m. sym
      (after_old qs l j (omega (arith, length-append ps (y ∷ []))) ∙ get_before blank ps (y ∷ []) j (omega arith)))
  after_is ps (x ∷ l) t (suc j) h w =
      let y = layout_of texts ps x in
      let qs = ps ++ (y ∷ []) in
      let e : length qs + j ≡ length ps + suc j = omega (arith, length-append ps (y ∷ [])) in
      subst (λ z. get_or (read_layouts_after texts qs l) z blank ≡ layout_of texts (read_layouts_after texts qs l) (get_or l j Empty)) e
      (after_is qs l t j (omega arith) (subst (λ z. Fine t z (get_or l j Empty)) (sym e) w))

  -- a number unfolds to its record's layout, made of the layouts that the record names
  pub layout_is : (t : ℕ) (l : List PlanNode) → Ranked t l → (i : ℕ) → i < length l → layout_at texts l i ≡ layout_of texts (layouts texts l) (get_or l i Empty)
  unfolding layouts
  layout_is t l r i h =
      let e : 0 + i ≡ i = omega arith in
      subst (λ z. get_or (read_layouts_after texts [] l) z blank ≡ layout_of texts (read_layouts_after texts [] l) (get_or l i Empty)) e
      (after_is [] l t i h (subst (λ z. Fine t z (get_or l i Empty)) (sym e) (r.fine i h)))

  -- committed, a pending plan has the layout that it had
  pub layout_commit : (l : List PlanNode) (p : Pending) → layout_at texts (l ++ additions p) (numbered (length l) p).0 ≡ pending_layout texts l p
  layout_commit l (old p) = ap (λ z. layout_at texts z p.0) (append-nil l)
  layout_commit l (new x) = layout_new l x

  -- a pending plan keeps its layout while others are committed
  pub pending_grow : (t : ℕ) (l m : List PlanNode) (p : Pending) → PendingFine t (length l) p → pending_layout texts (l ++ m) p ≡ pending_layout texts l p
  pending_grow t l m (old p) h = layout_grow l m p.0 h
  pending_grow t l m (new x) h = layout_same (layouts texts (l ++ m)) (layouts texts l) t (length l) x h (layout_grow l m)

-- ---- numbers stay in range

pub fine_more : (t n m : ℕ) (x : PlanNode) → n ≤ m → Fine t n x → Fine t m x
fine_more t n m Empty h w = tt
fine_more t n m (Text x) h w = w
fine_more t n m (Newline i) h w = tt
fine_more t n m (Concat a b) h w = (omega (arith, w.0), omega (arith, w.1))
fine_more t n m (Annotate a c) h w = omega arith
fine_more t n m (Penalty k c) h w = omega arith

pub pending_fine_more : (t n m : ℕ) (p : Pending) → n ≤ m → PendingFine t n p → PendingFine t m p
pending_fine_more t n m (old p) h w = omega arith
pending_fine_more t n m (new x) h w = fine_more t n m x h w

-- a committed plan is in the arena
pub number_low : (t n : ℕ) (p : Pending) → PendingFine t n p → (numbered n p).0 < n + length (additions p)
number_low t n (old p) h = omega arith
number_low t n (new x) h = omega arith

pub ranked_none : (t : ℕ) → Ranked t []
ranked_none t = record { fine = λ i h. absurd (omega arith) }

ranked_one : (t : ℕ) (l : List PlanNode) (x : PlanNode) → Ranked t l → Fine t (length l) x → Ranked t (l ++ (x ∷ []))
ranked_one t l x r w = record {
  fine = λ i h. last_or i (length l) (λ z. Fine t z (get_or (l ++ (x ∷ [])) z Empty)) (omega (arith, h, length-append l (x ∷ [])))
      (λ g. rw (get_before Empty l (x ∷ []) i g) (r.fine i g)) (rw (get_last Empty l x) w);
}

pub ranked_commit : (t : ℕ) (l : List PlanNode) (p : Pending) → Ranked t l → PendingFine t (length l) p → Ranked t (l ++ additions p)
ranked_commit t l (old p) r w = subst (λ z. Ranked t z) (sym (append-nil l)) r
ranked_commit t l (new x) r w = ranked_one t l x r w

-- ---- the same of the rows, by what `plan_node` and `commit_plan` promise

module _ (t : ℕ) (rows : List (List ℕ)) (n : ℕ) (ok : Ranked t (arena rows n)) where
  -- a plan below the count: its record names texts that are there and lower plans, and its layout is made of theirs
  pub node_fine : (i : ℕ) → i < n → Fine t i (node_at rows i)
  node_fine i h = subst (λ x. Fine t i x) (arena_node rows n i h) (ok.fine i (rw (arena_length rows n) h))

  pub node_layout : (texts : ℕ → Word) (i : ℕ) → i < n → layout_at texts (arena rows n) i ≡ layout_of texts (layouts texts (arena rows n)) (node_at rows i)
  node_layout texts i h =
      layout_is texts t (arena rows n) ok i (rw (arena_length rows n) h)
      ∙ ap (λ x. layout_of texts (layouts texts (arena rows n)) x) (arena_node rows n i h)

  module _ (p : Pending) (fine : PendingFine t n p) (rows' : List (List ℕ)) (r : Committed) (done : Committing rows n p rows' r) where
    here : PendingFine t (length (arena rows n)) p
    here = rw (arena_length rows n) fine

    pub commit_ranked : Ranked t (arena rows' r.count)
    commit_ranked = rw done.grown (ranked_commit t (arena rows n) p ok here)

    pub commit_low : r.plan.0 < r.count
    commit_low = rw (done.plan, done.count) (number_low t n p fine)

    pub commit_layout : (texts : ℕ → Word) → layout_at texts (arena rows' r.count) r.plan.0 ≡ pending_layout texts (arena rows n) p
    commit_layout texts =
        ap (λ l. layout_at texts l r.plan.0) done.grown
        ∙ ap (λ (z : PlanId). layout_at texts (arena rows n ++ additions p) z.0) (done.plan ∙ ap (λ z. numbered z p) (sym (arena_length rows n)))
        ∙ layout_commit texts (arena rows n) p

    pub commit_old : (texts : ℕ → Word) (i : ℕ) → i < n → layout_at texts (arena rows' r.count) i ≡ layout_at texts (arena rows n) i
    commit_old texts i h =
        ap (λ l. layout_at texts l i) done.grown ∙ layout_grow texts (arena rows n) (additions p) i (rw (arena_length rows n) h)

-- ---- the words of a pending plan give it back

pub pending_back : (p : PendingPlan) → pending_of (record_of p).kind (record_of p).first (record_of p).second ≡ p
pending_back (Existing p) = refl
pending_back (New Empty) = refl
pending_back (New (Text t)) = refl
pending_back (New (Newline i)) = refl
pending_back (New (Concat l r)) = refl
pending_back (New (Annotate a c)) = refl
pending_back (New (Penalty n c)) = refl

-- ---- the size test

pub room_enough : (required size : ℕ) → room_for required size ≡ Ok tt → required ≤ size
room_enough required size e = go (leb required size) refl e
  where
    go : (t : Bool) → leb required size ≡ t → cond {A = Result Unit Full} t (Ok tt) (Err (record { needed = required })) ≡ Ok tt → required ≤ size
    go true p q = leb-true required size p
    go false p q = let w : ◌≡◌ {A = ℕ} 0 1 = cc in absurd (omega arith)

pub room_full : (required size : ℕ) (d : Full) → room_for required size ≡ Err d → (size < required) × (d.needed ≡ required)
room_full required size d e = go (leb required size) refl e
  where
    go : (t : Bool) → leb required size ≡ t → cond {A = Result Unit Full} t (Ok tt) (Err (record { needed = required })) ≡ Err d → (size < required) × (d.needed ≡ required)
    go true p q = let w : ◌≡◌ {A = ℕ} 0 1 = cc in absurd (omega arith)
    go false p q = let w : record { needed = required } ≡ d = cc in (leb-false required size p, sym (ap (λ (z : Full). z.needed) w))
