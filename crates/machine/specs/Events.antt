-- What solver and materializer test and count, in their order, and what comes of it under bounds. Document 01, "Calls".
use Rattle.std.specs.Prelude.{Bool, true, false, cond, ℕ, ◌+◌, ◌^◌, max, leb, ltb}
use Rattle.cost.specs.Value.{domain_number}
use Rattle.cost.specs.declared.Reason.{Reason}
use Rattle.cost.specs.declared.Reason.TheVariants.{Column, Indent, Overflow, Burden}

-- the sizes, in the order of 13 to 21; stack bounds tasks, results and pending each
pub data Kind : Type 0 where
  stack memo kept frontier plans visit depth output spans : Kind

-- the greatest size needed of each kind so far (document 02, change 10)
pub record Needs : Type 0 where
  pub stack : ℕ
  pub memo : ℕ
  pub kept : ℕ
  pub frontier : ℕ
  pub plans : ℕ
  pub visit : ℕ
  pub depth : ℕ
  pub output : ℕ
  pub spans : ℕ

abbrev pub no_needs : Needs
no_needs = record { stack = 0; memo = 0; kept = 0; frontier = 0; plans = 0; visit = 0; depth = 0; output = 0; spans = 0 }

abbrev pub need_of : Needs → Kind → ℕ
need_of q stack = q.stack
need_of q memo = q.memo
need_of q kept = q.kept
need_of q frontier = q.frontier
need_of q plans = q.plans
need_of q visit = q.visit
need_of q depth = q.depth
need_of q output = q.output
need_of q spans = q.spans

-- the counts of SolveStats (its fit checks are always 0), and the visits; and the needs, which a refusal does not tell
pub record Counts : Type 0 where
  pub work_items : ℕ
  pub memo_hits : ℕ
  pub memo_misses : ℕ
  pub candidates_generated : ℕ
  pub candidates_pruned : ℕ
  pub peak_frontier : ℕ
  pub memo_entries : ℕ
  pub plan_nodes : ℕ
  pub visits : ℕ
  pub needs : Needs

abbrev pub no_counts : Counts
no_counts = record {
  work_items = 0;
  memo_hits = 0;
  memo_misses = 0;
  candidates_generated = 0;
  candidates_pruned = 0;
  peak_frontier = 0;
  memo_entries = 0;
  plan_nodes = 0;
  visits = 0;
  needs = no_needs;
}

-- sizes and limits
pub record Bounds : Type 0 where
  pub stack : ℕ
  pub memo : ℕ
  pub kept : ℕ
  pub frontier : ℕ
  pub plans : ℕ
  pub visit : ℕ
  pub depth : ℕ
  pub output : ℕ
  pub spans : ℕ
  pub work_limit : ℕ
  pub visit_limit : ℕ

abbrev pub size : Bounds → Kind → ℕ
size b stack = b.stack
size b memo = b.memo
size b kept = b.kept
size b frontier = b.frontier
size b plans = b.plans
size b visit = b.visit
size b depth = b.depth
size b output = b.output
size b spans = b.spans

-- a number of this sort is below 2 to this power
abbrev pub bits : Reason → ℕ
bits Column = 32
bits Indent = 32
bits Overflow = 128
bits Burden = 64

pub data Event : Type 0 where
  Need : Kind → ℕ → Event  -- a size is to be so much at least
  Within : Reason → ℕ → Event  -- a number is to have a place in its width
  Hit Miss Generated : Event  -- one unit of work, and the count that moves with it
  Visit : Event  -- one item is taken off the visit stack
  Pruned : ℕ → Event  -- so many candidates more
  Peak : ℕ → Event  -- a frontier of so many is finished
  Entries PlanNodes : ℕ → Event  -- the count is set
  Never : Event  -- what the Rust says cannot be (`expect`, `unreachable!`); no run comes to it

-- why a run stops
pub data Why : Type 0 where
  domain : Reason → Why
  work_spent : Why
  too_small : Kind → Why
  visits_spent : Why
  impossible : Why

-- document 01's number; 0 is none of them
abbrev pub number : Why → ℕ
number (domain r) = domain_number r
number work_spent = 12
number (too_small stack) = 13
number (too_small memo) = 14
number (too_small kept) = 15
number (too_small frontier) = 16
number (too_small plans) = 17
number (too_small visit) = 18
number (too_small depth) = 19
number (too_small output) = 20
number (too_small spans) = 21
number visits_spent = 22
number impossible = 0

-- ---- one event

-- it is not beyond its bound
abbrev pub passes : Bounds → Counts → Event → Bool
passes b k (Need x n) = leb n (size b x)
passes b k (Within r n) = ltb n (2 ^ bits r)
passes b k Hit = ltb k.work_items b.work_limit
passes b k Miss = ltb k.work_items b.work_limit
passes b k Generated = ltb k.work_items b.work_limit
passes b k Visit = ltb k.visits b.visit_limit
passes b k (Pruned n) = true
passes b k (Peak n) = true
passes b k (Entries n) = true
passes b k (PlanNodes n) = true
passes b k Never = false

-- why it stops where it is beyond, and the size that is needed
abbrev pub why : Event → Why
why (Need x n) = too_small x
why (Within r n) = domain r
why Hit = work_spent
why Miss = work_spent
why Generated = work_spent
why Visit = visits_spent
why (Pruned n) = impossible
why (Peak n) = impossible
why (Entries n) = impossible
why (PlanNodes n) = impossible
why Never = impossible

abbrev pub needed : Event → ℕ
needed (Need x n) = n
needed (Within r n) = 0
needed Hit = 0
needed Miss = 0
needed Generated = 0
needed Visit = 0
needed (Pruned n) = 0
needed (Peak n) = 0
needed (Entries n) = 0
needed (PlanNodes n) = 0
needed Never = 0

-- one of them is so much at least
abbrev pub raised : Needs → Kind → ℕ → Needs
raised q stack n = record { stack = max q.stack n; memo = q.memo; kept = q.kept; frontier = q.frontier; plans = q.plans; visit = q.visit; depth = q.depth; output = q.output; spans = q.spans }
raised q memo n = record { stack = q.stack; memo = max q.memo n; kept = q.kept; frontier = q.frontier; plans = q.plans; visit = q.visit; depth = q.depth; output = q.output; spans = q.spans }
raised q kept n = record { stack = q.stack; memo = q.memo; kept = max q.kept n; frontier = q.frontier; plans = q.plans; visit = q.visit; depth = q.depth; output = q.output; spans = q.spans }
raised q frontier n = record { stack = q.stack; memo = q.memo; kept = q.kept; frontier = max q.frontier n; plans = q.plans; visit = q.visit; depth = q.depth; output = q.output; spans = q.spans }
raised q plans n = record { stack = q.stack; memo = q.memo; kept = q.kept; frontier = q.frontier; plans = max q.plans n; visit = q.visit; depth = q.depth; output = q.output; spans = q.spans }
raised q visit n = record { stack = q.stack; memo = q.memo; kept = q.kept; frontier = q.frontier; plans = q.plans; visit = max q.visit n; depth = q.depth; output = q.output; spans = q.spans }
raised q depth n = record { stack = q.stack; memo = q.memo; kept = q.kept; frontier = q.frontier; plans = q.plans; visit = q.visit; depth = max q.depth n; output = q.output; spans = q.spans }
raised q output n = record { stack = q.stack; memo = q.memo; kept = q.kept; frontier = q.frontier; plans = q.plans; visit = q.visit; depth = q.depth; output = max q.output n; spans = q.spans }
raised q spans n = record { stack = q.stack; memo = q.memo; kept = q.kept; frontier = q.frontier; plans = q.plans; visit = q.visit; depth = q.depth; output = q.output; spans = max q.spans n }

abbrev pub with_needs : Counts → Needs → Counts
with_needs k q = record {
  work_items = k.work_items;
  memo_hits = k.memo_hits;
  memo_misses = k.memo_misses;
  candidates_generated = k.candidates_generated;
  candidates_pruned = k.candidates_pruned;
  peak_frontier = k.peak_frontier;
  memo_entries = k.memo_entries;
  plan_nodes = k.plan_nodes;
  visits = k.visits;
  needs = q;
}

-- a refusal's counts: without needs
abbrev pub bare : Counts → Counts
bare k = with_needs k no_needs

abbrev counts : ℕ → ℕ → ℕ → ℕ → ℕ → ℕ → ℕ → ℕ → ℕ → Needs → Counts
counts w h m g p t e n v q = record {
  work_items = w;
  memo_hits = h;
  memo_misses = m;
  candidates_generated = g;
  candidates_pruned = p;
  peak_frontier = t;
  memo_entries = e;
  plan_nodes = n;
  visits = v;
  needs = q;
}

-- the counts after it
abbrev pub counted : Counts → Event → Counts
counted k (Need x n) = with_needs k (raised k.needs x n)
counted k (Within r n) = k
counted k Hit = counts (k.work_items + 1) (k.memo_hits + 1) k.memo_misses k.candidates_generated k.candidates_pruned k.peak_frontier k.memo_entries k.plan_nodes k.visits k.needs
counted k Miss = counts (k.work_items + 1) k.memo_hits (k.memo_misses + 1) k.candidates_generated k.candidates_pruned k.peak_frontier k.memo_entries k.plan_nodes k.visits k.needs
counted k Generated = counts (k.work_items + 1) k.memo_hits k.memo_misses (k.candidates_generated + 1) k.candidates_pruned k.peak_frontier k.memo_entries k.plan_nodes k.visits k.needs
counted k Visit = counts k.work_items k.memo_hits k.memo_misses k.candidates_generated k.candidates_pruned k.peak_frontier k.memo_entries k.plan_nodes (k.visits + 1) k.needs
counted k (Pruned n) = counts k.work_items k.memo_hits k.memo_misses k.candidates_generated (k.candidates_pruned + n) k.peak_frontier k.memo_entries k.plan_nodes k.visits k.needs
counted k (Peak n) = counts k.work_items k.memo_hits k.memo_misses k.candidates_generated k.candidates_pruned (max k.peak_frontier n) k.memo_entries k.plan_nodes k.visits k.needs
counted k (Entries n) = counts k.work_items k.memo_hits k.memo_misses k.candidates_generated k.candidates_pruned k.peak_frontier n k.plan_nodes k.visits k.needs
counted k (PlanNodes n) = counts k.work_items k.memo_hits k.memo_misses k.candidates_generated k.candidates_pruned k.peak_frontier k.memo_entries n k.visits k.needs
counted k Never = k

-- ---- programs

-- events, and a result at the end; no bound is known here, and nothing is refused
pub data Prog (A : Type 0) : Type 0 where
  ret : A → Prog A
  emit : Event → Prog A → Prog A

infixl 20 ◌>>=◌
infixl 20 ◌>>◌
-- the one, and then what the other makes of its result
abbrev pub ◌>>=◌ : {A B : Type 0} → Prog A → (A → Prog B) → Prog B
ret a >>= f = f a
emit e p >>= f = emit e (p >>= f)

abbrev pub ◌>>◌ : {A B : Type 0} → Prog A → Prog B → Prog B
p >> q = p >>= (λ _. q)

-- one event
abbrev pub say : Event → Prog (Unit {0})
say e = emit e (ret tt)

-- every test of a size
abbrev pub need : Kind → ℕ → Prog (Unit {0})
need x n = say (Need x n)

-- ---- runs

-- the result; or why it stops, the needed size, and the counts where it stops
pub data Out (A : Type 0) : Type 0 where
  done : Counts → A → Out A
  stop : Why → ℕ → Counts → Out A

-- up to the first event beyond its bound; the needs are told of a result alone
abbrev pub run : {A : Type 0} → Bounds → Counts → Prog A → Out A
run b k (ret a) = done k a
run b k (emit e p) = cond (passes b k e) (run b (counted k e) p) (stop (why e) (needed e) (bare k))
