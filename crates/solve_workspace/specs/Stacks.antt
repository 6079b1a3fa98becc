-- Laws of the stacks of rows.
use Rattle.std.specs.Prelude.{◌≡◌, refl, List, [], ◌∷◌, ◌++◌, ℕ, zero, suc, ◌+◌, ◌≤◌, ◌<◌, max, length, take, get_or, set}
use Rattle.std.proofs.Common.{sym, ap, ◌∙◌, add-one, arith, le-leb, get_or-set_same, get_or-set_other, take-suc-set, length-take-le, get_or-take}
use Rattle.std.proofs.lemmas.List.{map-append, length-map}
use Rattle.std.proofs.lemmas.Bool.{lt-leb}
use Rattle.std.proofs.Math.ListN.{get_or-map, get_or-eq_default}
use Rattle.machine.specs.Events.{Counts, Prog, ret}
use Rattle.machine.specs.Model.{Task, State, range, Candidate, Scratch, no_candidate, got}
use Rattle.machine.specs.Solver.{push_exact_task, push_exact_result, push_pending, pop_exact_result}
use Rattle.solve_workspace.specs.declared.Bounds.{Bounds}
use Rattle.solve_workspace.specs.declared.Peaks.{Peaks}
use Rattle.solve_workspace.specs.declared.Registers.{Registers}
use Rattle.solve_workspace.specs.declared.Candidate.{Candidate as Code}
use Rattle.solve_workspace.specs.declared.Why.{Why}
use Rattle.solve_workspace.specs.declared.Why.TheVariants.{Stack}
use Rattle.solve_workspace.specs.declared.Reached.TheVariants.{Go, Stop}
use Rattle.solve_workspace.specs.Meets.{counts, Sound, Meets}
use Rattle.solve_workspace.specs.Rows.{Row, at, low, pile, row_list, task_of, range_of, scratch_of, candidate_of, candidate, abs}

pub pile_length : {A : Type 0} (d : Row → A) (rows : List Row) (n : ℕ) → length (pile d rows n) ≡ n
pile_length d rows zero = refl
pile_length d rows (suc n) = ap suc (pile_length d rows n)

pub pile_set : {A : Type 0} (d : Row → A) (rows : List Row) (n i : ℕ) (x : Row) → n ≤ i → pile d (set rows i x) n ≡ pile d rows n
pile_set d rows zero i x h = refl
pile_set d rows (suc n) i x h = rw (get_or-set_other rows i n x [] (λ e. omega arith), pile_set d rows n i x (omega arith))

pub pile_push : {A : Type 0} (d : Row → A) (rows : List Row) (i : ℕ) (x : Row) → i < length rows → pile d (set rows i x) (i + 1) ≡ d x ∷ pile d rows i
pile_push d rows i x h = rw (add-one, get_or-set_same rows i x [], pile_set d rows i i x (omega arith))

pub row_list_length : {A : Type 0} (d : Row → A) (rows : List Row) (n : ℕ) → n ≤ length rows → length (row_list d rows n) ≡ n
row_list_length d rows n h = length-map (take n rows) d ∙ length-take-le n rows h

pub row_list_push : {A : Type 0} (d : Row → A) (rows : List Row) (i : ℕ) (x : Row) → i < length rows → row_list d (set rows i x) (i + 1) ≡ row_list d rows i ++ (d x ∷ [])
row_list_push d rows i x h = rw (add-one, take-suc-set rows i x h, map-append d (take i rows) (x ∷ []))

-- the registers with one of them changed
abbrev pub with_tasks_to : Registers → ℕ → Registers
with_tasks_to s n = record { tasks = n; results = s.results; pending = s.pending; memo = s.memo; kept = s.kept; plans = s.plans; start = s.start; len = s.len; builder = s.builder; stats = s.stats; peaks = s.peaks }

pub sound_tasks : {b : Bounds} {s : Registers} (n : ℕ) → Sound b s → n ≤ b.stack → Sound b (with_tasks_to s n)
sound_tasks n h l = record { hits = h.hits; misses = h.misses; generated = h.generated; pruned = h.pruned; work = h.work; tasks = l; results = h.results; pending = h.pending; memo = h.memo; kept = h.kept; plans = h.plans; stack = h.stack }

abbrev pub with_peaks : Registers → Peaks → Registers
with_peaks s q = record { tasks = s.tasks; results = s.results; pending = s.pending; memo = s.memo; kept = s.kept; plans = s.plans; start = s.start; len = s.len; builder = s.builder; stats = s.stats; peaks = q }

-- nothing else depends on them, and a stop does not tell them
pub sound_peaks : {b : Bounds} (s : Registers) (q : Peaks) → Sound b s → Sound b (with_peaks s q)
sound_peaks s q h = record { hits = h.hits; misses = h.misses; generated = h.generated; pruned = h.pruned; work = h.work; tasks = h.tasks; results = h.results; pending = h.pending; memo = h.memo; kept = h.kept; plans = h.plans; stack = h.stack }

pub stopped_alike : {A : Type 0} {b : Bounds} {k : Counts} {p : Prog A} {f : Registers → A} {w : Why} {n : ℕ} (s : Registers) (q : Peaks) → Meets b k p (Stop w n (with_peaks s q)) f → Meets b k p (Stop w n s) f
stopped_alike s q h = record { is = h.is; sound = tt }

-- a stack of n was needed
abbrev pub stacked : ℕ → Registers → Registers
stacked n s = with_peaks s (record { stack = max s.peaks.stack n; memo = s.peaks.memo; frontier = s.peaks.frontier })

-- one more on a stack
abbrev pub tasks_pushed : Registers → Registers
tasks_pushed s = stacked (s.tasks + 1) (with_tasks_to s (s.tasks + 1))

abbrev pub with_results_to : Registers → ℕ → Registers
with_results_to s n = record { tasks = s.tasks; results = n; pending = s.pending; memo = s.memo; kept = s.kept; plans = s.plans; start = s.start; len = s.len; builder = s.builder; stats = s.stats; peaks = s.peaks }

pub sound_results : {b : Bounds} {s : Registers} (n : ℕ) → Sound b s → n ≤ b.stack → Sound b (with_results_to s n)
sound_results n h l = record { hits = h.hits; misses = h.misses; generated = h.generated; pruned = h.pruned; work = h.work; tasks = h.tasks; results = l; pending = h.pending; memo = h.memo; kept = h.kept; plans = h.plans; stack = h.stack }

abbrev pub results_pushed : Registers → Registers
results_pushed s = stacked (s.results + 1) (with_results_to s (s.results + 1))

pub task_go : (b : Bounds) (s : Registers) (ts rs ps es ks : List Row) (fs : List ℕ) (ns : List Row) (x : Row) (t : Task) → task_of x ≡ t → s.tasks < b.stack → b.stack ≤ length ts
    → Sound b (with_tasks_to s (s.tasks + 1))
    → Meets b (counts s) (push_exact_task t (abs s ts rs ps es ks fs ns)) (Go (tasks_pushed s)) (λ z. abs z (set ts s.tasks x) rs ps es ks fs ns)
unfolding push_exact_task abs
task_go b s ts rs ps es ks fs ns x t e h l snd =
    record { is = rw (pile_length task_of ts s.tasks, le-leb (s.tasks + 1) b.stack (omega arith), pile_push task_of ts s.tasks x (omega arith), e); sound = sound_peaks (with_tasks_to s (s.tasks + 1)) (tasks_pushed s).peaks snd }

pub task_stop : (b : Bounds) (s : Registers) (ts rs ps es ks : List Row) (fs : List ℕ) (ns : List Row) (t : Task) (f : Registers → State) → b.stack ≤ s.tasks
    → Meets b (counts s) (push_exact_task t (abs s ts rs ps es ks fs ns)) (Stop Stack (s.tasks + 1) s) f
unfolding push_exact_task abs
task_stop b s ts rs ps es ks fs ns t f h =
    record { is = rw (pile_length task_of ts s.tasks, lt-leb (s.tasks + 1) b.stack (omega arith)); sound = tt }

pub result_go : (b : Bounds) (s : Registers) (ts rs ps es ks : List Row) (fs : List ℕ) (ns : List Row) (i l : ℕ) → s.results < b.stack → b.stack ≤ length rs
    → Sound b (with_results_to s (s.results + 1))
    → Meets b (counts s) (push_exact_result (range i l) (abs s ts rs ps es ks fs ns)) (Go (results_pushed s)) (λ z. abs z ts (set rs s.results (i ∷ l ∷ [])) ps es ks fs ns)
unfolding push_exact_result abs
result_go b s ts rs ps es ks fs ns i l h m snd =
    record { is = rw (pile_length range_of rs s.results, le-leb (s.results + 1) b.stack (omega arith), pile_push range_of rs s.results (i ∷ l ∷ []) (omega arith)); sound = sound_peaks (with_results_to s (s.results + 1)) (results_pushed s).peaks snd }

pub result_stop : (b : Bounds) (s : Registers) (ts rs ps es ks : List Row) (fs : List ℕ) (ns : List Row) (i l : ℕ) (f : Registers → State) → b.stack ≤ s.results
    → Meets b (counts s) (push_exact_result (range i l) (abs s ts rs ps es ks fs ns)) (Stop Stack (s.results + 1) s) f
unfolding push_exact_result abs
result_stop b s ts rs ps es ks fs ns i l f h =
    record { is = rw (pile_length range_of rs s.results, lt-leb (s.results + 1) b.stack (omega arith)); sound = tt }

-- ---- kept candidates

none_of : candidate_of [] ≡ no_candidate
unfolding candidate_of
none_of = refl

pub kept_read : (ks : List Row) (n i : ℕ) → get_or (row_list candidate_of ks n) i no_candidate ≡ candidate_of (get_or (take n ks) i [])
kept_read ks n i = ap (λ (d : Candidate). get_or (row_list candidate_of ks n) i d) (sym none_of) ∙ get_or-map candidate_of (take n ks) i []

pub kept_past : (ks : List Row) (n i : ℕ) → n ≤ length ks → n ≤ i → no_candidate ≡ get_or (row_list candidate_of ks n) i no_candidate
kept_past ks n i h l =
    let q : length (take n ks) ≤ i = rw (length-take-le n ks h) l in
    sym (kept_read ks n i ∙ (ap candidate_of (get_or-eq_default (take n ks) [] q) ∙ none_of))

pub kept_at : (ks : List Row) (n i : ℕ) (c : Code) → n ≤ length ks → i < n
    → c.cost ≡ record { overflow_high = at (get_or ks i []) 0; overflow_low = at (get_or ks i []) 1; burden = at (get_or ks i []) 2 }
    → c.last ≡ low (at (get_or ks i []) 3) → c.precedence ≡ at (get_or ks i []) 4 → c.plan.0 ≡ low (at (get_or ks i []) 5)
    → candidate c ≡ get_or (row_list candidate_of ks n) i no_candidate
unfolding candidate_of
kept_at ks n i c h l x y z w = sym (kept_read ks n i ∙ rw (get_or-take n ks i [] l, ← y, ← z, ← w, x))

-- ---- pending candidates

abbrev pub with_pending_to : Registers → ℕ → Registers
with_pending_to s n = record { tasks = s.tasks; results = s.results; pending = n; memo = s.memo; kept = s.kept; plans = s.plans; start = s.start; len = s.len; builder = s.builder; stats = s.stats; peaks = s.peaks }

abbrev pub pending_pushed : Registers → Registers
pending_pushed s = stacked (s.pending + 1) (with_pending_to s (s.pending + 1))

pub pending_go : (b : Bounds) (s : Registers) (ts rs ps es ks : List Row) (fs : List ℕ) (ns : List Row) (x : Row) (c : Scratch) → scratch_of x ≡ c → s.pending < b.stack → b.stack ≤ length ps
    → Sound b (with_pending_to s (s.pending + 1))
    → Meets b (counts s) (push_pending c (abs s ts rs ps es ks fs ns)) (Go (pending_pushed s)) (λ z. abs z ts rs (set ps s.pending x) es ks fs ns)
unfolding push_pending abs
pending_go b s ts rs ps es ks fs ns x c e h l snd =
    record { is = rw (row_list_length scratch_of ps s.pending (omega arith), le-leb (s.pending + 1) b.stack (omega arith), row_list_push scratch_of ps s.pending x (omega arith), e); sound = sound_peaks (with_pending_to s (s.pending + 1)) (pending_pushed s).peaks snd }

pub pending_stop : (b : Bounds) (s : Registers) (ts rs ps es ks : List Row) (fs : List ℕ) (ns : List Row) (c : Scratch) (f : Registers → State) → b.stack ≤ s.pending → s.pending ≤ length ps
    → Meets b (counts s) (push_pending c (abs s ts rs ps es ks fs ns)) (Stop Stack (s.pending + 1) s) f
unfolding push_pending abs
pending_stop b s ts rs ps es ks fs ns c f h l =
    record { is = rw (row_list_length scratch_of ps s.pending l, lt-leb (s.pending + 1) b.stack (omega arith)); sound = tt }

-- ---- the result on top

abbrev pub with_range_to : Registers → ℕ → ℕ → ℕ → Registers
with_range_to s n i l = record { tasks = s.tasks; results = n; pending = s.pending; memo = s.memo; kept = s.kept; plans = s.plans; start = i; len = l; builder = s.builder; stats = s.stats; peaks = s.peaks }

pub pop_is : (s : Registers) (ts rs ps es ks : List Row) (fs : List ℕ) (ns : List Row) (i : ℕ) → s.results ≡ suc i
    → pop_exact_result (abs s ts rs ps es ks fs ns)
    ≡ ret (got (range (at (get_or rs i []) 0) (at (get_or rs i []) 1)) (abs (with_range_to s i (at (get_or rs i []) 0) (at (get_or rs i []) 1)) ts rs ps es ks fs ns))
unfolding abs
pop_is s ts rs ps es ks fs ns i e = rw e
