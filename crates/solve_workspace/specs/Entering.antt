-- Laws of the memo's slices: what an insertion leaves, and what a lookup finds.
use Rattle.std.specs.Prelude.{◌≡◌, refl, Bool, true, false, List, [], ◌∷◌, ℕ, zero, suc, ◌+◌, ◌≤◌, ◌<◌, ◌^◌, max, length, Some, Result, Ok, Err}
use Rattle.std.proofs.Common.{sym, ◌∙◌, subst, add-one, arith, le-leb, length-append}
use Rattle.std.proofs.lemmas.Bool.{lt-leb}
use Rattle.memo.specs.Entries.{Entry, pick, same, lookup, stored, entry, listed}
use Rattle.memo.specs.Index.{Entered, Refused, Insertion, InsertionIs}
use Rattle.memo.specs.declared.Full.{Full}
use Rattle.memo.specs.declared.MemoKey.{MemoKey}
use Rattle.memo.specs.declared.CandidateRange.{CandidateRange}
use Rattle.machine.specs.Model.{State, range}
use Rattle.machine.specs.Solver.{memo_insert}
use Rattle.solve_workspace.specs.declared.Bounds.{Bounds}
use Rattle.solve_workspace.specs.declared.Registers.{Registers}
use Rattle.solve_workspace.specs.declared.Why.TheVariants.{Memo}
use Rattle.solve_workspace.specs.declared.Reached.{Reached}
use Rattle.solve_workspace.specs.declared.Reached.TheVariants.{Go, Stop}
use Rattle.solve_workspace.specs.Meets.{counts, Sound, Meets}
use Rattle.solve_workspace.specs.Rows.{Row, abs}
use Rattle.solve_workspace.specs.Frames.{Narrow, AllNarrow, no_entry, one_entry, Memory, MemoryAt, MemoryCase, SameMemo}

pub listed_length : (es : List Row) (n : ℕ) → length (listed es n) ≡ n
unfolding listed
listed_length es zero = refl
listed_length es (suc n) = length-append (listed es n) (entry es n ∷ []) ∙ rw (listed_length es n) (add-one n)

pick_length : (b : Bool) (x y : List Entry) (n : ℕ) → length x ≤ n → length y ≤ n → length (pick b x y) ≤ n
pick_length true x y n h k = h
pick_length false x y n h k = k

stored_length : (l : List Entry) (e : Entry) → length (stored l e) ≤ suc (length l)
stored_length [] e = omega arith
stored_length (x ∷ xs) e = pick_length (same x.key e.key) (e ∷ xs) (x ∷ stored xs e) (suc (suc (length xs))) (omega arith) (omega (arith, stored_length xs e))

pick_narrow : (b : Bool) (x y : List Entry) → AllNarrow x → AllNarrow y → AllNarrow (pick b x y)
pick_narrow true x y h k = h
pick_narrow false x y h k = k

stored_narrow : (l : List Entry) (e : Entry) → Narrow e → AllNarrow l → AllNarrow (stored l e)
stored_narrow [] e h k = one_entry h no_entry
stored_narrow (x ∷ xs) e h (one_entry p k) = pick_narrow (same x.key e.key) (e ∷ xs) (x ∷ stored xs e) (one_entry h k) (one_entry p (stored_narrow xs e h k))

-- what is found has its place in 32 bits
pub found_narrow : (l : List Entry) (q : MemoKey) (r : CandidateRange) → AllNarrow l → lookup l q ≡ Some r → (r.start < 2 ^ 32) × (r.len < 2 ^ 32)
found_narrow [] q r k e = absurd (let z : ◌≡◌ {A = ℕ} 0 1 = cc in omega arith)
found_narrow (x ∷ xs) q r (one_entry p k) e = go (same x.key q) e (found_narrow xs q r k)
  where
    go : (b : Bool) → pick b (Some x.range) (lookup xs q) ≡ Some r → (lookup xs q ≡ Some r → (r.start < 2 ^ 32) × (r.len < 2 ^ 32)) → (r.start < 2 ^ 32) × (r.len < 2 ^ 32)
    go true f g = let y : x.range ≡ r = cc in rw (← y) (p.start, p.len)
    go false f g = g f

-- n entries, where one more than there were was needed
abbrev pub with_memo_to : Registers → ℕ → Registers
with_memo_to s n = record {
  tasks = s.tasks;
  results = s.results;
  pending = s.pending;
  memo = n;
  kept = s.kept;
  plans = s.plans;
  start = s.start;
  len = s.len;
  builder = s.builder;
  stats = record {
    work_items = s.stats.work_items;
    fit_checks = s.stats.fit_checks;
    memo_hits = s.stats.memo_hits;
    memo_misses = s.stats.memo_misses;
    candidates_generated = s.stats.candidates_generated;
    candidates_pruned = s.stats.candidates_pruned;
    peak_frontier = s.stats.peak_frontier;
    memo_entries = n;
    plan_nodes = s.stats.plan_nodes;
    visits = s.stats.visits;
  };
  peaks = record { stack = s.peaks.stack; memo = max s.peaks.memo (s.memo + 1); frontier = s.peaks.frontier };
}

pub sound_memo : {b : Bounds} {s : Registers} (n : ℕ) → Sound b s → n ≤ b.memo → Sound b (with_memo_to s n)
sound_memo n h l = record { hits = h.hits; misses = h.misses; generated = h.generated; pruned = h.pruned; work = h.work; tasks = h.tasks; results = h.results; pending = h.pending; memo = l; kept = h.kept; plans = h.plans; stack = h.stack }

pub entered_few : {ss : List ℕ} {es : List Row} {n size : ℕ} {ss' : List ℕ} {es' : List Row} {e : Entry} {m : ℕ} → Entered ss es n size ss' es' e m → m ≤ size
entered_few {es = es} {n = n} {size = size} {es' = es'} {e = e} {m = m} h =
    let a : m ≤ suc (length (listed es n)) = rw (← listed_length es' m, h.list) (stored_length (listed es n) e) in
    omega (arith, listed_length es n, h.small)

pub insert_go : (b : Bounds) (s : Registers) (ts rs ps es ks : List Row) (fs : List ℕ) (ns : List Row) (ss ss' : List ℕ) (es' : List Row) (q : MemoKey) (i l m : ℕ)
    → Entered ss es s.memo b.memo ss' es' (record { key = q; range = range i l }) m → Sound b (with_memo_to s m)
    → Meets b (counts s) (memo_insert q (range i l) (abs s ts rs ps es ks fs ns)) (Go (with_memo_to s m)) (λ z. abs z ts rs ps es' ks fs ns)
unfolding memo_insert abs
insert_go b s ts rs ps es ks fs ns ss ss' es' q i l m h snd =
    record { is = rw (listed_length es s.memo, le-leb (s.memo + 1) b.memo (omega (arith, h.small)), ← h.list, listed_length es' m); sound = snd }

pub insert_stop : (b : Bounds) (s : Registers) (ts rs ps es ks : List Row) (fs : List ℕ) (ns : List Row) (ss ss' : List ℕ) (es' : List Row) (q : MemoKey) (i l n : ℕ) (f : Registers → State)
    → Refused ss es s.memo b.memo ss' es' n → Meets b (counts s) (memo_insert q (range i l) (abs s ts rs ps es ks fs ns)) (Stop Memo n s) f
unfolding memo_insert abs
insert_stop b s ts rs ps es ks fs ns ss ss' es' q i l n f h =
    record { is = rw (listed_length es s.memo, lt-leb (s.memo + 1) b.memo (omega (arith, h.reached)), h.more); sound = tt }

pub insert_memory : {b : Bounds} {n m : ℕ} {ss ss' : List ℕ} {es es' : List Row} {e : Entry} → Memory b n ss es → Entered ss es n b.memo ss' es' e m → Narrow e
    → length ss' ≡ length ss → length es' ≡ length es → Memory b m ss' es'
insert_memory {n = n} {es = es} {e = e} h k w x y =
    record { index = k.sound; narrow = rw k.list (stored_narrow (listed es n) e w h.narrow); slots = omega (arith, h.slots); entries = omega (arith, h.entries) }

-- the same entries, in other registers
pub memory_of : {b : Bounds} {n m : ℕ} {ss : List ℕ} {es : List Row} → Memory b n ss es → m ≡ n → Memory b m ss es
memory_of {b = b} {ss = ss} {es = es} h e = subst (λ x. Memory b x ss es) (sym e) h

-- an operation that leaves the memo alone
pub memory_on : {b : Bounds} {ss : List ℕ} {es : List Row} {s : Registers} (a : Reached) → Memory b s.memo ss es → SameMemo s a → MemoryAt b ss es a
memory_on (Go z) h k = record { by = memory_of h k.by }
memory_on (Stop w n z) h k = record { by = tt }

pub memory_by : {b : Bounds} {ss : List ℕ} {es : List Row} {a : Reached} {s : Registers} → MemoryAt b ss es a → a ≡ Go s → Memory b s.memo ss es
memory_by {b = b} {ss = ss} {es = es} h q = subst (λ x. MemoryCase b ss es x) q h.by

pub entered_by : {ss : List ℕ} {es : List Row} {n size : ℕ} {ss' : List ℕ} {es' : List Row} {e : Entry} {r : Result ℕ Full} {m : ℕ} → Insertion ss es n size ss' es' e r → r ≡ Ok m → Entered ss es n size ss' es' e m
entered_by {ss = ss} {es = es} {n = n} {size = size} {ss' = ss'} {es' = es'} {e = e} h q = subst (λ x. InsertionIs ss es n size ss' es' e x) q h.is

pub refused_by : {ss : List ℕ} {es : List Row} {n size : ℕ} {ss' : List ℕ} {es' : List Row} {e : Entry} {r : Result ℕ Full} {d : Full} → Insertion ss es n size ss' es' e r → r ≡ Err d → Refused ss es n size ss' es' d.needed
refused_by {ss = ss} {es = es} {n = n} {size = size} {ss' = ss'} {es' = es'} {e = e} h q = subst (λ x. InsertionIs ss es n size ss' es' e x) q h.is
