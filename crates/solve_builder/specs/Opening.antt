-- What a begun frontier is in the machine's terms, and where frontiers stand after a turn.
use Rattle.std.specs.Prelude.{◌≡◌, refl, List, [], ℕ, ◌<◌, max, length}
use Rattle.std.proofs.Common.{sym, ap, ◌∙◌, subst, arith}
use Rattle.frontier.specs.Candidates.{survivors}
use Rattle.frontier.specs.Walk.{survive_length}
use Rattle.frontier.specs.Passed.{top}
use Rattle.machine.specs.Events.{Counts, Prog}
use Rattle.machine.specs.Model.{State}
use Rattle.machine.specs.Solver.{begin_builder}
use Rattle.solve_workspace.specs.declared.Bounds.{Bounds}
use Rattle.solve_workspace.specs.declared.Registers.{Registers}
use Rattle.solve_workspace.specs.declared.Reached.{Reached}
use Rattle.solve_workspace.specs.declared.Why.{Why}
use Rattle.solve_workspace.specs.declared.Reached.TheVariants.{Go}
use Rattle.solve_workspace.specs.Meets.{counts, Sound, Meets}
use Rattle.solve_workspace.specs.Rows.{Row, abs}
use Rattle.solve_workspace.specs.Frames.{Kept}
use Rattle.solve_workspace.specs.Turns.{going, halting, reached}
use Rattle.solve_builder.specs.Building.{Building, BuildingAt, BuildingCase, Begun, Slots, with_builder_to, fronted}

pub building_by : {b : Bounds} {s : Registers} {fs : List ℕ} {a : Reached} → BuildingAt b fs a → a ≡ Go s → Building b s fs
building_by {b = b} {fs = fs} h q = subst (λ x. BuildingCase b fs x) q h.by

-- a turn with the registers that are z
pub going_building : {b : Bounds} {fs : List ℕ} (g : Registers) {z : Registers} → g ≡ z → BuildingAt b fs (Go z) → BuildingAt b fs (reached going g)
going_building {b = b} {fs = fs} g e h = subst (λ (s : Registers). BuildingAt b fs (Go s)) (sym e) h

pub halted_building : (b : Bounds) (fs : List ℕ) (w : Why) (n : ℕ) (g : Registers) → BuildingAt b fs (reached (halting w n) g)
halted_building b fs w n g = record { by = tt }

opened_abs : (o : Registers) (f : _) (ts rs ps es ks : List Row) (fs : List ℕ) (ns : List Row) → survivors fs f ≡ [] → abs (with_builder_to o f) ts rs ps es ks fs ns ≡ begin_builder (abs o ts rs ps es ks fs ns)
unfolding abs
opened_abs o f ts rs ps es ks fs ns e = rw e

pub begun_abs : {o s : Registers} → Begun o s → (ts rs ps es ks : List Row) (fs : List ℕ) (ns : List Row) → abs s ts rs ps es ks fs ns ≡ begin_builder (abs o ts rs ps es ks fs ns)
unfolding abs
begun_abs {o = o} {s = s} h ts rs ps es ks fs ns =
    ap (λ z. abs z ts rs ps es ks fs ns) h.same ∙ opened_abs (fronted o.builder.used o) s.builder ts rs ps es ks fs ns (h.opened.empty fs)

pub begun_building : {b : Bounds} {o s : Registers} {fs : List ℕ} → Begun o s → Slots b fs → b.frontier < top → Building b s fs
begun_building {b = b} {fs = fs} h r l = record { frontier = h.opened.frontier fs b.frontier r.room l }

opened_live : {o s : Registers} → Begun o s → s.builder.live ≡ 0
opened_live {s = s} h = sym (survive_length (h.opened.frontier [] 0 (omega arith) (omega arith)).sound.kept) ∙ ap length (h.opened.empty [])

pub begun_sound : {b : Bounds} {o s : Registers} → Begun o s → Sound b o → Sound b s
begun_sound {b = b} {o = o} {s = s} h k =
    let l = opened_live h in
    rw h.same
    (record { hits = k.hits; misses = k.misses; generated = k.generated; pruned = omega (arith, k.pruned, l); work = k.work; tasks = k.tasks; results = k.results; pending = k.pending; memo = k.memo; kept = k.kept; plans = k.plans; stack = k.stack })

pub begun_held : {b : Bounds} {g h : Registers} → Begun g h → Sound b g → Sound b h
begun_held p r = begun_sound p r

pub begun_kept : {o s : Registers} → Begun o s → Kept o s
begun_kept h = rw h.same (record { memo = refl; results = refl; pending = omega arith })

-- it has used no slot, so nothing more was needed
pub begun_counts : {o s : Registers} → Begun o s → counts s ≡ counts o
begun_counts {o = o} {s = s} h =
    let z : s.builder.used ≡ 0 = omega (arith, (h.opened.frontier [] 0 (omega arith) (omega arith)).within) in
    let e : max (max o.peaks.frontier o.builder.used) s.builder.used ≡ max o.peaks.frontier o.builder.used = omega (arith, z) in
    ap counts h.same ∙ rw e refl

-- what is done with a begun frontier is done with the machine's empty one
pub begun_from : {A : Type 0} {b : Bounds} {o s : Registers} {a : Reached} {f : Registers → A} (g : State → Prog A) → Begun o s → (ts rs ps es ks : List Row) (fs : List ℕ) (ns : List Row)
    → Meets b (counts s) (g (abs s ts rs ps es ks fs ns)) a f → Meets b (counts o) (g (begin_builder (abs o ts rs ps es ks fs ns))) a f
begun_from {b = b} {o = o} {s = s} {a = a} {f = f} g h ts rs ps es ks fs ns m =
    subst (λ (z : State). Meets b (counts o) (g z) a f) (begun_abs h ts rs ps es ks fs ns)
    (subst (λ (k : Counts). Meets b k (g (abs s ts rs ps es ks fs ns)) a f) (begun_counts h) m)
