-- What a turn of the loop shows: the task on top finds what it takes, and its step leads on.
use mathlib.Core.Path.{◌≡◌, sym, ap, ◌∙◌, subst}
use mathlib.Core.List.{List, [], ◌∷◌}
use Prim.Native.Nat.{ℕ, suc, ◌≤◌, ◌<◌}
use native.Mathlib.Omega.{arith}
use lib.ListN.{length, get_or, length-append}
use Rattle.layout.specs.Document.{Doc}
use Rattle.layout.specs.Layout.{Plan}
use Rattle.layout.specs.Rules.{Rules}
use Rattle.layout.specs.Table.{Table}
use Rattle.memo.specs.declared.CandidateRange.{CandidateRange}
use Rattle.machine.specs.Events.{Counts, Prog, ◌>>=◌, Out, done, run}
use Rattle.machine.specs.Programs.{value, done_is}
use Rattle.machine.specs.Model.{Prepared, Candidate, Scratch, Task, State}
use Rattle.machine.specs.Solver.{step, execute_task}
use Rattle.machine.specs.Solve.{rest}
use Rattle.machine_right.specs.Post.{post_value}
use Rattle.machine_right.specs.Fronts.{Front}
use Rattle.machine_right.specs.Relations.{All2, all2_length, laid}
use Rattle.machine_right.specs.Typed.{Cont, c_eval, c_alias, c_union, c_set, c_annotate, c_penalty, c_continue, c_right}
use Rattle.machine_right.specs.Ready.{Ready}
use Rattle.machine_right.specs.Sound.{Inv}
use Rattle.machine_right.specs.Step.{step_good}
use Rattle.machine_right.specs.Rest.{rest_step, rest_none}
use Rattle.machine_right.specs.Falls.{left, falls}
use Rattle.solve_workspace.specs.declared.Bounds.{Bounds}
use Rattle.solve_workspace.specs.declared.Registers.{Registers}
use Rattle.solve_workspace.specs.declared.RenderOptions.{RenderOptions}
use Rattle.solve_workspace.specs.declared.Why.{Why}
use Rattle.solve_workspace.specs.declared.Reached.{Reached}
use Rattle.solve_workspace.specs.declared.Reached.TheVariants.{Go, Stop}
use Rattle.solve_workspace.specs.Meets.{limits, counts, out, Sound, Meets, Leads}
use Rattle.solve_workspace.specs.Rows.{Row, pile, task_of, range_of, scratch_of, candidate_of, abs}
use Rattle.solve_workspace.specs.Frames.{Memory}
use Rattle.solve_workspace.specs.Reading.{prepared, tables, rules}
use Rattle.solve_workspace.specs.Runs.{leads_seq, halt}
use Rattle.solve_workspace.specs.Stacks.{pile_length, row_list_length, with_tasks_to}
use Rattle.solve_execute.specs.Turn.{Room, Fits}
use Rattle.solve.specs.Accepted.{Typed}

-- ---- what a program comes to that the code has gone through

pub done_value : {A : Type 0} {k j : Counts} {x y : A} → ◌≡◌ {A = Out A} (done k x) (done j y) → x ≡ y
done_value e = cc

pub value_is : {A : Type 0} {b : Bounds} {k : Counts} {p : Prog A} {a : Reached} {f : Registers → A} {s : Registers} → Meets b k p a f → a ≡ Go s → value p ≡ f s
value_is {b = b} {k = k} {p = p} {f = f} m q = sym (done_value (done_is (limits b) k p (m.is ∙ ap (λ x. out x f) q)))

-- ---- the task on top

pub top : (s : Registers) (ts rs ps es ks : List Row) (fs : List ℕ) (ns : List Row) (i : ℕ) → s.tasks ≡ suc i → (abs s ts rs ps es ks fs ns).tasks ≡ task_of (get_or ts i []) ∷ pile task_of ts i
unfolding abs
top s ts rs ps es ks fs ns i e = rw e

step_is : (R : Rules) (P : Prepared) (s : Registers) (ts rs ps es ks : List Row) (fs : List ℕ) (ns : List Row) (i : ℕ) → s.tasks ≡ suc i
    → step R P (abs s ts rs ps es ks fs ns) ≡ execute_task R P (task_of (get_or ts i [])) (abs (with_tasks_to s i) ts rs ps es ks fs ns)
unfolding step abs
step_is R P s ts rs ps es ks fs ns i e = rw e

-- ---- it finds what it takes

module _ (R : Rules) (N : List Row) (E C : List ℕ) (X : List Row) (B : List ℕ) (an ro sp : ℕ) (D : ℕ → Doc) (goal : Front) where
  abbrev T : Table
  T = (prepared (tables N E C X B an ro sp)).table

  fits_cont : {W : CandidateRange → Front → Type 0} {k : List Candidate} {pl : List Plan} {x : Task} {ts : List Task} {Es : List Front} {qs : List Scratch} (s : Registers) (rs : List CandidateRange)
      → Cont R T D goal k pl (x ∷ ts) Es qs → All2 W rs Es → length rs ≡ s.results → length qs ≡ s.pending → length k ≡ s.kept → Fits N E s x
  fits_cont s rs (c_eval c) a r p l = tt
  fits_cont s rs (c_alias e c) a r p l = omega (arith, all2_length a)
  fits_cont s rs (c_union e c) a r p l = omega (arith, all2_length a)
  fits_cont s rs (c_set Gs {Es = Es} e f y n c) a r p l = omega (arith, all2_length a, ap length y, length-append Gs Es)
  fits_cont s rs (c_annotate e c) a r p l = omega (arith, all2_length a)
  fits_cont s rs (c_penalty e c) a r p l = omega (arith, all2_length a)
  fits_cont s rs (c_continue e c) a r p l = omega (arith, all2_length a)
  fits_cont s rs (c_right {qs = qs} den n lt en ef pl lp e c) a r p l =
      record {
        result = omega (arith, all2_length a);
        pending = omega (arith, ap length pl.split, length-append qs pl.above);
        child = lt;
        left = omega arith;
        inside = omega (arith, den.inside);
      }

results_are : (s : Registers) (ts rs ps es ks : List Row) (fs : List ℕ) (ns : List Row) → length (abs s ts rs ps es ks fs ns).results ≡ s.results
unfolding abs
results_are s ts rs ps es ks fs ns = pile_length range_of rs s.results

pending_are : (s : Registers) (ts rs ps es ks : List Row) (fs : List ℕ) (ns : List Row) → s.pending ≤ length ps → length (abs s ts rs ps es ks fs ns).pending ≡ s.pending
unfolding abs
pending_are s ts rs ps es ks fs ns h = row_list_length scratch_of ps s.pending h

kept_are : (s : Registers) (ts rs ps es ks : List Row) (fs : List ℕ) (ns : List Row) → s.kept ≤ length ks → length (abs s ts rs ps es ks fs ns).retained ≡ s.kept
unfolding abs
kept_are s ts rs ps es ks fs ns h = row_list_length candidate_of ks s.kept h

pub fits : (R : Rules) (N : List Row) (E C : List ℕ) (X : List Row) (sp : ℕ) (b : Bounds) (s : Registers) (ts rs ps es ks : List Row) (fs : List ℕ) (ns : List Row) (i : ℕ) → s.tasks ≡ suc i
    → Sound b s → Room b ts rs ps fs ks ns → Typed R (prepared (tables N E C X [] 0 0 sp)) (abs s ts rs ps es ks fs ns) → Fits N E (with_tasks_to s i) (task_of (get_or ts i []))
fits R N E C X sp b s ts rs ps es ks fs ns i e h m t =
    let S = abs s ts rs ps es ks fs ns in
    fits_cont R N E C X [] 0 0 sp t.documents t.goal (with_tasks_to s i) S.results
    (subst (λ (z : List Task). Cont R (prepared (tables N E C X [] 0 0 sp)).table t.documents t.goal S.retained (laid (prepared (tables N E C X [] 0 0 sp)).table S.plans) z t.inv.types S.pending) (top s ts rs ps es ks fs ns i e) t.inv.conts)
    t.inv.res (results_are s ts rs ps es ks fs ns) (pending_are s ts rs ps es ks fs ns (omega (arith, h.pending, m.pending))) (kept_are s ts rs ps es ks fs ns (omega (arith, h.kept, m.kept)))

-- ---- a turn

pub record Turned (R : Rules) (P : Prepared) (b : Bounds) (k j : Counts) (S Z : State) : Type 0 where
  pub leads : Leads b k (rest R P S) j (rest R P Z)
  pub typed : Typed R P Z
  pub less : left R P Z < left R P S

module _ (R : Rules) (P : Prepared) (K : Ready P) (b : Bounds) (s : Registers) (ts rs ps es ks : List Row) (fs : List ℕ) (ns : List Row) (i : ℕ) (e : s.tasks ≡ suc i)
    (t : Typed R P (abs s ts rs ps es ks fs ns)) (x : Task) (ex : x ≡ task_of (get_or ts i [])) {a : Reached} {f : Registers → State}
    (m : Meets b (counts s) (execute_task R P x (abs (with_tasks_to s i) ts rs ps es ks fs ns)) a f) where
  abbrev S₀ : State
  S₀ = abs s ts rs ps es ks fs ns

  stepped : Meets b (counts s) (step R P S₀) a f
  stepped = subst (λ (p : Prog State). Meets b (counts s) p a f)
      (ap (λ (y : Task). execute_task R P y (abs (with_tasks_to s i) ts rs ps es ks fs ns)) ex ∙ sym (step_is R P s ts rs ps es ks fs ns i e)) m

  unrolled : rest R P S₀ ≡ (step R P S₀ >>= rest R P)
  unrolled = rest_step R P t.documents t.goal K t.reads _ _ S₀ (top s ts rs ps es ks fs ns i e) t.inv

  pub turned : (z : Registers) → a ≡ Go z → Turned R P b (counts s) (counts z) S₀ (f z)
  turned z q =
      let v : value (step R P S₀) ≡ f z = value_is stepped q in
      record {
        leads = subst (λ (p : Prog State). Leads b (counts s) p (counts z) (rest R P (f z))) (sym unrolled) (leads_seq (rest R P) stepped q);
        typed = record {
          documents = t.documents;
          reads = t.reads;
          goal = t.goal;
          inv = subst (λ (Z : State). Inv R P t.documents t.goal Z) v (post_value (step_good R P t.documents t.goal K t.reads _ _ S₀ (top s ts rs ps es ks fs ns i e) t.inv)).inv;
        };
        less = subst (λ (Z : State). left R P Z < left R P S₀) v (falls R P t.documents t.goal K t.reads _ _ S₀ (top s ts rs ps es ks fs ns i e) t.inv);
      }

  pub stops : {v : Why} {n : ℕ} {z : Registers} {h : Registers → State} → a ≡ Stop v n z → Meets b (counts s) (rest R P S₀) a h
  stops {h = h} q = subst (λ (p : Prog State). Meets b (counts s) p a h) (sym unrolled) (halt (rest R P) stepped q)

-- no task is left
none : (s : Registers) (ts rs ps es ks : List Row) (fs : List ℕ) (ns : List Row) → s.tasks ≡ 0 → (abs s ts rs ps es ks fs ns).tasks ≡ []
unfolding abs
none s ts rs ps es ks fs ns e = rw e

pub finished : (R : Rules) (P : Prepared) (K : Ready P) (b : Bounds) (s : Registers) (ts rs ps es ks : List Row) (fs : List ℕ) (ns : List Row) → s.tasks ≡ 0 → Sound b s
    → Typed R P (abs s ts rs ps es ks fs ns) → Meets b (counts s) (rest R P (abs s ts rs ps es ks fs ns)) (Go s) (λ z. abs z ts rs ps es ks fs ns)
finished R P K b s ts rs ps es ks fs ns e h t =
    record { is = ap (run (limits b) (counts s)) (rest_none R P t.documents t.goal K t.reads (abs s ts rs ps es ks fs ns) (none s ts rs ps es ks fs ns e)); sound = h }

-- ---- the loop

-- each slice has its length; the memo's slices and the registers are sound; the run from the entry on leads here
pub record Working (options : RenderOptions) (b : Bounds) (N : List Row) (E C : List ℕ) (X : List Row) (sp : ℕ) (g₀ : Registers) (ts₀ rs₀ ps₀ : List Row) (ss₀ : List ℕ) (es₀ : List Row) (fs₀ : List ℕ) (ks₀ ns₀ : List Row)
    (g : Registers) (ts rs ps : List Row) (ss : List ℕ) (es : List Row) (fs : List ℕ) (ks ns : List Row) : Type 0 where
  pub tasks : length ts ≡ length ts₀
  pub results : length rs ≡ length rs₀
  pub pending : length ps ≡ length ps₀
  pub index : length ss ≡ length ss₀
  pub entries : length es ≡ length es₀
  pub frontier : length fs ≡ length fs₀
  pub kept : length ks ≡ length ks₀
  pub plans : length ns ≡ length ns₀
  pub memory : Memory b g.memo ss es
  pub held : Sound b g
  pub typed : (bytes : List ℕ) (annotations root : ℕ) → Typed (rules options) (prepared (tables N E C X bytes annotations root sp)) (abs g ts rs ps es ks fs ns)
  pub leads : (bytes : List ℕ) (annotations root : ℕ) → Leads b (counts g₀) (rest (rules options) (prepared (tables N E C X bytes annotations root sp)) (abs g₀ ts₀ rs₀ ps₀ es₀ ks₀ fs₀ ns₀))
      (counts g) (rest (rules options) (prepared (tables N E C X bytes annotations root sp)) (abs g ts rs ps es ks fs ns))
