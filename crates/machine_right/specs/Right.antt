-- The theorem: whatever the bounds, the answer is the page of the rule's answer, or a refusal by one of the machine's numbers.
use Rattle.std.specs.Prelude.{ℕ, Bool, true, false, cond, ◌≡◌, refl}
use Rattle.std.proofs.Common.{arith, ◌∙◌}
use Rattle.std.proofs.lemmas.Bool.{false≢true}
use Rattle.std.proofs.Math.Path.{sym, ap₂}
use Rattle.cost.specs.declared.Reason.{Reason}
use Rattle.cost.specs.declared.Reason.TheVariants.{Column, Indent, Overflow, Burden}
use Rattle.cost.specs.Cost.{zero_cost}
use Rattle.layout.specs.Document.{Doc}
use Rattle.layout.specs.Rules.{Rules}
use Rattle.layout.specs.Lawful.{Lawful}
use Rattle.layout.specs.Layout.{Plan}
use Rattle.layout.specs.Choice.{price}
use Rattle.layout.specs.Cheapest.{FirstCheapest}
use Rattle.layout.specs.Reading.{document, document_reads}
use Rattle.layout.specs.Telescope.{price_is}
use Rattle.layout.proofs.Answers.{front_answer}
use Rattle.machine.specs.Numbers.{MachineNumbered, listed, indent, cost}
use Rattle.machine.specs.Events.{Bounds, Counts, no_counts, Kind, stack, memo, kept, frontier, plans, visit, depth, output, spans, passes, counted, needed, why, bare, Why, domain, work_spent, too_small, visits_spent, impossible, number, Prog, Out, done, stop, run}
use Rattle.machine.specs.Events.{Event, Need, Within, Hit, Miss, Generated, Visit, Pruned, Peak, Entries, PlanNodes, Never}
use Rattle.machine.specs.Model.{Prepared, plan_at}
use Rattle.machine.specs.Solve.{Solved}
use Rattle.machine.specs.Materializer.{Rendered, rendered, render, recount}
use Rattle.machine.specs.Answer.{Answer, paged, refused, answer, answer_of}
use Rattle.machine_right.specs.Post.{Can, Post, holds_of, says, post_bind, post_imp}
use Rattle.machine_right.specs.Fronts.{means}
use Rattle.machine_right.specs.Ready.{Ready}
use Rattle.machine_right.specs.Found.{goal, FoundIn, solve_finds}
use Rattle.machine_right.specs.Materialized.{materialize_post, witnessed}

-- ---- runs

abbrev pub Real : Why → Type 0
Real (domain r) = Unit {0}
Real work_spent = Unit {0}
Real (too_small x) = Unit {0}
Real visits_spent = Unit {0}
Real impossible = ⊥

-- the result is as said, or the run stops at a bound
pub data Ran {A : Type 0} (Q : A → Type 0) : Out A → Type 0 where
  ran : {k : Counts} {a : A} → Q a → Ran Q (done k a)
  halted : {w : Why} {n : ℕ} {k : Counts} → Real w → Ran Q (stop w n k)

why_real : (b : Bounds) (k : Counts) (e : Event) → Can e → passes b k e ≡ false → Real (why e)
why_real b k (Need x n) c h = tt
why_real b k (Within r n) c h = tt
why_real b k Hit c h = tt
why_real b k Miss c h = tt
why_real b k Generated c h = tt
why_real b k Visit c h = tt
why_real b k (Pruned n) c h = absurd (false≢true (sym h))
why_real b k (Peak n) c h = absurd (false≢true (sym h))
why_real b k (Entries n) c h = absurd (false≢true (sym h))
why_real b k (PlanNodes n) c h = absurd (false≢true (sym h))
why_real b k Never c h = absurd c

pub post_run : {A : Type 0} {Q : A → Type 0} (b : Bounds) (k : Counts) {m : Prog A} → Post Q m → Ran Q (run b k m)
post_run b k (holds_of h) = ran h
post_run {Q = Q} b k (says {e = e} {p = p} c h) = go (passes b k e) refl (post_run b (counted k e) h)
  where
    go : (t : Bool) → passes b k e ≡ t → Ran Q (run b (counted k e) p) → Ran Q (cond t (run b (counted k e) p) (stop (why e) (needed e) (bare k)))
    go true q r = r
    go false q r = halted (why_real b k e c q)

domain_numbered : (r : Reason) → MachineNumbered (number (domain r))
domain_numbered Column = listed (omega arith) (omega arith)
domain_numbered Indent = indent refl
domain_numbered Overflow = cost refl
domain_numbered Burden = cost refl

small_numbered : (x : Kind) → MachineNumbered (number (too_small x))
small_numbered stack = listed (omega arith) (omega arith)
small_numbered memo = listed (omega arith) (omega arith)
small_numbered kept = listed (omega arith) (omega arith)
small_numbered frontier = listed (omega arith) (omega arith)
small_numbered plans = listed (omega arith) (omega arith)
small_numbered visit = listed (omega arith) (omega arith)
small_numbered depth = listed (omega arith) (omega arith)
small_numbered output = listed (omega arith) (omega arith)
small_numbered spans = listed (omega arith) (omega arith)

numbered : (w : Why) → Real w → MachineNumbered (number w)
numbered (domain r) h = domain_numbered r
numbered work_spent h = listed (omega arith) (omega arith)
numbered (too_small x) h = small_numbered x
numbered visits_spent h = listed (omega arith) (omega arith)
numbered impossible h = absurd h

-- ---- the answer

-- p is the rule's answer: page and spans are its, and the cost is what its lines cost; the cost counted again by the walk is the same
pub record RightPage (R : Rules) (P : Prepared) (page : Rendered) : Type 0 where
  pub layout : Plan
  pub rule : FirstCheapest R P.table P.root layout
  pub is : page ≡ rendered layout (price R layout)
  pub witness : recount R layout 0 zero_cost ≡ page.cost

pub data Right (R : Rules) (P : Prepared) : Answer → Type 0 where
  right_page : {page : Rendered} {k : Counts} → RightPage R P page → Right R P (paged page k)
  right_refusal : {n m : ℕ} {k : Counts} → MachineNumbered n → Right R P (refused n m k)

module _ (R : Rules) (L : Lawful R) (P : Prepared) (K : Ready P) where
  abbrev D : ℕ → Doc
  D = document P.table K.ranked

  -- the page of what is found
  page_right : (core : Solved) → FoundIn P.table (goal R P D K (document_reads P.table K.ranked)) core
      → RightPage R P (rendered (plan_at P.table core.plans core.root) core.cost)
  unfolding means
  page_right core f =
      let a = front_answer R P.table L D (document_reads P.table K.ranked) P.root f.best f.least_is in
      let p : plan_at P.table core.plans core.root ≡ f.best.plan = f.plan_is in
      let c : core.cost ≡ price R f.best.plan = f.cost_is ∙ a.1 in
      record { layout = f.best.plan; rule = a.0; is = ap₂ rendered p c; witness = witnessed R L f.best.plan ∙ price_is R L f.best.plan ∙ sym c }

  pub render_right : Post (RightPage R P) (render R P)
  unfolding render
  render_right = post_bind (post_imp (λ core f. post_bind (materialize_post _ (holds_of (page_right core f)))) (solve_finds R P D K (document_reads P.table K.ranked)))

  pub answer_right : (b : Bounds) → Right R P (answer R P b)
  unfolding answer
  answer_right b = go (post_run b no_counts render_right)
    where
      go : {o : Out Rendered} → Ran (RightPage R P) o → Right R P (answer_of o)
      go (ran h) = right_page h
      go (halted {w = w} h) = right_refusal (numbered w h)
