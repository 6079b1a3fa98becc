-- From the answer to its text.
use mathlib.Core.Path.{◌≡◌, refl, sym, ap, subst, ◌∙◌}
use mathlib.Core.List.{List}
use Prim.Native.Nat.{ℕ, ◌*◌, ◌/◌, ◌-◌, ◌^◌, ◌≤◌, ◌<◌}
use native.Mathlib.Omega.{arith}
use native.Mathlib.Nat.{pow-le-pow_right}
use lib.ListN.{length, take, drop, length-drop}
use lib.Seq.{take_all}
use Rattle.page_setting.specs.declared.Setting.{Setting}
use Rattle.page_setting.specs.Setting.{setting_at}
use Rattle.page_lines.specs.Lines.{refused_line}
use Rattle.page_lines.specs.Put.{Front}
use Rattle.machine.specs.Events.{Bounds}
use Rattle.machine.specs.Answer.{Answer}
use Rattle.answer.specs.Answer.{Ordered, lent_as, Answers, out_of_order, wrong_file, laid_out}
use Rattle.solve_workspace.specs.declared.RenderOptions.{RenderOptions}
use Rattle.solve_workspace.specs.declared.Bounds.{Bounds as Sizes}
use Rattle.solve_workspace.specs.Meets.{limits}
use Rattle.memo.specs.Sizes.{SlotsFor}
use Rattle.materialize.specs.Rows.{Row}
use Rattle.render.specs.declared.order.Lengths.{Lengths}
use Rattle.render.specs.Order.{TablesLent, SolverLent, PageLent, InOrder}
use Rattle.render.specs.Rendered.{Rendered, meant}
use Rattle.render.specs.Call.{settings, Rendering}
use Rattle.page_text.specs.Printed.{page_bounds, settings_of, settings_in, setting_fault, file_in, Printed, too_long, wrong_setting, answered, Right, Prints}
use Rattle.page_text.specs.Right.{setting_inside, right_answer, right_fault, right_long}
use Rattle.page_text.specs.Shown.{Sized, Told, Shown}

-- ---- memory of the program's sizes

record Lent (l : Lengths) (b : Sizes) : Type 0 where
  tables : TablesLent l.nodes l.edges l.choices l.texts l.bytes
  solver : SolverLent b l
  page : PageLent b l

-- 1,024 entries take 2,048 slots
enough_slots : SlotsFor 1024 2048
enough_slots = record { none = λ e. absurd (omega arith); some = λ ne. record { k = 8; power = refl; room = omega arith; least = lower } }
  where
    below : (p : ℕ) → p ≤ 128 → 8 * p * 7 / 10 < 1024
    below p h = omega arith

    lower : (j : ℕ) → j < 8 → 8 * 2 ^ j * 7 / 10 < 1024
    lower j h = below (2 ^ j) (pow-le-pow_right {n = 2} (omega arith) {i = j} {j = 7} (omega arith))

lent : (l : Lengths) (b : Sizes) → limits b ≡ page_bounds → Sized 32768 512 l → Lent l b
lent l b e z =
    let e1 : b.stack ≡ 512 = ap (λ (d : Bounds). d.stack) e in
    let e2 : b.memo ≡ 1024 = ap (λ (d : Bounds). d.memo) e in
    let e3 : b.kept ≡ 1024 = ap (λ (d : Bounds). d.kept) e in
    let e4 : b.frontier ≡ 256 = ap (λ (d : Bounds). d.frontier) e in
    let e5 : b.plans ≡ 2048 = ap (λ (d : Bounds). d.plans) e in
    let e6 : b.visit ≡ 512 = ap (λ (d : Bounds). d.visit) e in
    let e7 : b.depth ≡ 64 = ap (λ (d : Bounds). d.depth) e in
    let e8 : b.output ≡ 32768 = ap (λ (d : Bounds). d.output) e in
    let e9 : b.spans ≡ 512 = ap (λ (d : Bounds). d.spans) e in
    record {
      tables = record { nodes_lent = omega arith; edges_lent = omega arith; choices_lent = omega arith; texts_lent = omega arith; bytes_lent = omega arith };
      solver = record {
        stacks = record { tasks = omega arith; results = omega arith; pending = omega arith };
        memo = record { entries = omega arith; slots_for = 2048; is = subst (λ (m : ℕ). SlotsFor m 2048) (sym e2) enough_slots; index = omega arith };
        stores = record { kept = omega arith; frontier = omega arith; plans = omega arith };
      };
      page = record { visit = omega arith; depth = omega arith; output = omega arith; spans = omega arith };
    }

in_order : {o : RenderOptions} {b : Sizes} {l : Lengths} → Lent l b → Ordered (Unit {0}) (settings o) → InOrder o b l
in_order z d = record { options = record { width = d.wide; policy = d.policy_known; rule = d.rule_known }; tables = z.tables; solver = z.solver; page = z.page }

lent_all : {file : List ℕ} {o : RenderOptions} {b : Sizes} {l : Lengths} {a : Answer} → Lent l b → Answers (InOrder o b l) file (settings o) (limits b) a
    → Answers (Unit {0}) file (settings o) (limits b) a
lent_all {o = o} z (out_of_order n) = out_of_order (λ d. n (lent_as (in_order {o = o} z d) d))
lent_all z (wrong_file n d m) = wrong_file n (lent_as tt d) m
lent_all z (laid_out d m) = laid_out (lent_as tt d) m

pub shown :
    {file : List ℕ} {o : RenderOptions} {b : Sizes} {l : Lengths} {output₀ output : List ℕ} {rows₀ rows : List Row} {r : Rendered} {out : List ℕ} {k : ℕ}
    → Rendering file o b l output₀ output rows₀ rows r → limits b ≡ page_bounds → Sized 32768 512 l → length rows ≡ length rows₀ → Told r output out k → Shown file (settings o) out k
shown {file} {o} {b} {l} {output₀} {output} {rows₀} {rows} {r} g e z h t = record {
  answer = meant r output rows;
  answers = subst (λ (d : Bounds). Answers (Unit {0}) file (settings o) d (meant r output rows)) e (lent_all {o = o} {l = l} (lent l b e z) g.answers);
  promised = g.promised;
  text = t.text_is rows (omega (arith, g.stands.rows_are.within));
}

-- ---- the program's text

pub at_inside : (input : List ℕ) (st : Setting) → st ≡ setting_at input → st.next.at ≤ length input
at_inside input st e = subst (λ (s : Setting). s.next.at ≤ length input) (sym e) (setting_inside input)

module _ {input out : List ℕ} {k : ℕ} where
  printing : {t : List ℕ} → Printed input t → Right input t → Front t out k → Prints input out k
  printing p q f = record {
    within = f.within;
    printed = subst (λ (t : List ℕ). Printed input t) (sym f.is) p;
    right = subst (λ (t : List ℕ). Right input t) (sym f.is) q;
  }

  pub prints_too_long : 32768 < length input → Front (refused_line 4) out k → Prints input out k
  prints_too_long l f = printing (too_long l) (right_long input) f

  module _ (st : Setting) (e : st ≡ setting_at input) (h : length input ≤ 32768) where
    pub prints_fault : (st.next.fault ≡ 0 → ⊥) → Front (refused_line st.next.fault) out k → Prints input out k
    prints_fault n f =
        let m : setting_fault input ≡ 0 → ⊥ = λ z. n (ap (λ (s : Setting). s.next.fault) e ∙ z) in
        printing (wrong_setting h m) (right_fault input m) (subst (λ (s : Setting). Front (refused_line s.next.fault) out k) e f)

    pub prints_answer :
        st.next.fault ≡ 0
        → Shown (take (length input - st.next.at) (drop st.next.at input)) (settings_of st) out k
        → Prints input out k
    prints_answer n f = go (subst (λ (s : Setting). Shown (take (length input - s.next.at) (drop s.next.at input)) (settings_of s) out k) e f)
      where
        go : Shown (take (length input - (setting_at input).next.at) (file_in input)) (settings_in input) out k → Prints input out k
        go g = printing (answered h (sym (ap (λ (s : Setting). s.next.fault) e) ∙ n) g.answer (rw whole at g.answers)) (right_answer (rw whole at g.promised)) g.text
          where
            whole : take (length input - (setting_at input).next.at) (file_in input) ≡ file_in input
            whole = take_all (length input - (setting_at input).next.at) (file_in input) (omega (arith, length-drop (setting_at input).next.at input))
