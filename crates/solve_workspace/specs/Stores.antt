-- Laws of the words: what is left of the registers where words are stored.
use Rattle.std.specs.Prelude.{◌≡◌, refl, Bool, true, false, cond, List, ℕ, ◌≤◌, ◌<◌, max, eqb, length, set}
use Rattle.std.proofs.Common.{sym, ap, ◌∙◌, arith, length-set, get_or-set_same, get_or-set_other, eqb-true}
use Rattle.std.proofs.Math.Path.{fun_ext, subst}
use Rattle.std.proofs.lemmas.Bool.{eqb-false}
use Rattle.solve_workspace.specs.declared.Bounds.{Bounds}
use Rattle.solve_workspace.specs.Rows.{at}
use Rattle.solve_workspace.specs.Frames.{Popped}
use Rattle.solve_workspace.specs.Work.{popped_sound}
use Rattle.solve_workspace.specs.Stacks.{with_tasks_to}
use Rattle.solve_workspace.specs.Lent.{TASKS, WORDS, of_words, regs, lifted, Held}

-- ---- stores

-- the word at i is v
abbrev pub put : (ℕ → ℕ) → ℕ → ℕ → ℕ → ℕ
put w i v j = cond (eqb j i) v (w j)

-- the list g reads as w, and has all words
pub record Reads (g : List ℕ) (w : ℕ → ℕ) : Type 0 where
  pub room : WORDS ≤ length g
  pub is : (j : ℕ) → at g j ≡ w j

pub reads : (g : List ℕ) → WORDS ≤ length g → Reads g (λ i. at g i)
reads g l = record { room = l; is = λ j. refl }

put_at : (g : List ℕ) (w : ℕ → ℕ) (i v j : ℕ) → i < length g → at g j ≡ w j → at (set g i v) j ≡ put w i v j
put_at g w i v j l e = go (eqb j i) refl
  where
    go : (t : Bool) → eqb j i ≡ t → at (set g i v) j ≡ cond t v (w j)
    go true q = let k = eqb-true j i q in rw (k) (get_or-set_same g i v 0 l)
    go false q = get_or-set_other g i j v 0 (λ k. eqb-false j i q k) ∙ e

-- one word more is stored
pub stores : {g : List ℕ} {w : ℕ → ℕ} (i v : ℕ) → i < WORDS → Reads g w → Reads (set g i v) (put w i v)
stores {g = g} {w = w} i v l r = record { room = omega (arith, length-set g i v, r.room); is = λ j. put_at g w i v j (omega (arith, r.room)) (r.is j) }

pub lifts : {g : List ℕ} {w : ℕ → ℕ} (i n : ℕ) → i < WORDS → Reads g w → Reads (lifted g i n) (put w i (max (w i) n))
lifts {g = g} {w = w} i n l r = subst (λ (m : ℕ). Reads (set g i (max m n)) (put w i (max (w i) n))) (sym (r.is i)) (stores i (max (w i) n) l r)

-- the registers then
pub now_regs : {g : List ℕ} {w : ℕ → ℕ} → Reads g w → regs g ≡ of_words w
now_regs r = ap of_words (fun_ext r.is)

pub tasks_stored : (g : List ℕ) (n : ℕ) → WORDS ≤ length g → regs (set g TASKS n) ≡ with_tasks_to (regs g) n
tasks_stored g n l = now_regs (stores TASKS n (omega arith) (reads g l))

-- ---- words that hold sound registers still do where a result is taken off

pub popped_held : {b : Bounds} {g h : List ℕ} → Popped (regs g) (regs h) → length h ≡ length g → Held b g → Held b h
popped_held p e r = record { room = omega (arith, r.room); sound = popped_sound p r.sound }
