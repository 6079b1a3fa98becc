-- The same in the machine's words, without memory: each document's answer comes of the sizes that the pages before it left, and of the desks as they then are.
use Rattle.std.specs.Prelude.{◌≡◌, refl, List, [], ◌∷◌, ℕ, ◌-◌, length}
use Rattle.std.proofs.Common.{sym, ap, ap₂, subst}
use Rattle.machine.specs.Events.{Bounds}
use Rattle.machine.specs.Answer.{Answer, paged, refused}
use Rattle.answer.specs.Answer.{Settings}
use Rattle.desks.specs.declared.Desks.{Desks}
use Rattle.desks.specs.Served.{Served}
use Rattle.desks.specs.Layer.{After, served_one}
use Rattle.desks.specs.Kinds.{single, single_steady}
use Rattle.desks.specs.Limits.{file_served}

-- the same sizes and limits, with so much less output and so many fewer spans
abbrev pub less : Bounds → ℕ → ℕ → Bounds
less b bytes spans = record {
  stack = b.stack;
  memo = b.memo;
  kept = b.kept;
  frontier = b.frontier;
  plans = b.plans;
  visit = b.visit;
  depth = b.depth;
  output = b.output - bytes;
  spans = b.spans - spans;
  work_limit = b.work_limit;
  visit_limit = b.visit_limit;
}

-- what a page leaves; a refusal leaves all
abbrev pub left_by : Answer → Bounds → Bounds
left_by (paged p k) b = less b (length p.bytes) (length p.spans)
left_by (refused n needed k) b = b

-- documents in order, their answers, and what is left: sizes, and the desks
pub data Shift (d : ℕ) (c : Settings) : Bounds → Desks → List (List ℕ) → List Answer → Bounds → Desks → Type 0 where
  none : {b : Bounds} {D : Desks} → Shift d c b D [] [] b D
  first : {file : List ℕ} {files : List (List ℕ)} {a : Answer} {answers : List Answer} {b m : Bounds} {D E G : Desks} → Served (Unit {0}) D d (single file c) b tt a tt E → Shift d c (left_by a b) E files answers m G
      → Shift d c b D (file ∷ files) (a ∷ answers) m G

-- ---- each shift has one list of answers

pub record OneShift (answers rs : List Answer) (b m : Bounds) (D E : Desks) : Type 0 where
  pub answers_same : answers ≡ rs
  pub left_same : b ≡ m
  pub desks_same : D ≡ E

pub shift_one : {d : ℕ} {c : Settings} {b m n : Bounds} {D E G : Desks} {files : List (List ℕ)} {answers rs : List Answer} → Shift d c b D files answers m E → Shift d c b D files rs n G → OneShift answers rs m n E G
shift_one none none = record { answers_same = refl; left_same = refl; desks_same = refl }
shift_one {d} {c} {b} {n = n} {G = G} (first {file = file} {files = files} {a = a} {answers = answers} {E = E} h s) (first {a = z} {answers = rs} {E = O} g t) =
    let e = served_one (single_steady file c) h g in
    let same : a ≡ z = ap (λ (y : After (Unit {0})). y.answer) e in
    let desks : E ≡ O = ap (λ (y : After (Unit {0})). y.desks) e in
    let r = shift_one s (subst (λ (x : Answer). Shift d c (left_by x b) E files rs n G) (sym same) (subst (λ (D : Desks). Shift d c (left_by z b) D files rs n G) (sym desks) t)) in
    record { answers_same = ap₂ (λ (x : Answer) (xs : List Answer). x ∷ xs) same r.answers_same; left_same = r.left_same; desks_same = r.desks_same }

pub record There (d : ℕ) (c : Settings) (b : Bounds) (D : Desks) (files : List (List ℕ)) : Type 0 where
  pub answers : List Answer
  pub left : Bounds
  pub desks : Desks
  pub is : Shift d c b D files answers left desks

pub shift_there : (d : ℕ) (c : Settings) (b : Bounds) (D : Desks) (files : List (List ℕ)) → There d c b D files
shift_there d c b D [] = record { answers = []; left = b; desks = D; is = none }
shift_there d c b D (file ∷ files) =
    let h = file_served {lent = Unit {0}} D d file c b (yes tt) in
    let r = shift_there d c (left_by h.answer b) h.desks files in
    record { answers = h.answer ∷ r.answers; left = r.left; desks = r.desks; is = first h.is r.is }
