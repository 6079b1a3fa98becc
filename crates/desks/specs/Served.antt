-- A call for a desk (document 02, change 8): one layer over any kind of call. A kind of call says which answer, and which state after it, comes of sizes and limits.
use Rattle.std.specs.Prelude.{◌≡◌, ℕ, ◌≤◌, ◌<◌}
use Rattle.machine.specs.Events.{Bounds, Counts, Kind, size, need_of, no_counts}
use Rattle.machine.specs.Materializer.{Rendered}
use Rattle.machine.specs.Answer.{Answer, paged, refused}
use Rattle.machine.specs.Larger.{Larger}
use Rattle.machine.specs.Just.{just, Smaller, RefusedBy}
use Rattle.desks.specs.declared.Desks.{Desks}
use Rattle.desks.specs.Desks.{last_desk, allowed, charged, work}

-- X is the state before. `lent`: all that 1 (order) asks. 28 comes right after it and before all else; neither alters a spent count
pub data Served {S : Type 0} (lent : Type 0) (D : Desks) (d : ℕ) (call : Bounds → Answer → S → Type 0) (b : Bounds) (X : S) : Answer → S → Desks → Type 0 where
  out_of_order : (lent → ⊥) → Served lent D d call b X (refused 1 0 no_counts) X D
  no_desk : lent → last_desk < d → Served lent D d call b X (refused 28 0 no_counts) X D
  served : {a : Answer} {Z : S} → lent → d ≤ last_desk → call (allowed D d b) a Z → Served lent D d call b X a Z (charged D d (work a))

-- the numbers: those of the call under it, and 28
pub data ServedNumbered (N : ℕ → Type 0) (n : ℕ) : Type 0 where
  of_the_call : N n → ServedNumbered N n
  desk : n ≡ 28 → ServedNumbered N n

-- what is promised of the call under it, and holds of all but 28
pub data Kept (P : Answer → Type 0) : Answer → Type 0 where
  as_the_call : {a : Answer} → P a → Kept P a
  no_desk : Kept P (refused 28 0 no_counts)

-- ---- what is shown of a kind of call, from state X

-- an answer with the state after it
pub record Left (S : Type 0) : Type 0 where
  pub answer : Answer
  pub state : S

abbrev pub left : {S : Type 0} → Answer → S → Left S
left a Z = record { answer = a; state = Z }

pub record ShortBy {S : Type 0} (x : Kind) (k : Counts) (m : Bounds) (X : S) (z : Left S) : Type 0 where
  pub by : RefusedBy x k.needs m z.answer
  pub kept : z.state ≡ X

-- one answer; under sizes and limits none smaller the same page; its needs are sizes that were lent, just suffice, and with one of them smaller it is that kind's refusal, which leaves the state (document 02, change 10); its work is within its limit
pub record Steady {S : Type 0} (call : Bounds → Answer → S → Type 0) (X : S) : Type 0 where
  pub one : {b : Bounds} {a z : Answer} {Z Y : S} → call b a Z → call b z Y → left a Z ≡ left z Y
  pub larger : {b m : Bounds} {p : Rendered} {k : Counts} {Z : S} → Larger b m → call b (paged p k) Z → call m (paged p k) Z
  pub within : {b : Bounds} {p : Rendered} {k : Counts} {Z : S} → call b (paged p k) Z → (x : Kind) → need_of k.needs x ≤ size b x
  pub suffices : {b : Bounds} {p : Rendered} {k : Counts} {Z : S} → call b (paged p k) Z → call (just k.needs b) (paged p k) Z
  pub less : {b m : Bounds} {p : Rendered} {k : Counts} {Z Y : S} {z : Answer} (x : Kind) → call b (paged p k) Z → Smaller x k.needs b m → call m z Y → ShortBy x k m X (left z Y)
  pub spends : {b : Bounds} {a : Answer} {Z : S} → call b a Z → work a ≤ b.work_limit

-- ---- what is promised of a call for a desk

-- The same call by any desk (e, of other desks' record E), under other sizes and limits m: with the lesser of allowance left and work limit not smaller, and nothing else smaller, the same page (demand 3 as document 02, change 8,
-- reads it); with just the sizes needed and the same limits the same page; with exactly one of them smaller, that kind's refusal. `Unit` stands for whatever 1 asks
pub record Serving {S : Type 0} (lent : Type 0) (D : Desks) (d : ℕ) (call : Bounds → Answer → S → Type 0) (b : Bounds) (X : S) (a : Answer) (Z : S) (D' : Desks) : Type 0 where
  pub answers : Served lent D d call b X a Z D'
  pub same_page : (p : Rendered) (k : Counts) → a ≡ paged p k → (E : Desks) (e : ℕ) (m : Bounds) → e ≤ last_desk → Larger (allowed D d b) (allowed E e m)
      → (z : Answer) (Y : S) (E' : Desks) → Served (Unit {0}) E e call m X z Y E' → left z Y ≡ left (paged p k) Z
  pub needs_within : (p : Rendered) (k : Counts) → a ≡ paged p k → (x : Kind) → need_of k.needs x ≤ size b x
  pub just_suffices : (p : Rendered) (k : Counts) → a ≡ paged p k → (E : Desks) (e : ℕ) (m : Bounds) → e ≤ last_desk → allowed E e m ≡ just k.needs (allowed D d b)
      → (z : Answer) (Y : S) (E' : Desks) → Served (Unit {0}) E e call m X z Y E' → left z Y ≡ left (paged p k) Z
  pub none_less : (p : Rendered) (k : Counts) → a ≡ paged p k → (x : Kind) (E : Desks) (e : ℕ) (m : Bounds) → e ≤ last_desk → Smaller x k.needs (allowed D d b) (allowed E e m)
      → (z : Answer) (Y : S) (E' : Desks) → Served (Unit {0}) E e call m X z Y E' → ShortBy x k (allowed E e m) X (left z Y)
