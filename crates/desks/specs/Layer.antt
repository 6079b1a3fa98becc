-- The layer, over any kind of call: one answer, one state and one record; the desk's count has its place; what is shown of a kind of call is so for desks.
use Rattle.std.specs.Prelude.{◌≡◌, refl, ℕ, ◌+◌, ◌≤◌, ◌<◌, ◌^◌, length, get_or, set}
use Rattle.std.proofs.Common.{sym, ap, subst, arith, set-set, get_or-set_same}
use Rattle.std.proofs.lemmas.List.{set-get_or}
use Rattle.machine.specs.Events.{Bounds, Counts}
use Rattle.machine.specs.Materializer.{Rendered}
use Rattle.machine.specs.Answer.{Answer, paged, refused}
use Rattle.desks.specs.declared.Desks.{Desks}
use Rattle.desks.specs.Desks.{last_desk, remaining, allowed, charged, work}
use Rattle.desks.specs.Work.{at_most_size}
use Rattle.desks.specs.Served.{Served, out_of_order, no_desk, served, ServedNumbered, of_the_call, desk, Left, Steady, Serving}

-- no work charged: the record as it was
pub charged_nothing : (D : Desks) (d : ℕ) → charged D d 0 ≡ D
charged_nothing D d =
    let e : get_or D.spent d 0 + 0 ≡ get_or D.spent d 0 = omega arith in
    rw (e, set-get_or D.spent d 0) refl

-- more work for the same desk
pub charged_on : (D : Desks) (d w v : ℕ) → d < length D.spent → charged (charged D d w) d v ≡ charged D d (w + v)
charged_on D d w v h =
    let e : get_or (set D.spent d (get_or D.spent d 0 + w)) d 0 + v ≡ get_or D.spent d 0 + (w + v) = omega (arith, get_or-set_same D.spent d (get_or D.spent d 0 + w) 0 h) in
    rw (e, set-set D.spent d (get_or D.spent d 0 + w) (get_or D.spent d 0 + (w + v))) refl

-- no more work than the desk may still do: its count has its place
pub has_place : (D : Desks) (d w : ℕ) → w ≤ remaining D d → get_or D.allowance d 0 < 2 ^ 64 → get_or D.spent d 0 < 2 ^ 64 → get_or D.spent d 0 + w < 2 ^ 64
has_place D d w h a s = omega (arith, h, a, s)

-- an answer with the state and the record after it
pub record After (S : Type 0) : Type 0 where
  pub answer : Answer
  pub state : S
  pub desks : Desks

abbrev pub after : {S : Type 0} → Answer → S → Desks → After S
after a Z D = record { answer = a; state = Z; desks = D }

module _ {S : Type 0} {call : Bounds → Answer → S → Type 0} {X : S} where
  -- a page is that of the call under the layer
  pub came : {lent : Type 0} {D : Desks} {d : ℕ} {b : Bounds} {a : Answer} {p : Rendered} {k : Counts} {Z : S} {D' : Desks} → Served lent D d call b X a Z D' → a ≡ paged p k → call (allowed D d b) (paged p k) Z
  came (out_of_order n) e = let z : ◌≡◌ {A = ℕ} 0 1 = cc in absurd (omega arith)
  came (no_desk m h) e = let z : ◌≡◌ {A = ℕ} 0 1 = cc in absurd (omega arith)
  came {D = D} {d = d} {b = b} {Z = Z} (served m h c) e = subst (λ (a : Answer). call (allowed D d b) a Z) e c

  -- where what 1 asks is there, nothing is left of it
  pub lent_unit : {lent : Type 0} {D : Desks} {d : ℕ} {b : Bounds} {a : Answer} {Z : S} {D' : Desks} → lent → Served lent D d call b X a Z D' → Served (Unit {0}) D d call b X a Z D'
  lent_unit l (out_of_order n) = absurd (n l)
  lent_unit l (no_desk m h) = no_desk tt h
  lent_unit l (served m h c) = served tt h c

  -- a desk 0 to 7 with what 1 asks is served
  pub served_by : {E : Desks} {e : ℕ} {m : Bounds} {z : Answer} {Y : S} {E' : Desks} → e ≤ last_desk → Served (Unit {0}) E e call m X z Y E' → call (allowed E e m) z Y
  served_by h (out_of_order n) = absurd (n tt)
  served_by h (no_desk l g) = absurd (omega (arith, g, h))
  served_by h (served l g c) = c

  module _ (G : Steady call X) where
    pub served_one : {lent : Type 0} {D : Desks} {d : ℕ} {b : Bounds} {a z : Answer} {Z Y : S} {D' E' : Desks} → Served lent D d call b X a Z D' → Served lent D d call b X z Y E' → after a Z D' ≡ after z Y E'
    served_one (out_of_order n) (out_of_order m) = refl
    served_one (out_of_order n) (no_desk l h) = absurd (n l)
    served_one (out_of_order n) (served l h c) = absurd (n l)
    served_one (no_desk l h) (out_of_order m) = absurd (m l)
    served_one (no_desk l h) (no_desk m g) = refl
    served_one (no_desk l h) (served m g c) = absurd (omega (arith, h, g))
    served_one (served l h c) (out_of_order m) = absurd (m l)
    served_one (served l h c) (no_desk m g) = absurd (omega (arith, h, g))
    served_one {D = D} {d = d} (served l h c) (served m g e) = ap (λ (z : Left S). after z.answer z.state (charged D d (work z.answer))) (G.one c e)

    -- a desk does no more than it may still do, so that its count has its place
    pub work_left : {lent : Type 0} {D : Desks} {d : ℕ} {b : Bounds} {a : Answer} {Z : S} {D' : Desks} → Served lent D d call b X a Z D' → work a ≤ remaining D d
    work_left (out_of_order n) = omega arith
    work_left (no_desk l z) = omega arith
    work_left (served l z c) = omega (arith, G.spends c)

    pub count_fits : {lent : Type 0} {D : Desks} {d : ℕ} {b : Bounds} {a : Answer} {Z : S} {D' : Desks} → Served lent D d call b X a Z D'
        → get_or D.allowance d 0 < 2 ^ 64 → get_or D.spent d 0 < 2 ^ 64 → get_or D.spent d 0 + work a < 2 ^ 64
    count_fits {D = D} {d = d} {a = a} s h g = has_place D d (work a) (work_left s) h g

    -- what is shown of the kind of call is so for desks
    pub serving : {lent : Type 0} {D : Desks} {d : ℕ} {b : Bounds} {a : Answer} {Z : S} {D' : Desks} → Served lent D d call b X a Z D' → Serving lent D d call b X a Z D'
    serving {D = D} {d = d} {b = b} s = record {
      answers = s;
      same_page = λ p k e E f m h L z Y E' q. G.one (served_by h q) (G.larger L (came s e));
      needs_within = λ p k e x. omega (arith, G.within (came s e) x, at_most_size (remaining D d) b x);
      just_suffices = λ p k e E f m h i z Y E' q. G.one (subst (λ (l : Bounds). call l z Y) i (served_by h q)) (G.suffices (came s e));
      none_less = λ p k e x E f m h i z Y E' q. G.less x (came s e) i (served_by h q);
    }

  -- ---- its number

  pub numbered_all : {N : ℕ → Type 0} {lent : Type 0} {D : Desks} {d : ℕ} {b : Bounds} {n q : ℕ} {k : Counts} {Z : S} {D' : Desks} → N 1
      → ((m : Bounds) (i j : ℕ) (c : Counts) (Y : S) → call m (refused i j c) Y → N i) → Served lent D d call b X (refused n q k) Z D' → ServedNumbered N n
  numbered_all {N} {n = n} {q = q} {k = k} one all s = go s refl
    where
      go : {lent : Type 0} {D : Desks} {d : ℕ} {b : Bounds} {a : Answer} {Z : S} {D' : Desks} → Served lent D d call b X a Z D' → a ≡ refused n q k → ServedNumbered N n
      go (out_of_order m) e = let z : ◌≡◌ {A = ℕ} 1 n = cc in of_the_call (subst N z one)
      go (no_desk l h) e = let z : ◌≡◌ {A = ℕ} 28 n = cc in desk (sym z)
      go {D = D} {d = d} {b = b} {Z = Z} (served l h c) e = of_the_call (all _ _ _ _ _ (subst (λ (a : Answer). call (allowed D d b) a Z) e c))
