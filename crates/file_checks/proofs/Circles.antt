-- The search for a circle: what a turn of it keeps, and what it comes to.
use mathlib.Core.Path.{◌≡◌, refl, sym, ap, ◌∙◌, subst}
use mathlib.Core.Bool.{true, false, true≢false, false≢true}
use mathlib.Core.Logic.{◌⊎◌, inl, inr, ⊎_elim, by_cases}
use mathlib.Core.List.{List, [], ◌∷◌}
use Prim.Native.Nat.{ℕ, suc, ◌+◌, ◌-◌, ◌≤◌, ◌<◌}
use native.Mathlib.Omega.{arith}
use native.Mathlib.Decide.{ℕ_discrete, dec_lt}
use native.Mathlib.Numerals.{add-one}
use lib.ListN.{length, get_or, take, drop, set, length-set, length-drop, drop_of_length-le, get_or-eq_default}
use Rattle.std.proofs.Common.{replicate}
use Rattle.std.proofs.lemmas.List.{get_or-replicate, length-replicate}
use lib.Seq.{length-take-le, get_or-take, get_or-set_same, get_or-set_other, drop-cons, drop-set-lt}
use Rattle.file_checks.specs.Told.{Told}
use Rattle.file_checks.specs.Circle.{Refers, Leads, one, more, Circle}
use Rattle.file_checks.specs.Search.{degree, target, node, taken, Row, Way, none, start, onward, Stands, here, later, Walking, unfinished, Went, TurnCase, Turned, Searched}
use Rattle.file_checks.specs.Descent.{Closed, Ends, ends}
use Rattle.std.specs.Prelude.{Option, Some, None}
use Rattle.file_checks.proofs.Enumerated.{nth_of, nth_refers}
use Rattle.file_checks.proofs.Ways.{no_way_back}
use Rattle.file_checks.proofs.White.{white_set, white_set_le, white_le, unseen_set, unseen_set_le}
use Rattle.file_checks.specs.Tells.{tell_no}

-- ---- the rows as a part of a slice

-- a row written at p stands before those from p + 1 on
pub written : (l : List (List ℕ)) (p q : ℕ) (r : List ℕ) → p < length l → q ≡ suc p → drop p (set l p r) ≡ r ∷ drop q l
written l p q r h e =
    rw e
    (drop-cons (set l p r) p [] (simp length-set (omega arith))
    ∙ rw (get_or-set_same l p r [] h, drop-set-lt (suc p) l p r (omega arith)))

-- ---- colours after a store

module _ (cs : List ℕ) (i v : ℕ) (h : i < length cs) where
  -- what has colour c, another than was written, had it before
  pub colour_was : (x c : ℕ) → (v ≡ c → ⊥) → get_or (set cs i v) x 0 ≡ c → (x ≡ i → ⊥) × (get_or cs x 0 ≡ c)
  colour_was x c nv e =
      by_cases (ℕ_discrete x i)
      (λ ex. absurd (nv (sym (get_or-set_same cs i v 0 h) ∙ ap (λ (y : ℕ). get_or (set cs i v) y 0) (sym ex) ∙ e)))
      (λ ne. (ne, sym (get_or-set_other cs i x v 0 ne) ∙ e))

-- ---- turns

rows_stand : {x : ℕ} {rows : List (List ℕ)} → Stands x rows → 0 < length rows
rows_stand (here e) = omega arith
rows_stand (later s) = omega arith

pub none_stands : {x : ℕ} → Stands x [] → ⊥
none_stands s = let h = rows_stand s in omega arith

stands_later : {x : ℕ} {row : List ℕ} {rows : List (List ℕ)} → (x ≡ node row → ⊥) → Stands x (row ∷ rows) → Stands x rows
stands_later ne (here e) = absurd (ne e)
stands_later ne (later s) = s

stands_again : {x : ℕ} {row other : List ℕ} {rows : List (List ℕ)} → node row ≡ node other → Stands x (row ∷ rows) → Stands x (other ∷ rows)
stands_again q (here e) = here (e ∙ q)
stands_again q (later s) = later s

module _ (t : List (List ℕ)) (e : List ℕ) where
  last_row : {row : List ℕ} {rows : List (List ℕ)} → Way t e (row ∷ rows) → Row t e row
  last_row (start r) = r
  last_row (onward r f w) = r

  before : {row : List ℕ} {rows : List (List ℕ)} → Way t e (row ∷ rows) → Way t e rows
  before (start r) = none
  before (onward r f w) = w

  replaced : {row other : List ℕ} {rows : List (List ℕ)} → node row ≡ node other → Row t e other → Way t e (row ∷ rows) → Way t e (other ∷ rows)
  replaced q r (start _) = start r
  replaced q r (onward {before = b} _ f w) = onward r (subst (λ (y : ℕ). Refers t e (node b) y) q f) w

  -- a node of the way is the last one or leads to it
  leads : {x : ℕ} {row : List ℕ} {rows : List (List ℕ)} → Way t e (row ∷ rows) → Stands x (row ∷ rows) → (x < length t) × ((x ≡ node row) ⊎ Leads t e x (node row))
  leads w (here q) = (subst (λ (y : ℕ). y < length t) (sym q) (last_row w).inside, inl q)
  leads (start r) (later s) = absurd (none_stands s)
  leads {x} {row} (onward r f w) (later s) =
      let z = leads w s in
      (z.0, inr (⊎_elim (λ q. one (subst (λ (y : ℕ). Refers t e y (node row)) (sym q) f)) (λ l. more l f) z.1))

  -- a reference to a node of the way closes a circle
  closes : {row : List ℕ} {rows : List (List ℕ)} (j : ℕ) → Way t e (row ∷ rows) → Stands j (row ∷ rows) → Refers t e (node row) j → Circle t e
  closes j w s r =
      let z = leads w s in
      record { node = j; inside = z.0; back = ⊎_elim (λ q. one (subst (λ (y : ℕ). Refers t e y j) (sym q) r)) (λ l. more l r) z.1 }

  -- node j is entered
  pub enter : (cs : List ℕ) (j : ℕ) (rows : List (List ℕ)) → j < length t → get_or cs j 0 ≡ 0 → Walking t e cs rows → Way t e ((j ∷ 0 ∷ []) ∷ rows)
      → Went t e cs rows (set cs j 1) ((j ∷ 0 ∷ []) ∷ rows)
  unfolding unfinished
  enter cs j rows hj z u w =
      record {
        walking = record {
          enough = omega (arith, u.enough, length-set cs j 1);
          done = λ x h. by_cases (ℕ_discrete x j)
              (λ ex. absurd (let q : get_or (set cs j 1) x 0 ≡ 1 = ap (λ (y : ℕ). get_or (set cs j 1) y 0) ex ∙ get_or-set_same cs j 1 0 lt in omega arith))
              (λ ne. u.done x (subst (λ (m : ℕ). 1 < m) (get_or-set_other cs j x 1 0 ne) h));
          way = w;
          grey = λ x q. by_cases (ℕ_discrete x j) (λ ex. here ex) (λ ne. later (u.grey x (sym (get_or-set_other cs j x 1 0 ne) ∙ q)));
          room = omega (arith, u.room, length-set cs j 1, white_set cs j 1 lt z (λ q. omega arith));
        };
        seen = λ x q. (colour_was cs j 1 lt x 0 (λ f. omega arith) q).1;
        fewer =
            let q : degree t (0 + j) ≡ degree t (node (j ∷ 0 ∷ [])) = ap (λ (y : ℕ). degree t y) (omega arith) in
            omega (arith, q, unseen_set t 0 cs j 1 lt z (λ q. omega arith));
      }
    where
      lt : j < length cs
      lt = omega (arith, u.enough)

  module _ (cs row : List ℕ) (rows : List (List ℕ)) (u : Walking t e cs (row ∷ rows)) where
    -- all references of the last node are done, and it is too
    pub leave : degree t (node row) ≤ taken row → Went t e cs (row ∷ rows) (set cs (node row) 2) rows
    unfolding unfinished
    leave hd =
        let i = node row in
        record {
          walking = record {
            enough = omega (arith, u.enough, length-set cs i 2);
            done = λ x h. by_cases (ℕ_discrete x i)
                (λ ex. subst (λ (y : ℕ). Ends t e y) (sym ex) (ends (λ j r. let q = nth_of t e i r in subst (λ (y : ℕ). Ends t e y) q.there ((last_row u.way).past q.nth (omega (arith, q.below))))))
                (λ ne. u.done x (subst (λ (m : ℕ). 1 < m) (get_or-set_other cs i x 2 0 ne) h));
            way = before u.way;
            grey = λ x q. let z = colour_was cs i 2 lt x 1 (λ f. omega arith) q in stands_later z.0 (u.grey x z.1);
            room = omega (arith, u.room, length-set cs i 2, white_set_le cs i 2 (λ q. omega arith));
          };
          seen = λ x q. (colour_was cs i 2 lt x 0 (λ f. omega arith) q).1;
          fewer = omega (arith, unseen_set_le t 0 cs i 2 (λ q. omega arith));
        }
      where
        lt : node row < length cs
        lt = omega (arith, u.enough, (last_row u.way).inside)

    -- the next reference is done
    pub skip : (other : List ℕ) → node row ≡ node other → taken other ≡ taken row + 1 → taken row < degree t (node row)
        → 1 < get_or cs (target t e (node row) (taken row)) 0 → Went t e cs (row ∷ rows) cs (other ∷ rows)
    unfolding unfinished
    skip other en ek hd h =
        record {
          walking = record {
            enough = u.enough;
            done = u.done;
            way = replaced en (record { inside = subst (λ (y : ℕ). y < length t) en (last_row u.way).inside; past = past }) u.way;
            grey = λ x q. stands_again en (u.grey x q);
            room = u.room;
          };
          seen = λ x q. q;
          fewer = let q : degree t (node other) ≡ degree t (node row) = ap (λ (y : ℕ). degree t y) (sym en) in omega arith;
        }
      where
        past : (m : ℕ) → m < taken other → Ends t e (target t e (node other) m)
        past m l =
            subst (λ (y : ℕ). Ends t e (target t e y m)) en
            (by_cases (ℕ_discrete m (taken row))
            (λ ex. subst (λ (y : ℕ). Ends t e (target t e (node row) y)) (sym ex) (u.done (target t e (node row) (taken row)) h))
            (λ ne. (last_row u.way).past m (omega arith)))

    -- the next reference is not seen
    pub further : (j : ℕ) → Refers t e (node row) j → j < length t → get_or cs j 0 ≡ 0 → Went t e cs (row ∷ rows) (set cs j 1) ((j ∷ 0 ∷ []) ∷ row ∷ rows)
    further j r hj z =
        enter cs j (row ∷ rows) hj z u (onward (record { inside = hj; past = λ m l. absurd (omega arith) }) r u.way)

    pub round : (j : ℕ) → Refers t e (node row) j → get_or cs j 0 ≡ 1 → Circle t e
    round j r q = closes j u.way (u.grey j q) r

-- ---- what the functions promise

pub refers : (t : List (List ℕ)) (e : List ℕ) (i j d k : ℕ) → d ≡ degree t i → k < d → j ≡ target t e i k → Refers t e i j
refers t e i j d k ed h ej = subst (λ (y : ℕ). Refers t e i y) (sym ej) (nth_refers t e i k (subst (λ (m : ℕ). k < m) ed h))

module _ (t : List (List ℕ)) (e cs : List ℕ) (way : List (List ℕ)) (top : ℕ) (hw : top < length way) (u : Walking t e cs (drop top way)) where
  last : List ℕ
  last = get_or way top []

  rows : List (List ℕ)
  rows = drop (suc top) way

  opened : Walking t e cs (last ∷ rows)
  unfolding last rows
  opened = subst (λ (z : List (List ℕ)). Walking t e cs z) (drop-cons way top [] hw) u

  pub last_inside : node (get_or way top []) < length t
  unfolding last
  last_inside = (last_row t e opened.way).inside

  pub last_coloured : node (get_or way top []) < length cs
  last_coloured = omega (arith, last_inside, u.enough)

  -- a way on is to be told of the rows as they stand
  told : (ds : List ℕ) (on : List (List ℕ)) (place : ℕ) (below : List (List ℕ)) → place ≤ length on → drop place on ≡ below → Went t e cs (last ∷ rows) ds below
      → Turned t e cs way top ds on (Some place)
  unfolding last rows
  told ds on place below h q w =
      record { case = (h, subst (λ (z : List (List ℕ)). Went t e cs (drop top way) ds z) (sym q) (subst (λ (z : List (List ℕ)). Went t e cs z ds below) (sym (drop-cons way top [] hw)) w)) }

  pub turn_leave : degree t (node (get_or way top [])) ≤ taken (get_or way top []) → Turned t e cs way top (set cs (node (get_or way top [])) 2) way (Some (top + 1))
  unfolding last rows
  turn_leave h = told _ way (top + 1) rows (omega arith) (ap (λ (n : ℕ). drop n way) (add-one top)) (leave t e cs last rows opened h)

  -- the next reference, which is not past the last
  module _ (closed : Closed t e) (d j : ℕ) (ed : d ≡ degree t (node (get_or way top []))) (hd : taken (get_or way top []) < d)
      (ej : j ≡ target t e (node (get_or way top [])) (taken (get_or way top []))) where
    r : Refers t e (node (get_or way top [])) j
    r = refers t e (node (get_or way top [])) j d (taken (get_or way top [])) ed hd ej

    hj : j < length t
    hj = closed.within (node (get_or way top [])) j last_inside r

    pub next_coloured : j < length cs
    next_coloured = omega (arith, hj, u.enough)

    pub turn_round : (ds : List ℕ) (on : List (List ℕ)) → get_or cs j 0 ≡ 1 → Turned t e cs way top ds on None
    unfolding last
    turn_round ds on q = record { case = round t e cs last rows opened j r q }

    -- there is a place for it
    pub turn_place : length cs ≤ length way → get_or cs j 0 ≡ 0 → 1 ≤ top
    unfolding rows
    turn_place h z =
        omega (arith, opened.room, length-drop (suc top) way, white_set cs j 1 (omega (arith, hj, u.enough)) z (λ q. omega arith))

    pub turn_further : length cs ≤ length way → get_or cs j 0 ≡ 0 → Turned t e cs way top (set cs j 1) (set way (top - 1) (j ∷ 0 ∷ [])) (Some (top - 1))
    unfolding last rows
    turn_further h z =
        let l : 1 ≤ top = turn_place h z in
        let q : suc (top - 1) ≡ top = omega arith in
        told _ _ (top - 1) _ (simp length-set (omega arith))
        (written way (top - 1) top (j ∷ 0 ∷ []) (omega arith) (sym q) ∙ ap (λ (x : List (List ℕ)). (j ∷ 0 ∷ []) ∷ x) (drop-cons way top [] hw))
        (further t e cs last rows opened j r hj z)

  pub turn_skip : (i k j : ℕ) → i ≡ node (get_or way top []) → k ≡ taken (get_or way top []) + 1 → taken (get_or way top []) < degree t (node (get_or way top []))
      → j ≡ target t e (node (get_or way top [])) (taken (get_or way top [])) → 1 < get_or cs j 0 → Turned t e cs way top cs (set way top (i ∷ k ∷ [])) (Some top)
  unfolding last rows
  turn_skip i k j ei ek h ej l =
      told _ _ top _ (simp length-set (omega arith)) (written way top (suc top) (i ∷ k ∷ []) hw refl)
      (skip t e cs last rows opened (i ∷ k ∷ []) (sym ei) ek h (subst (λ (y : ℕ). 1 < get_or cs y 0) ej l))

-- a turn that was told
pub turned_round : {t : List (List ℕ)} {e cs : List ℕ} {way : List (List ℕ)} {top : ℕ} {ds : List ℕ} {on : List (List ℕ)} {r : Option ℕ}
    → Turned t e cs way top ds on r → r ≡ None → Circle t e
turned_round {t} {e} {cs} {way} {top} {ds} {on} v q = subst (λ (z : Option ℕ). TurnCase t e cs way top ds on z) q v.case

pub turned_at : {t : List (List ℕ)} {e cs : List ℕ} {way : List (List ℕ)} {top : ℕ} {ds : List ℕ} {on : List (List ℕ)} {r : Option ℕ} {place : ℕ}
    → Turned t e cs way top ds on r → r ≡ Some place → (place ≤ length on) × Went t e cs (drop top way) ds (drop place on)
turned_at {t} {e} {cs} {way} {top} {ds} {on} v q = subst (λ (z : Option ℕ). TurnCase t e cs way top ds on z) q v.case

-- ---- the search from a node

module _ (t : List (List ℕ)) (e : List ℕ) where
  -- between two turns: cs₀ has the node on the way already
  pub record Searching (cs₀ cs : List ℕ) (way : List (List ℕ)) (top : ℕ) : Type 0 where
    pub within : top ≤ length way
    pub walking : Walking t e cs (drop top way)
    pub seen : (x : ℕ) → get_or cs x 0 ≡ 0 → get_or cs₀ x 0 ≡ 0

  pub search_start : (cs : List ℕ) (way : List (List ℕ)) (i top : ℕ) → i < length t → get_or cs i 0 ≡ 0 → Walking t e cs [] → suc top ≡ length way
      → Searching (set cs i 1) (set cs i 1) (set way top (i ∷ 0 ∷ [])) top
  search_start cs way i top hi z u q =
      record {
        within = simp length-set (omega arith);
        walking = subst (λ (y : List (List ℕ)). Walking t e (set cs i 1) y)
            (sym (written way top (length way) (i ∷ 0 ∷ []) (omega arith) (sym q) ∙ ap (λ (y : List (List ℕ)). (i ∷ 0 ∷ []) ∷ y) (drop_of_length-le way {i = length way} (omega arith))))
            (enter t e cs i [] hi z u (start (record { inside = hi; past = λ m l. absurd (omega arith) }))).walking;
        seen = λ x h. h;
      }

  pub search_on : (cs₀ cs : List ℕ) (way : List (List ℕ)) (top : ℕ) (ds : List ℕ) (on : List (List ℕ)) (place : ℕ) → Searching cs₀ cs way top
      → (place ≤ length on) × Went t e cs (drop top way) ds (drop place on) → Searching cs₀ ds on place
  search_on cs₀ cs way top ds on place s w =
      record { within = w.0; walking = w.1.walking; seen = λ x h. s.seen x (w.1.seen x h) }

  pub search_round : (cs ds : List ℕ) (i : ℕ) → Circle t e → Searched t e cs ds i true
  search_round cs ds i z = record { circle = λ _. z; over = λ f. absurd (true≢false f); seen = λ f. absurd (true≢false f) }

  pub search_end : (cs ds : List ℕ) (way : List (List ℕ)) (i top : ℕ) → i < length cs → length way ≤ top → Searching (set cs i 1) ds way top → Searched t e cs ds i false
  search_end cs ds way i top hi h s =
      record {
        circle = λ f. absurd (false≢true f);
        over = λ _. subst (λ (y : List (List ℕ)). Walking t e ds y) (drop_of_length-le way h) s.walking;
        seen = λ _ x q. let z = colour_was cs i 1 hi x 0 (λ f. omega arith) (s.seen x q) in (z.1, z.0);
      }

  -- ---- the search from each node in turn

  pub record Sweep (cs : List ℕ) (i : ℕ) : Type 0 where
    pub over : Walking t e cs []
    pub seen : (m : ℕ) → m < i → get_or cs m 0 ≡ 0 → ⊥

  pub sweep_start : (cs : List ℕ) → Walking t e cs [] → Sweep cs 0
  sweep_start cs u = record { over = u; seen = λ m l. absurd (omega arith) }

  pub sweep_on : (cs ds : List ℕ) (i : ℕ) → Sweep cs i → Searched t e cs ds i false → Sweep ds (i + 1)
  sweep_on cs ds i u v =
      record { over = v.over refl; seen = λ m l q. let z = v.seen refl m q in u.seen m (let ne = z.1 in omega arith) z.0 }

  pub sweep_skip : (cs : List ℕ) (i : ℕ) → Sweep cs i → (get_or cs i 0 ≡ 0 → ⊥) → Sweep cs (i + 1)
  sweep_skip cs i u h =
      record {
        over = u.over;
        seen = λ m l. by_cases (ℕ_discrete m i) (λ ex. subst (λ (y : ℕ). get_or cs y 0 ≡ 0 → ⊥) (sym ex) h) (λ ne. u.seen m (omega arith));
      }

  -- every node is done
  pub sweep_end : (cs : List ℕ) (i : ℕ) → length t ≤ i → Sweep cs i → Told (Circle t e) false
  sweep_end cs i h u = tell_no (λ z. no_way_back t e (u.over.done z.node (done z.node z.inside)) z.back)
    where
      done : (x : ℕ) → x < length t → 1 < get_or cs x 0
      done x l = let a = u.seen x (omega arith) in let b : get_or cs x 0 ≡ 1 → ⊥ = λ q. none_stands (u.over.grey x q) in omega arith

  -- before the first: a colour 0 for each node
  pub cleared : (cs : List ℕ) (n : ℕ) → length t ≤ n → cs ≡ replicate n 0 → Walking t e (take (length t) cs) []
  cleared cs n h z =
      record {
        enough = omega (arith, len);
        done = λ x l. absurd (omega (arith, all x));
        way = none;
        grey = λ x q. absurd (omega (arith, all x));
        room = omega (arith, white_le (take (length t) cs));
      }
    where
      len : length (take (length t) cs) ≡ length t
      len = length-take-le (length t) cs (rw z (simp length-replicate h))

      all : (x : ℕ) → get_or (take (length t) cs) x 0 ≡ 0
      all x =
          by_cases (dec_lt x (length t)) (λ l. get_or-take (length t) cs x 0 l ∙ rw z (get_or-replicate n x 0 0 (omega arith)))
          (λ l. get_or-eq_default (take (length t) cs) 0 (omega (arith, len)))
