-- What a desk gets for files and live reports that no other desk touches is the same for any calls of the others in between (document 02, change 8).
-- Stated over the relation `Served` itself: whatever sequence of answers is right with the others' calls in between, the desk's own among them are those that are right without.
use Rattle.std.specs.Prelude.{◌≡◌, refl, Bool, true, false, cond, List, ◌∷◌, ℕ, ◌+◌, eqb, length, get_or, set}
use Rattle.std.proofs.Common.{sym, ap, ap₂, subst, ◌∙◌, arith, eqb-true, ne_eqb, length-set, get_or-set_same, get_or-set_other}
use Rattle.std.proofs.Math.Logic.{by_cases}
use Rattle.std.proofs.Math.Decide.{dec_lt}
use Rattle.std.proofs.lemmas.Bool.{eqb-false}
use Rattle.std.proofs.Math.Seq.{set_out}
use Rattle.std.proofs.lemmas.List.{set_comm}
use Rattle.machine.specs.Events.{Bounds, no_counts}
use Rattle.machine.specs.Answer.{Answer, refused}
use Rattle.report.specs.Report.{Report}
use Rattle.desks.specs.declared.Desks.{Desks}
use Rattle.desks.specs.Desks.{remaining, at_most, charged, work}
use Rattle.desks.specs.Served.{Served, out_of_order, no_desk, served}
use Rattle.desks.specs.Layer.{charged_nothing, After, served_one}
use Rattle.desks.specs.Kinds.{single_steady, step, step_steady}
use Rattle.desks.proofs.Layer.{record_after}
use Rattle.desks.specs.Isolation.{Ask, desk_of, Touches, World, put, Does, alone, stepped, Runs, none, first, only, answers, Apart, Alike, Isolated, Exchanged}

-- ---- what a call leaves

module _ {S : Type 0} {call : Bounds → Answer → S → Type 0} {X : S} {lent : Type 0} {b : Bounds} where
  -- of the record a call reads what its desk may still do
  served_at : {D E : Desks} {d : ℕ} {a : Answer} {Z : S} {D' : Desks} → remaining D d ≡ remaining E d → Served lent D d call b X a Z D' → Served lent E d call b X a Z (charged E d (work a))
  served_at {E = E} {d = d} e (out_of_order n) = subst (λ (F : Desks). Served lent E d call b X (refused 1 0 no_counts) X F) (sym (charged_nothing E d)) (out_of_order n)
  served_at {E = E} {d = d} e (no_desk l h) = subst (λ (F : Desks). Served lent E d call b X (refused 28 0 no_counts) X F) (sym (charged_nothing E d)) (no_desk l h)
  served_at {a = a} {Z = Z} e (served l h c) = served l h (subst (λ (n : ℕ). call (at_most n b) a Z) e c)

own_count : (l k : List ℕ) (d w : ℕ) → length l ≡ length k → get_or l d 0 ≡ get_or k d 0 → get_or (set l d (get_or l d 0 + w)) d 0 ≡ get_or (set k d (get_or k d 0 + w)) d 0
own_count l k d w n e =
    by_cases (dec_lt d (length l))
    (λ h. omega (arith, get_or-set_same l d (get_or l d 0 + w) 0 h, get_or-set_same k d (get_or k d 0 + w) 0 (omega (arith, h, n)), e))
    (λ h. ap (λ (z : List ℕ). get_or z d 0) (set_out l d (get_or l d 0 + w) (omega (arith, h))) ∙ e ∙ sym (ap (λ (z : List ℕ). get_or z d 0) (set_out k d (get_or k d 0 + w) (omega (arith, h, n)))))

put_elsewhere : (f : ℕ → Report) (i : ℕ) (Z : Report) (j : ℕ) → (i ≡ j → ⊥) → put f i Z j ≡ f j
put_elsewhere f i Z j e = rw (ne_eqb i j e) refl

put_alike : (f g : ℕ → Report) (i : ℕ) (Z : Report) (j : ℕ) → f j ≡ g j → put f i Z j ≡ put g i Z j
put_alike f g i Z j e = go (eqb i j)
  where
    go : (t : Bool) → cond t Z (f j) ≡ cond t Z (g j)
    go true = refl
    go false = e

module _ {d : ℕ} {mine : ℕ → Type 0} {W O : World} (A : Alike d mine W O) where
  left_alike : remaining W.desks d ≡ remaining O.desks d
  left_alike = omega (arith, A.allowance, A.spent)

  charged_alike : (c w : ℕ) → c ≡ d → {D E : Desks} {f g : ℕ → Report} → D ≡ charged W.desks c w → E ≡ charged O.desks c w → ((i : ℕ) → mine i → f i ≡ g i)
      → Alike d mine (record { desks = D; reports = f }) (record { desks = E; reports = g })
  charged_alike c w e {D} {E} i j r =
      let n : length D.spent ≡ length E.spent = ap (λ (F : Desks). length F.spent) i ∙ length-set W.desks.spent c _ ∙ A.desks ∙ sym (ap (λ (F : Desks). length F.spent) j ∙ length-set O.desks.spent c _) in
      record {
        allowance = ap (λ (F : Desks). get_or F.allowance d 0) i ∙ A.allowance ∙ sym (ap (λ (F : Desks). get_or F.allowance d 0) j);
        spent = ap (λ (F : Desks). get_or F.spent d 0) (i ∙ ap (λ (z : ℕ). charged W.desks z w) e) ∙ own_count W.desks.spent O.desks.spent d w A.desks A.spent
            ∙ sym (ap (λ (F : Desks). get_or F.spent d 0) (j ∙ ap (λ (z : ℕ). charged O.desks z w) e));
        desks = n;
        reports = r;
      }

  elsewhere : (c w : ℕ) → (c ≡ d → ⊥) → {D : Desks} {f : ℕ → Report} → D ≡ charged W.desks c w → ((i : ℕ) → mine i → f i ≡ O.reports i) → Alike d mine (record { desks = D; reports = f }) O
  elsewhere c w e {D} i r = record {
    allowance = ap (λ (F : Desks). get_or F.allowance d 0) i ∙ A.allowance;
    spent = ap (λ (F : Desks). get_or F.spent d 0) i ∙ get_or-set_other W.desks.spent c d _ 0 (λ z. e (sym z)) ∙ A.spent;
    desks = ap (λ (F : Desks). length F.spent) i ∙ length-set W.desks.spent c _ ∙ A.desks;
    reports = r;
  }

  -- a call of the desk itself is answered alike, and leaves what is alike
  pub same_does : {x : Ask} {a z : Answer} {W' O' : World} → desk_of x ≡ d → ((i : ℕ) → Touches x i → mine i) → Does W x a W' → Does O x z O' → (a ≡ z) × Alike d mine W' O'
  same_does {a = a} e t (alone {d = c} {file = file} {c = o} p) (alone q) =
      let s = served_one (single_steady file o) (served_at (subst (λ (n : ℕ). remaining W.desks n ≡ remaining O.desks n) (sym e) left_alike) p) q in
      (ap (λ (y : After (Unit {0})). y.answer) s, charged_alike c (work a) e (record_after p) (sym (ap (λ (y : After (Unit {0})). y.desks) s)) (λ i m. A.reports i m))
  same_does {a = a} e t (stepped {d = c} {i = i} {lent = lent} {s = s} {b = b} {Z = Z} p) (stepped {a = v} {Z = Y} {D = F} q) =
      let same : O.reports i ≡ W.reports i = sym (A.reports i (t i refl)) in
      let at = subst (λ (X : Report). Served (lent X) O.desks c (step X s) b X v Y F) same q in
      let o = served_one (step_steady (W.reports i) s) (served_at (subst (λ (n : ℕ). remaining W.desks n ≡ remaining O.desks n) (sym e) left_alike) p) at in
      let after_it : Z ≡ Y = ap (λ (y : After Report). y.state) o in (
        ap (λ (y : After Report). y.answer) o,
        charged_alike c (work a) e (record_after p) (sym (ap (λ (y : After Report). y.desks) o))
            (λ j m. put_alike W.reports O.reports i Z j (A.reports j m) ∙ ap (λ (X : Report). put O.reports i X j) after_it),
      )

  -- a call of another desk leaves what the desk can see
  pub other_does : {x : Ask} {a : Answer} {W' : World} → (desk_of x ≡ d → ⊥) → ((i : ℕ) → Touches x i → mine i → ⊥) → Does W x a W' → Alike d mine W' O
  other_does {a = a} e t (alone {d = c} p) = elsewhere c (work a) e (record_after p) (λ i m. A.reports i m)
  other_does {a = a} e t (stepped {d = c} {i = i} {Z = Z} p) = elsewhere c (work a) e (record_after p) (λ j m. put_elsewhere W.reports i Z j (λ q. t j q m) ∙ A.reports j m)

-- ---- isolation

-- the first of some calls, and the others
record Begun (W : World) (x : Ask) (xs : List Ask) (rs : List Answer) (M : World) : Type 1 where
  pub answer : Answer
  pub rest : List Answer
  pub next : World
  pub is : rs ≡ answer ∷ rest
  pub does : Does W x answer next
  pub runs : Runs next xs rest M

begun : {W M : World} {x : Ask} {xs : List Ask} {rs : List Answer} → Runs W (x ∷ xs) rs M → Begun W x xs rs M
begun (first k s) = record { answer = _; rest = _; next = _; is = refl; does = k; runs = s }

-- the desk's answers among all are those to its own calls alone, and what it can see afterwards is the same: its spent count, its reports
pub isolated : {d : ℕ} {mine : ℕ → Type 0} {W O W' O' : World} {xs : List Ask} {rs bs : List Answer} → Apart d mine xs → Alike d mine W O → Runs W xs rs W' → Runs O (only d xs) bs O' → Isolated d mine W' O' (answers d xs rs) bs
isolated p A none none = record { answers = refl; after = A }
isolated {d} {mine} {O = O} {W' = W'} {O' = O'} {bs = bs} p A (first {O = U} {x = x} {xs = xs} {a = a} {rs = rs} h r) q =
    go (eqb (desk_of x) d) refl q (λ N zs B s. isolated {bs = zs} p.1 B r s)
  where
    go : (t : Bool) → eqb (desk_of x) d ≡ t → Runs O (cond t (x ∷ only d xs) (only d xs)) bs O'
        → ((N : World) (zs : List Answer) → Alike d mine U N → Runs N (only d xs) zs O' → Isolated d mine W' O' (answers d xs rs) zs) → Isolated d mine W' O' (cond t (a ∷ answers d xs rs) (answers d xs rs)) bs
    go true e q f =
        let k = begun q in
        let y = same_does A (eqb-true (desk_of x) d e) (p.0.0 (eqb-true (desk_of x) d e)) h k.does in
        let i = f k.next k.rest y.1 k.runs in
        record { answers = ap₂ (λ (u : Answer) (us : List Answer). u ∷ us) y.0 i.answers ∙ sym k.is; after = i.after }
    go false e s f = f O bs (other_does A (eqb-false (desk_of x) d e) (p.0.1 (eqb-false (desk_of x) d e)) h) s

-- the same world to begin with
pub alike_self : (d : ℕ) (mine : ℕ → Type 0) (W : World) → Alike d mine W W
alike_self d mine W = record { allowance = refl; spent = refl; desks = refl; reports = λ i m. refl }

-- ---- two calls of different desks, in either order

both_charged : (D : Desks) (d e v w : ℕ) → (d ≡ e → ⊥) → charged (charged D d v) e w ≡ charged (charged D e w) d v
both_charged D d e v w n =
    let l = D.spent in
    let p : get_or (set l d (get_or l d 0 + v)) e 0 ≡ get_or l e 0 = get_or-set_other l d e _ 0 (λ z. n (sym z)) in
    let q : get_or (set l e (get_or l e 0 + w)) d 0 ≡ get_or l d 0 = get_or-set_other l e d _ 0 n in
    let r : set (set l d (get_or l d 0 + v)) e (get_or l e 0 + w) ≡ set (set l e (get_or l e 0 + w)) d (get_or l d 0 + v) = set_comm l d e _ _ n in
    ap (λ (s : List ℕ). record { allowance = D.allowance; spent = s }) (ap (λ (z : ℕ). set (set l d (get_or l d 0 + v)) e (z + w)) p ∙ r ∙ sym (ap (λ (z : ℕ). set (set l e (get_or l e 0 + w)) d (z + v)) q))

-- the desks after a call
desks_after : {W M : World} {x : Ask} {a : Answer} → Does W x a M → M.desks ≡ charged W.desks (desk_of x) (work a)
desks_after (alone p) = record_after p
desks_after (stepped p) = record_after p

-- another desk's call before it, on no report that it touches, is nothing to a call
pub undisturbed : {W O M N : World} {x y : Ask} {a b z : Answer} → (desk_of y ≡ desk_of x → ⊥) → ((i : ℕ) → Touches y i → Touches x i → ⊥) → Does W y b O → Does O x z N → Does W x a M
    → (z ≡ a) × Alike (desk_of x) (Touches x) N M
undisturbed {W} {x = x} e t p q r = same_does (other_does (alike_self (desk_of x) (Touches x) W) e t p) refl (λ i h. h) q r

pub exchanged : {W O M N P : World} {x y : Ask} {a b a' b' : Answer} → (desk_of x ≡ desk_of y → ⊥) → ((i : ℕ) → Touches x i → Touches y i → ⊥)
    → Does W x a O → Does O y b M → Does W y b' N → Does N x a' P → Exchanged a b a' b' M.desks P.desks
exchanged {W} {O} {M} {N} {P} {x} {y} {a} {b} {a'} {b'} e t p q r s =
    let i : a' ≡ a = (undisturbed (λ z. e (sym z)) (λ j g h. t j h g) r s p).0 in
    let k : b ≡ b' = (undisturbed e t p q r).0 in
    let left : M.desks ≡ charged (charged W.desks (desk_of x) (work a)) (desk_of y) (work b) = desks_after q ∙ ap (λ (D : Desks). charged D (desk_of y) (work b)) (desks_after p) in
    let right : P.desks ≡ charged (charged W.desks (desk_of y) (work b')) (desk_of x) (work a') = desks_after s ∙ ap (λ (D : Desks). charged D (desk_of x) (work a')) (desks_after r) in
    record {
      first_same = sym i;
      second_same = k;
      desks_same = left ∙ both_charged W.desks (desk_of x) (desk_of y) (work a) (work b) e
          ∙ ap₂ (λ (u w : Answer). charged (charged W.desks (desk_of y) (work u)) (desk_of x) (work w)) k (sym i) ∙ sym right;
    }
