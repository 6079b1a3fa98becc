-- The search along a choice list: each turn keeps whether the rest of the list comes from the stack.
use mathlib.Core.Path.{◌≡◌, refl, sym, ap, ◌∙◌, subst}
use mathlib.Core.Bool.{Bool, true, false}
use mathlib.Core.Logic.{◌⊎◌, inl, inr, ⊎_elim}
use mathlib.Core.List.{List, [], ◌∷◌}
use Prim.Native.Nat.{ℕ, suc, ◌+◌, ◌-◌, ◌≤◌, ◌<◌}
use native.Mathlib.Omega.{arith}
use native.Mathlib.Numerals.{add-one}
use lib.ListN.{length, get_or, take, drop, set, length-set, length-take, length-drop, drop_of_length-le}
use lib.Seq.{drop-cons, drop-set-lt, get_or-set_same}
use Rattle.file_tables.specs.Tables.{kind, first, second, choice_start, choice_length, skipped}
use Rattle.file_checks.specs.Told.{Told}
use Rattle.file_checks.specs.Search.{Cut, done, keep, split, Down, once, again, RowRight}
use Rattle.file_checks.proofs.Orders.{cut_length}
use Rattle.file_checks.specs.Tells.{tell_yes, tell_no, tell_same}

-- from nothing comes nothing
pub from_none : {t : List (List ℕ)} {ys xs : List ℕ} {k : ℕ} → Cut t ys xs k → length ys ≡ 0 → length xs ≡ 0
from_none done e = refl
from_none (keep c) e = absurd (omega arith)
from_none (split h c) e = absurd (omega arith)

-- a Choice that was replaced
pub record Split (t : List (List ℕ)) (y : ℕ) (ys xs : List ℕ) (k : ℕ) : Type 0 where
  pub choice : kind (get_or t y []) ≡ 9
  pub less : ℕ
  pub count : k ≡ suc less
  pub rest : Cut t (first (get_or t y []) ∷ second (get_or t y []) ∷ ys) xs less

pub cut_cases : {t : List (List ℕ)} {y x k : ℕ} {ys xs : List ℕ} → Cut t (y ∷ ys) (x ∷ xs) k → ((x ≡ y) × Cut t ys xs k) ⊎ Split t y ys (x ∷ xs) k
cut_cases (keep c) = inl (refl, c)
cut_cases (split h c) = inr (record { choice = h; less = _; count = refl; rest = c })

-- the first of the list is the first node of the stack, or is reached from it by preferred nodes
pub head_down : {t : List (List ℕ)} {y x k : ℕ} {ys xs : List ℕ} → Cut t (y ∷ ys) (x ∷ xs) k → (x ≡ y) ⊎ Down t y x
head_down (keep c) = inl refl
head_down {t = t} {y = y} {x = x} (split h c) =
    inr (⊎_elim (λ (q : x ≡ first (get_or t y [])). subst (λ (z : ℕ). Down t y z) (sym q) (once h)) (λ l. again h l) (head_down c))

-- so with no circle one that is the first node was kept
pub kept : {t : List (List ℕ)} {y k : ℕ} {ys xs : List ℕ} → ((z : ℕ) → Down t z z → ⊥) → Cut t (y ∷ ys) (y ∷ xs) k → Cut t ys xs k
kept {t} {y} nc c =
    ⊎_elim (λ w. w.1)
    (λ w. absurd (nc y (⊎_elim (λ (q : y ≡ first (get_or t y [])). subst (λ (z : ℕ). Down t y z) (sym q) (once w.choice)) (λ l. again w.choice l) (head_down w.rest))))
    (cut_cases c)

-- ---- the stack as a list

pub push2 : (l : List ℕ) (p a b : ℕ) → p + 1 < length l → drop p (set (set l (p + 1) b) p a) ≡ a ∷ b ∷ drop (p + 2) l
push2 l p a b h =
    let e₁ : p + 1 ≡ suc p = omega arith in
    let e₂ : p + 2 ≡ suc (suc p) = omega arith in
    rw (e₁, e₂)
    (drop-cons (set (set l (suc p) b) p a) p 0 (simp length-set (omega arith))
    ∙ rw (get_or-set_same (set l (suc p) b) p a 0 (simp length-set (omega arith)), drop-set-lt (suc p) (set l (suc p) b) p a (omega arith))
    (ap (λ r. a ∷ r) (drop-cons (set l (suc p) b) (suc p) 0 (simp length-set (omega arith))
    ∙ rw (get_or-set_same l (suc p) b 0 (omega arith), drop-set-lt (suc (suc p)) l (suc p) b (omega arith)))))

-- what is left to show is what was to be shown
pub record Same (t : List (List ℕ)) (P : Type 0) (ys zs : List ℕ) (k : ℕ) : Type 0 where
  pub to : P → Cut t ys zs k
  pub from : Cut t ys zs k → P

pub wrong_length : (t : List (List ℕ)) (a b k : ℕ) (xs : List ℕ) → (length xs ≡ k + 2 → ⊥) → Told (Cut t (a ∷ b ∷ []) xs k) false
wrong_length t a b k xs ne = tell_no (λ r. ne (let l = cut_length r in omega arith))

pub begin : (t : List (List ℕ)) (st xs : List ℕ) (a b k : ℕ) → drop (length st - 2) st ≡ a ∷ b ∷ [] → Same t (Cut t (a ∷ b ∷ []) xs k) (drop (length st - 2) st) (drop 0 xs) k
begin t st xs a b k ed = rw ed (record { to = λ r. r; from = λ c. c })

module _ (t : List (List ℕ)) (P : Type 0) (xs st : List ℕ) (sp at left : ℕ) (u : Same t P (drop sp st) (drop at xs) left) where
  pub no_stack : length st ≤ sp → at < length xs → Told P false
  no_stack h l = tell_no (λ r. let e = from_none (u.to r) (length-drop sp st ∙ omega arith) in omega (arith, length-drop at xs, e))

  pub finish : length st ≤ sp → length xs ≤ at → left ≡ 0 → Told P true
  finish h l z = tell_yes (u.from (rw (drop_of_length-le st h, drop_of_length-le xs l, z) done))

  module _ (hs : sp < length st) (ha : at < length xs) where
    opened : P → Cut t (get_or st sp 0 ∷ drop (suc sp) st) (get_or xs at 0 ∷ drop (suc at) xs) left
    opened r = rw (← drop-cons st sp 0 hs, ← drop-cons xs at 0 ha) (u.to r)

    pub stuck : (get_or xs at 0 ≡ get_or st sp 0 → ⊥) → (left ≡ 0) ⊎ (kind (get_or t (get_or st sp 0) []) ≡ 9 → ⊥) → Told P false
    stuck ne why =
        tell_no (λ r. ⊎_elim (λ w. ne w.0) (λ w. ⊎_elim (λ z. omega (arith, w.count)) (λ nk. nk w.choice) why) (cut_cases (opened r)))

    pub next_keep : ((z : ℕ) → Down t z z → ⊥) → get_or xs at 0 ≡ get_or st sp 0 → Same t P (drop (sp + 1) st) (drop (at + 1) xs) left
    next_keep nc ex =
        rw (add-one sp, add-one at)
        (record {
          to = λ r. kept nc (rw ex at (opened r));
          from = λ c. u.from (rw (drop-cons st sp 0 hs, drop-cons xs at 0 ha, ex) (keep c));
        })

    pub next_split : (left' : ℕ) → left ≡ suc left' → 0 < sp → (get_or xs at 0 ≡ get_or st sp 0 → ⊥) → kind (get_or t (get_or st sp 0) []) ≡ 9
        → (a b : ℕ) → a ≡ first (get_or t (get_or st sp 0) []) → b ≡ second (get_or t (get_or st sp 0) [])
        → Same t P (drop (sp - 1) (set (set st sp b) (sp - 1) a)) (drop at xs) left'
    next_split left' el h0 ne choice a b ea eb =
        let e₁ : (sp - 1) + 1 ≡ sp = omega arith in
        let e₂ : (sp - 1) + 2 ≡ suc sp = omega arith in
        let p : drop (sp - 1) (set (set st sp b) (sp - 1) a) ≡ a ∷ b ∷ drop (suc sp) st = rw (e₁, e₂) at (push2 st (sp - 1) a b (omega arith)) in
        rw (p, ea, eb)
        (record {
          to = λ r. ⊎_elim (λ w. absurd (ne w.0)) (λ w. let ek : w.less ≡ left' = omega (arith, w.count) in rw (drop-cons xs at 0 ha, ← ek) w.rest) (cut_cases (opened r));
          from = λ c. u.from (rw (drop-cons st sp 0 hs, el) (split choice c));
        })

-- a node more on the stack, and one less to replace
pub count_split : (k n sp left m : ℕ) → k ≡ n → 0 < sp → sp ≤ n → (left ≡ 0 → ⊥) → (n - sp) + left ≡ m → (k - (sp - 1)) + (left - 1) ≡ m
count_split k n sp left m e h l z q = rw e (omega arith)

-- ---- the list as a part of the choice edges

pub part_length : (l : List ℕ) (start len : ℕ) → start + len ≤ length l → length (take (start + len - start) (drop start l)) ≡ len
part_length l start len h = simp (length-take, length-drop) (omega arith)

pub row_list :
    (t : List (List ℕ)) (choices row : List ℕ) (b : Bool) → (choice_length row ≡ 0 → ⊥)
    → Told (Cut t (first row ∷ second row ∷ []) (take (choice_start row + choice_length row - choice_start row) (drop (choice_start row) choices)) (skipped row)) b
    → Told (RowRight t choices row) b
row_list t choices row b ne told =
    let e : choice_start row + choice_length row - choice_start row ≡ choice_length row = omega arith in
    tell_same (λ z. record { right = λ _. z }) (λ r. r.right ne)
    (subst (λ (m : ℕ). Told (Cut t (first row ∷ second row ∷ []) (take m (drop (choice_start row) choices)) (skipped row)) b) e told)
