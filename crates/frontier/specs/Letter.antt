-- Document 01's rule to the letter (pruned by the one kept at the same column or by the nearest lower one; else the same column and the dearer higher ones go) is what `present` does.
use Rattle.std.specs.Prelude.{◌≡◌, false, not, List, map, ℕ, ◌≤◌}
use Rattle.std.proofs.Common.{sym, ◌∙◌, subst, inl, inr, arith}
use mathlib.Core.List.Memᴰ.{head as here}
use mathlib.Core.List.Memᴰ.{tail as there}
use mathlib.Core.List.{Memᴰ as Member}
use Rattle.cost.specs.Logic.{no_both, and_left, and_right, not_true, false_if}
use Rattle.cost.specs.Order.{Cheap}
use Rattle.layout.specs.Frontier.{Cand, covers}
use Rattle.layout.specs.Pruning.{presents}
use Rattle.layout.specs.Sieve.{lt, Level}
use Rattle.layout.specs.Covers.{covers_is, is_covers}
use Rattle.layout.specs.Listed.{map_in}
use Rattle.layout.proofs.Letter.{presents_is}
use Rattle.avl.specs.Members.{In}
use Rattle.frontier.specs.declared.Builder.{Builder}
use Rattle.frontier.specs.Candidates.{Pending, candidate_at, survivors}
use Rattle.frontier.specs.Kept.{Sound, Frontier, After}
use Rattle.frontier.specs.Walk.{survive}

member_in : {x : ℕ} {xs : List ℕ} → Member x xs → In x xs
member_in (here p) = inl p
member_in (there m) = inr (member_in m)

-- where a higher column costs no more, neither of two makes the other superfluous alone
level_two : (a b : Cand Pending) → (a.column ≤ b.column → Cheap b.cost a.cost) → lt covers a b ≡ false
level_two a b f = false_if (lt covers a b) (λ h.
    let p = covers_is a b (and_left (covers a b) (not (covers b a)) h) in
    let q = f p.column_le in
    let o : a.cost.overflow ≡ b.cost.overflow = omega (arith, p.cost_le.overflow_le, q.overflow_le) in
    let u : a.cost.burden ≡ b.cost.burden = omega (arith, p.cost_le.burden_le o, q.burden_le (sym o)) in
    let e : a.column ≡ b.column = p.tie o u in
    no_both (covers b a) (is_covers b a (record { column_le = omega arith; cost_le = q; tie = λ _ _. sym e })) (not_true (covers b a) (and_right (covers a b) (not (covers b a)) h)))

level_of : {m : List ℕ} {b : Builder} (p : Sound m b) → Level covers (map (candidate_at m) p.kept.order)
level_of {m} p c d i j =
    let u = map_in (candidate_at m) p.kept.order i in
    let v = map_in (candidate_at m) p.kept.order j in
    subst (λ z. lt covers z d ≡ false) (sym u.2) (subst (λ z. lt covers (candidate_at m u.0) z ≡ false) (sym v.2)
    (level_two (candidate_at m u.0) (candidate_at m v.0) (p.falls u.0 v.0 (member_in u.1) (member_in v.1))))

pub level : {m : List ℕ} {size : ℕ} {b : Builder} (p : Frontier m size b) → Level covers (survivors m b)
level {m} {size} {b} p = subst (λ (z : List (Cand Pending)). Level covers z) (sym (survive p.sound.kept)) (level_of p.sound)

pub by_letter : {m n : List ℕ} {size : ℕ} {b b' : Builder} {x : Cand Pending} {k : ℕ} → Frontier m size b → After m n size b b' x k → survivors n b' ≡ presents (survivors m b) x
by_letter {m} {b = b} {x = x} p a = a.survivors_are ∙ presents_is (survivors m b) x (level p)
