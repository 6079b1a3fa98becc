-- The survivors in memory: they are the candidates of the order, a walk along the links meets them one by one, and there are no more than the size.
use Rattle.std.specs.Prelude.{◌≡◌, refl, true, false, not, List, [], ◌∷◌, ◌++◌, map, ℕ, suc, ◌≤◌, ◌<◌, length, Option, Some, None}
use Rattle.std.proofs.Common.{sym, ◌∙◌, ap, subst, inl, inr, arith}
use Rattle.layout.specs.Frontier.{Cand, covers, any, keep, present}
use Rattle.avl.specs.Mem.{word}
use Rattle.avl.specs.Near.{entry_ord, entry_key, entry_of}
use Rattle.avl.specs.Members.{In}
use Rattle.avl.specs.Holds.{nil, top}
use Rattle.avl.specs.Links.{link_of}
use Rattle.avl.specs.LinkLaws.{link_nil, link_slot, not_nothing, slot_same}
use Rattle.frontier.specs.declared.Builder.{Builder}
use Rattle.frontier.specs.Candidates.{Pending, candidate_at, next, chain, survivors, Stands, Rest, Going}
use Rattle.frontier.specs.Chain.{Seg}
use Rattle.frontier.specs.Kept.{Kept, Frontier}

pub map_length : {B : Type 0} (g : ℕ → B) (xs : List ℕ) → length (map g xs) ≡ length xs
map_length g [] = refl
map_length g (x ∷ xs) = ap suc (map_length g xs)

seg_chain : (m : List ℕ) (p c : ℕ) (xs : List ℕ) (q e : ℕ) → Seg m p c xs q e → chain m c (length xs) ≡ xs
seg_chain m p c [] q e h = refl
seg_chain m p c (x ∷ xs) q e h = subst (λ z. chain m z (suc (length xs)) ≡ x ∷ xs) (sym h.is) (ap (λ z. x ∷ z) (seg_chain m x (next m x) xs q e h.rest))

pub survive : {m : List ℕ} {b : Builder} (p : Kept m b) → survivors m b ≡ map (candidate_at m) p.order
unfolding survivors
survive {m} {b} p = ap (λ z. map (candidate_at m) z) (ap (λ z. chain m b.head z) p.count ∙ seg_chain m nil b.head p.order b.tail nil p.seg)

-- the register `live` counts them
pub survive_length : {m : List ℕ} {b : Builder} (p : Kept m b) → length (survivors m b) ≡ b.live
survive_length {m} {b} p = ap (λ z. length z) (survive p) ∙ (map_length (candidate_at m) p.order ∙ sym p.count)

pub survive_few : {m : List ℕ} {size : ℕ} {b : Builder} (p : Frontier m size b) → length (survivors m b) ≤ size
survive_few p = omega (arith, survive_length p.sound.kept, p.sound.kept.count, p.sound.kept.sum, p.within)

-- ---- the walk
column_low : {m : List ℕ} {b : Builder} (p : Kept m b) (x : ℕ) → In x p.order → word m x 3 < top
column_low {m} {b} p x i =
    let e = entry_of x p.t (p.agree.back x i) in
    omega (arith, entry_key m b.root x e.0 p.t p.holds e.1, entry_ord 0 top x e.0 p.t p.ord e.1)

rest_of : (m : List ℕ) (p c : ℕ) (xs : List ℕ) (q : ℕ) → Seg m p c xs q nil → ((x : ℕ) → In x xs → word m x 3 < top) → Rest m (link_of c) (map (candidate_at m) xs)
rest_of m p c [] q h f = link_nil c h.0
rest_of m p c (x ∷ xs) q h f = record {
  slot = x;
  is = ap link_of h.is ∙ link_slot x (λ e. omega (arith, e, h.some));
  stands = record { at = h.at; column = f x (inl refl) };
  here = refl;
  rest = rest_of m x (next m x) xs q h.rest (λ y i. f y (inr i));
}

-- from the first link on stand the survivors
pub begins : {m : List ℕ} {size : ℕ} {b : Builder} {c : Option ℕ} → Frontier m size b → c ≡ link_of b.head → Going m c (survivors m b)
begins {m} {size} {b} {c} p e =
    let k = p.sound.kept in
    record { rest = subst (λ z. Rest m z (survivors m b)) (sym e) (subst (λ z. Rest m (link_of b.head) z) (sym (survive k)) (rest_of m nil b.head k.order b.tail k.seg (column_low k))) }

-- a link of the walk that names a slot: there stands the next candidate, and the walk goes on from the slot's own link
pub record Met (m : List ℕ) (s : ℕ) (xs : List (Cand Pending)) : Type 0 where
  pub x : Cand Pending
  pub more : List (Cand Pending)
  pub is : xs ≡ x ∷ more
  pub stands : Stands m s
  pub here : candidate_at m s ≡ x
  pub going : Going m (link_of (next m s)) more

pub meets : {m : List ℕ} {c : Option ℕ} {s : ℕ} {xs : List (Cand Pending)} → Going m c xs → c ≡ Some s → Met m s xs
meets {m} {c} {s} {xs} g e = go xs g.rest
  where
    go : (xs : List (Cand Pending)) → Rest m c xs → Met m s xs
    go [] h = absurd (not_nothing s (sym e ∙ h))
    go (x ∷ xs) h =
        let q : h.slot ≡ s = slot_same h.slot s (sym h.is ∙ e) in
        record { x = x; more = xs; is = refl; stands = subst (λ z. Stands m z) q h.stands; here = ap (λ z. candidate_at m z) (sym q) ∙ h.here; going = record { rest = subst (λ z. Rest m (link_of (next m z)) xs) q h.rest } }

pub goes_on : {m : List ℕ} {s : ℕ} {xs : List (Cand Pending)} {c : Option ℕ} (q : Met m s xs) → c ≡ link_of (next m s) → Going m c q.more
goes_on {m} q e = subst (λ z. Going m z q.more) (sym e) q.going

-- a link that names none ends it
pub ends : {m : List ℕ} {c : Option ℕ} {xs : List (Cand Pending)} → Going m c xs → c ≡ None → xs ≡ []
ends {m} {c} {xs} g e = go xs g.rest
  where
    go : (xs : List (Cand Pending)) → Rest m c xs → xs ≡ []
    go [] h = refl
    go (x ∷ xs) h = absurd (not_nothing h.slot (sym h.is ∙ e))

-- ---- what presenting a candidate leaves: the list as it is where it is pruned, else those that it does not remove, and itself
pub present_pruned : (l : List (Cand Pending)) (x : Cand Pending) → any (λ k. covers k x) l ≡ true → present covers l x ≡ l
unfolding present
present_pruned l x e = rw e

pub present_kept : (l : List (Cand Pending)) (x : Cand Pending) → any (λ k. covers k x) l ≡ false → present covers l x ≡ keep (λ k. not (covers x k)) l ++ x ∷ []
unfolding present
present_kept l x e = rw e
