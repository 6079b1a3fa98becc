-- The tree keeps its order and its balance; the cases of its definitions.
use Rattle.std.specs.Prelude.{◌≡◌, refl, ◌⊎◌, ℕ, ◌+◌, ◌≤◌, ◌<◌, suc, max, Bool, true, false, ltb}
use Rattle.std.proofs.Common.{⊎_elim, inl, inr, arith, ltb-true, ltb-false, lt-ltb, le-ltb}
use Rattle.avl.specs.Tree.{Tree, ht, Ord, Avl, Off, pick, rot_r, rot_l, tilt_l, tilt_r, bal, ins, min_key, min_slot, cut_min, join, del, On, slot_of, same_of, before_of, from_of, Seen}
use Rattle.avl.specs.Tree.Tree.{leaf, node}

-- ---- cases
pub lt_or : (a b : ℕ) → (a < b) ⊎ (b ≤ a)
lt_or a b = go (ltb a b) refl
  where
    go : (t : Bool) → ltb a b ≡ t → (a < b) ⊎ (b ≤ a)
    go true e = inl (ltb-true a b e)
    go false e = inr (ltb-false a b e)

pub pick_cases : (P : Tree → Type 0) (a b : ℕ) (x y : Tree) → (a < b → P x) → (b ≤ a → P y) → P (pick (ltb a b) x y)
pick_cases P a b x y f g = go (ltb a b) refl
  where
    go : (t : Bool) → ltb a b ≡ t → P (pick t x y)
    go true e = f (ltb-true a b e)
    go false e = g (ltb-false a b e)

pub bal_cases : (P : Tree → Type 0) (l : Tree) (s k : ℕ) (r : Tree)
    → (suc (ht r) < ht l → P (rot_r (node (tilt_l l) s k r)))
    → (suc (ht l) < ht r → P (rot_l (node l s k (tilt_r r))))
    → (ht l ≤ suc (ht r) → ht r ≤ suc (ht l) → P (node l s k r))
    → P (bal l s k r)
unfolding bal
bal_cases P l s k r f g h = pick_cases P (suc (ht r)) (ht l) _ _ f (λ a. pick_cases P (suc (ht l)) (ht r) _ _ g (λ b. h a b))

-- ---- order
pub ord_wide : (lo hi lo' hi' : ℕ) (t : Tree) → lo' ≤ lo → hi ≤ hi' → Ord lo t hi → Ord lo' t hi'
ord_wide lo hi lo' hi' leaf a b h = tt
ord_wide lo hi lo' hi' (node l s k r) a b h = (omega arith, omega arith, ord_wide lo k lo' k l a (omega arith) h.2, ord_wide (suc k) hi (suc k) hi' r (omega arith) b h.3)

pub rot_r_ord : (lo hi : ℕ) (t : Tree) → Ord lo t hi → Ord lo (rot_r t) hi
rot_r_ord lo hi leaf h = h
rot_r_ord lo hi (node leaf y j c) h = h
rot_r_ord lo hi (node (node a x k b) y j c) h = (h.2.0, omega arith, h.2.2, (h.2.1, h.1, h.2.3, h.3))

pub rot_l_ord : (lo hi : ℕ) (t : Tree) → Ord lo t hi → Ord lo (rot_l t) hi
rot_l_ord lo hi leaf h = h
rot_l_ord lo hi (node a x k leaf) h = h
rot_l_ord lo hi (node a x k (node b y j c)) h = (omega arith, h.3.1, (h.0, h.3.0, h.2, h.3.2), h.3.3)

pub tilt_l_ord : (lo hi : ℕ) (t : Tree) → Ord lo t hi → Ord lo (tilt_l t) hi
tilt_l_ord lo hi leaf h = h
tilt_l_ord lo hi (node a x k b) h = pick_cases (λ t. Ord lo t hi) (ht a) (ht b) _ _ (λ _. rot_l_ord lo hi (node a x k b) h) (λ _. h)

pub tilt_r_ord : (lo hi : ℕ) (t : Tree) → Ord lo t hi → Ord lo (tilt_r t) hi
tilt_r_ord lo hi leaf h = h
tilt_r_ord lo hi (node b y j c) h = pick_cases (λ t. Ord lo t hi) (ht c) (ht b) _ _ (λ _. rot_r_ord lo hi (node b y j c) h) (λ _. h)

pub bal_ord : (lo hi : ℕ) (l : Tree) (s k : ℕ) (r : Tree) → lo ≤ k → k < hi → Ord lo l k → Ord (suc k) r hi → Ord lo (bal l s k r) hi
bal_ord lo hi l s k r a b p q =
    bal_cases (λ t. Ord lo t hi) l s k r
    (λ _. rot_r_ord lo hi (node (tilt_l l) s k r) (a, b, tilt_l_ord lo k l p, q))
    (λ _. rot_l_ord lo hi (node l s k (tilt_r r)) (a, b, p, tilt_r_ord (suc k) hi r q))
    (λ _ _. (a, b, p, q))

pub ins_ord : (lo hi s k : ℕ) (t : Tree) → lo ≤ k → k < hi → Off k t → Ord lo t hi → Ord lo (ins s k t) hi
unfolding ins
ins_ord lo hi s k leaf a b o h = (a, b, tt, tt)
ins_ord lo hi s k (node l t j r) a b o h =
    pick_cases (λ t. Ord lo t hi) k j _ _
    (λ c. bal_ord lo hi (ins s k l) t j r h.0 h.1 (ins_ord lo j s k l a c o.1 h.2) h.3)
    (λ c. bal_ord lo hi l t j (ins s k r) h.0 h.1 h.2 (ins_ord (suc j) hi s k r (omega (arith, o.0)) b o.2 h.3))

-- ---- balance. `Grown l r t`: t has the nodes of l and r and one more; it is balanced, and no lower than the higher of the two
pub record Grown (l r t : Tree) : Type 0 where
  pub avl : Avl t
  pub low : max (ht l) (ht r) ≤ ht t
  pub high : ht t ≤ suc (max (ht l) (ht r))
  pub still : ht l ≤ suc (ht r) → ht r ≤ suc (ht l) → ht t ≡ suc (max (ht l) (ht r))

left_turn : (l : Tree) (s k : ℕ) (r : Tree) → Avl l → Avl r → ht l ≡ suc (suc (ht r)) → Grown l r (rot_r (node (tilt_l l) s k r))
left_turn leaf s k r p q e = absurd (omega arith)
left_turn (node a x i leaf) s k r p q e =
    pick_cases (λ t. Grown (node a x i leaf) r (rot_r (node t s k r))) (ht a) 0 _ _
    (λ c. absurd (omega arith))
    (λ c. record { avl = (omega arith, omega arith, p.2, (omega arith, omega arith, tt, q)); low = omega arith; high = omega arith; still = omega arith })
left_turn (node a x i (node b y j c)) s k r p q e =
    pick_cases (λ t. Grown (node a x i (node b y j c)) r (rot_r (node t s k r))) (ht a) (ht (node b y j c)) _ _
    (λ d. record { avl = (omega arith, omega arith, (omega arith, omega arith, p.2, p.3.2), (omega arith, omega arith, p.3.3, q)); low = omega arith; high = omega arith; still = omega arith })
    (λ d. record { avl = (omega arith, omega arith, p.2, (omega arith, omega arith, p.3, q)); low = omega arith; high = omega arith; still = omega arith })

right_turn : (l : Tree) (s k : ℕ) (r : Tree) → Avl l → Avl r → ht r ≡ suc (suc (ht l)) → Grown l r (rot_l (node l s k (tilt_r r)))
right_turn l s k leaf p q e = absurd (omega arith)
right_turn l s k (node leaf x i c) p q e =
    pick_cases (λ t. Grown l (node leaf x i c) (rot_l (node l s k t))) (ht c) 0 _ _
    (λ d. absurd (omega arith))
    (λ d. record { avl = (omega arith, omega arith, (omega arith, omega arith, p, tt), q.3); low = omega arith; high = omega arith; still = omega arith })
right_turn l s k (node (node a y j b) x i c) p q e =
    pick_cases (λ t. Grown l (node (node a y j b) x i c) (rot_l (node l s k t))) (ht c) (ht (node a y j b)) _ _
    (λ d. record { avl = (omega arith, omega arith, (omega arith, omega arith, p, q.2.2), (omega arith, omega arith, q.2.3, q.3)); low = omega arith; high = omega arith; still = omega arith })
    (λ d. record { avl = (omega arith, omega arith, (omega arith, omega arith, p, q.2), q.3); low = omega arith; high = omega arith; still = omega arith })

pub bal_grown : (l : Tree) (s k : ℕ) (r : Tree) → Avl l → Avl r → ht l ≤ suc (suc (ht r)) → ht r ≤ suc (suc (ht l)) → Grown l r (bal l s k r)
bal_grown l s k r p q a b =
    bal_cases (λ t. Grown l r t) l s k r
    (λ c. left_turn l s k r p q (omega arith))
    (λ c. right_turn l s k r p q (omega arith))
    (λ c d. record { avl = (c, d, p, q); low = omega arith; high = omega arith; still = λ _ _. refl })

pub record Ins (t u : Tree) : Type 0 where
  pub avl : Avl u
  pub low : ht t ≤ ht u
  pub high : ht u ≤ suc (ht t)

into_l : (l l' : Tree) (s k : ℕ) (r : Tree) → Avl (node l s k r) → Ins l l' → Ins (node l s k r) (bal l' s k r)
into_l l l' s k r p i =
    let g : Grown l' r (bal l' s k r) = bal_grown l' s k r i.avl p.3 (omega arith) (omega arith) in
    ⊎_elim (λ (c : suc (ht r) < ht l'). record { avl = g.avl; low = omega arith; high = omega arith })
    (λ (c : ht l' ≤ suc (ht r)). let e : ht (bal l' s k r) ≡ suc (max (ht l') (ht r)) = g.still c (omega arith) in record { avl = g.avl; low = omega arith; high = omega arith })
    (lt_or (suc (ht r)) (ht l'))

into_r : (l : Tree) (s k : ℕ) (r r' : Tree) → Avl (node l s k r) → Ins r r' → Ins (node l s k r) (bal l s k r')
into_r l s k r r' p i =
    let g : Grown l r' (bal l s k r') = bal_grown l s k r' p.2 i.avl (omega arith) (omega arith) in
    ⊎_elim (λ (c : suc (ht l) < ht r'). record { avl = g.avl; low = omega arith; high = omega arith })
    (λ (c : ht r' ≤ suc (ht l)). let e : ht (bal l s k r') ≡ suc (max (ht l) (ht r')) = g.still (omega arith) c in record { avl = g.avl; low = omega arith; high = omega arith })
    (lt_or (suc (ht l)) (ht r'))

pub ins_avl : (s k : ℕ) (t : Tree) → Avl t → Ins t (ins s k t)
unfolding ins
ins_avl s k leaf p = record { avl = (omega arith, omega arith, tt, tt); low = omega arith; high = omega arith }
ins_avl s k (node l t j r) p =
    pick_cases (λ u. Ins (node l t j r) u) k j _ _
    (λ _. into_l l (ins s k l) t j r p (ins_avl s k l p.2))
    (λ _. into_r l t j r (ins s k r) p (ins_avl s k r p.3))

-- a tree is no higher than the columns that it has room for
pub ht_room : (lo hi : ℕ) (t : Tree) → Ord lo t hi → lo + ht t ≤ max lo hi
ht_room lo hi leaf h = omega arith
ht_room lo hi (node l s k r) h = omega (arith, ht_room lo k l h.2, ht_room (suc k) hi r h.3)

-- ---- the three ways of `bal`
pub bal_l : (l : Tree) (s k : ℕ) (r : Tree) → suc (ht r) < ht l → bal l s k r ≡ rot_r (node (tilt_l l) s k r)
unfolding bal
bal_l l s k r h = rw (lt-ltb (suc (ht r)) (ht l) h)

pub bal_r : (l : Tree) (s k : ℕ) (r : Tree) → ht l ≤ suc (ht r) → suc (ht l) < ht r → bal l s k r ≡ rot_l (node l s k (tilt_r r))
unfolding bal
bal_r l s k r h g = rw (le-ltb (suc (ht r)) (ht l) h, lt-ltb (suc (ht l)) (ht r) g)

pub bal_n : (l : Tree) (s k : ℕ) (r : Tree) → ht l ≤ suc (ht r) → ht r ≤ suc (ht l) → bal l s k r ≡ node l s k r
unfolding bal
bal_n l s k r h g = rw (le-ltb (suc (ht r)) (ht l) h, le-ltb (suc (ht l)) (ht r) g)

pub tilt_l_has : (l : Tree) → 0 < ht l → 0 < ht (tilt_l l)
tilt_l_has leaf h = h
tilt_l_has (node a x k leaf) h = pick_cases (λ t. 0 < ht t) (ht a) 0 _ _ (λ _. omega arith) (λ _. omega arith)
tilt_l_has (node a x k (node b y j c)) h = pick_cases (λ t. 0 < ht t) (ht a) (ht (node b y j c)) _ _ (λ _. omega arith) (λ _. omega arith)

pub tilt_r_has : (r : Tree) → 0 < ht r → 0 < ht (tilt_r r)
tilt_r_has leaf h = h
tilt_r_has (node leaf x k c) h = pick_cases (λ t. 0 < ht t) (ht c) 0 _ _ (λ _. omega arith) (λ _. omega arith)
tilt_r_has (node (node a y j b) x k c) h = pick_cases (λ t. 0 < ht t) (ht c) (ht (node a y j b)) _ _ (λ _. omega arith) (λ _. omega arith)

-- ---- the two ways of `ins`
pub ins_l : (s k : ℕ) (l : Tree) (t j : ℕ) (r : Tree) → k < j → ins s k (node l t j r) ≡ bal (ins s k l) t j r
unfolding ins
ins_l s k l t j r h = rw (lt-ltb k j h)

pub ins_r : (s k : ℕ) (l : Tree) (t j : ℕ) (r : Tree) → j ≤ k → ins s k (node l t j r) ≡ bal l t j (ins s k r)
unfolding ins
ins_r s k l t j r h = rw (le-ltb k j h)

pub ins_leaf : (s k : ℕ) → ins s k leaf ≡ node leaf s k leaf
unfolding ins
ins_leaf s k = refl

pub record Least (lo hi : ℕ) (t : Tree) : Type 0 where
  pub from : lo ≤ min_key t
  pub to : min_key t < hi
  pub ord : Ord (suc (min_key t)) (cut_min t) hi

pub cut_min_ord : (lo hi : ℕ) (t : Tree) → 0 < ht t → Ord lo t hi → Least lo hi t
cut_min_ord lo hi leaf z o = absurd (omega arith)
cut_min_ord lo hi (node leaf s k r) z o = record { from = o.0; to = o.1; ord = o.3 }
cut_min_ord lo hi (node (node a x i b) s k r) z o =
    let h = cut_min_ord lo k (node a x i b) (omega arith) o.2 in
    record { from = h.from; to = omega (arith, h.to, o.1); ord = bal_ord (suc (min_key (node a x i b))) hi (cut_min (node a x i b)) s k r h.to o.1 h.ord o.3 }

-- what loses a node at most one of its height
pub record Less (t u : Tree) : Type 0 where
  pub avl : Avl u
  pub low : ht t ≤ suc (ht u)
  pub high : ht u ≤ ht t

pub less_l : (l l' : Tree) (s k : ℕ) (r : Tree) → Avl (node l s k r) → Less l l' → Less (node l s k r) (bal l' s k r)
less_l l l' s k r p i =
    let g : Grown l' r (bal l' s k r) = bal_grown l' s k r i.avl p.3 (omega arith) (omega arith) in
    ⊎_elim (λ (c : suc (ht l') < ht r). record { avl = g.avl; low = omega arith; high = omega arith })
    (λ (c : ht r ≤ suc (ht l')). let e : ht (bal l' s k r) ≡ suc (max (ht l') (ht r)) = g.still (omega arith) c in record { avl = g.avl; low = omega arith; high = omega arith })
    (lt_or (suc (ht l')) (ht r))

pub less_r : (l : Tree) (s k : ℕ) (r r' : Tree) → Avl (node l s k r) → Less r r' → Less (node l s k r) (bal l s k r')
less_r l s k r r' p i =
    let g : Grown l r' (bal l s k r') = bal_grown l s k r' p.2 i.avl (omega arith) (omega arith) in
    ⊎_elim (λ (c : suc (ht r') < ht l). record { avl = g.avl; low = omega arith; high = omega arith })
    (λ (c : ht l ≤ suc (ht r')). let e : ht (bal l s k r') ≡ suc (max (ht l) (ht r')) = g.still c (omega arith) in record { avl = g.avl; low = omega arith; high = omega arith })
    (lt_or (suc (ht r')) (ht l))

pub cut_min_avl : (t : Tree) → Avl t → Less t (cut_min t)
cut_min_avl leaf p = record { avl = tt; low = omega arith; high = omega arith }
cut_min_avl (node leaf s k r) p = record { avl = p.3; low = omega arith; high = omega arith }
cut_min_avl (node (node a x i b) s k r) p = less_l (node a x i b) (cut_min (node a x i b)) s k r p (cut_min_avl (node a x i b) p.2)

pub join_ord : (lo hi k : ℕ) (l r : Tree) → lo ≤ k → k < hi → Ord lo l k → Ord (suc k) r hi → Ord lo (join l r) hi
unfolding join
join_ord lo hi k leaf r a b p q = ord_wide (suc k) hi lo hi r (omega arith) (omega arith) q
join_ord lo hi k (node c x i d) leaf a b p q = ord_wide lo k lo hi (node c x i d) (omega arith) (omega arith) p
join_ord lo hi k (node c x i d) (node e y j f) a b p q =
    let h = cut_min_ord (suc k) hi (node e y j f) (omega arith) q in
    bal_ord lo hi (node c x i d) (min_slot (node e y j f)) (min_key (node e y j f)) (cut_min (node e y j f)) (omega (arith, h.from)) h.to (ord_wide lo k lo (min_key (node e y j f)) (node c x i d) (omega arith) (omega (arith, h.from)) p) h.ord

pub del_ord : (lo hi k : ℕ) (t : Tree) → Ord lo t hi → Ord lo (del k t) hi
unfolding del
del_ord lo hi k leaf o = o
del_ord lo hi k (node l s j r) o =
    pick_cases (λ u. Ord lo u hi) k j _ _
    (λ _. bal_ord lo hi (del k l) s j r o.0 o.1 (del_ord lo j k l o.2) o.3)
    (λ _. pick_cases (λ u. Ord lo u hi) j k _ _
    (λ _. bal_ord lo hi l s j (del k r) o.0 o.1 o.2 (del_ord (suc j) hi k r o.3))
    (λ _. join_ord lo hi j l r o.0 o.1 o.2 o.3))

join_avl : (l : Tree) (s k : ℕ) (r : Tree) → Avl (node l s k r) → Less (node l s k r) (join l r)
unfolding join
join_avl leaf s k r p = record { avl = p.3; low = omega arith; high = omega arith }
join_avl (node a x i b) s k leaf p = record { avl = p.2; low = omega arith; high = omega arith }
join_avl (node a x i b) s k (node c y j d) p =
    let h = less_r (node a x i b) (min_slot (node c y j d)) (min_key (node c y j d)) (node c y j d) (cut_min (node c y j d)) p (cut_min_avl (node c y j d) p.3) in
    record { avl = h.avl; low = h.low; high = h.high }

pub del_avl : (k : ℕ) (t : Tree) → Avl t → Less t (del k t)
unfolding del
del_avl k leaf p = record { avl = tt; low = omega arith; high = omega arith }
del_avl k (node l s j r) p =
    pick_cases (λ u. Less (node l s j r) u) k j _ _
    (λ _. less_l l (del k l) s j r p (del_avl k l p.2))
    (λ _. pick_cases (λ u. Less (node l s j r) u) j k _ _
    (λ _. less_r l s j r (del k r) p (del_avl k r p.3))
    (λ _. join_avl l s j r p))

-- ---- one step down to the least
pub min_slot_step : (l : Tree) (s k : ℕ) (r : Tree) → 0 < ht l → min_slot (node l s k r) ≡ min_slot l
min_slot_step leaf s k r h = absurd (omega arith)
min_slot_step (node a x i b) s k r h = refl

pub min_key_step : (l : Tree) (s k : ℕ) (r : Tree) → 0 < ht l → min_key (node l s k r) ≡ min_key l
min_key_step leaf s k r h = absurd (omega arith)
min_key_step (node a x i b) s k r h = refl

pub cut_min_step : (l : Tree) (s k : ℕ) (r : Tree) → 0 < ht l → cut_min (node l s k r) ≡ bal (cut_min l) s k r
cut_min_step leaf s k r h = absurd (omega arith)
cut_min_step (node a x i b) s k r h = refl

pub record Found (k : ℕ) (t u : Tree) (s : ℕ) : Type 0 where
  pub tree : del k t ≡ u
  pub slot : slot_of k t ≡ s

pub found_l : (k : ℕ) (l : Tree) (s j : ℕ) (r : Tree) → k < j → Found k (node l s j r) (bal (del k l) s j r) (slot_of k l)
unfolding del slot_of
found_l k l s j r h = record { tree = rw (lt-ltb k j h); slot = rw (lt-ltb k j h) }

pub found_r : (k : ℕ) (l : Tree) (s j : ℕ) (r : Tree) → j < k → Found k (node l s j r) (bal l s j (del k r)) (slot_of k r)
unfolding del slot_of
found_r k l s j r h =
    let g : j ≤ k = omega arith in
    record { tree = rw (le-ltb k j g, lt-ltb j k h); slot = rw (le-ltb k j g, lt-ltb j k h) }

pub found_here : (k : ℕ) (l : Tree) (s j : ℕ) (r : Tree) → j ≡ k → Found k (node l s j r) (join l r) s
unfolding del slot_of
found_here k l s j r e =
    let g : j ≤ k = omega arith in
    let h : k ≤ j = omega arith in
    record { tree = rw (le-ltb k j g, le-ltb j k h); slot = rw (le-ltb k j g, le-ltb j k h) }

pub on_l : (k : ℕ) (l : Tree) (s j : ℕ) (r : Tree) → k < j → On k (node l s j r) → On k l
unfolding On
on_l k l s j r h o = rw (lt-ltb k j h) at o

pub on_r : (k : ℕ) (l : Tree) (s j : ℕ) (r : Tree) → j < k → On k (node l s j r) → On k r
unfolding On
on_r k l s j r h o = let g : j ≤ k = omega arith in rw (le-ltb k j g, lt-ltb j k h) at o

pub on_leaf : (k : ℕ) → On k leaf → ⊥
unfolding On
on_leaf k o = o

pub join_nil_r : (l : Tree) → join l leaf ≡ l
unfolding join
join_nil_r leaf = refl
join_nil_r (node a x i b) = refl

pub join_nil_l : (r : Tree) → join leaf r ≡ r
unfolding join
join_nil_l r = refl

pub join_both : (l r : Tree) → 0 < ht l → 0 < ht r → join l r ≡ bal l (min_slot r) (min_key r) (cut_min r)
unfolding join
join_both leaf r a b = absurd (omega arith)
join_both (node c x i d) leaf a b = absurd (omega arith)
join_both (node c x i d) (node e y j f) a b = refl

pub seen_leaf : (k d b f : ℕ) → Seen k leaf d b f d b f
unfolding same_of before_of from_of
seen_leaf k d b f = record { same = refl; before = refl; from = refl }

pub seen_l : (k : ℕ) (l : Tree) (s j : ℕ) (r : Tree) (d b f : ℕ) → k < j → Seen k (node l s j r) d b f (same_of k l d) (before_of k l b) (from_of k l s)
unfolding same_of before_of from_of
seen_l k l s j r d b f h = record { same = rw (lt-ltb k j h); before = rw (lt-ltb k j h); from = rw (lt-ltb k j h) }

pub seen_r : (k : ℕ) (l : Tree) (s j : ℕ) (r : Tree) (d b f : ℕ) → j < k → Seen k (node l s j r) d b f (same_of k r d) (before_of k r s) (from_of k r f)
unfolding same_of before_of from_of
seen_r k l s j r d b f h =
    let g : j ≤ k = omega arith in
    record { same = rw (le-ltb k j g, lt-ltb j k h); before = rw (le-ltb k j g, lt-ltb j k h); from = rw (le-ltb k j g, lt-ltb j k h) }

pub seen_here : (k : ℕ) (l : Tree) (s j : ℕ) (r : Tree) (d b f : ℕ) → j ≡ k → Seen k (node l s j r) d b f s b s
unfolding same_of before_of from_of
seen_here k l s j r d b f e =
    let g : j ≤ k = omega arith in
    let h : k ≤ j = omega arith in
    record { same = rw (le-ltb k j g, le-ltb j k h); before = rw (le-ltb k j g, le-ltb j k h); from = rw (le-ltb k j g, le-ltb j k h) }

pub on_to_l : (k : ℕ) (l : Tree) (s j : ℕ) (r : Tree) → k < j → On k l → On k (node l s j r)
unfolding On
on_to_l k l s j r h o = rw (lt-ltb k j h) o

pub on_to_r : (k : ℕ) (l : Tree) (s j : ℕ) (r : Tree) → j < k → On k r → On k (node l s j r)
unfolding On
on_to_r k l s j r h o = let g : j ≤ k = omega arith in rw (le-ltb k j g, lt-ltb j k h) o

pub on_to_here : (k : ℕ) (l : Tree) (s j : ℕ) (r : Tree) → j ≡ k → On k (node l s j r)
unfolding On
on_to_here k l s j r e =
    let g : j ≤ k = omega arith in
    let h : k ≤ j = omega arith in
    rw (le-ltb k j g, le-ltb j k h) tt
