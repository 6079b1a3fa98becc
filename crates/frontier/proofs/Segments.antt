-- Laws of the order: a slot's links changed at the end of a segment, at its start, and elsewhere.
use mathlib.Core.Path.{◌≡◌, refl, sym, ◌∙◌, ap, subst}
use mathlib.Core.Logic.{◌≢◌}
use mathlib.Core.List.{List, [], ◌∷◌, ◌++◌}
use Prim.Native.Nat.{ℕ, ◌<◌}
use native.Mathlib.Omega.{arith}
use lib.Dec.{lit<}
use Rattle.avl.specs.Mem.{word, put, At}
use Rattle.avl.specs.MemLaws.{at_len, len_put, same, other_field, other_slot}
use Rattle.avl.specs.Members.{Out, Once, Apart}
use Rattle.avl.specs.Holds.{nil}
use Rattle.frontier.specs.Candidates.{prev, next}
use Rattle.frontier.specs.Chain.{Seg, Relinked, Chained, Within, Without, Forward, Back}

-- ---- lists of slots
pub out_append : (s : ℕ) (ys zs : List ℕ) → Out s (ys ++ zs) → Out s ys × Out s zs
out_append s [] zs o = (tt, o)
out_append s (y ∷ ys) zs o = let h = out_append s ys zs o.1 in ((o.0, h.0), h.1)

pub once_append : (ys zs : List ℕ) → Once (ys ++ zs) → Once ys × Once zs × Apart ys zs
once_append [] zs o = (tt, o, tt)
once_append (y ∷ ys) zs o =
    let h = once_append ys zs o.1 in
    let g = out_append y ys zs o.0 in
    ((g.0, h.0), h.1, (g.1, h.2))

-- ---- segments
pub seg_split : (m : List ℕ) (p c : ℕ) (ys zs : List ℕ) (q e : ℕ) → Seg m p c (ys ++ zs) q e → (a : ℕ) × (b : ℕ) × Seg m p c ys a b × Seg m a b zs q e
seg_split m p c [] zs q e h = (p, c, (refl, refl), h)
seg_split m p c (y ∷ ys) zs q e h =
    let g = seg_split m y (next m y) ys zs q e h.rest in
    (g.0, g.1, record { is = h.is; at = h.at; some = h.some; prev_is = h.prev_is; rest = g.2 }, g.3)

pub seg_join : (m : List ℕ) (p c : ℕ) (ys zs : List ℕ) (a b q e : ℕ) → Seg m p c ys a b → Seg m a b zs q e → Seg m p c (ys ++ zs) q e
seg_join m p c [] zs a b q e h g = subst (λ x. Seg m x c zs q e) h.1 (subst (λ x. Seg m a x zs q e) (sym h.0) g)
seg_join m p c (y ∷ ys) zs a b q e h g = record { is = h.is; at = h.at; some = h.some; prev_is = h.prev_is; rest = seg_join m y (next m y) ys zs a b q e h.rest g }

-- a store to another slot
pub seg_put : (m : List ℕ) (s j v p c : ℕ) (xs : List ℕ) (q e : ℕ) → j < 14 → Out s xs → Seg m p c xs q e → Seg (put m s j v) p c xs q e
seg_put m s j v p c [] q e l o h = h
seg_put m s j v p c (x ∷ xs) q e l o h =
    let n : x ≢ s = λ z. o.0 (sym z) in
    record {
      is = h.is;
      at = at_len (len_put m s j v) h.at;
      some = h.some;
      prev_is = other_slot m s j v x 8 n l (lit< tt) ∙ h.prev_is;
      rest = rw (other_slot m s j v x 9 n l (lit< tt)) (seg_put m s j v x (next m x) xs q e l o.1 h.rest);
    }

-- the last slot is in the segment
last_ne : (m : List ℕ) (s p c y : ℕ) (ys : List ℕ) (q e : ℕ) → Out s (y ∷ ys) → Seg m p c (y ∷ ys) q e → s ≢ q
last_ne m s p c y [] q e o h z = o.0 (z ∙ h.rest.1)
last_ne m s p c y (w ∷ ys) q e o h z = last_ne m s y (next m y) w ys q e o.1 h.rest z

pub last_out : (m : List ℕ) (p c y : ℕ) (ys : List ℕ) (q e : ℕ) (zs : List ℕ) → Apart (y ∷ ys) zs → Seg m p c (y ∷ ys) q e → Out q zs
last_out m p c y [] q e zs a h = subst (λ x. Out x zs) (sym h.rest.1) a.0
last_out m p c y (w ∷ ys) q e zs a h = last_out m y (next m y) w ys q e zs a.1 h.rest

last_some : (m : List ℕ) (p c y : ℕ) (ys : List ℕ) (q e : ℕ) → Seg m p c (y ∷ ys) q e → (q < nil) × At m q
last_some m p c y [] q e h = subst (λ x. (x < nil) × At m x) (sym h.rest.1) (h.some, h.at)
last_some m p c y (w ∷ ys) q e h = last_some m y (next m y) w ys q e h.rest

-- the last slot's next link
re_last : (m : List ℕ) (p c y : ℕ) (ys : List ℕ) (q e n : ℕ) → Once (y ∷ ys) → Seg m p c (y ∷ ys) q e → Seg (put m q 9 n) p c (y ∷ ys) q n
re_last m p c y [] q e n o h =
    let z = h.rest.1 in
    record {
      is = h.is;
      at = at_len (len_put m q 9 n) h.at;
      some = h.some;
      prev_is = other_field m q 9 n y 8 (omega arith) (lit< tt) (lit< tt) ∙ h.prev_is;
      rest = (subst (λ x. word (put m x 9 n) y 9 ≡ n) (sym z) (same m y 9 n h.at (lit< tt)), z);
    }
re_last m p c y (w ∷ ys) q e n o h =
    let d : y ≢ q = last_ne m y y (next m y) w ys q e o.0 h.rest in
    record {
      is = h.is;
      at = at_len (len_put m q 9 n) h.at;
      some = h.some;
      prev_is = other_field m q 9 n y 8 (omega arith) (lit< tt) (lit< tt) ∙ h.prev_is;
      rest = rw (other_slot m q 9 n y 9 d (lit< tt) (lit< tt)) (re_last m y (next m y) w ys q e n o.1 h.rest);
    }

-- the first slot's previous link
re_first : (m : List ℕ) (p c y : ℕ) (ys : List ℕ) (q e p' : ℕ) → Once (y ∷ ys) → Seg m p c (y ∷ ys) q e → Seg (put m c 8 p') p' c (y ∷ ys) q e
re_first m p c y ys q e p' o h =
    subst (λ x. Seg (put m x 8 p') p' c (y ∷ ys) q e) (sym h.is)
    (record {
      is = h.is;
      at = at_len (len_put m y 8 p') h.at;
      some = h.some;
      prev_is = same m y 8 p' h.at (lit< tt);
      rest = rw (other_field m y 8 p' y 9 (omega arith) (lit< tt) (lit< tt)) (seg_put m y 8 p' y (next m y) ys q e (lit< tt) o.0 h.rest);
    })

relinked_put : (m : List ℕ) (s j v : ℕ) → j < 14 → ((i : ℕ) → i ≢ 8 → i ≢ 9 → i ≢ j) → Relinked m (put m s j v)
relinked_put m s j v l f = record { len = len_put m s j v; rest = λ t i h a b. other_field m s j v t i (f i a b) l h }

pub put_8 : (m : List ℕ) (s v : ℕ) → Relinked m (put m s 8 v)
put_8 m s v = relinked_put m s 8 v (lit< tt) (λ i a b. a)

pub put_9 : (m : List ℕ) (s v : ℕ) → Relinked m (put m s 9 v)
put_9 m s v = relinked_put m s 9 v (lit< tt) (λ i a b. b)

pub re_trans : {m n o : List ℕ} → Relinked m n → Relinked n o → Relinked m o
re_trans f g = record { len = g.len ∙ f.len; rest = λ t j h a b. g.rest t j h a b ∙ f.rest t j h a b }

pub re_same : (m : List ℕ) → Relinked m m
re_same m = record { len = refl; rest = λ t j h a b. refl }

-- ---- the two steps. The front of the order gets a new end, and what stands apart from it stays
pub record Fronted (m o : List ℕ) (r : ℕ) (ys : List ℕ) (a n : ℕ) : Type 0 where
  pub seg : Seg o nil r ys a n
  pub frame : Relinked m o
  pub keeps : (p c : ℕ) (zs : List ℕ) (q e : ℕ) → Apart ys zs → Seg m p c zs q e → Seg o p c zs q e
  pub keeps_at : (t j : ℕ) → j < 14 → j ≢ 9 → word o t j ≡ word m t j

pub front : (m o : List ℕ) (head a b n r : ℕ) (ys : List ℕ) → Once ys → Seg m nil head ys a b → Forward m o a n head r → Fronted m o r ys a n
front m o head a b n r [] once h f =
    let g = f.none h.1 in
    subst (λ z. Fronted m z r [] a n) (sym g.1) (record { seg = (g.0, h.1); frame = re_same m; keeps = λ p c zs q e x y. y; keeps_at = λ t j l d. refl })
front m o head a b n r (y ∷ ys) once h f =
    let g = f.some (λ z. let s = (last_some m nil head y ys a b h).0 in let w : a ≡ nil = z in native_lt a w s) in
    subst (λ z. Fronted m z r (y ∷ ys) a n) (sym g.1) (subst (λ z. Fronted m (put m a 9 n) z (y ∷ ys) a n) (sym g.0)
    (record {
      seg = re_last m nil head y ys a b n once h;
      frame = put_9 m a n;
      keeps = λ p c zs q e x s. seg_put m a 9 n p c zs q e (lit< tt) (last_out m nil head y ys a b zs x h) s;
      keeps_at = λ t j l d. other_field m a 9 n t j d (lit< tt) l;
    }))
  where
    native_lt : (x : ℕ) → x ≡ nil → x < nil → ⊥
    native_lt x e l = omega arith

pub last_at : (m : List ℕ) (c : ℕ) (ys : List ℕ) (a b : ℕ) → Seg m nil c ys a b → a ≢ nil → At m a
last_at m c [] a b h n = absurd (n h.1)
last_at m c (y ∷ ys) a b h n = (last_some m nil c y ys a b h).1

pub first_at : (m : List ℕ) (p c : ℕ) (zs : List ℕ) (q : ℕ) → Seg m p c zs q nil → c ≢ nil → At m c
first_at m p c [] q h n = absurd (n h.0)
first_at m p c (z ∷ zs) q h n = subst (λ x. At m x) (sym h.is) h.at

apart_head : (ys : List ℕ) (z : ℕ) (zs : List ℕ) → Apart ys (z ∷ zs) → Out z ys
apart_head [] z zs a = tt
apart_head (y ∷ ys) z zs a = ((λ e. a.0.0 (sym e)), apart_head ys z zs a.1)

apart_tail : (ys : List ℕ) (z : ℕ) (zs : List ℕ) → Apart ys (z ∷ zs) → Apart ys zs
apart_tail [] z zs a = tt
apart_tail (y ∷ ys) z zs a = (a.0.1, apart_tail ys z zs a.1)

-- the rear of the order gets a new start
pub record Reared (m o : List ℕ) (a c : ℕ) (zs : List ℕ) (r : ℕ) : Type 0 where
  pub seg : Seg o a c zs r nil
  pub frame : Relinked m o
  pub keeps : (h : ℕ) (ys : List ℕ) (b n : ℕ) → Apart ys zs → Seg m nil h ys b n → Seg o nil h ys b n

pub rear : (m o : List ℕ) (s c a tail r : ℕ) (zs : List ℕ) → Once zs → Seg m s c zs tail nil → Back m o c a tail r → Reared m o a c zs r
rear m o s c a tail r [] once h f =
    let g = f.none h.0 in
    subst (λ z. Reared m z a c [] r) (sym g.1) (record { seg = (h.0, g.0); frame = re_same m; keeps = λ x ys b n d e. e })
rear m o s c a tail r (z ∷ zs) once h f =
    let g = f.some (λ e. below_nil c e (subst (λ x. x < nil) (sym h.is) h.some)) in
    subst (λ w. Reared m w a c (z ∷ zs) r) (sym g.1) (subst (λ w. Reared m (put m c 8 a) a c (z ∷ zs) w) (sym g.0)
    (record {
      seg = re_first m s c z zs tail nil a once h;
      frame = put_8 m c a;
      keeps = λ x ys b n d e. seg_put m c 8 a nil x ys b n (lit< tt) (subst (λ w. Out w ys) (sym h.is) (apart_head ys z zs d)) e;
    }))
  where
    below_nil : (x : ℕ) → x ≡ nil → x < nil → ⊥
    below_nil x e l = omega arith

-- ---- a slot out of the order
module _ {m : List ℕ} {s head tail : ℕ} (p : Within m s head tail) where
  abbrev parts : (a : ℕ) × (b : ℕ) × Seg m nil head p.ys a b × Seg m a b (s ∷ p.zs) tail nil
  parts = seg_split m nil head p.ys (s ∷ p.zs) tail nil p.seg

  alone : Once p.ys × Once (s ∷ p.zs) × Apart p.ys (s ∷ p.zs)
  alone = once_append p.ys (s ∷ p.zs) p.once

  pub w_at : At m s
  w_at = parts.3.at

  front_seg : {a : ℕ} → a ≡ prev m s → Seg m nil head p.ys a parts.1
  front_seg e = subst (λ z. Seg m nil head p.ys z parts.1) (sym (e ∙ parts.3.prev_is)) parts.2

  pub before_at : {a : ℕ} → a ≡ prev m s → a ≢ nil → At m a
  before_at {a} e n = last_at m head p.ys a parts.1 (front_seg e) n

  pub un_one : {o : List ℕ} {a n r : ℕ} → a ≡ prev m s → Forward m o a n head r → Fronted m o r p.ys a n
  un_one {o} {a} {n} {r} e f = front m o head a parts.1 n r p.ys alone.0 (front_seg e) f

  pub un_rest : {o : List ℕ} {a n r : ℕ} → n ≡ next m s → Fronted m o r p.ys a n → Seg o s n p.zs tail nil
  un_rest {o} {a} {n} {r} e f = f.keeps s n p.zs tail nil (apart_tail p.ys s p.zs alone.2) (subst (λ z. Seg m s z p.zs tail nil) (sym e) parts.3.rest)

  pub un_two : {o q : List ℕ} {a n r t : ℕ} → n ≡ next m s → Fronted m o r p.ys a n → Back o q n a tail t → Chained m q r t (p.ys ++ p.zs)
  un_two {o} {q} {a} {n} {r} {t} e f b =
      let g = rear o q s n a tail t p.zs alone.1.1 (un_rest e f) b in
      record { seg = seg_join q nil r p.ys p.zs a n t nil (g.keeps r p.ys a n (apart_tail p.ys s p.zs alone.2) f.seg) g.seg; frame = re_trans f.frame g.frame }

-- ---- a slot put at the end
module _ {m : List ℕ} {s head tail : ℕ} (p : Without m s head tail) where
  pub end_at : tail ≢ nil → At m tail
  end_at n = last_at m head p.xs tail nil p.seg n

  -- its own links are set first
  pub ready : {m₁ m₂ : List ℕ} → m₁ ≡ put m s 8 tail → m₂ ≡ put m₁ s 9 nil → (Seg m₂ nil head p.xs tail nil) × (Relinked m m₂) × (prev m₂ s ≡ tail) × (next m₂ s ≡ nil)
  ready {m₁} {m₂} e d =
      subst (λ z. (Seg z nil head p.xs tail nil) × (Relinked m z) × (prev z s ≡ tail) × (next z s ≡ nil)) (sym (d ∙ ap (λ z. put z s 9 nil) e)) (
        seg_put (put m s 8 tail) s 9 nil nil head p.xs tail nil (lit< tt) p.out (seg_put m s 8 tail nil head p.xs tail nil (lit< tt) p.out p.seg),
        re_trans (put_8 m s tail) (put_9 (put m s 8 tail) s nil),
        other_field (put m s 8 tail) s 9 nil s 8 (omega arith) (lit< tt) (lit< tt) ∙ same m s 8 tail p.at (lit< tt),
        same (put m s 8 tail) s 9 nil (at_len (len_put m s 8 tail) p.at) (lit< tt),
      )

  pub appended : {m₂ o : List ℕ} {r : ℕ} → (Seg m₂ nil head p.xs tail nil) × (Relinked m m₂) × (prev m₂ s ≡ tail) × (next m₂ s ≡ nil) → Forward m₂ o tail s head r → Chained m o r s (p.xs ++ s ∷ [])
  appended {m₂} {o} {r} h f =
      let g = front m₂ o head tail nil s r p.xs p.once h.0 f in
      let l = re_trans h.1 g.frame in
      record { seg = seg_join o nil r p.xs (s ∷ []) tail s s nil g.seg (g.keeps tail s (s ∷ []) s nil (apart_one p.xs p.out) (record { is = refl; at = at_len h.1.len p.at; some = p.some; prev_is = h.2; rest = (h.3, refl) })); frame = l }
    where
      apart_one : (xs : List ℕ) → Out s xs → Apart xs (s ∷ [])
      apart_one [] u = tt
      apart_one (x ∷ xs) u = (((λ z. u.0 (sym z)), tt), apart_one xs u.1)
