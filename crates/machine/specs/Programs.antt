-- Of programs: their result, how many events they have, the counts after them; and how these go over sequences.
use Rattle.std.specs.Prelude.{◌≡◌, refl, Bool, true, false, cond, ℕ, suc, ◌+◌}
use Rattle.std.proofs.Common.{sym, ap, ◌∙◌, arith}
use Rattle.machine.specs.Events.{Prog, ret, emit, ◌>>=◌, Why, Counts, Bounds, Out, done, stop, run, passes, counted, why, needed, bare}

abbrev pub value : {A : Type 0} → Prog A → A
value (ret a) = a
value (emit e p) = value p

abbrev pub events : {A : Type 0} → Prog A → ℕ
events (ret a) = 0
events (emit e p) = suc (events p)

abbrev pub counts_after : {A : Type 0} → Counts → Prog A → Counts
counts_after k (ret a) = k
counts_after k (emit e p) = counts_after (counted k e) p

module _ {A B : Type 0} where
  pub value_bind : (m : Prog A) (f : A → Prog B) → value (m >>= f) ≡ value (f (value m))
  value_bind (ret a) f = refl
  value_bind (emit e p) f = value_bind p f

  pub events_bind : (m : Prog A) (f : A → Prog B) → events (m >>= f) ≡ events m + events (f (value m))
  events_bind (ret a) f = omega arith
  events_bind (emit e p) f = omega (arith, events_bind p f)

  -- what follows is asked only at the result
  pub bind_at : (m : Prog A) (f g : A → Prog B) → f (value m) ≡ g (value m) → (m >>= f) ≡ (m >>= g)
  bind_at (ret a) f g h = h
  bind_at (emit e p) f g h = ap (emit e) (bind_at p f g h)

pub bind_assoc : {A B C : Type 0} (m : Prog A) (f : A → Prog B) (g : B → Prog C) → (m >>= f >>= g) ≡ (m >>= (λ a. f a >>= g))
bind_assoc (ret a) f g = refl
bind_assoc (emit e p) f g = ap (emit e) (bind_assoc p f g)

pub bind_ret : {A : Type 0} (m : Prog A) → (m >>= ret) ≡ m
bind_ret (ret a) = refl
bind_ret (emit e p) = ap (emit e) (bind_ret p)

-- ---- runs

-- what follows a run
abbrev pub and_then : {A B : Type 0} → Bounds → Out A → (A → Prog B) → Out B
and_then b (done k a) f = run b k (f a)
and_then b (stop w n k) f = stop w n k

cond_then : {A B : Type 0} (b : Bounds) (t : Bool) (x : Out B) (y z : Out A) (f : A → Prog B) → x ≡ and_then b y f → and_then b z f ≡ and_then b z f
    → cond t x (and_then b z f) ≡ and_then b (cond t y z) f
cond_then b true x y z f h q = h
cond_then b false x y z f h q = refl

-- a sequence runs the one and then the other
pub run_bind : {A B : Type 0} (b : Bounds) (k : Counts) (m : Prog A) (f : A → Prog B) → run b k (m >>= f) ≡ and_then b (run b k m) f
run_bind b k (ret a) f = refl
run_bind b k (emit e p) f =
    cond_then b (passes b k e) (run b (counted k e) (p >>= f)) (run b (counted k e) p) (stop (why e) (needed e) (bare k)) f (run_bind b (counted k e) p f) refl

pub done_not_stop : {A : Type 0} {P : Type 0} {w : Why} {n : ℕ} {k j : Counts} {a : A} → ◌≡◌ {A = Out A} (stop w n k) (done j a) → P
done_not_stop e = let z : ◌≡◌ {A = ℕ} 0 1 = cc in absurd (omega arith)

-- ---- a program that no bound stops

abbrev pub Passes : {A : Type 0} → Bounds → Counts → Prog A → Type 0
Passes b k (ret a) = Unit {0}
Passes b k (emit e p) = (passes b k e ≡ true) × Passes b (counted k e) p

pub run_passes : {A : Type 0} (b : Bounds) (k : Counts) (m : Prog A) → Passes b k m → run b k m ≡ done (counts_after k m) (value m)
run_passes b k (ret a) h = refl
run_passes b k (emit e p) h = ap (λ t. cond t (run b (counted k e) p) (stop (why e) (needed e) (bare k))) h.0 ∙ run_passes b (counted k e) p h.1

pub done_passes : {A : Type 0} (b : Bounds) (k : Counts) (m : Prog A) {j : Counts} {a : A} → run b k m ≡ done j a → Passes b k m
done_passes b k (ret x) h = tt
done_passes {A} b k (emit e p) {j} {a} h = go (passes b k e) refl h (λ q. done_passes b (counted k e) p q)
  where
    go : (t : Bool) → passes b k e ≡ t → cond t (run b (counted k e) p) (stop (why e) (needed e) (bare k)) ≡ done j a → (run b (counted k e) p ≡ done j a → Passes b (counted k e) p)
        → (passes b k e ≡ true) × Passes b (counted k e) p
    go true q r f = (q, f r)
    go false q r f = done_not_stop r

-- where it ends, it ends in its result, with all that it counts
pub done_is : {A : Type 0} (b : Bounds) (k : Counts) (m : Prog A) {j : Counts} {a : A} → run b k m ≡ done j a → done j a ≡ done (counts_after k m) (value m)
done_is b k m h = sym h ∙ run_passes b k m (done_passes b k m h)
