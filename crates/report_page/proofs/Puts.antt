-- Lists put from a place on, one element after the other.
use mathlib.Core.Path.{◌≡◌, sym, ap, ◌∙◌}
use mathlib.Core.List.{List, [], ◌∷◌, ◌++◌, map}
use Prim.Native.Nat.{ℕ, suc, ◌+◌, ◌≤◌, ◌<◌}
use native.Mathlib.Nat.{add-zero}
use native.Mathlib.Numerals.{add-one}
use native.Mathlib.Omega.{arith}
use lib.ListN.{length, get_or, set, take, drop, get_or-map}
use lib.Seq.{sets, length-sets, sets-eq, take-suc, length-take-le, get_or-drop, take_at, drop_at}

-- the first i elements of s stand in l from a place on
pub record Put {A : Type 0} (l : List A) (at : ℕ) (s : List A) (i : ℕ) (r : List A) : Type 0 where
  pub is : r ≡ sets l at (take i s)

-- one list after the other
pub put_both : {A : Type 0} (l : List A) (at : ℕ) (a b : List A) → sets l at (a ++ b) ≡ sets (sets l at a) (at + length a) b
put_both l at [] b = ap (λ (k : ℕ). sets l k b) (sym (add-zero at))
put_both l at (x ∷ a) b =
    let e : suc at + length a ≡ at + suc (length a) = omega arith in
    put_both (set l at x) (suc at) a b ∙ ap (λ (k : ℕ). sets (sets (set l at x) (suc at) a) k b) e

pub put_length : {A : Type 0} {l s r : List A} {at i : ℕ} → Put l at s i r → length r ≡ length l
put_length {l} {s} {at} {i} p = ap length p.is ∙ length-sets l at (take i s)

-- one element more
pub put_more : {A : Type 0} {l s r : List A} {at i : ℕ} {x : A} (d : A) → i < length s → get_or s i d ≡ x → Put l at s i r → Put l at s (i + 1) (set r (at + i) x)
put_more {A} {l} {s} {r} {at} {i} {x} d h g p = record {
  is = rw (p.is, add-one i)
      (sym (ap (λ (vs : List A). sets l at vs) (take-suc s i d h)
      ∙ put_both l at (take i s) (get_or s i d ∷ [])
      ∙ ap (λ (k : ℕ). set (sets l at (take i s)) (at + k) (get_or s i d)) (length-take-le i s (omega arith))
      ∙ ap (λ (y : A). set (sets l at (take i s)) (at + i) y) g));
}

pub mapped_at : {A B : Type 0} (f : A → B) (l : List A) (n i : ℕ) (d : A) → get_or (map f (drop n l)) i (f d) ≡ f (get_or l (n + i) d)
mapped_at f l n i d = get_or-map f (drop n l) i d ∙ ap f (get_or-drop n l i d)

-- all of it
pub put_end : {A : Type 0} {l s r : List A} {at i n : ℕ} → i ≡ n → Put l at s i r → r ≡ sets l at (take n s)
put_end {l} {s} {at} h p = p.is ∙ ap (λ (k : ℕ). sets l at (take k s)) h

-- what was put at the front stands there, and the rest is as it was
pub front : {A : Type 0} (l r vs : List A) → length vs ≤ length l → r ≡ sets l 0 vs → r ≡ vs ++ drop (length vs) l
front {A} l r vs h e =
    let z : 0 + length vs ≡ length vs = omega arith in
    e ∙ sets-eq vs l 0 (omega arith) ∙ ap (λ (k : ℕ). vs ++ drop k l) z

pub front_take : {A : Type 0} (l r vs : List A) (n : ℕ) → length vs ≡ n → length vs ≤ length l → r ≡ sets l 0 vs → take n r ≡ vs
front_take {A} l r vs n k h e = ap (λ (x : List A). take n x) (front l r vs h e) ∙ take_at vs (drop (length vs) l) n k

pub front_drop : {A : Type 0} (l r vs : List A) (n : ℕ) → length vs ≡ n → length vs ≤ length l → r ≡ sets l 0 vs → drop n r ≡ drop n l
front_drop {A} l r vs n k h e = ap (λ (x : List A). drop n x) (front l r vs h e) ∙ drop_at vs (drop (length vs) l) n k ∙ ap (λ (j : ℕ). drop j l) k
