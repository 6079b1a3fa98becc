-- A choice list comes by replacements anywhere in it, in whatever order, exactly where it comes by as many from left to right.
use mathlib.Core.Path.{◌≡◌}
use mathlib.Core.List.{List, [], ◌∷◌}
use Prim.Native.Nat.{ℕ, zero, suc, ◌+◌}
use native.Mathlib.Omega.{arith}
use lib.ListN.{length}
use Rattle.file_checks.specs.Choice.{Replaced, here, later, Comes, as_it_is, step}
use Rattle.file_checks.specs.Search.{Cut, done, keep, split}

-- each replacement makes a list longer by one
pub cut_length : {t : List (List ℕ)} {ys xs : List ℕ} {k : ℕ} → Cut t ys xs k → length xs ≡ length ys + k
cut_length done = omega arith
cut_length (keep {k = k} {ys = ys} {xs = xs} c) = let e = cut_length c in omega arith
cut_length (split {k = k} {ys = ys} {xs = xs} h c) = let e = cut_length c in omega arith

after_one : {t : List (List ℕ)} {y k : ℕ} {ys xs : List ℕ} → Comes t k ys xs → Comes t k (y ∷ ys) (y ∷ xs)
after_one as_it_is = as_it_is
after_one (step r c) = step (later r) (after_one c)

pub cut_comes : {t : List (List ℕ)} {ys xs : List ℕ} {k : ℕ} → Cut t ys xs k → Comes t k ys xs
cut_comes done = as_it_is
cut_comes (keep c) = after_one (cut_comes c)
cut_comes (split h c) = step (here h) (cut_comes c)

unchanged : {t : List (List ℕ)} (ys : List ℕ) → Cut t ys ys zero
unchanged [] = done
unchanged (y ∷ ys) = keep (unchanged ys)

replace_first : {t : List (List ℕ)} {ys zs xs : List ℕ} {k : ℕ} → Cut t zs xs k → Replaced t ys zs → Cut t ys xs (suc k)
replace_first {t = t} {ys = ys} done r = elim r [ ]
replace_first (keep c) (here h) = split h (keep c)
replace_first (keep c) (later r) = keep (replace_first c r)
replace_first (split g c) (here h) = split h (split g c)
replace_first (split g c) (later r) = split g (replace_first c (later (later r)))

pub comes_cut : {t : List (List ℕ)} {ys xs : List ℕ} {k : ℕ} → Comes t k ys xs → Cut t ys xs k
comes_cut {ys = ys} as_it_is = unchanged ys
comes_cut (step r c) = replace_first (comes_cut c) r

pub comes_length : {t : List (List ℕ)} {ys xs : List ℕ} {k : ℕ} → Comes t k ys xs → length xs ≡ length ys + k
comes_length c = cut_length (comes_cut c)
