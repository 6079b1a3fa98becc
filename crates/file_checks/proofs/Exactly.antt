-- Tables have exactly one verdict.
use mathlib.Core.Path.{◌≡◌, refl, sym, ap, subst}
use mathlib.Core.Logic.{⊎_elim, by_cases}
use mathlib.Core.Option.{some}
use mathlib.Core.List.{List, [], ◌∷◌}
use Prim.Native.Nat.{ℕ, zero, suc, ◌+◌, ◌≤◌, ◌<◌}
use native.Mathlib.Omega.{arith}
use native.Mathlib.Decide.{ℕ_discrete, dec_lt}
use lib.ListN.{length, get_or}
use Rattle.file_tables.specs.Tables.{Tables, kind, first, second, flat, flat_mark, flat_word, choice_start, choice_length, skipped, width}
use Rattle.file_utf8.proofs.Rows.{utf8?}
use Rattle.file_checks.specs.declared.Lengths.{Lengths}
use Rattle.file_checks.specs.Tells.{told_dec}
use Rattle.file_checks.specs.References.{lengths_of, seq, fill, KindNamed, Named, RowsNamed, Numbers, References}
use Rattle.file_checks.specs.Texts.{NoNewline, TextOk, text_bytes, TextsOk, SpaceOk}
use Rattle.file_checks.specs.Circle.{Circle}
use Rattle.file_checks.specs.Choice.{two, choice_list, Comes, ListsRight}
use Rattle.file_checks.specs.Search.{Cut, done, keep, split}
use Rattle.file_checks.specs.Judged.{Judged, reference, text, space, circle, list, accepted}
use Rattle.file_checks.proofs.ByKind.{a_text, a_range, a_group, an_align, no_preferred, a_choice, no_annotation, an_annotate, a_nest, a_penalty, no_kind, flat_here, flat_none, flat_only}
use Rattle.file_checks.proofs.Enumerated.{closed}
use Rattle.file_checks.proofs.Orders.{cut_length, cut_comes, comes_cut}
use Rattle.file_checks.proofs.Choices.{from_none, Split, cut_cases}
use Rattle.file_checks.proofs.Decided.{circle?}

all? : (P : ℕ → Type 0) (n : ℕ) → ((i : ℕ) → i < n → Dec (P i)) → Dec ((i : ℕ) → i < n → P i)
all? P zero d = yes (λ i h. absurd (omega arith))
all? P (suc n) d = go (all? P n (λ i h. d i (omega arith))) (d n (omega arith))
  where
    go : Dec ((i : ℕ) → i < n → P i) → Dec (P n) → Dec ((i : ℕ) → i < suc n → P i)
    go (yes a) (yes l) = yes (λ i h. by_cases (ℕ_discrete i n) (λ ei. subst P (sym ei) l) (λ ne. a i (omega arith)))
    go (yes a) (no l) = no (λ z. l (z n (omega arith)))
    go (no a) l = no (λ z. a (λ i h. z i (omega arith)))

-- ---- 6

module _ (n : Lengths) (row : List ℕ) where
  kind_named? : Dec (KindNamed n row)
  kind_named? =
      by_cases (ℕ_discrete (kind row) 1) (λ e. told_dec _ (a_text n row e))
      (λ k1. by_cases (ℕ_discrete (kind row) 4) (λ e. told_dec _ (a_range n row (seq e)))
      (λ k4. by_cases (ℕ_discrete (kind row) 6) (λ e. told_dec _ (a_range n row (fill e)))
      (λ k6. by_cases (ℕ_discrete (kind row) 5) (λ e. told_dec _ (a_group n row e))
      (λ k5. by_cases (ℕ_discrete (kind row) 8) (λ e. told_dec _ (an_align n row e))
      (λ k8. by_cases (ℕ_discrete (kind row) 9)
      (λ e. by_cases (dec_lt (first row) n.nodes) (λ l. told_dec _ (a_choice n row e l)) (λ l. told_dec _ (no_preferred n row e (omega arith))))
      (λ k9. by_cases (ℕ_discrete (kind row) 10)
      (λ e. by_cases (dec_lt (first row) n.annotations) (λ l. told_dec _ (an_annotate n row e l)) (λ l. told_dec _ (no_annotation n row e (omega arith))))
      (λ k10. by_cases (ℕ_discrete (kind row) 7) (λ e. told_dec _ (a_nest n row e))
      (λ k7. by_cases (ℕ_discrete (kind row) 11) (λ e. told_dec _ (a_penalty n row e))
      (λ k11. told_dec _ (no_kind n row k1 k4 k6 k5 k8 k9 k10 k7 k11))))))))))

  flat? : Dec ((j : ℕ) → flat row ≡ some j → j < n.nodes)
  flat? =
      by_cases (ℕ_discrete (flat_mark row) 1)
      (λ m. by_cases (dec_lt (flat_word row) n.nodes) (λ l. yes (flat_only row n.nodes m l)) (λ l. no (λ f. l (f (flat_word row) (flat_here row m)))))
      (λ m. yes (λ j e. absurd (flat_none row j m e)))

  choice_range? : Dec ((choice_length row ≡ 0 → ⊥) → choice_start row + choice_length row ≤ n.choices)
  choice_range? =
      by_cases (ℕ_discrete (choice_length row) 0) (λ z. yes (λ ne. absurd (ne z)))
      (λ ne. by_cases (dec_lt n.choices (choice_start row + choice_length row)) (λ l. no (λ f. let h = f ne in omega arith)) (λ l. yes (λ _. omega arith)))

  named? : Dec (Named n row)
  named? = go kind_named? flat? choice_range?
    where
      go :
          Dec (KindNamed n row) → Dec ((j : ℕ) → flat row ≡ some j → j < n.nodes)
          → Dec ((choice_length row ≡ 0 → ⊥) → choice_start row + choice_length row ≤ n.choices) → Dec (Named n row)
      go (yes a) (yes b) (yes c) = yes (record { by_kind = a; flat_node = b; choice_range = c })
      go (yes a) (yes b) (no c) = no (λ z. c z.choice_range)
      go (yes a) (no b) c = no (λ z. b z.flat_node)
      go (no a) b c = no (λ z. a z.by_kind)

rows? : (n : Lengths) (nodes : List (List ℕ)) → Dec (RowsNamed n nodes)
rows? n nodes =
    by_cases (all? (λ i. Named n (get_or nodes i [])) (length nodes) (λ i h. named? n (get_or nodes i [])))
    (λ a. yes (record { each = a })) (λ a. no (λ z. a z.each))

numbers? : (n : ℕ) (xs : List ℕ) → Dec (Numbers n xs)
numbers? n xs =
    by_cases (all? (λ k. get_or xs k 0 < n) (length xs) (λ k h. dec_lt (get_or xs k 0) n)) (λ a. yes (record { below = a })) (λ a. no (λ z. a z.below))

references? : (t : Tables) → Dec (References t)
references? t =
    go (dec_lt t.root (length t.nodes)) (dec_lt t.space (length t.texts)) (numbers? (length t.nodes) t.edges)
    (numbers? (length t.nodes) t.choices) (rows? (lengths_of t) t.nodes)
  where
    go :
        Dec (t.root < length t.nodes) → Dec (t.space < length t.texts) → Dec (Numbers (length t.nodes) t.edges)
        → Dec (Numbers (length t.nodes) t.choices) → Dec (RowsNamed (lengths_of t) t.nodes) → Dec (References t)
    go (yes a) (yes b) (yes c) (yes d) (yes e) = yes (record { root = a; space = b; edges = c; choices = d; nodes = e })
    go (yes a) (yes b) (yes c) (yes d) (no e) = no (λ z. e z.nodes)
    go (yes a) (yes b) (yes c) (no d) e = no (λ z. d z.choices)
    go (yes a) (yes b) (no c) d e = no (λ z. c z.edges)
    go (yes a) (no b) c d e = no (λ z. b z.space)
    go (no a) b c d e = no (λ z. a z.root)

-- ---- 7 and 8

not? : {P : Type 0} → Dec P → Dec (P → ⊥)
not? (yes p) = no (λ n. n p)
not? (no n) = yes n

no_newline? : (bytes : List ℕ) → Dec (NoNewline bytes)
no_newline? bytes =
    by_cases (all? (λ k. get_or bytes k 0 ≡ 10 → ⊥) (length bytes) (λ k h. not? (ℕ_discrete (get_or bytes k 0) 10)))
    (λ a. yes (record { none = a })) (λ a. no (λ z. a z.none))

text_ok? : (bytes : List ℕ) → Dec (TextOk bytes)
text_ok? bytes =
    by_cases (no_newline? bytes)
    (λ a. by_cases (utf8? bytes) (λ u. yes (record { no_newline = a; well_formed = u })) (λ u. no (λ z. u z.well_formed)))
    (λ a. no (λ z. a z.no_newline))

texts_ok? : (texts : List (List ℕ)) (bytes : List ℕ) → Dec (TextsOk texts bytes)
texts_ok? texts bytes =
    by_cases (all? (λ i. TextOk (text_bytes texts bytes i)) (length texts) (λ i h. text_ok? (text_bytes texts bytes i)))
    (λ a. yes (record { each = a })) (λ a. no (λ z. a z.each))

one_space? : (bytes : List ℕ) → Dec (bytes ≡ 32 ∷ [])
one_space? [] = no (λ e. let l = ap length e in omega arith)
one_space? (b ∷ []) =
    by_cases (ℕ_discrete b 32) (λ e. yes (ap (λ x. x ∷ []) e)) (λ ne. no (λ e. ne (ap (λ l. get_or l 0 0) e)))
one_space? (b ∷ c ∷ bytes) = no (λ e. let l = ap length e in omega arith)

space? : (texts : List (List ℕ)) (bytes : List ℕ) (i : ℕ) → Dec (SpaceOk texts bytes i)
space? texts bytes i = go (ℕ_discrete (width (get_or texts i [])) 1) (one_space? (text_bytes texts bytes i))
  where
    go : Dec (width (get_or texts i []) ≡ 1) → Dec (text_bytes texts bytes i ≡ 32 ∷ []) → Dec (SpaceOk texts bytes i)
    go (yes a) (yes b) = yes (record { wide = a; byte = b })
    go (yes a) (no b) = no (λ z. b z.byte)
    go (no a) b = no (λ z. a z.wide)

-- ---- 10

both? : {A B : Type 0} → Dec A → Dec B → Dec (A × B)
both? (yes a) (yes b) = yes (a, b)
both? (yes a) (no b) = no (λ z. b z.1)
both? (no a) b = no (λ z. a z.0)

module _ (t : List (List ℕ)) where
  split? :
      (y k : ℕ) (ys xs : List ℕ) → Dec (kind (get_or t y []) ≡ 9) → Dec (Cut t (first (get_or t y []) ∷ second (get_or t y []) ∷ ys) xs k)
      → Dec (Split t y ys xs (suc k))
  split? y k ys xs (yes h) (yes c) = yes (record { choice = h; less = k; count = refl; rest = c })
  split? y k ys xs (yes h) (no c) =
      no (λ s. let e : s.less ≡ k = omega (arith, s.count) in
      c (subst (λ (m : ℕ). Cut t (first (get_or t y []) ∷ second (get_or t y []) ∷ ys) xs m) e s.rest))
  split? y k ys xs (no h) c = no (λ s. h s.choice)

  turn? :
      (x y k : ℕ) (ys xs : List ℕ) → Dec ((x ≡ y) × Cut t ys xs k) → Dec (Split t y ys (x ∷ xs) k) → Dec (Cut t (y ∷ ys) (x ∷ xs) k)
  turn? x y k ys xs (yes a) b = yes (subst (λ (z : ℕ). Cut t (y ∷ ys) (z ∷ xs) k) (sym a.0) (keep a.1))
  turn? x y k ys xs (no a) (yes s) = yes (subst (λ (m : ℕ). Cut t (y ∷ ys) (x ∷ xs) m) (sym s.count) (split s.choice s.rest))
  turn? x y k ys xs (no a) (no b) = no (λ c. ⊎_elim a b (cut_cases c))

  cut? : (k : ℕ) (xs ys : List ℕ) → Dec (Cut t ys xs k)
  cut? zero [] [] = yes done
  cut? zero [] (y ∷ ys) = no (λ c. let l = cut_length c in omega arith)
  cut? zero (x ∷ xs) [] = no (λ c. let l = from_none c refl in omega arith)
  cut? zero (x ∷ xs) (y ∷ ys) = turn? x y zero ys xs (both? (ℕ_discrete x y) (cut? zero xs ys)) (no (λ s. omega (arith, s.count)))
  cut? (suc k) [] [] = no (λ c. let l = cut_length c in omega arith)
  cut? (suc k) [] (y ∷ ys) = no (λ c. let l = cut_length c in omega arith)
  cut? (suc k) (x ∷ xs) [] = no (λ c. let l = from_none c refl in omega arith)
  cut? (suc k) (x ∷ xs) (y ∷ ys) =
      turn? x y (suc k) ys xs (both? (ℕ_discrete x y) (cut? (suc k) xs ys))
      (split? y k ys (x ∷ xs) (ℕ_discrete (kind (get_or t y [])) 9) (cut? k (x ∷ xs) (first (get_or t y []) ∷ second (get_or t y []) ∷ ys)))

  right? :
      (choices row : List ℕ)
      → Dec ((choice_length row ≡ 0 → ⊥) → Comes t (skipped row) (two row) (choice_list choices row))
  right? choices row =
      by_cases (ℕ_discrete (choice_length row) 0) (λ z. yes (λ ne. absurd (ne z)))
      (λ ne. by_cases (cut? (skipped row) (choice_list choices row) (two row)) (λ c. yes (λ _. cut_comes c)) (λ c. no (λ f. c (comes_cut (f ne)))))

  lists? : (choices : List ℕ) → Dec (ListsRight t choices)
  lists? choices =
      by_cases
      (all? (λ i. (choice_length (get_or t i []) ≡ 0 → ⊥) → Comes t (skipped (get_or t i [])) (two (get_or t i [])) (choice_list choices (get_or t i [])))
      (length t) (λ i h. right? choices (get_or t i [])))
      (λ a. yes (record { each = a })) (λ a. no (λ z. a z.each))

-- ---- the verdict

-- a number, and that it is right
pub record Verdict (t : Tables) : Type 0 where
  pub number : ℕ
  pub judged : Judged t number

pub verdict : (t : Tables) → Verdict t
verdict t = go (references? t) (texts_ok? t.texts t.bytes) (space? t.texts t.bytes t.space) (lists? t.nodes t.choices)
  where
    graph :
        References t → TextsOk t.texts t.bytes → SpaceOk t.texts t.bytes t.space
        → Dec (Circle t.nodes t.edges) → Dec (ListsRight t.nodes t.choices) → Verdict t
    graph r x s (yes c) l = record { number = 9; judged = circle r x s c }
    graph r x s (no c) (yes l) = record { number = 0; judged = accepted (record { references = r; texts = x; space = s; no_circle = c; lists = l }) }
    graph r x s (no c) (no l) = record { number = 10; judged = list r x s c l }

    go :
        Dec (References t) → Dec (TextsOk t.texts t.bytes) → Dec (SpaceOk t.texts t.bytes t.space)
        → Dec (ListsRight t.nodes t.choices) → Verdict t
    go (no r) x s l = record { number = 6; judged = reference r }
    go (yes r) (no x) s l = record { number = 7; judged = text r x }
    go (yes r) (yes x) (no s) l = record { number = 8; judged = space r x s }
    go (yes r) (yes x) (yes s) l = graph r x s (circle? t.nodes t.edges (closed t r)) l

-- and no other is
pub judged_one : {t : Tables} {v w : ℕ} → Judged t v → Judged t w → v ≡ w
judged_one (reference a) (reference b) = refl
judged_one (reference a) (text b c) = absurd (a b)
judged_one (reference a) (space b c d) = absurd (a b)
judged_one (reference a) (circle b c d e) = absurd (a b)
judged_one (reference a) (list b c d e f) = absurd (a b)
judged_one (reference a) (accepted b) = absurd (a b.references)
judged_one (text a x) (reference b) = absurd (b a)
judged_one (text a x) (text b c) = refl
judged_one (text a x) (space b c d) = absurd (x c)
judged_one (text a x) (circle b c d e) = absurd (x c)
judged_one (text a x) (list b c d e f) = absurd (x c)
judged_one (text a x) (accepted b) = absurd (x b.texts)
judged_one (space a x s) (reference b) = absurd (b a)
judged_one (space a x s) (text b c) = absurd (c x)
judged_one (space a x s) (space b c d) = refl
judged_one (space a x s) (circle b c d e) = absurd (s d)
judged_one (space a x s) (list b c d e f) = absurd (s d)
judged_one (space a x s) (accepted b) = absurd (s b.space)
judged_one (circle a x s g) (reference b) = absurd (b a)
judged_one (circle a x s g) (text b c) = absurd (c x)
judged_one (circle a x s g) (space b c d) = absurd (d s)
judged_one (circle a x s g) (circle b c d e) = refl
judged_one (circle a x s g) (list b c d e f) = absurd (e g)
judged_one (circle a x s g) (accepted b) = absurd (b.no_circle g)
judged_one (list a x s g l) (reference b) = absurd (b a)
judged_one (list a x s g l) (text b c) = absurd (c x)
judged_one (list a x s g l) (space b c d) = absurd (d s)
judged_one (list a x s g l) (circle b c d e) = absurd (g e)
judged_one (list a x s g l) (list b c d e f) = refl
judged_one (list a x s g l) (accepted b) = absurd (l b.lists)
judged_one (accepted a) (reference b) = absurd (b a.references)
judged_one (accepted a) (text b c) = absurd (c a.texts)
judged_one (accepted a) (space b c d) = absurd (d a.space)
judged_one (accepted a) (circle b c d e) = absurd (a.no_circle e)
judged_one (accepted a) (list b c d e f) = absurd (f a.lists)
judged_one (accepted a) (accepted b) = refl
