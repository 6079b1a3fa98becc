-- A hard line at indent 0 cuts a document: the rows on its two sides are solved by themselves.
use Rattle.std.specs.Prelude.{◌≡◌, Bool, not, cond, ℕ, ◌+◌}
use Rattle.std.proofs.Math.Path.{refl, ap}
use Rattle.std.proofs.Common.{sym, subst, ◌∙◌, arith, eq-eqb, le-ltb}
use Rattle.std.proofs.Math.Bool.{true, false, or-false}
use Rattle.std.proofs.Math.Option
use Rattle.std.proofs.Math.Option.{some, none-ne-some, some-injective}
use mathlib.Core.List.{List, [], ◌∷◌, ◌++◌, map, append-nil}
use Rattle.cost.specs.Cost.{add, cheap, cheaper}
use Rattle.cost.specs.Order.{is_cheap}
use Rattle.cost.proofs.Order.{not_cheap}
use Rattle.layout.specs.Document.{Doc, empty, text, newline, cat, nest, align, choice, annotate, penalty}
use Rattle.layout.specs.Rules.{Rules}
use Rattle.layout.specs.Lawful.{Lawful}
use Rattle.layout.specs.Layout.{Plan, blank, put, line, join}
use Rattle.layout.specs.Choice.{each, chosen}
use Rattle.layout.specs.Running.{cost_from}
use Rattle.layout.specs.Frontier.{present, load, build, Cand, covers, least_from, least, cand, after, marked, charged, front}
use Rattle.layout.specs.Sieve.{build_one, build_build}
use Rattle.layout.proofs.Covers.{covers_refl, covers_trans}
use Rattle.layout.specs.Through.{build_map}
use Rattle.layout.specs.Moved.{cheap_left, cheap_right, after_same}
use Rattle.layout.proofs.Chosen.{chosen_is, answer_is}
use Rattle.layout.specs.Table.{Table, HardLine, Seq, seq_doc, shape, Reads}
use Rattle.layout.specs.Nesting.{Same, same_refl, same_then, same_left, same_nest, ChosenAs, same_chosen}

-- at one column the least is left, the earliest of equals
abbrev AtColumn : ℕ → List (Cand Plan) → Type 0
AtColumn c [] = Unit {0}
AtColumn c (x ∷ l) = (x.column ≡ c) × AtColumn c l

covers_at : (x y : Cand Plan) → x.column ≡ y.column → covers x y ≡ cheap x.cost y.cost
unfolding covers
covers_at x y e = rw (eq-eqb x.column y.column e, le-ltb x.column y.column (omega arith)) (or-false (cheap x.cost y.cost))

load_one : (c : ℕ) (b : Cand Plan) (xs : List (Cand Plan)) → b.column ≡ c → AtColumn c xs → load covers (b ∷ []) xs ≡ least_from b xs ∷ []
unfolding load present cheaper
load_one c b [] e h = refl
load_one c b (x ∷ xs) e h = ap (λ (r : List (Cand Plan)). load covers r xs) (one (cheap b.cost x.cost) refl) ∙ go (cheap b.cost x.cost) (load_one c b xs e h.1) (load_one c x xs h.0 h.1)
  where
    one : (t : Bool) → cheap b.cost x.cost ≡ t → present covers (b ∷ []) x ≡ cond (not t) x b ∷ []
    one true q = rw (covers_at b x (e ∙ sym h.0), q)
    one false q = rw (covers_at b x (e ∙ sym h.0), covers_at x b (h.0 ∙ sym e), q, is_cheap x.cost b.cost (not_cheap b.cost x.cost q))

    go : (t : Bool) → load covers (b ∷ []) xs ≡ least_from b xs ∷ [] → load covers (x ∷ []) xs ≡ least_from x xs ∷ [] → load covers (cond (not t) x b ∷ []) xs ≡ least_from (cond (not t) x b) xs ∷ []
    go true f g = f
    go false f g = g

-- a frontier presented again stays as it is
pub front_stable : (R : Rules) (d : Doc) (c i : ℕ) → build covers (front R d c i) ≡ front R d c i
unfolding front
front_stable R empty c i = build_one covers (cand R c blank)
front_stable R (text t) c i = build_one covers (cand R c (put t))
front_stable R newline c i = build_one covers (cand R c (line i))
front_stable R (cat a b) c i = build_build covers covers_refl covers_trans (each (λ l. map (after l) (front R b l.column i)) (front R a c i))
front_stable R (nest n d) c i = front_stable R d c (R.lower (i + n))
front_stable R (align d) c i = front_stable R d c (R.lower c)
front_stable R (choice a b) c i = build_build covers covers_refl covers_trans (front R a c i ++ front R b c i)
front_stable R (annotate k d) c i = build_build covers covers_refl covers_trans (map (marked k) (front R d c i))
front_stable R (penalty n d) c i = build_build covers covers_refl covers_trans (map (charged n) (front R d c i))

module _ (R : Rules) where
  abbrev pub broken : Cand Plan → Cand Plan
  broken l = record { cost = add l.cost (cost_from R (line 0) 0); column = 0; plan = join l.plan (line 0) }

  each_line : (l : List (Cand Plan)) → each (λ x. map (after x) (cand R x.column (line 0) ∷ [])) l ≡ map broken l
  each_line [] = refl
  each_line (x ∷ l) = ap (λ (r : List (Cand Plan)). broken x ∷ r) (each_line l)

  at_zero : (l : List (Cand Plan)) → AtColumn 0 (map broken l)
  at_zero [] = tt
  at_zero (x ∷ l) = (refl, at_zero l)

  least_broken : (b : Cand Plan) (l : List (Cand Plan)) → least_from (broken b) (map broken l) ≡ broken (least_from b l)
  unfolding cheaper
  least_broken b [] = refl
  least_broken b (x ∷ l) = ap (λ (t : Bool). least_from (cond (not t) (broken x) (broken b)) (map broken l)) (cheap_right (cost_from R (line 0) 0) b.cost x.cost) ∙ (go (cheap b.cost x.cost) (least_broken b l) (least_broken x l))
    where
      go : (t : Bool) → least_from (broken b) (map broken l) ≡ broken (least_from b l) → least_from (broken x) (map broken l) ≡ broken (least_from x l)
          → least_from (cond (not t) (broken x) (broken b)) (map broken l) ≡ broken (least_from (cond (not t) x b) l)
      go true f g = f
      go false f g = g

  -- the frontier after the newline is the best of the rows before it
  pub cut : (d : Doc) (c : ℕ) (m : Cand Plan) → least (front R d c 0) ≡ some m → front R (cat d newline) c 0 ≡ broken m ∷ []
  unfolding front build load present
  cut d c m e = ap (build covers) (each_line (front R d c 0)) ∙ go (front R d c 0) e
    where
      go : (l : List (Cand Plan)) → least l ≡ some m → build covers (map broken l) ≡ broken m ∷ []
      go [] f = absurd (none-ne-some m f)
      go (x ∷ l) f = load_one 0 (broken x) (map broken l) refl (at_zero l) ∙ ap (λ (r : Cand Plan). r ∷ []) (least_broken x l ∙ ap broken (some-injective (least_from x l) m f))

  -- and what follows it is solved by itself
  pub row : (d r : Doc) (m : Cand Plan) → least (front R d 0 0) ≡ some m → front R (cat (cat d newline) r) 0 0 ≡ map (after (broken m)) (front R r 0 0)
  unfolding front
  row d r m e =
      ap (λ (l : List (Cand Plan)). build covers (each (λ x. map (after x) (front R r x.column 0)) l)) (cut d 0 m e)
      ∙ ap (build covers) (append-nil (map (after (broken m)) (front R r 0 0)))
      ∙ build_map covers covers (after (broken m)) (after_same (broken m)) (front R r 0 0)
      ∙ ap (map (after (broken m))) (front_stable R r 0 0)

  least_after : (w b : Cand Plan) (l : List (Cand Plan)) → least_from (after w b) (map (after w) l) ≡ after w (least_from b l)
  unfolding cheaper
  least_after w b [] = refl
  least_after w b (x ∷ l) = ap (λ (t : Bool). least_from (cond (not t) (after w x) (after w b)) (map (after w) l)) (cheap_left w.cost b.cost x.cost) ∙ (go (cheap b.cost x.cost) (least_after w b l) (least_after w x l))
    where
      go : (t : Bool) → least_from (after w b) (map (after w) l) ≡ after w (least_from b l) → least_from (after w x) (map (after w) l) ≡ after w (least_from x l)
          → least_from (cond (not t) (after w x) (after w b)) (map (after w) l) ≡ after w (least_from (cond (not t) x b) l)
      go true f g = f
      go false f g = g

  pub rows_answer : (d r : Doc) (m n : Cand Plan) → least (front R d 0 0) ≡ some m → least (front R r 0 0) ≡ some n → least (front R (cat (cat d newline) r) 0 0) ≡ some (after (broken m) n)
  rows_answer d r m n e f = ap least (row d r m e) ∙ go (front R r 0 0) f
    where
      go : (l : List (Cand Plan)) → least l ≡ some n → least (map (after (broken m)) l) ≡ some (after (broken m) n)
      go [] g = absurd (none-ne-some n g)
      go (x ∷ l) g = ap (λ (z : Cand Plan). some z) (least_after (broken m) x l ∙ ap (after (broken m)) (some-injective (least_from x l) n g))

  module _ (L : Lawful R) where
    -- of the rule: the answers of the rows, with the newline between them
    pub rows_chosen : (d r : Doc) (p q : Plan) → chosen R d ≡ some p → chosen R r ≡ some q → chosen R (cat (cat d newline) r) ≡ some (join (join p (line 0)) q)
    rows_chosen d r p q e f = (answer_is R L (cat (cat d newline) r) (after (broken (cand R 0 p)) (cand R 0 q))
        (rows_answer d r (cand R 0 p) (cand R 0 q) (chosen_is R L d ∙ ap (Option.map (cand R 0)) e) (chosen_is R L r ∙ ap (Option.map (cand R 0)) f))).plan_is

  -- a sequence nests to the left, which changes nothing
  module _ (T : Table) (D : ℕ → Doc) where
    seq_same : (d e : Doc) (ks : List ℕ) → Same R d e → Same R (seq_doc T D d ks) (seq_doc T D e ks)
    seq_same d e [] s = s
    seq_same d e (k ∷ ks) s = seq_same (cat d (D k)) (cat e (D k)) ks (same_left R d e (D k) s)

    seq_nest : (a d : Doc) (ks : List ℕ) → Same R (seq_doc T D (cat a d) ks) (cat a (seq_doc T D d ks))
    seq_nest a d [] = same_refl R (cat a d)
    seq_nest a d (k ∷ ks) = same_then R _ _ _ (seq_same (cat (cat a d) (D k)) (cat a (cat d (D k))) ks (same_nest R a d (D k))) (seq_nest a (cat d (D k)) ks)

    seq_append : (d : Doc) (js ks : List ℕ) → seq_doc T D d (js ++ ks) ≡ seq_doc T D (seq_doc T D d js) ks
    seq_append d [] ks = refl
    seq_append d (j ∷ js) ks = seq_append (cat d (D j)) js ks

    -- a Seq at column and indent 0 that has a HardLine h: the children before it and those after it are solved by themselves
    pub seq_rows : Lawful R → Reads T D → (j h k : ℕ) (js ks : List ℕ) (p q : Plan) → T.node h ≡ HardLine
        → chosen R (shape T D (Seq (j ∷ js))) ≡ some p → chosen R (shape T D (Seq (k ∷ ks))) ≡ some q
        → ChosenAs R (shape T D (Seq (j ∷ (js ++ (h ∷ k ∷ ks))))) (join (join p (line 0)) q)
    seq_rows L reads j h k js ks p q n e f =
        let X = seq_doc T D (D j) js in
        let w : seq_doc T D (D j) (js ++ (h ∷ k ∷ ks)) ≡ seq_doc T D (cat (cat X newline) (D k)) ks
        = seq_append (D j) js (h ∷ k ∷ ks) ∙ ap (λ (d : Doc). seq_doc T D (cat (cat X d) (D k)) ks) (reads h ∙ ap (shape T D) n) in
        subst (λ (d : Doc). ChosenAs R d (join (join p (line 0)) q)) (sym w)
        (same_chosen R (seq_doc T D (cat (cat X newline) (D k)) ks) (cat (cat X newline) (seq_doc T D (D k) ks)) (join (join p (line 0)) q) (seq_nest (cat X newline) (D k) ks) (rows_chosen L X (seq_doc T D (D k) ks) p q e f))
