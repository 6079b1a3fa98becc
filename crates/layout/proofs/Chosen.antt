-- The frontier keeps the rule: it is what pruning leaves of all layouts in choice order, and its answer is the first of the cheapest.
use Rattle.std.specs.Prelude.{◌≡◌, refl, Bool, false, not, ◌&&◌, cond, ℕ, ◌+◌, ◌<◌, ltb, eqb}
use Rattle.std.proofs.Math.Path.{sym, ap, ap₂}
use Rattle.std.proofs.Common.{subst, ◌∙◌, ⊎_elim, arith}
use Rattle.std.proofs.Math.Bool.{true}
use Rattle.std.proofs.Math.Option
use Rattle.std.proofs.Math.Option.{Option, none, some, none-ne-some, some-injective}
use mathlib.Core.List.{List, [], ◌∷◌, ◌++◌, map, map-append, map-map}
use mathlib.Core.List.{Memᴰ as In}
use borrow.Author.Tests.{ltb-true, eqb-true}
use Rattle.cost.specs.Cost.{Cost, cheap, cheaper}
use Rattle.cost.specs.Logic.{no_both, or_cases, and_left, and_right, and_both, not_true, not_false, false_if}
use Rattle.cost.specs.Order.{Cheap, cheap_refl, cheap_add, cheap_is, is_cheap}
use Rattle.cost.proofs.Order.{not_cheap}
use Rattle.layout.specs.Document.{Doc, empty, text, newline, cat, nest, align, choice, annotate, penalty}
use Rattle.layout.specs.Rules.{Rules}
use Rattle.layout.specs.Lawful.{Lawful}
use Rattle.layout.specs.Layout.{Plan, blank, put, line, join, mark, fee, last}
use Rattle.layout.specs.Choice.{each, layouts, price, first, chosen}
use Rattle.layout.specs.Running.{cost_from}
use Rattle.layout.specs.Frontier.{build, Cand, covers, least_from, least, cand, after, marked, charged, front}
use Rattle.layout.specs.Sieve.{lt, build_one, build_build, build_left, build_right}
use Rattle.layout.specs.Covers.{is_covers}
use Rattle.layout.proofs.Covers.{covers_refl, covers_trans}
use Rattle.layout.specs.Listed.{in_map, map_in}
use Rattle.layout.specs.Through.{build_each, build_through, build_map}
use Rattle.layout.proofs.Least.{covers_cheap, lt_cheaper, least_build}
use Rattle.layout.specs.Moved.{after_same, marked_same, charged_same, strict_add}
use Rattle.layout.specs.Telescope.{price_is}
use Rattle.layout.specs.Left.{left}
use Rattle.layout.specs.First.{first_from}
use Rattle.layout.specs.Members.{layouts_allowed, allowed_layouts}

module _ (R : Rules) where
  -- all candidates of a document, in choice order
  abbrev pub all : Doc → ℕ → ℕ → List (Cand Plan)
  all d c i = map (cand R c) (layouts R d c i)

  -- all that may follow a left candidate
  abbrev follow : Doc → ℕ → Cand Plan → List (Cand Plan)
  follow b i l = map (after l) (all b l.column i)

  all_cat : (b : Doc) (c i : ℕ) (l : List Plan) → map (cand R c) (each (λ p. map (join p) (layouts R b (last p c) i)) l) ≡ each (follow b i) (map (cand R c) l)
  all_cat b c i [] = refl
  all_cat b c i (p ∷ l) =
      map-append (cand R c) (map (join p) (layouts R b (last p c) i)) (each (λ p. map (join p) (layouts R b (last p c) i)) l)
      ∙ ap₂ ◌++◌ (map-map (cand R c) (join p) (layouts R b (last p c) i) ∙ sym (map-map (after (cand R c p)) (cand R (last p c)) (layouts R b (last p c) i))) (all_cat b c i l)

  module _ (L : Lawful R) where
    -- what follows a pruned left part is beaten by what follows its survivor
    pub record Beaten (b : Doc) (i : ℕ) (k x z : Cand Plan) : Type 0 where
      pub by : Cand Plan
      pub found : In by (follow b i k)
      pub covered : covers by z ≡ true
      pub strictly : cheap x.cost k.cost ≡ false → cheap z.cost by.cost ≡ false

    beaten : (b : Doc) (i : ℕ) (k x z : Cand Plan) → covers k x ≡ true → In z (follow b i x) → Beaten b i k x z
    unfolding covers cheaper
    beaten b i k x z t m =
        let s = map_in (after x) (all b x.column i) m in
        let u = map_in (cand R x.column) (layouts R b x.column i) s.1 in
        let e : z ≡ after x (cand R x.column u.0) = s.2 ∙ ap (after x) u.2 in
        rw e (⊎_elim (same u.0 u.1) (lower u.0 u.1) (or_cases (eqb k.column x.column && cheap k.cost x.cost) (ltb k.column x.column && cheaper k.cost x.cost) t))
      where
        -- at the same column: by the same right part
        same : (q : Plan) → In q (layouts R b x.column i) → (eqb k.column x.column && cheap k.cost x.cost) ≡ true → Beaten b i k x (after x (cand R x.column q))
        same q m h =
            let e : k.column ≡ x.column = eqb-true _ _ (and_left (eqb k.column x.column) _ h) in
            let c = cheap_is k.cost x.cost (and_right (eqb k.column x.column) _ h) in
            let o : cost_from R q k.column ≡ cost_from R q x.column = ap (cost_from R q) e in
            let n : last q k.column ≡ last q x.column = ap (last q) e in
            let r : Cheap (cost_from R q k.column) (cost_from R q x.column) = rw o (cheap_refl (cost_from R q x.column)) in
            record {
              by = after k (cand R k.column q);
              found = in_map (after k) (in_map (cand R k.column) (subst (λ (n : ℕ). In q (layouts R b n i)) (sym e) m));
              covered = is_covers (after k (cand R k.column q)) (after x (cand R x.column q)) (record { column_le = omega arith; cost_le = cheap_add c r; tie = λ f g. n });
              strictly = λ f. strict_add k.cost x.cost (cost_from R q k.column) (cost_from R q x.column) f r;
            }

        -- at a lower one, strictly cheaper: by a right part further left
        lower : (q : Plan) → In q (layouts R b x.column i) → (ltb k.column x.column && cheaper k.cost x.cost) ≡ true → Beaten b i k x (after x (cand R x.column q))
        lower q m h =
            let l : k.column < x.column = ltb-true _ _ (and_left (ltb k.column x.column) _ h) in
            let f : cheap x.cost k.cost ≡ false = not_true _ (and_right (ltb k.column x.column) _ h) in
            let s = left R L (layouts_allowed R b x.column i m) k.column i (omega arith) (omega arith) in
            let r : Cheap (cost_from R s.plan k.column) (cost_from R q x.column) = record { overflow_le = s.overflow_le; burden_le = λ g. omega (arith, s.burden_same) } in
            let n = strict_add k.cost x.cost (cost_from R s.plan k.column) (cost_from R q x.column) f r in
            let w : Cand Plan = after k (cand R k.column s.plan) in
            let z : Cand Plan = after x (cand R x.column q) in
            record {
              by = w;
              found = in_map (after k) (in_map (cand R k.column) (allowed_layouts R s.allowed));
              covered = is_covers w z (record {
                column_le = s.ends;
                cost_le = cheap_add (not_cheap x.cost k.cost f) r;
                tie = λ g j. no_both (cheap z.cost w.cost) (is_cheap z.cost w.cost (record { overflow_le = omega arith; burden_le = λ v. omega arith })) n;
              });
              strictly = λ g. n;
            }

    pruned_left : (b : Doc) (i : ℕ) (xs : List (Cand Plan)) → build covers (each (follow b i) (build covers xs)) ≡ build covers (each (follow b i) xs)
    pruned_left b i xs = build_through covers covers covers_refl covers_trans (follow b i) weak strict xs
      where
        weak : (k x : Cand Plan) → covers k x ≡ true → (z : Cand Plan) → In z (follow b i x) → (w : Cand Plan) × In w (follow b i k) × (covers w z ≡ true)
        weak k x t z m = let r = beaten b i k x z t m in (r.by, r.found, r.covered)

        strict : (k x : Cand Plan) → lt covers k x ≡ true → (z : Cand Plan) → In z (follow b i x) → (w : Cand Plan) × In w (follow b i k) × (lt covers w z ≡ true)
        strict k x t z m =
            let r = beaten b i k x z (and_left (covers k x) (not (covers x k)) t) m in (
              r.by,
              r.found,
              and_both (covers r.by z) (not (covers z r.by)) r.covered
                  (not_false (covers z r.by) (false_if (covers z r.by) (λ h. no_both (cheap z.cost r.by.cost) (covers_cheap z r.by h) (r.strictly (lt_cheaper k x t))))),
            )

    -- a map that the test does not see
    mapped : (f : Cand Plan → Cand Plan) → ((x y : Cand Plan) → covers (f x) (f y) ≡ covers x y) → (xs : List (Cand Plan)) → build covers (map f (build covers xs)) ≡ build covers (map f xs)
    mapped f h xs = ap (build covers) (sym (build_map covers covers f h xs)) ∙ build_build covers covers_refl covers_trans (map f xs)

    -- the frontier is what all layouts, presented in choice order, leave
    pub front_is : (d : Doc) (c i : ℕ) → front R d c i ≡ build covers (all d c i)
    unfolding front layouts
    front_is empty c i = sym (build_one covers (cand R c blank))
    front_is (text t) c i = sym (build_one covers (cand R c (put t)))
    front_is newline c i = sym (build_one covers (cand R c (line i)))
    front_is (cat a b) c i =
        build_each covers covers_refl covers_trans (λ l. map (after l) (front R b l.column i)) (follow b i) (front R a c i)
        (λ l. ap (λ (r : List (Cand Plan)). build covers (map (after l) r)) (front_is b l.column i) ∙ mapped (after l) (after_same l) (all b l.column i))
        ∙ ap (λ (r : List (Cand Plan)). build covers (each (follow b i) r)) (front_is a c i)
        ∙ pruned_left b i (all a c i)
        ∙ ap (build covers) (sym (all_cat b c i (layouts R a c i)))
    front_is (nest n d) c i = front_is d c (R.lower (i + n))
    front_is (align d) c i = front_is d c (R.lower c)
    front_is (choice a b) c i =
        ap₂ (λ (r s : List (Cand Plan)). build covers (r ++ s)) (front_is a c i) (front_is b c i)
        ∙ build_left covers covers_refl covers_trans (all a c i) (build covers (all b c i))
        ∙ build_right covers covers_refl covers_trans (all a c i) (all b c i)
        ∙ ap (build covers) (sym (map-append (cand R c) (layouts R a c i) (layouts R b c i)))
    front_is (annotate k d) c i =
        ap (λ (r : List (Cand Plan)). build covers (map (marked k) r)) (front_is d c i) ∙ mapped (marked k) (marked_same k) (all d c i)
        ∙ ap (build covers) (map-map (marked k) (cand R c) (layouts R d c i) ∙ sym (map-map (cand R c) (mark k) (layouts R d c i)))
    front_is (penalty n d) c i =
        ap (λ (r : List (Cand Plan)). build covers (map (charged n) r)) (front_is d c i) ∙ mapped (charged n) (charged_same n) (all d c i)
        ∙ ap (build covers) (map-map (charged n) (cand R c) (layouts R d c i) ∙ sym (map-map (cand R c) (fee n) (layouts R d c i)))

    -- so the first of the cheapest is that of all layouts
    pub least_is : (d : Doc) (c i : ℕ) → least (front R d c i) ≡ least (all d c i)
    least_is d c i = ap least (front_is d c i) ∙ least_build (all d c i)

    least_cand : (p : Plan) (l : List Plan) → least_from (cand R 0 p) (map (cand R 0) l) ≡ cand R 0 (first_from R p l)
    least_cand p [] = refl
    least_cand p (q ∷ l) =
        ap₂ (λ (a b : Cost). least_from (cond (cheaper b a) (cand R 0 q) (cand R 0 p)) (map (cand R 0) l)) (price_is R L p) (price_is R L q)
        ∙ go (cheaper (price R q) (price R p)) (least_cand p l) (least_cand q l)
      where
        go : (t : Bool) → least_from (cand R 0 p) (map (cand R 0) l) ≡ cand R 0 (first_from R p l) → least_from (cand R 0 q) (map (cand R 0) l) ≡ cand R 0 (first_from R q l)
            → least_from (cond t (cand R 0 q) (cand R 0 p)) (map (cand R 0) l) ≡ cand R 0 (first_from R (cond t q p) l)
        go true f g = g
        go false f g = f

    pub first_is : (l : List Plan) → least (map (cand R 0) l) ≡ Option.map (cand R 0) (first R l)
    first_is [] = refl
    first_is (p ∷ l) = ap (λ (x : Cand Plan). some x) (least_cand p l)

    -- the frontier's answer is the rule's
    pub chosen_is : (d : Doc) → least (front R d 0 0) ≡ Option.map (cand R 0) (chosen R d)
    chosen_is d = least_is d 0 0 ∙ first_is (layouts R d 0 0)

    -- an answer is the rule's, and costs what its page does
    pub record Agrees (o : Option Plan) (x : Cand Plan) : Type 0 where
      pub plan_is : o ≡ some x.plan
      pub cost_is : x.cost ≡ price R x.plan
      pub column_is : x.column ≡ last x.plan 0

    pub agrees : (o : Option Plan) (x : Cand Plan) → Option.map (cand R 0) o ≡ some x → Agrees o x
    agrees none x e = absurd (none-ne-some x e)
    agrees (some p) x e =
        let q : cand R 0 p ≡ x = some-injective (cand R 0 p) x e in
        record { plan_is = ap (λ (y : Cand Plan). some y.plan) q; cost_is = subst (λ (y : Cand Plan). y.cost ≡ price R y.plan) q (price_is R L p); column_is = subst (λ (y : Cand Plan). y.column ≡ last y.plan 0) q refl }

    pub answer_is : (d : Doc) (x : Cand Plan) → least (front R d 0 0) ≡ some x → Agrees (chosen R d) x
    answer_is d x e = agrees (chosen R d) x (sym (chosen_is d) ∙ e)
