-- The tables of an accepted file are what the machine asks for: no node leads back to itself, choice lists are right, the space text is a space of width 1.
use Rattle.std.specs.Prelude.{◌≡◌, true, cond, ℕ, zero, suc, ◌+◌, ◌≤◌, ◌<◌, length, get_or, take, drop, ltb}
use Rattle.std.proofs.Math.Path.{refl, ap}
use Rattle.std.proofs.Common.{sym, ◌∙◌, subst, ⊎_elim, arith, get_or-drop, ltb-true, lt-ltb, le-ltb}
use Rattle.std.proofs.Math.Logic.{by_cases}
use Rattle.std.proofs.Math.Option.{Option, none, some}
use mathlib.Core.List.{List, [], ◌∷◌, ◌++◌}
use mathlib.Core.List.Memᴰ.{cases_cons as in_cons}
use mathlib.Core.List.Memᴰ.{not-nil as not_in_nil}
use mathlib.Core.List.{Memᴰ as In}
use Rattle.std.proofs.Math.Decide.{dec_lt}
use Rattle.std.proofs.Math.ListN.{get_or-eq_default}
use Rattle.file_tables.specs.Tables.{Tables, kind, first, second, flat, choice_start, choice_length, skipped, node_row}
use Rattle.file_form.specs.Kinds.{map_right, pair_right}
use Rattle.file_form.specs.declared.fill.Counts.{Counts}
use Rattle.file_form.specs.Form.{form_fault, tables_of}
use Rattle.file_encode.specs.Encode.{node_map}
use Rattle.file_encode.specs.Faults.{node_is_right}
use Rattle.file_encode.specs.Fields.{Bytes}
use Rattle.file_encode.specs.Maps.{both_true}
use Rattle.file_encode.specs.NodeTrip.{nodes_right_at}
use Rattle.file_encode.specs.Trips.{encoded, tables_right}
use Rattle.file_checks.specs.References.{of_group, of_nest, of_align, preferred, alternative, of_annotate, of_penalty, Ranged, seq, fill}
use Rattle.file_checks.specs.Circle.{Refers, child, edge, flat_of_child}
use Rattle.file_checks.specs.Descent.{Ranked as RowsRanked}
use Rattle.file_checks.specs.Choice.{Replaced, here, later, Comes, as_it_is, step}
use Rattle.file_checks.specs.Judged.{Judged, accepted, Accepted}
use Rattle.file_checks.proofs.Rank.{accepted_closed, accepted_ranked}
use Rattle.std.specs.Prelude.{Ok}
use Rattle.prepare.specs.File.{Means, right}
use Rattle.layout.specs.Table.{Node, Table, Choice}
use Rattle.layout.specs.References.{flat_of, refers, RightList, two, more}
use Rattle.machine.specs.Model.{ExactChoice}
use Rattle.machine_right.specs.Ready.{Ready}
use Rattle.machine_input.specs.Reading.{edge_part, node_of_kind, node_of_row, choice_of_length, choice_of_row, prepared}

-- every node is of one of document 01's kinds: what the form of a file ensures
pub record Kinds (nodes : List (List ℕ)) : Type 0 where
  pub known : (i : ℕ) → i < length nodes → kind (get_or nodes i []) < 12

-- ---- members of a range

record Place (l : List ℕ) (b k : ℕ) : Type 0 where
  at : ℕ
  below : at < b
  there : get_or l at 0 ≡ k

in_take : (l : List ℕ) (b k : ℕ) → In k (take b l) → Place l b k
in_take l zero k m = absurd (not_in_nil m)
in_take [] (suc b) k m = absurd (not_in_nil m)
in_take (x ∷ l) (suc b) k m =
    ⊎_elim (λ e. record { at = 0; below = omega arith; there = sym e }) (λ n. let p = in_take l b k n in record { at = suc p.at; below = omega (arith, p.below); there = p.there }) (in_cons m)

in_part : (l : List ℕ) (a b k : ℕ) → In k (edge_part l a b) → (j : ℕ) × (j < b) × (get_or l (a + j) 0 ≡ k)
in_part l a b k m = let p = in_take (drop a l) b k m in (p.at, p.below, sym (get_or-drop a l p.at 0) ∙ p.there)

in_one : {k x : ℕ} → In k (x ∷ []) → k ≡ x
in_one m = ⊎_elim (λ e. e) (λ n. absurd (not_in_nil n)) (in_cons m)

in_flat : (o : Option ℕ) {k : ℕ} → In k (flat_of o) → o ≡ some k
in_flat none m = absurd (not_in_nil m)
in_flat (some f) m = ap some (sym (in_one m))

-- ---- what a node refers to

module _ (t : Tables) where
  abbrev T : Table
  T = (prepared t).table

  abbrev row : ℕ → List ℕ
  row n = node_row t n

  refers_to : {n j k : ℕ} → k ≡ j → Refers t.nodes t.edges n j → Refers t.nodes t.edges n k
  refers_to {n} e r = subst (λ (y : ℕ). Refers t.nodes t.edges n y) (sym e) r

  of_range : (n k : ℕ) → Ranged (row n) → In k (edge_part t.edges (first (row n)) (second (row n))) → Refers t.nodes t.edges n k
  of_range n k g m = let p = in_part t.edges (first (row n)) (second (row n)) k m in refers_to (sym p.2) (edge p.0 g p.1)

  refers_kind : (n k κ : ℕ) → kind (row n) ≡ κ → κ < 12 → In k (refers T (node_of_kind t.edges κ (first (row n)) (second (row n)))) → Refers t.nodes t.edges n k
  refers_kind n k zero e h m = absurd (not_in_nil m)
  refers_kind n k (suc zero) e h m = absurd (not_in_nil m)
  refers_kind n k (suc (suc zero)) e h m = absurd (not_in_nil m)
  refers_kind n k (suc (suc (suc zero))) e h m = absurd (not_in_nil m)
  refers_kind n k (suc (suc (suc (suc zero)))) e h m = of_range n k (seq e) m
  refers_kind n k (suc (suc (suc (suc (suc zero))))) e h m =
      ⊎_elim (λ q. refers_to q (child (of_group e))) (λ q. flat_of_child e (in_flat (flat (row (first (row n)))) q)) (in_cons m)
  refers_kind n k (suc (suc (suc (suc (suc (suc zero)))))) e h m = of_range n k (fill e) m
  refers_kind n k (suc (suc (suc (suc (suc (suc (suc zero))))))) e h m = refers_to (in_one m) (child (of_nest e))
  refers_kind n k (suc (suc (suc (suc (suc (suc (suc (suc zero)))))))) e h m = refers_to (in_one m) (child (of_align e))
  refers_kind n k (suc (suc (suc (suc (suc (suc (suc (suc (suc zero))))))))) e h m =
      ⊎_elim (λ q. refers_to q (child (preferred e))) (λ q. refers_to (in_one q) (child (alternative e))) (in_cons m)
  refers_kind n k (suc (suc (suc (suc (suc (suc (suc (suc (suc (suc zero)))))))))) e h m = refers_to (in_one m) (child (of_annotate e))
  refers_kind n k (suc (suc (suc (suc (suc (suc (suc (suc (suc (suc (suc zero))))))))))) e h m = refers_to (in_one m) (child (of_penalty e))
  refers_kind n k (suc (suc (suc (suc (suc (suc (suc (suc (suc (suc (suc (suc κ)))))))))))) e h m = absurd (omega arith)

  refers_row : Kinds t.nodes → (n k : ℕ) → n < length t.nodes → In k (refers T (T.node n)) → Refers t.nodes t.edges n k
  unfolding node_of_row
  refers_row ks n k h m = refers_kind n k (kind (row n)) refl (ks.known n h) m

  -- past the table every number is an Empty
  past : (n : ℕ) → length t.nodes ≤ n → row n ≡ []
  past n h = get_or-eq_default t.nodes [] h

  past_node : (n : ℕ) → length t.nodes ≤ n → T.node n ≡ node_of_kind t.edges 0 0 0
  unfolding node_of_row
  past_node n h = ap (λ (r : List ℕ). node_of_kind t.edges (kind r) (first r) (second r)) (past n h)

  -- ---- ranks, on all numbers

  module _ (r : RowsRanked t.nodes t.edges) where
    rank_of : ℕ → ℕ
    rank_of n = cond (ltb n (length t.nodes)) (r.rank n) 0

    rank_in : (n : ℕ) → n < length t.nodes → rank_of n ≡ r.rank n
    unfolding rank_of
    rank_in n h = rw (lt-ltb n (length t.nodes) h)

    rank_out : (n : ℕ) → length t.nodes ≤ n → rank_of n ≡ 0
    unfolding rank_of
    rank_out n h = rw (le-ltb n (length t.nodes) h)

  -- ---- choice lists

  a_choice : (n a b κ : ℕ) → node_of_kind t.edges κ (first (row n)) (second (row n)) ≡ Choice a b → (κ ≡ 9) × (first (row n) ≡ a) × (second (row n) ≡ b)
  a_choice n a b zero e = let z : ◌≡◌ {A = ℕ} 0 1 = cc in absurd (omega arith)
  a_choice n a b (suc zero) e = let z : ◌≡◌ {A = ℕ} 0 1 = cc in absurd (omega arith)
  a_choice n a b (suc (suc zero)) e = let z : ◌≡◌ {A = ℕ} 0 1 = cc in absurd (omega arith)
  a_choice n a b (suc (suc (suc zero))) e = let z : ◌≡◌ {A = ℕ} 0 1 = cc in absurd (omega arith)
  a_choice n a b (suc (suc (suc (suc zero)))) e = let z : ◌≡◌ {A = ℕ} 0 1 = cc in absurd (omega arith)
  a_choice n a b (suc (suc (suc (suc (suc zero))))) e = let z : ◌≡◌ {A = ℕ} 0 1 = cc in absurd (omega arith)
  a_choice n a b (suc (suc (suc (suc (suc (suc zero)))))) e = let z : ◌≡◌ {A = ℕ} 0 1 = cc in absurd (omega arith)
  a_choice n a b (suc (suc (suc (suc (suc (suc (suc zero))))))) e = let z : ◌≡◌ {A = ℕ} 0 1 = cc in absurd (omega arith)
  a_choice n a b (suc (suc (suc (suc (suc (suc (suc (suc zero)))))))) e = let z : ◌≡◌ {A = ℕ} 0 1 = cc in absurd (omega arith)
  a_choice n a b (suc (suc (suc (suc (suc (suc (suc (suc (suc zero))))))))) e = (refl, cc, cc)
  a_choice n a b (suc (suc (suc (suc (suc (suc (suc (suc (suc (suc zero)))))))))) e = let z : ◌≡◌ {A = ℕ} 0 1 = cc in absurd (omega arith)
  a_choice n a b (suc (suc (suc (suc (suc (suc (suc (suc (suc (suc (suc κ))))))))))) e = let z : ◌≡◌ {A = ℕ} 0 1 = cc in absurd (omega arith)

  -- a Choice's row, and the other way round
  choice_row : (n a b : ℕ) → T.node n ≡ Choice a b → (kind (row n) ≡ 9) × (first (row n) ≡ a) × (second (row n) ≡ b)
  unfolding node_of_row
  choice_row n a b e = a_choice n a b (kind (row n)) e

  row_choice : (m : ℕ) → kind (row m) ≡ 9 → T.node m ≡ Choice (first (row m)) (second (row m))
  unfolding node_of_row
  row_choice m e = ap (λ (κ : ℕ). node_of_kind t.edges κ (first (row m)) (second (row m))) e

  -- where a list was replaced
  record Where (ys zs : List ℕ) : Type 0 where
    node : ℕ
    before : List ℕ
    after : List ℕ
    choice : kind (row node) ≡ 9
    was : ys ≡ before ++ (node ∷ after)
    is : zs ≡ before ++ (first (row node) ∷ second (row node) ∷ after)

  replaced_at : {ys zs : List ℕ} → Replaced t.nodes ys zs → Where ys zs
  replaced_at (here {y = y} {ys = ys} e) = record { node = y; before = []; after = ys; choice = e; was = refl; is = refl }
  replaced_at (later {y = y} r) =
      let w = replaced_at r in
      record { node = w.node; before = y ∷ w.before; after = w.after; choice = w.choice; was = ap (λ (l : List ℕ). y ∷ l) w.was; is = ap (λ (l : List ℕ). y ∷ l) w.is }

  replaced_right : {a b j : ℕ} {ys zs : List ℕ} → Replaced t.nodes ys zs → RightList T a b j ys → RightList T a b (suc j) zs
  replaced_right {a} {b} {j} r l =
      let w = replaced_at r in
      subst (λ (x : List ℕ). RightList T a b (suc j) x) (sym w.is)
      (more w.node (first (row w.node)) (second (row w.node)) w.before w.after (row_choice w.node w.choice)
      (subst (λ (x : List ℕ). RightList T a b j x) w.was l))

  comes_right : {a b k : ℕ} {ys xs : List ℕ} → Comes t.nodes k ys xs → (j : ℕ) → RightList T a b j ys → RightList T a b (k + j) xs
  comes_right {a} {b} (as_it_is {ys = ys}) j l = let e : j ≡ 0 + j = omega arith in subst (λ (i : ℕ). RightList T a b i ys) e l
  comes_right {a} {b} (step {k = k} {xs = xs} r c) j l =
      let e : k + suc j ≡ suc k + j = omega arith in
      subst (λ (i : ℕ). RightList T a b i xs) e (comes_right c (suc j) (replaced_right r l))

  -- the list of a row, where it has one
  a_list : (len start skip : ℕ) (l : ExactChoice) → choice_of_length t.choices len start skip ≡ some l
      → (len ≡ 0 → ⊥) × (skip ≡ l.skipped) × (edge_part t.choices start len ≡ l.alternatives)
  a_list zero start skip l e = let z : ◌≡◌ {A = ℕ} 0 1 = cc in absurd (omega arith)
  a_list (suc n) start skip l e =
      let q : ◌≡◌ {A = ExactChoice} (record { alternatives = edge_part t.choices start (suc n); skipped = skip }) l = cc in
      (λ z. omega arith, ap (λ (c : ExactChoice). c.skipped) q, ap (λ (c : ExactChoice). c.alternatives) q)

  list_row : (n : ℕ) (l : ExactChoice) → (prepared t).choices n ≡ some l
      → (choice_length (row n) ≡ 0 → ⊥) × (skipped (row n) ≡ l.skipped) × (edge_part t.choices (choice_start (row n)) (choice_length (row n)) ≡ l.alternatives)
  unfolding choice_of_row
  list_row n l e = a_list (choice_length (row n)) (choice_start (row n)) (skipped (row n)) l e

  module _ (a : Accepted t) where
    lists_right : (n x y : ℕ) (l : ExactChoice) → T.node n ≡ Choice x y → (prepared t).choices n ≡ some l → RightList T x y l.skipped l.alternatives
    lists_right n x y l e q = by_cases (dec_lt n (length t.nodes)) inside (λ h. absurd (c.0 (ap choice_length (past n (omega arith)))))
      where
        k : (kind (row n) ≡ 9) × (first (row n) ≡ x) × (second (row n) ≡ y)
        k = choice_row n x y e

        c : (choice_length (row n) ≡ 0 → ⊥) × (skipped (row n) ≡ l.skipped) × (edge_part t.choices (choice_start (row n)) (choice_length (row n)) ≡ l.alternatives)
        c = list_row n l q

        at_start : RightList T x y 0 (first (row n) ∷ second (row n) ∷ [])
        at_start = subst (λ (i : ℕ). RightList T x y 0 (i ∷ second (row n) ∷ [])) (sym k.1) (subst (λ (i : ℕ). RightList T x y 0 (x ∷ i ∷ [])) (sym k.2) two)

        inside : n < length t.nodes → RightList T x y l.skipped l.alternatives
        inside h =
            let r = comes_right (a.lists.each n h c.0) 0 at_start in
            let e₀ : skipped (row n) + 0 ≡ l.skipped = omega (arith, c.1) in
            subst (λ (i : ℕ). RightList T x y i l.alternatives) e₀ (subst (λ (z : List ℕ). RightList T x y (skipped (row n) + 0) z) c.2 r)

    falls_at : Kinds t.nodes → (n k : ℕ) → In k (refers T (T.node n)) → rank_of (accepted_ranked t a) k < rank_of (accepted_ranked t a) n
    falls_at ks n k m = by_cases (dec_lt n (length t.nodes)) inside (λ h. absurd (not_in_nil (subst (λ (v : Node). In k (refers T v)) (past_node n (omega arith)) m)))
      where
        inside : n < length t.nodes → rank_of (accepted_ranked t a) k < rank_of (accepted_ranked t a) n
        inside h =
            let r = refers_row ks n k h m in
            let l = (accepted_closed t a).within n k h r in
            omega (arith, rank_in (accepted_ranked t a) n h, rank_in (accepted_ranked t a) k l, (accepted_ranked t a).descends n k h r)

    deep_at : (n : ℕ) → rank_of (accepted_ranked t a) n < length t.nodes
    deep_at n =
        by_cases (dec_lt n (length t.nodes))
        (λ h. omega (arith, rank_in (accepted_ranked t a) n h, (accepted_ranked t a).bounded n h))
        (λ h. omega (arith, rank_out (accepted_ranked t a) n (omega arith), a.references.root))

    pub accepted_ready : Kinds t.nodes → Ready (prepared t)
    accepted_ready ks = record {
      ranked = record { rank = rank_of (accepted_ranked t a); falls = falls_at ks };
      deep = deep_at;
      lists = lists_right;
      space_is = refl;
      space_wide = a.space.wide;
    }

pub judged_accepted : {t : Tables} → Judged t 0 → Accepted t
judged_accepted (accepted a) = a

-- ---- of a file

known_kind : (m k : ℕ) → pair_right m k ≡ true → k < 12
unfolding pair_right
known_kind m k e = ltb-true k 12 (both_true (ltb k 12) _ e).0

right_kind : (row : List ℕ) → node_is_right row ≡ true → kind row < 12
unfolding node_is_right
right_kind row e = known_kind (node_map row) (kind row) (both_true (pair_right (node_map row) (kind row)) _ (both_true (map_right (node_map row)) _ e).1).0

module _ (s : List ℕ) (z : Bytes s) (f : form_fault s ≡ 0) where
  pub file_kinds : Kinds (tables_of s).nodes
  file_kinds = record { known = λ i h. right_kind (get_or (tables_of s).nodes i []) (nodes_right_at (tables_of s).nodes i (tables_right (tables_of s) (encoded s z f).right).nodes h) }

  -- what the machine asks for holds of every accepted file
  pub file_ready : Judged (tables_of s) 0 → Ready (prepared (tables_of s))
  file_ready j = accepted_ready (tables_of s) (judged_accepted j) file_kinds

pub means_ready : (s : List ℕ) → Bytes s → {n : Counts} → Means s (Ok n) → Ready (prepared (tables_of s))
means_ready s z (right f j) = file_ready s z f j
