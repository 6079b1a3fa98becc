-- Lists related element by element; candidates of the same cost and column; what a pending plan and a range of the stores stand for; and that all this stands as the stores grow.
use Rattle.std.specs.Prelude.{ℕ, zero, suc, ◌+◌, ◌≤◌, ◌<◌, Bool, ◌&&◌, ◌||◌, cond, ◌≡◌, refl, ltb, eqb, get_or}
use Rattle.std.proofs.Common.{arith, le_refl, sym, ap, ◌∙◌, length-append}
use Rattle.std.proofs.Math.Bool.{true, false, not}
use mathlib.Core.List.{List, [], ◌∷◌, ◌++◌, map, append_assoc, append-nil}
use Rattle.std.proofs.Math.Option.{some, none-ne-some, some-injective}
use Rattle.std.proofs.Math.Path.{ap₂, subst}
use Rattle.std.proofs.Math.ListN.{length, get_elem?}
use Rattle.cost.specs.Cost.{Cost, cheap, cheaper}
use Rattle.layout.specs.Layout.{Plan, blank, put, line, join, mark, fee}
use Rattle.layout.specs.Frontier.{Cand, covers, any, keep, cons_if, present, load, build}
use Rattle.layout.specs.Table.{Table}
use Rattle.layout.specs.References.{RightList, two, more}
use Rattle.machine.specs.Model.{PlanNode, PlanEmpty, PlanText, PlanNewline, PlanConcat, PlanAnnotate, PlanPenalty, PendingPlan, Existing, Made, layout_of, layouts_after, plan_at, Ordered, Candidate, Scratch, no_candidate, part}
use Rattle.machine.specs.Solver.{additional, plan_number, additional_plans, committed}

pub data All2 {A B : Type 0} (R : A → B → Type 0) : List A → List B → Type 0 where
  nil : All2 R [] []
  cons : {a : A} {b : B} {xs : List A} {ys : List B} → R a b → All2 R xs ys → All2 R (a ∷ xs) (b ∷ ys)

abbrev pub Some : {A : Type 0} → List A → Type 0
Some [] = ⊥
Some (a ∷ xs) = Unit {0}

module _ {A B : Type 0} where
  pub all2_append : {R : A → B → Type 0} {xs cs : List A} {ys ds : List B} → All2 R xs ys → All2 R cs ds → All2 R (xs ++ cs) (ys ++ ds)
  all2_append nil h = h
  all2_append (cons r t) h = cons r (all2_append t h)

  pub all2_imp : {R S : A → B → Type 0} {xs : List A} {ys : List B} → ((a : A) (b : B) → R a b → S a b) → All2 R xs ys → All2 S xs ys
  all2_imp f nil = nil
  all2_imp f (cons r t) = cons (f _ _ r) (all2_imp f t)

  pub all2_length : {R : A → B → Type 0} {xs : List A} {ys : List B} → All2 R xs ys → length xs ≡ length ys
  all2_length nil = refl
  all2_length (cons r t) = ap suc (all2_length t)

-- ---- the frontier reads cost and column alone, so related lists have related frontiers

pub record Like {P Q : Type 0} (S : P → Q → Type 0) (x : Cand P) (y : Cand Q) : Type 0 where
  pub same_cost : x.cost ≡ y.cost
  pub same_column : x.column ≡ y.column
  pub same_plan : S x.plan y.plan

module _ {P Q : Type 0} {S : P → Q → Type 0} where
  covers_like : {x u : Cand P} {y v : Cand Q} → Like S x y → Like S u v → covers x u ≡ covers y v
  unfolding covers
  covers_like {x} {u} {y} {v} h g =
      ap₂ (λ (c : Cost) (l : ℕ). (eqb l u.column && cheap c u.cost) || (ltb l u.column && cheaper c u.cost)) h.same_cost h.same_column
      ∙ ap₂ (λ (c : Cost) (l : ℕ). (eqb y.column l && cheap y.cost c) || (ltb y.column l && cheaper y.cost c)) g.same_cost g.same_column

  any_like : {xs : List (Cand P)} {ys : List (Cand Q)} {x : Cand P} {y : Cand Q} → All2 (Like S) xs ys → Like S x y → any (λ k. covers k x) xs ≡ any (λ k. covers k y) ys
  any_like nil h = refl
  any_like (cons r t) h = ap₂ (λ (a b : Bool). a || b) (covers_like r h) (any_like t h)

  cons_if_like : {xs : List (Cand P)} {ys : List (Cand Q)} {x : Cand P} {y : Cand Q} (b : Bool) → Like S x y → All2 (Like S) xs ys
      → All2 (Like S) (cons_if b x xs) (cons_if b y ys)
  cons_if_like true r t = cons r t
  cons_if_like false r t = t

  keep_like : {xs : List (Cand P)} {ys : List (Cand Q)} {x : Cand P} {y : Cand Q} → All2 (Like S) xs ys → Like S x y
      → All2 (Like S) (keep (λ k. not (covers x k)) xs) (keep (λ k. not (covers y k)) ys)
  keep_like nil h = nil
  keep_like {x = x} {y = y} (cons {a = u} {b = v} r t) h = rw (covers_like h r) (cons_if_like (not (covers y v)) r (keep_like t h))

  cond_like : {xs zs : List (Cand P)} {ys ws : List (Cand Q)} (b : Bool) → All2 (Like S) xs ys → All2 (Like S) zs ws → All2 (Like S) (cond b xs zs) (cond b ys ws)
  cond_like true t u = t
  cond_like false t u = u

  pub present_like : {xs : List (Cand P)} {ys : List (Cand Q)} {x : Cand P} {y : Cand Q} → All2 (Like S) xs ys → Like S x y
      → All2 (Like S) (present covers xs x) (present covers ys y)
  unfolding present
  present_like {xs} {ys} {x} {y} t r =
      rw (any_like t r) (cond_like (any (λ k. covers k y) ys) t (all2_append (keep_like t r) (cons r nil)))

-- a frontier with a candidate presented is not empty
pub some_snoc : {A : Type 0} (xs : List A) (x : A) → Some (xs ++ (x ∷ []))
some_snoc [] x = tt
some_snoc (y ∷ ys) x = tt

pub some_append : {A : Type 0} (xs ys : List A) → Some xs → Some (xs ++ ys)
some_append [] ys h = absurd h
some_append (x ∷ xs) ys h = tt

pub some_after : {A : Type 0} (xs ys : List A) → Some ys → Some (xs ++ ys)
some_after [] ys h = h
some_after (x ∷ xs) ys h = tt

-- a right choice list has an entry
pub list_some : {T : Table} {a b k : ℕ} {l : List ℕ} → RightList T a b k l → Some l
list_some two = tt
list_some (more m p q pre post e h) = some_after pre (p ∷ q ∷ post) tt

pub some_map : {A B : Type 0} (f : A → B) (xs : List A) → Some xs → Some (map f xs)
some_map f [] h = absurd h
some_map f (x ∷ xs) h = tt

module _ {P : Type 0} where
  pub some_present : (xs : List (Cand P)) (c : Cand P) → Some (present covers xs c)
  unfolding present
  some_present [] c = tt
  some_present (x ∷ xs) c = go (any (λ k. covers k c) (x ∷ xs))
    where
      go : (b : Bool) → Some (cond b (x ∷ xs) (keep (λ k. not (covers c k)) (x ∷ xs) ++ (c ∷ [])))
      go true = tt
      go false = some_snoc (keep (λ k. not (covers c k)) (x ∷ xs)) c

  some_load : (xs cs : List (Cand P)) → Some xs → Some (load covers xs cs)
  unfolding load
  some_load xs [] h = h
  some_load xs (c ∷ cs) h = some_load (present covers xs c) cs (some_present xs c)

  pub some_build : (cs : List (Cand P)) → Some cs → Some (build covers cs)
  unfolding build load
  some_build [] h = absurd h
  some_build (c ∷ cs) h = some_load (present covers [] c) cs (some_present [] c)

-- ---- precedences rise along a list, from lo on and below hi

abbrev pub Rise : {P : Type 0} → ℕ → List (Cand (Ordered P)) → ℕ → Type 0
Rise lo [] hi = lo ≤ hi
Rise lo (x ∷ xs) hi = (lo ≤ x.plan.precedence) × Rise (suc x.plan.precedence) xs hi

abbrev pub Rising : {P : Type 0} → ℕ → List (Cand (Ordered P)) → Type 0
Rising lo [] = Unit {0}
Rising lo (x ∷ xs) = (lo ≤ x.plan.precedence) × Rising (suc x.plan.precedence) xs

module _ {P : Type 0} where
  rise_lower : (lo lo' : ℕ) (xs : List (Cand (Ordered P))) (hi : ℕ) → lo' ≤ lo → Rise lo xs hi → Rise lo' xs hi
  rise_lower lo lo' [] hi h r = omega arith
  rise_lower lo lo' (x ∷ xs) hi h r = (omega arith, r.1)

  rise_higher : (lo : ℕ) (xs : List (Cand (Ordered P))) (hi hi' : ℕ) → hi ≤ hi' → Rise lo xs hi → Rise lo xs hi'
  rise_higher lo [] hi hi' h r = omega arith
  rise_higher lo (x ∷ xs) hi hi' h r = (r.0, rise_higher (suc x.plan.precedence) xs hi hi' h r.1)

  rise_if : (b : Bool) (lo : ℕ) (x : Cand (Ordered P)) (xs : List (Cand (Ordered P))) (hi : ℕ) → lo ≤ x.plan.precedence → Rise (suc x.plan.precedence) xs hi → Rise lo (cons_if b x xs) hi
  rise_if true lo x xs hi h r = (h, r)
  rise_if false lo x xs hi h r = rise_lower (suc x.plan.precedence) lo xs hi (omega arith) r

  rise_keep : (f : Cand (Ordered P) → Bool) (lo : ℕ) (xs : List (Cand (Ordered P))) (hi : ℕ) → Rise lo xs hi → Rise lo (keep f xs) hi
  rise_keep f lo [] hi r = r
  rise_keep f lo (x ∷ xs) hi r = rise_if (f x) lo x (keep f xs) hi r.0 (rise_keep f (suc x.plan.precedence) xs hi r.1)

  rise_snoc : (lo : ℕ) (xs : List (Cand (Ordered P))) (c : Cand (Ordered P)) → Rise lo xs c.plan.precedence → Rise lo (xs ++ (c ∷ [])) (suc c.plan.precedence)
  rise_snoc lo [] c r = (r, le_refl _)
  rise_snoc lo (x ∷ xs) c r = (r.0, rise_snoc (suc x.plan.precedence) xs c r.1)

  pub rise_present : (lo : ℕ) (xs : List (Cand (Ordered P))) (c : Cand (Ordered P)) → Rise lo xs c.plan.precedence → Rise lo (present covers xs c) (suc c.plan.precedence)
  unfolding present
  rise_present lo xs c r = go (any (λ k. covers k c) xs)
    where
      go : (b : Bool) → Rise lo (cond b xs (keep (λ k. not (covers c k)) xs ++ (c ∷ []))) (suc c.plan.precedence)
      go true = rise_higher lo xs c.plan.precedence (suc c.plan.precedence) (omega arith) r
      go false = rise_snoc lo (keep (λ k. not (covers c k)) xs) c (rise_keep (λ k. not (covers c k)) lo xs c.plan.precedence r)

  pub rising_lower : (lo lo' : ℕ) (xs : List (Cand (Ordered P))) → lo' ≤ lo → Rising lo xs → Rising lo' xs
  rising_lower lo lo' [] h r = tt
  rising_lower lo lo' (x ∷ xs) h r = (omega arith, r.1)

pub rising_committed : (n lo : ℕ) (cs : List Scratch) (hi : ℕ) → Rise lo cs hi → Rising lo (committed n cs)
unfolding committed
rising_committed n lo [] hi r = tt
rising_committed n lo (c ∷ cs) hi r = (r.0, rising_committed (n + length (additional c.plan.plan)) (suc c.plan.precedence) cs hi r.1)

-- ---- stores grow at their end

pub record Ext {A : Type 0} (k l : List A) : Type 0 where
  pub more : List A
  pub is : l ≡ k ++ more

pub ext_refl : {A : Type 0} {k : List A} → Ext k k
ext_refl {k = k} = record { more = []; is = sym (append-nil k) }

pub ext_trans : {A : Type 0} {k l m : List A} → Ext k l → Ext l m → Ext k m
ext_trans {k = k} a b = record { more = a.more ++ b.more; is = b.is ∙ (ap (λ x. x ++ b.more) a.is ∙ append_assoc k a.more b.more) }

pub ext_by : {A : Type 0} {k : List A} (xs : List A) → Ext k (k ++ xs)
ext_by xs = record { more = xs; is = refl }

pub look_append : {A : Type 0} (p q : List A) (i : ℕ) {r : A} → get_elem? p i ≡ some r → get_elem? (p ++ q) i ≡ some r
look_append [] q i {r} h = absurd (none-ne-some r h)
look_append (x ∷ p) q zero h = h
look_append (x ∷ p) q (suc i) h = look_append p q i h

pub look_seam : {A : Type 0} (p : List A) (r : A) (q : List A) → get_elem? (p ++ r ∷ q) (length p) ≡ some r
look_seam [] r q = refl
look_seam (x ∷ p) r q = look_seam p r q

pub look_get_or : {A : Type 0} (p : List A) (i : ℕ) (d : A) {r : A} → get_elem? p i ≡ some r → get_or p i d ≡ r
look_get_or [] i d {r} h = absurd (none-ne-some r h)
look_get_or (x ∷ p) zero d {r} h = some-injective x r h
look_get_or (x ∷ p) (suc i) d h = look_get_or p i d h

pub look_grow : {A : Type 0} {p q : List A} → Ext p q → (i : ℕ) {r : A} → get_elem? p i ≡ some r → get_elem? q i ≡ some r
look_grow {p = p} e i h = rw e.is (look_append p e.more i h)

-- ---- what a pending plan stands for, over the layouts of the records so far

pub data Reads (T : Table) (ps : List Plan) : PendingPlan → Plan → Type 0 where
  as_existing : {i : ℕ} {t : Plan} → get_elem? ps i ≡ some t → Reads T ps (Existing i) t
  as_empty : Reads T ps (Made PlanEmpty) blank
  as_text : {n : ℕ} → Reads T ps (Made (PlanText n)) (put (T.texts n))
  as_newline : {n : ℕ} → Reads T ps (Made (PlanNewline n)) (line n)
  as_concat : {a b : ℕ} {t u : Plan} → get_elem? ps a ≡ some t → get_elem? ps b ≡ some u → Reads T ps (Made (PlanConcat a b)) (join t u)
  as_annotate : {n a : ℕ} {t : Plan} → get_elem? ps a ≡ some t → Reads T ps (Made (PlanAnnotate n a)) (mark n t)
  as_penalty : {n a : ℕ} {t : Plan} → get_elem? ps a ≡ some t → Reads T ps (Made (PlanPenalty n a)) (fee n t)

module _ {T : Table} where
  pub reads_grow : {ps qs : List Plan} → Ext ps qs → {x : PendingPlan} {t : Plan} → Reads T ps x t → Reads T qs x t
  reads_grow e (as_existing h) = as_existing (look_grow e _ h)
  reads_grow e as_empty = as_empty
  reads_grow e as_text = as_text
  reads_grow e as_newline = as_newline
  reads_grow e (as_concat h g) = as_concat (look_grow e _ h) (look_grow e _ g)
  reads_grow e (as_annotate h) = as_annotate (look_grow e _ h)
  reads_grow e (as_penalty h) = as_penalty (look_grow e _ h)

  -- the record that is made of it has this layout
  reads_made : {ps : List Plan} {r : PlanNode} {t : Plan} → Reads T ps (Made r) t → layout_of T ps r ≡ t
  reads_made as_empty = refl
  reads_made as_text = refl
  reads_made as_newline = refl
  reads_made {ps} (as_concat h g) = ap₂ join (look_get_or ps _ blank h) (look_get_or ps _ blank g)
  reads_made {ps} (as_annotate {n = n} h) = ap (mark n) (look_get_or ps _ blank h)
  reads_made {ps} (as_penalty {n = n} h) = ap (fee n) (look_get_or ps _ blank h)

-- the layouts of all records
unfoldable pub laid : Table → List PlanNode → List Plan
laid T rs = layouts_after T [] rs

module _ (T : Table) where
  after_append : (ps : List Plan) (rs qs : List PlanNode) → layouts_after T ps (rs ++ qs) ≡ layouts_after T (layouts_after T ps rs) qs
  after_append ps [] qs = refl
  after_append ps (r ∷ rs) qs = after_append (ps ++ (layout_of T ps r ∷ [])) rs qs

  after_length : (ps : List Plan) (rs : List PlanNode) → length (layouts_after T ps rs) ≡ length ps + length rs
  after_length ps [] = omega arith
  after_length ps (r ∷ rs) = omega (arith, after_length (ps ++ (layout_of T ps r ∷ [])) rs, length-append ps (layout_of T ps r ∷ []))

  pub laid_length : (rs : List PlanNode) → length (laid T rs) ≡ length rs
  unfolding laid
  laid_length rs = omega (arith, after_length [] rs)

  pub laid_append : (rs qs : List PlanNode) → laid T (rs ++ qs) ≡ layouts_after T (laid T rs) qs
  unfolding laid
  laid_append rs qs = after_append [] rs qs

  pub plan_at_is : (rs : List PlanNode) (i : ℕ) {t : Plan} → get_elem? (laid T rs) i ≡ some t → plan_at T rs i ≡ t
  unfolding laid plan_at
  plan_at_is rs i h = look_get_or (layouts_after T [] rs) i blank h

  -- ---- candidates over the layouts so far

  abbrev pub Waits : List Plan → Scratch → Cand Plan → Type 0
  Waits ps = Like (λ o t. Reads T ps o.plan t)

  abbrev pub Holds : List Plan → Candidate → Cand Plan → Type 0
  Holds ps = Like (λ o t. get_elem? ps o.plan ≡ some t)

  pub waits_grow : {ps qs : List Plan} → Ext ps qs → {x : Scratch} {y : Cand Plan} → Waits ps x y → Waits qs x y
  waits_grow e h = record { same_cost = h.same_cost; same_column = h.same_column; same_plan = reads_grow e h.same_plan }

  pub holds_grow : {ps qs : List Plan} → Ext ps qs → {x : Candidate} {y : Cand Plan} → Holds ps x y → Holds qs x y
  holds_grow e h = record { same_cost = h.same_cost; same_column = h.same_column; same_plan = look_grow e _ h.same_plan }

  -- what a frontier that is finished leaves: one by one
  pub record Commits (ps : List Plan) (n : ℕ) (cs : List Scratch) (F : List (Cand Plan)) : Type 0 where
    pub grown : Ext ps (layouts_after T ps (additional_plans cs))
    pub holds : All2 (Holds (layouts_after T ps (additional_plans cs))) (committed n cs) F

  commit_one : (ps : List Plan) (x : PendingPlan) {t : Plan} → Reads T ps x t
      → Ext ps (layouts_after T ps (additional x)) × (get_elem? (layouts_after T ps (additional x)) (plan_number (length ps) x) ≡ some t)
  commit_one ps (Existing i) (as_existing h) = (ext_refl, h)
  commit_one ps (Made r) {t} h = rw (reads_made h) (ext_by (t ∷ []), look_seam ps t [])

  pub commits : (ps : List Plan) (cs : List Scratch) {F : List (Cand Plan)} → All2 (Waits ps) cs F → Commits ps (length ps) cs F
  unfolding additional_plans committed
  commits ps [] nil = record { grown = ext_refl; holds = nil }
  commits ps (c ∷ cs) (cons {b = y} {ys = F} h t) =
      let qs = layouts_after T ps (additional c.plan.plan) in
      let one = commit_one ps c.plan.plan h.same_plan in
      let more = commits qs cs (all2_imp (λ x y. waits_grow one.0) t) in
      let n : length qs ≡ length ps + length (additional c.plan.plan) = after_length ps (additional c.plan.plan) in
      let e : layouts_after T ps (additional c.plan.plan ++ additional_plans cs) ≡ layouts_after T qs (additional_plans cs) = after_append ps (additional c.plan.plan) (additional_plans cs) in
      record {
        grown = subst (λ (z : List Plan). Ext ps z) (sym e) (ext_trans one.0 more.grown);
        holds = subst (λ (z : List Plan). All2 (Holds z) (committed (length ps) (c ∷ cs)) (y ∷ F)) (sym e)
            (cons (record { same_cost = h.same_cost; same_column = h.same_column; same_plan = look_grow more.grown _ one.1 })
            (subst (λ (m : ℕ). All2 (Holds (layouts_after T qs (additional_plans cs))) (committed m cs) F) n more.holds));
      }

pub length_committed : (n : ℕ) (cs : List Scratch) → length (committed n cs) ≡ length cs
unfolding committed
length_committed n [] = refl
length_committed n (c ∷ cs) = ap suc (length_committed (n + length (additional c.plan.plan)) cs)

-- ---- what a range stands for

pub record Den (T : Table) (k : List Candidate) (ps : List Plan) (s n : ℕ) (F : List (Cand Plan)) : Type 0 where
  pub inside : s + n ≤ length k
  pub holds : All2 (Holds T ps) (part k s n) F
  pub filled : Some F
  pub rising : Rising 0 (part k s n)

pub get_or_append : {A : Type 0} (k l : List A) (s : ℕ) (d : A) → s < length k → get_or (k ++ l) s d ≡ get_or k s d
get_or_append [] l s d h = absurd (omega arith)
get_or_append (x ∷ k) l zero d h = refl
get_or_append (x ∷ k) l (suc s) d h = get_or_append k l s d (omega arith)

part_append : (k l : List Candidate) (s n : ℕ) → s + n ≤ length k → part (k ++ l) s n ≡ part k s n
part_append k l s zero h = refl
part_append k l s (suc n) h = ap₂ (λ (x : Candidate) (y : List Candidate). x ∷ y) (get_or_append k l s no_candidate (omega arith)) (part_append k l (s + 1) n (omega arith))

get_or_seam : {A : Type 0} (k : List A) (x : A) (l : List A) (d : A) → get_or (k ++ (x ∷ l)) (length k) d ≡ x
get_or_seam [] x l d = refl
get_or_seam (y ∷ k) x l d = get_or_seam k x l d

part_seam : (k xs : List Candidate) (s : ℕ) → s ≡ length k → part (k ++ xs) s (length xs) ≡ xs
part_seam k [] s e = refl
part_seam k (x ∷ xs) s e =
    ap₂ (λ (x : Candidate) (y : List Candidate). x ∷ y) (ap (λ (i : ℕ). get_or (k ++ (x ∷ xs)) i no_candidate) e ∙ get_or_seam k x xs no_candidate)
    (ap (λ (z : List Candidate). part z (s + 1) (length xs)) (sym (append_assoc k (x ∷ []) xs)) ∙ part_seam (k ++ (x ∷ [])) xs (s + 1) (omega (arith, length-append k (x ∷ []))))

module _ {T : Table} where
  pub den_grow : {k k' : List Candidate} {ps ps' : List Plan} {s n : ℕ} {F : List (Cand Plan)} → Ext k k' → Ext ps ps' → Den T k ps s n F → Den T k' ps' s n F
  den_grow {k} {k'} {ps} {ps'} {s} {n} {F} ek ep h = record {
    inside = omega (arith, h.inside, ap length ek.is, length-append k ek.more);
    holds = rw (ek.is, part_append k ek.more s n h.inside) (all2_imp (λ x y. holds_grow T ep) h.holds);
    filled = h.filled;
    rising = rw (ek.is, part_append k ek.more s n h.inside) h.rising;
  }

  pub den_new : (k : List Candidate) {ps : List Plan} {xs : List Candidate} {F : List (Cand Plan)} → All2 (Holds T ps) xs F → Some F → Rising 0 xs
      → Den T (k ++ xs) ps (length k) (length xs) F
  den_new k {xs = xs} h f u = record {
    inside = omega (arith, length-append k xs);
    holds = rw (part_seam k xs (length k) refl) h;
    filled = f;
    rising = rw (part_seam k xs (length k) refl) u;
  }

-- the same of a list that may be empty
pub record Slice (T : Table) (k : List Candidate) (ps : List Plan) (s n : ℕ) (F : List (Cand Plan)) : Type 0 where
  pub inside : s + n ≤ length k
  pub holds : All2 (Holds T ps) (part k s n) F

-- the first of a range, and the others
pub record Headed (T : Table) (k : List Candidate) (ps : List Plan) (s n : ℕ) (F : List (Cand Plan)) : Type 0 where
  pub others : ℕ
  pub head : Cand Plan
  pub tail : List (Cand Plan)
  pub count : n ≡ suc others
  pub whole : F ≡ head ∷ tail
  pub first : Holds T ps (get_or k s no_candidate) head
  pub den : Den T k ps s (suc others) (head ∷ tail)

module _ {T : Table} where
  pub slice_grow : {k k' : List Candidate} {ps ps' : List Plan} {s n : ℕ} {F : List (Cand Plan)} → Ext k k' → Ext ps ps' → Slice T k ps s n F → Slice T k' ps' s n F
  slice_grow {k} {k'} {ps} {ps'} {s} {n} {F} ek ep h = record {
    inside = omega (arith, h.inside, ap length ek.is, length-append k ek.more);
    holds = rw (ek.is, part_append k ek.more s n h.inside) (all2_imp (λ x y. holds_grow T ep) h.holds);
  }

  pub headed : {k : List Candidate} {ps : List Plan} {s n : ℕ} {F : List (Cand Plan)} → Den T k ps s n F → Headed T k ps s n F
  headed {k} {ps} {s} {n} {F} d = go n F d.inside d.holds d.filled d.rising
    where
      go : (n : ℕ) (F : List (Cand Plan)) → s + n ≤ length k → All2 (Holds T ps) (part k s n) F → Some F → Rising 0 (part k s n) → Headed T k ps s n F
      go zero F i nil f u = absurd f
      go (suc g) F i (cons {b = L} {ys = Ls} h hs) f u =
          record { others = g; head = L; tail = Ls; count = refl; whole = refl; first = h; den = record { inside = i; holds = cons h hs; filled = f; rising = u } }
