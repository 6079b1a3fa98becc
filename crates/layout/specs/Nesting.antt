-- How the joins of a layout nest changes neither its page nor its lines, burden or spans, and so not the choice.
use Rattle.std.specs.Prelude.{◌≡◌, refl, Bool, true, false, cond, List, [], ◌∷◌, ◌++◌, map, ℕ, suc, ◌+◌, length}
use Rattle.std.proofs.Common.{sym, ap, ap₂, ◌∙◌, append_assoc, arith, length-append}
use Rattle.std.proofs.Math.Path.{subst}
use Rattle.std.proofs.Math.Option.{Option, some, none-ne-some, some-injective}
use Rattle.std.proofs.lemmas.List.{map-append}
use Rattle.cost.specs.Cost.{cheaper}
use Rattle.layout.specs.Document.{Doc, cat}
use Rattle.layout.specs.Rules.{Rules}
use Rattle.layout.specs.Layout.{Plan, join, mark, fee, page, last, closed, burden_of}
use Rattle.layout.specs.Spans.{Span, spans_from}
use Rattle.layout.specs.Choice.{each, layouts, price, first, chosen}
use Rattle.layout.specs.First.{first_from}
use Rattle.layout.specs.Listed.{each_append}
use Rattle.layout.specs.Telescope.{sum_of}

-- the same but for how joins nest
pub data Alike : Plan → Plan → Type 0 where
  alike_same : {p : Plan} → Alike p p
  alike_nest : {p q r : Plan} → Alike (join (join p q) r) (join p (join q r))
  alike_back : {p q : Plan} → Alike p q → Alike q p
  alike_then : {p q r : Plan} → Alike p q → Alike q r → Alike p r
  alike_join : {p p' q q' : Plan} → Alike p p' → Alike q q' → Alike (join p q) (join p' q')
  alike_mark : {k : ℕ} {p q : Plan} → Alike p q → Alike (mark k p) (mark k q)
  alike_fee : {n : ℕ} {p q : Plan} → Alike p q → Alike (fee n p) (fee n q)

pub record Agree (R : Rules) (p q : Plan) : Type 0 where
  pub page_same : page p ≡ page q
  pub last_same : (c : ℕ) → last p c ≡ last q c
  pub closed_same : (c : ℕ) → closed p c ≡ closed q c
  pub burden_same : burden_of R p ≡ burden_of R q
  pub spans_same : (at : ℕ) (up : Option ℕ) (n : ℕ) → spans_from p at up n ≡ spans_from q at up n

module _ (R : Rules) where
  nest_spans : (p q r : Plan) (at : ℕ) (up : Option ℕ) (n : ℕ) → spans_from (join (join p q) r) at up n ≡ spans_from (join p (join q r)) at up n
  nest_spans p q r at up n =
      let S = spans_from p at up n in
      let Q = spans_from q (at + length (page p)) up (n + length S) in
      let e : at + length (page p ++ page q) ≡ at + length (page p) + length (page q) = omega (arith, length-append (page p) (page q)) in
      let f : n + length (S ++ Q) ≡ n + length S + length Q = omega (arith, length-append S Q) in
      append_assoc S Q _ ∙ ap₂ (λ (x y : ℕ). S ++ (Q ++ spans_from r x up y)) e f

  join_spans : (p p' q q' : Plan) → Agree R p p' → Agree R q q' → (at : ℕ) (up : Option ℕ) (n : ℕ) → spans_from (join p q) at up n ≡ spans_from (join p' q') at up n
  join_spans p p' q q' g h at up n =
      ap₂ (λ (b : List ℕ) (S : List Span). S ++ spans_from q (at + length b) up (n + length S)) g.page_same (g.spans_same at up n)
      ∙ ap (λ (S : List Span). spans_from p' at up n ++ S) (h.spans_same (at + length (page p')) up (n + length (spans_from p' at up n)))

  pub agree : {p q : Plan} → Alike p q → Agree R p q
  agree alike_same = record { page_same = refl; last_same = λ c. refl; closed_same = λ c. refl; burden_same = refl; spans_same = λ a u n. refl }
  agree (alike_nest {p} {q} {r}) = record {
    page_same = append_assoc (page p) (page q) (page r);
    last_same = λ c. refl;
    closed_same = λ c. append_assoc (closed p c) (closed q (last p c)) (closed r (last q (last p c)));
    burden_same = omega arith;
    spans_same = nest_spans p q r;
  }
  agree (alike_back a) = let g = agree a in record {
    page_same = sym g.page_same;
    last_same = λ c. sym (g.last_same c);
    closed_same = λ c. sym (g.closed_same c);
    burden_same = sym g.burden_same;
    spans_same = λ a u n. sym (g.spans_same a u n);
  }
  agree (alike_then a b) = let g = agree a in let h = agree b in record {
    page_same = g.page_same ∙ h.page_same;
    last_same = λ c. g.last_same c ∙ h.last_same c;
    closed_same = λ c. g.closed_same c ∙ h.closed_same c;
    burden_same = g.burden_same ∙ h.burden_same;
    spans_same = λ a u n. g.spans_same a u n ∙ h.spans_same a u n;
  }
  agree (alike_join {p} {p'} {q} {q'} a b) = let g = agree a in let h = agree b in record {
    page_same = ap₂ ◌++◌ g.page_same h.page_same;
    last_same = λ c. ap (last q) (g.last_same c) ∙ h.last_same (last p' c);
    closed_same = λ c. ap₂ (λ (x : List ℕ) (y : ℕ). x ++ closed q y) (g.closed_same c) (g.last_same c) ∙ ap (λ (x : List ℕ). closed p' c ++ x) (h.closed_same (last p' c));
    burden_same = ap₂ ◌+◌ g.burden_same h.burden_same;
    spans_same = join_spans p p' q q' g h;
  }
  agree (alike_mark {k} {p} {q} a) = let g = agree a in record {
    page_same = g.page_same;
    last_same = g.last_same;
    closed_same = g.closed_same;
    burden_same = g.burden_same;
    spans_same = λ a u n. ap₂ (λ (b : List ℕ) (S : List Span). record { annotation = k; start = a; end = a + length b; parent = u } ∷ S) g.page_same (g.spans_same a (some n) (suc n));
  }
  agree (alike_fee {n} a) = let g = agree a in record { page_same = g.page_same; last_same = g.last_same; closed_same = g.closed_same; burden_same = ap (λ (b : ℕ). b + n) g.burden_same; spans_same = g.spans_same }

  pub price_same : {p q : Plan} → Alike p q → price R p ≡ price R q
  price_same a = let g = agree a in λ j. record { overflow = ap₂ charged (g.closed_same 0) (g.last_same 0) j; burden = g.burden_same j }
    where
      charged : List ℕ → ℕ → ℕ
      charged l n = sum_of R.charge (l ++ (n ∷ []))

-- lists that are alike, one by one
pub data Alikes : List Plan → List Plan → Type 0 where
  no_more : Alikes [] []
  one_more : {p q : Plan} {l m : List Plan} → Alike p q → Alikes l m → Alikes (p ∷ l) (q ∷ m)

alikes_same : (l : List Plan) → Alikes l l
alikes_same [] = no_more
alikes_same (p ∷ l) = one_more alike_same (alikes_same l)

alikes_then : {l m n : List Plan} → Alikes l m → Alikes m n → Alikes l n
alikes_then no_more b = b
alikes_then (one_more a r) (one_more b s) = one_more (alike_then a b) (alikes_then r s)

alikes_append : {l l' m m' : List Plan} → Alikes l l' → Alikes m m' → Alikes (l ++ m) (l' ++ m')
alikes_append no_more b = b
alikes_append (one_more a r) b = one_more a (alikes_append r b)

alikes_join : {p q : Plan} (l : List Plan) → Alike p q → Alikes (map (join p) l) (map (join q) l)
alikes_join [] a = no_more
alikes_join (r ∷ l) a = one_more (alike_join a alike_same) (alikes_join l a)

alikes_each : (f g : Plan → List Plan) {l m : List Plan} → ((p q : Plan) → Alike p q → Alikes (f p) (g q)) → Alikes l m → Alikes (each f l) (each g m)
alikes_each f g h no_more = no_more
alikes_each f g h (one_more {p} {q} a r) = alikes_append (h p q a) (alikes_each f g h r)

module _ (R : Rules) where
  -- two documents whose layouts are alike, in the same order, wherever they begin
  abbrev pub Same : Doc → Doc → Type 0
  Same d e = (c i : ℕ) → Alikes (layouts R d c i) (layouts R e c i)

  pub same_refl : (d : Doc) → Same d d
  same_refl d c i = alikes_same (layouts R d c i)

  pub same_then : (d e f : Doc) → Same d e → Same e f → Same d f
  same_then d e f s t c i = alikes_then (s c i) (t c i)

  pub same_left : (d e b : Doc) → Same d e → Same (cat d b) (cat e b)
  unfolding layouts
  same_left d e b s c i = alikes_each _ _ (λ p q a. subst (λ (n : ℕ). Alikes (map (join p) (layouts R b (last p c) i)) (map (join q) (layouts R b n i))) ((agree R a).last_same c) (alikes_join (layouts R b (last p c) i) a)) (s c i)

  three : (p q : Plan) (l : List Plan) → Alikes (map (join (join p q)) l) (map (join p) (map (join q) l))
  three p q [] = no_more
  three p q (r ∷ l) = one_more alike_nest (three p q l)

  module _ (b e : Doc) (c i : ℕ) where
    abbrev outer : Plan → List Plan
    outer x = map (join x) (layouts R e (last x c) i)

    abbrev inner : Plan → Plan → List Plan
    inner p q = map (join q) (layouts R e (last q (last p c)) i)

    within : (p : Plan) (l : List Plan) → Alikes (each outer (map (join p) l)) (map (join p) (each (inner p) l))
    within p [] = no_more
    within p (q ∷ l) = subst (λ (r : List Plan). Alikes (each outer (map (join p) (q ∷ l))) r) (sym (map-append (join p) (inner p q) (each (inner p) l)))
        (alikes_append (three p q (layouts R e (last q (last p c)) i)) (within p l))

    across : (l : List Plan) → Alikes (each outer (each (λ p. map (join p) (layouts R b (last p c) i)) l)) (each (λ p. map (join p) (each (inner p) (layouts R b (last p c) i))) l)
    across [] = no_more
    across (p ∷ l) = subst (λ (r : List Plan). Alikes r (each (λ p. map (join p) (each (inner p) (layouts R b (last p c) i))) (p ∷ l)))
        (sym (each_append outer (map (join p) (layouts R b (last p c) i)) (each (λ p. map (join p) (layouts R b (last p c) i)) l)))
        (alikes_append (within p (layouts R b (last p c) i)) (across l))

  pub same_nest : (a b e : Doc) → Same (cat (cat a b) e) (cat a (cat b e))
  unfolding layouts
  same_nest a b e c i = across b e c i (layouts R a c i)

  -- and so are their answers
  alike_first : {p q : Plan} {l m : List Plan} → Alike p q → Alikes l m → Alike (first_from R p l) (first_from R q m)
  alike_first a no_more = a
  alike_first {p} {q} a (one_more {p = p'} {q = q'} {l = l} {m = m} b r) =
      subst (λ (t : Bool). Alike (first_from R (cond (cheaper (price R p') (price R p)) p' p) l) (first_from R (cond t q' q) m)) (ap₂ cheaper (price_same R b) (price_same R a)) (go (cheaper (price R p') (price R p)) (alike_first a r) (alike_first b r))
    where
      go : (t : Bool) → Alike (first_from R p l) (first_from R q m) → Alike (first_from R p' l) (first_from R q' m) → Alike (first_from R (cond t p' p) l) (first_from R (cond t q' q) m)
      go true x y = y
      go false x y = x

  -- an answer that is p but for how joins nest
  pub record ChosenAs (d : Doc) (p : Plan) : Type 0 where
    pub plan : Plan
    pub is : chosen R d ≡ some plan
    pub alike : Alike plan p

  pub same_chosen : (d e : Doc) (p : Plan) → Same d e → chosen R e ≡ some p → ChosenAs d p
  same_chosen d e p s f = go (s 0 0) f refl
    where
      go : {l m : List Plan} → Alikes l m → first R m ≡ some p → (first R l ≡ first R (layouts R d 0 0)) → ChosenAs d p
      go no_more f g = absurd (none-ne-some p f)
      go (one_more {p = q} {q = q'} {l = l} {m = m} a r) f g = record { plan = first_from R q l; is = sym g; alike = subst (λ (z : Plan). Alike (first_from R q l) z) (some-injective (first_from R q' m) p f) (alike_first a r) }
