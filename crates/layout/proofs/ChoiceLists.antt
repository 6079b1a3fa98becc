-- A right choice list lists the layouts of its Choice in the same order and presents the same frontier as the nested choices.
use Rattle.std.specs.Prelude.{◌≡◌, refl}
use Rattle.std.proofs.Math.Path.{sym}
use Rattle.std.proofs.Common.{ap, ◌∙◌}
use mathlib.Core.List.{List, ◌∷◌, ◌++◌, append-nil, append_assoc}
use Prim.Native.Nat.{ℕ}
use Rattle.layout.specs.Document.{Doc, choice}
use Rattle.layout.specs.Rules.{Rules}
use Rattle.layout.specs.Layout.{Plan}
use Rattle.layout.specs.Choice.{each, layouts}
use Rattle.layout.specs.Table.{Table, Choice, shape, Reads}
use Rattle.layout.specs.References.{RightList, two, more}
use Rattle.layout.specs.Frontier.{build, Cand, covers, front}
use Rattle.layout.specs.Sieve.{build_left, build_right}
use Rattle.layout.proofs.Covers.{covers_refl, covers_trans}
use Rattle.layout.specs.Listed.{each_append}

pub build_middle : {P : Type 0} (xs ys zs : List (Cand P)) → build covers (xs ++ (build covers ys ++ zs)) ≡ build covers (xs ++ (ys ++ zs))
build_middle {P} xs ys zs =
    sym (build_right covers covers_refl covers_trans xs (build covers ys ++ zs))
    ∙ ap (λ (r : List (Cand P)). build covers (xs ++ r)) (build_left covers covers_refl covers_trans ys zs)
    ∙ build_right covers covers_refl covers_trans xs (ys ++ zs)

-- what joins as the middle of a right list joins as the whole of it
module _ {A : Type 0} (T : Table) (G : ℕ → List A) (norm : List A → List A)
    (middle : (xs ys zs : List A) → norm (xs ++ (norm ys ++ zs)) ≡ norm (xs ++ (ys ++ zs)))
    (is : (m p q : ℕ) → T.node m ≡ Choice p q → G m ≡ norm (G p ++ G q)) where
  pub right_list : {a b n : ℕ} {l : List ℕ} → RightList T a b n l → norm (each G l) ≡ norm (G a ++ G b)
  right_list {a} {b} two = ap (λ (r : List A). norm (G a ++ r)) (append-nil (G b))
  right_list (more m p q before after e r) =
      ap norm (each_append G before (p ∷ q ∷ after))
      ∙ ap (λ (z : List A). norm (each G before ++ z)) (sym (append_assoc (G p) (G q) (each G after)))
      ∙ sym (middle (each G before) (G p ++ G q) (each G after))
      ∙ ap (λ (z : List A). norm (each G before ++ (z ++ each G after))) (sym (is m p q e))
      ∙ ap norm (sym (each_append G before (m ∷ after)))
      ∙ right_list r

module _ (R : Rules) (T : Table) (D : ℕ → Doc) (reads : Reads T D) (c i : ℕ) where
  choice_reads : (m p q : ℕ) → T.node m ≡ Choice p q → D m ≡ choice (D p) (D q)
  choice_reads m p q e = reads m ∙ ap (shape T D) e

  pub list_layouts : (n a b k : ℕ) (l : List ℕ) → T.node n ≡ Choice a b → RightList T a b k l → each (λ m. layouts R (D m) c i) l ≡ layouts R (D n) c i
  unfolding layouts
  list_layouts n a b k l e r = right_list T G (λ x. x) (λ xs ys zs. refl) is r ∙ sym (is n a b e)
    where
      G : ℕ → List Plan
      G m = layouts R (D m) c i

      is : (m p q : ℕ) → T.node m ≡ Choice p q → G m ≡ G p ++ G q
      is m p q f = ap (λ (d : Doc). layouts R d c i) (choice_reads m p q f)

  pub list_front : (n a b k : ℕ) (l : List ℕ) → T.node n ≡ Choice a b → RightList T a b k l → build covers (each (λ m. front R (D m) c i) l) ≡ front R (D n) c i
  unfolding front
  list_front n a b k l e r = right_list T G (build covers) build_middle is r ∙ sym (is n a b e)
    where
      G : ℕ → List (Cand Plan)
      G m = front R (D m) c i

      is : (m p q : ℕ) → T.node m ≡ Choice p q → G m ≡ build covers (G p ++ G q)
      is m p q f = ap (λ (d : Doc). front R d c i) (choice_reads m p q f)
