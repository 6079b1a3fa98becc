-- In a table without circle each node is exactly one document; unfolding to any depth past the rank computes it.
use Rattle.std.specs.Prelude.{◌≡◌, refl, List, [], ◌∷◌, ℕ, zero, suc, ◌<◌}
use Rattle.std.proofs.Common.{sym, ap, ap₂, ◌∙◌, arith}
use Rattle.std.proofs.Math.Option.{Option, none, some}
use mathlib.Core.List.Memᴰ.{head as here}
use mathlib.Core.List.Memᴰ.{tail as there}
use mathlib.Core.List.{Memᴰ as In}
use Rattle.layout.specs.Document.{Doc, empty, text, newline, cat, nest, align, choice, annotate, penalty}
use Rattle.layout.specs.Table.{Node, Table, Empty, Break, HardLine, Text, Seq, Fill, Group, Align, Nest, Choice, Annotate, Penalty, seq_doc, fill_doc, group_doc, shape, Reads}
use Rattle.layout.specs.References.{flat_of, refers, Ranked}

-- a node's document, to a depth
abbrev pub unfolded : Table → ℕ → ℕ → Doc
unfolded T zero n = empty
unfolded T (suc f) n = shape T (unfolded T f) (T.node n)

module _ (T : Table) where
  seq_cong : (g h : ℕ → Doc) (d : Doc) (ks : List ℕ) → ((k : ℕ) → In k ks → g k ≡ h k) → seq_doc T g d ks ≡ seq_doc T h d ks
  seq_cong g h d [] e = refl
  seq_cong g h d (k ∷ ks) e = rw (e k (here refl)) (seq_cong g h (cat d (h k)) ks (λ j m. e j (there m)))

  fill_cong : (g h : ℕ → Doc) (d : Doc) (ks : List ℕ) → ((k : ℕ) → In k ks → g k ≡ h k) → fill_doc T g d ks ≡ fill_doc T h d ks
  fill_cong g h d [] e = refl
  fill_cong g h d (k ∷ ks) e = rw (e k (here refl)) (fill_cong g h (cat (cat d (choice (text T.space) newline)) (h k)) ks (λ j m. e j (there m)))

  shape_cong : (g h : ℕ → Doc) (v : Node) → ((k : ℕ) → In k (refers T v) → g k ≡ h k) → shape T g v ≡ shape T h v
  shape_cong g h Empty e = refl
  shape_cong g h Break e = refl
  shape_cong g h HardLine e = refl
  shape_cong g h (Text w) e = refl
  shape_cong g h (Seq []) e = refl
  shape_cong g h (Seq (k ∷ ks)) e = rw (e k (here refl)) (seq_cong g h (h k) ks (λ j m. e j (there m)))
  shape_cong g h (Fill []) e = refl
  shape_cong g h (Fill (k ∷ ks)) e = rw (e k (here refl)) (fill_cong g h (h k) ks (λ j m. e j (there m)))
  shape_cong g h (Group k) e = go (T.flat k) e
    where
      go : (o : Option ℕ) → ((j : ℕ) → In j (k ∷ flat_of o) → g j ≡ h j) → group_doc T g k o ≡ group_doc T h k o
      go none f = f k (here refl)
      go (some m) f = rw (f m (there (here refl)), f k (here refl))
  shape_cong g h (Align k) e = ap align (e k (here refl))
  shape_cong g h (Nest m k) e = ap (nest m) (e k (here refl))
  shape_cong g h (Choice a b) e = ap₂ choice (e a (here refl)) (e b (there (here refl)))
  shape_cong g h (Annotate m k) e = ap (annotate m) (e k (here refl))
  shape_cong g h (Penalty m k) e = ap (penalty m) (e k (here refl))

  module _ (K : Ranked T) where
    -- any depth past the rank gives the same
    deeper : (f g n : ℕ) → K.rank n < f → K.rank n < g → unfolded T f n ≡ unfolded T g n
    deeper zero g n h k = absurd (omega arith)
    deeper (suc f) zero n h k = absurd (omega arith)
    deeper (suc f) (suc g) n h k = shape_cong (unfolded T f) (unfolded T g) (T.node n) (λ j m. deeper f g j (omega (arith, K.falls n j m)) (omega (arith, K.falls n j m)))

    -- the document of a node
    abbrev pub document : ℕ → Doc
    document n = unfolded T (suc (K.rank n)) n

    pub document_reads : Reads T document
    document_reads n = shape_cong (unfolded T (K.rank n)) document (T.node n) (λ j m. deeper (K.rank n) (suc (K.rank j)) j (K.falls n j m) (omega arith))

    only_to : (D E : ℕ → Doc) → Reads T D → Reads T E → (f n : ℕ) → K.rank n < f → D n ≡ E n
    only_to D E d e zero n h = absurd (omega arith)
    only_to D E d e (suc f) n h = d n ∙ shape_cong D E (T.node n) (λ k m. only_to D E d e f k (omega (arith, K.falls n k m))) ∙ sym (e n)

    -- there is no other
    pub reads_only : (D E : ℕ → Doc) → Reads T D → Reads T E → (n : ℕ) → D n ≡ E n
    reads_only D E d e n = only_to D E d e (suc (K.rank n)) n (omega arith)

    pub reads_document : (D : ℕ → Doc) → Reads T D → (n : ℕ) → D n ≡ document n
    reads_document D d n = reads_only D document d document_reads n

    pub depth_is : (f n : ℕ) → K.rank n < f → unfolded T f n ≡ document n
    depth_is f n h = deeper f (suc (K.rank n)) n h (omega arith)
