-- Both round trips of a whole file: an accepted file is the encoding of its tables, and the encoding of right tables reads back to them.
use Rattle.std.specs.Prelude.{◌≡◌, refl, Bool, true, false, List, [], ◌++◌, ℕ, ◌+◌, ◌-◌, ◌≤◌, ◌<◌, length, get_or, take, drop, eqb, leb}
use Rattle.std.proofs.Common.{sym, ap, ◌∙◌, append-nil, arith, length-drop, eq-eqb, eqb-true, le-leb, leb-true}
use Rattle.std.proofs.Math.Seq.{drop-length, take-length}
use Rattle.std.proofs.lemmas.Bool.{eqb-false}
use Rattle.file_tables.specs.Tables.{Tables, byte_length, byte_start}
use Rattle.file_fields.specs.declared.Step.{Step}
use Rattle.file_fields.specs.Fields.{pick, refused}
use Rattle.file_fields.specs.Header.{header_at}
use Rattle.file_form.specs.declared.fill.Counts.{Counts}
use Rattle.file_form.specs.declared.texts.Run.{Run}
use Rattle.file_form.specs.Kinds.{both}
use Rattle.file_form.specs.Nodes.{after_nodes, read_node_rows}
use Rattle.file_form.specs.Numbers.{after_numbers, numbers, surplus}
use Rattle.file_form.specs.Texts.{after_texts, read_text_rows, text_bytes}
use Rattle.file_form.specs.Form.{f_nodes, f_edges, f_choices, f_texts, f_end, form_fault, tables_of, counts_of}
use Rattle.file_encode.specs.Encode.{enc32, enc_header, enc_node, enc_texts, each, encode, lengths, Sized}
use Rattle.file_encode.specs.Faults.{or_else, count_fault, header_fault, nodes_fault, texts_fault, tables_fault}
use Rattle.file_encode.specs.Fields.{Bytes, and_then, At, at_is}
use Rattle.file_encode.specs.Maps.{both_true, both_is}
use Rattle.file_encode.specs.HeaderTrip.{Within, header_back, header_there}
use Rattle.file_encode.specs.NodeTrip.{or_zero, or_is, unless_true, unless_is, nodes_back, nodes_there}
use Rattle.file_encode.specs.NumberTrip.{numbers_back, numbers_there}
use Rattle.file_encode.specs.TextTrip.{texts_back, texts_there, texts_at, lengths_within}

-- ---- the counts

count_is : (low high n : ℕ) → low ≤ n → n ≤ high → count_fault low high n ≡ 0
count_is low high n l h = unless_is (both (leb low n) (leb n high)) 4 (both_is (leb low n) (leb n high) (le-leb low n l) (le-leb n high h))

count_in : (low high n : ℕ) → count_fault low high n ≡ 0 → (low ≤ n) × (n ≤ high)
count_in low high n e =
    let b = both_true (leb low n) (leb n high) (unless_true (both (leb low n) (leb n high)) 3 e) in
    (leb-true low n b.0, leb-true n high b.1)

header_is : (n e x a c : ℕ) → Within n e x a c → header_fault n e x a c ≡ 0
unfolding header_fault
header_is n e x a c w =
    or_is _ _ (count_is 1 4096 n w.nodes_low w.nodes_high)
    (or_is _ _ (count_is 0 16384 e (omega arith) w.edges_high)
    (or_is _ _ (count_is 1 4096 x w.texts_low w.texts_high)
    (or_is _ _ (count_is 0 4096 a (omega arith) w.annotations_high) (count_is 0 16384 c (omega arith) w.choices_high))))

pub header_in : (n e x a c : ℕ) → header_fault n e x a c ≡ 0 → Within n e x a c
unfolding header_fault
header_in n e x a c h =
    let o₁ = or_zero (count_fault 1 4096 n) _ h in
    let o₂ = or_zero (count_fault 0 16384 e) _ o₁.1 in
    let o₃ = or_zero (count_fault 1 4096 x) _ o₂.1 in
    let o₄ = or_zero (count_fault 0 4096 a) _ o₃.1 in
    let c₁ = count_in 1 4096 n o₁.0 in
    let c₂ = count_in 0 16384 e o₂.0 in
    let c₃ = count_in 1 4096 x o₃.0 in
    let c₄ = count_in 0 4096 a o₄.0 in
    let c₅ = count_in 0 16384 c o₄.1 in
    record {
      nodes_low = c₁.0;
      nodes_high = c₁.1;
      edges_high = c₂.1;
      texts_low = c₃.0;
      texts_high = c₃.1;
      annotations_high = c₄.1;
      choices_high = c₅.1;
    }

-- ---- an accepted file is the encoding of its tables

surplus_back : (s : List ℕ) (p : Step) → (surplus s p).fault ≡ 0 → (p.fault ≡ 0) × (p.at ≡ length s)
unfolding surplus
surplus_back s p h = go (eqb p.fault 0) (eqb p.at (length s)) refl refl h
  where
    go : (a b : Bool) → eqb p.fault 0 ≡ a → eqb p.at (length s) ≡ b → (pick a (pick b p (refused 5 p.at)) p).fault ≡ 0 → (p.fault ≡ 0) × (p.at ≡ length s)
    go true true ea eb h = (h, eqb-true p.at (length s) eb)
    go true false ea eb h = absurd (omega arith)
    go false b ea eb h = absurd (eqb-false p.fault 0 ea h)

-- the counts are those of the tables
pub record Counted (t : Tables) (n : Counts) : Type 0 where
  pub nodes : length t.nodes ≡ n.nodes
  pub edges : length t.edges ≡ n.edges
  pub choices : length t.choices ≡ n.choices
  pub texts : length t.texts ≡ n.texts
  pub bytes : length t.bytes ≡ n.bytes
  pub annotations : t.annotations ≡ n.annotations
  pub root : t.root ≡ n.root.0
  pub space : t.space ≡ n.space.0

-- what an accepted file is
pub record Encoded (s : List ℕ) : Type 0 where
  pub file : encode (tables_of s) ≡ s
  pub right : tables_fault (tables_of s) ≡ 0
  pub sized : Sized (tables_of s)
  pub counted : Counted (tables_of s) (counts_of s)

pub encoded : (s : List ℕ) → Bytes s → form_fault s ≡ 0 → Encoded s
unfolding form_fault f_end f_texts f_choices f_edges f_nodes tables_of counts_of encode tables_fault
encoded s z h =
    let g = header_at s in
    let u = surplus_back s (f_texts s).next h in
    let tx = texts_back s (f_choices s) g.texts z u.0 in
    let ch = numbers_back s (f_edges s) g.choices z tx.took.prior in
    let ed = numbers_back s (f_nodes s) g.edges z ch.took.prior in
    let no = nodes_back s g.next g.nodes z ed.took.prior in
    let he = header_back s z no.took.prior in
    let all = and_then he.took (and_then no.took (and_then ed.took (and_then ch.took tx.took))) in
    let end : drop (f_texts s).next.at s ≡ [] = rw u.1 (drop-length s) in
    let w : Within (length (read_node_rows s g.next g.nodes)) (length (numbers s (f_nodes s) g.edges)) (length (read_text_rows s (f_choices s) g.texts)) g.annotations (length (numbers s (f_edges s) g.choices)) =
    rw (no.count, ed.count, tx.count, ch.count) he.within in
    record {
      file = rw (no.count, ed.count, tx.count, ch.count) (sym (all.bytes ∙ rw end (append-nil _)));
      right = or_is _ _ (header_is _ _ _ _ _ w) (or_is _ _ no.right tx.right);
      sized = record {
        node_rows = λ i l. no.wide i (omega (arith, l, no.count));
        text_rows = λ i l. tx.wide i (omega (arith, l, tx.count));
        bytes = tx.long ∙ sym tx.total;
      };
      counted = record { nodes = no.count; edges = ed.count; choices = ch.count; texts = tx.count; bytes = tx.long; annotations = refl; root = refl; space = refl };
    }

-- no two accepted files mean the same
pub one_file : (s s' : List ℕ) → Bytes s → Bytes s' → form_fault s ≡ 0 → form_fault s' ≡ 0 → tables_of s ≡ tables_of s' → s ≡ s'
one_file s s' z z' h h' e = sym (encoded s z h).file ∙ ap encode e ∙ (encoded s' z' h').file

-- ---- the encoding of right tables reads back to them and to their counts

pub record ReadsBack (t : Tables) : Type 0 where
  pub fine : form_fault (encode t) ≡ 0
  pub tables : tables_of (encode t) ≡ t
  pub counts : Counted t (counts_of (encode t))

pub surplus_there : (s : List ℕ) (p : Step) → At s p [] → (surplus s p).fault ≡ 0
unfolding surplus
surplus_there s p a =
    let n : length s - p.at ≡ 0 = sym (length-drop p.at s) ∙ ap length a.left in
    let e : p.at ≡ length s = omega (arith, a.inside) in
    rw (eq-eqb p.fault 0 a.fine, eq-eqb p.at (length s) e) a.fine

-- after all of a list nothing is left
pub each_none : {A : Type 0} (f : A → List ℕ) (xs : List A) (rest : List ℕ) → each f (drop (length xs) xs) ++ rest ≡ rest
unfolding each
each_none f xs rest = rw (drop-length xs)

pub texts_none : (rows : List (List ℕ)) (bytes rest : List ℕ) → enc_texts (drop (length rows) rows) bytes ++ rest ≡ rest
unfolding enc_texts
texts_none rows bytes rest = rw (drop-length rows)

same_fields :
    (n n' : List (List ℕ)) (e e' c c' : List ℕ) (x x' : List (List ℕ)) (b b' : List ℕ) (a a' r r' w w' : ℕ)
    → n ≡ n' → e ≡ e' → c ≡ c' → x ≡ x' → b ≡ b' → a ≡ a' → r ≡ r' → w ≡ w'
    → ◌≡◌ {A = Tables}
    (record { nodes = n; edges = e; choices = c; texts = x; bytes = b; annotations = a; root = r; space = w })
    (record { nodes = n'; edges = e'; choices = c'; texts = x'; bytes = b'; annotations = a'; root = r'; space = w' })
same_fields n n' e e' c c' x x' b b' a a' r r' w w' p₁ p₂ p₃ p₄ p₅ p₆ p₇ p₈ = rw (p₁, p₂, p₃, p₄, p₅, p₆, p₇, p₈)

same_tables : (t u : Tables)
    → u.nodes ≡ t.nodes → u.edges ≡ t.edges → u.choices ≡ t.choices → u.texts ≡ t.texts → u.bytes ≡ t.bytes
    → u.annotations ≡ t.annotations → u.root ≡ t.root → u.space ≡ t.space → u ≡ t
same_tables t u a b c d e f g h =
    same_fields u.nodes t.nodes u.edges t.edges u.choices t.choices u.texts t.texts u.bytes t.bytes u.annotations t.annotations u.root t.root u.space t.space a b c d e f g h

reads_at : (s : List ℕ) (t : Tables) → Sized t → tables_fault t ≡ 0
    → s ≡ enc_header (length t.nodes) (length t.edges) (length t.texts) t.annotations (length t.choices) t.root t.space
    ++ (each enc_node t.nodes ++ (each enc32 t.edges ++ (each enc32 t.choices ++ enc_texts t.texts t.bytes)))
    → (form_fault s ≡ 0) × ((tables_of s ≡ t) × Counted t (counts_of s))
unfolding form_fault f_end f_texts f_choices f_edges f_nodes tables_of counts_of tables_fault
reads_at s t z h is =
    let o = or_zero (header_fault (length t.nodes) (length t.edges) (length t.texts) t.annotations (length t.choices)) (or_else (nodes_fault t.nodes) (texts_fault 0 t.texts)) h in
    let q = or_zero (nodes_fault t.nodes) (texts_fault 0 t.texts) o.1 in
    let he = header_there s (length t.nodes) (length t.edges) (length t.texts) t.annotations (length t.choices) t.root t.space _ (header_in _ _ _ _ _ o.0) is in
    let no = nodes_there s (header_at s).next t.nodes _ z.node_rows q.0 he.next (length t.nodes) (omega arith) in
    let p₁ = after_nodes s (header_at s).next (length t.nodes) in
    let ed = numbers_there s p₁ t.edges _ (at_is no.next (each_none enc_node t.nodes _)) (length t.edges) (omega arith) in
    let p₂ = after_numbers s p₁ (length t.edges) in
    let ch = numbers_there s p₂ t.choices _ (at_is ed.next (each_none enc32 t.edges _)) (length t.choices) (omega arith) in
    let p₃ = after_numbers s p₂ (length t.choices) in
    let tx = texts_there s p₃ t.texts t.bytes [] z.text_rows q.1 z.bytes (at_is ch.next (each_none enc32 t.choices _ ∙ sym (append-nil _))) (length t.texts) (omega arith) in
    let e : lengths (take (length t.texts) t.texts) ≡ length t.bytes = ap lengths (take-length t.texts) ∙ sym z.bytes in
    let e₁ : f_nodes s ≡ p₁ = ap (after_nodes s (header_at s).next) he.nodes in
    let e₂ : f_edges s ≡ p₂ = ap (λ (x : Step). after_numbers s x (header_at s).edges) e₁ ∙ ap (after_numbers s p₁) he.edges in
    let e₃ : f_choices s ≡ p₃ = ap (λ (x : Step). after_numbers s x (header_at s).choices) e₂ ∙ ap (after_numbers s p₂) he.choices in
    let e₄ : f_texts s ≡ after_texts s p₃ (length t.texts) = ap (λ (x : Step). after_texts s x (header_at s).texts) e₃ ∙ ap (after_texts s p₃) he.texts in (
      ap (λ (x : Run). (surplus s x.next).fault) e₄ ∙ surplus_there s (after_texts s p₃ (length t.texts)).next (at_is tx.next (texts_none t.texts _ [])),
      (
        same_tables t (tables_of s)
            (ap (read_node_rows s (header_at s).next) he.nodes ∙ no.rows_are ∙ take-length t.nodes)
            (ap (λ (x : Step). numbers s x (header_at s).edges) e₁ ∙ ap (numbers s p₁) he.edges ∙ ed.numbers_are ∙ take-length t.edges)
            (ap (λ (x : Step). numbers s x (header_at s).choices) e₂ ∙ ap (numbers s p₂) he.choices ∙ ch.numbers_are ∙ take-length t.choices)
            (ap (λ (x : Step). read_text_rows s x (header_at s).texts) e₃ ∙ ap (read_text_rows s p₃) he.texts ∙ tx.rows_are ∙ take-length t.texts)
            (ap (λ (x : Step). text_bytes s x (header_at s).texts) e₃ ∙ ap (text_bytes s p₃) he.texts ∙ tx.bytes_are ∙ ap (λ (n : ℕ). take n t.bytes) e ∙ take-length t.bytes)
            he.annotations
            he.root
            he.space,
        record {
          nodes = sym he.nodes;
          edges = sym he.edges;
          choices = sym he.choices;
          texts = sym he.texts;
          bytes = sym (ap (λ (x : Run). x.total) e₄ ∙ tx.total ∙ e);
          annotations = sym he.annotations;
          root = sym he.root;
          space = sym he.space;
        },
      ),
    )

pub reads_back : (t : Tables) → Sized t → tables_fault t ≡ 0 → ReadsBack t
unfolding encode
reads_back t z h = let r = reads_at (encode t) t z h refl in record { fine = r.0; tables = r.1.0; counts = r.1.1 }

-- ---- what right tables have

pub record Right (t : Tables) : Type 0 where
  pub within : Within (length t.nodes) (length t.edges) (length t.texts) t.annotations (length t.choices)
  pub nodes : nodes_fault t.nodes ≡ 0
  pub texts : texts_fault 0 t.texts ≡ 0

pub tables_right : (t : Tables) → tables_fault t ≡ 0 → Right t
unfolding tables_fault
tables_right t h =
    let o = or_zero (header_fault (length t.nodes) (length t.edges) (length t.texts) t.annotations (length t.choices)) (or_else (nodes_fault t.nodes) (texts_fault 0 t.texts)) h in
    let q = or_zero (nodes_fault t.nodes) (texts_fault 0 t.texts) o.1 in
    record { within = header_in _ _ _ _ _ o.0; nodes = q.0; texts = q.1 }

-- every text's bytes stand among the bytes of all texts
pub texts_inside : (t : Tables) → length t.bytes ≡ lengths t.texts → texts_fault 0 t.texts ≡ 0 → (i : ℕ) → i < length t.texts
    → byte_start (get_or t.texts i []) + byte_length (get_or t.texts i []) ≤ length t.bytes
texts_inside t l e i h = omega (arith, (texts_at 0 t.texts i e h).0, lengths_within t.texts i h, l)
