-- Theorems of the prepared file: one answer to a byte string; an accepted file is the encoding of its tables, so that no two mean the same;
-- what was read and is written again has the same bytes; what was written and is read again has the same counts and tables;
-- the writer refuses tables that bytes can say as the reader refuses their file.
use Rattle.std.specs.Prelude.{◌≡◌, refl, List, ◌++◌, ℕ, ◌≤◌, min, length, take, drop, Ok, Err}
use Rattle.std.proofs.Common.{sym, ap, ◌∙◌, subst, arith, length-take, take_at, length-take-le}
use Rattle.file_tables.specs.Tables.{Tables}
use Rattle.file_form.specs.declared.fill.Counts.{Counts}
use Rattle.file_form.specs.Form.{form_fault, tables_of, counts_of, tables_held, Holds}
use Rattle.file_encode.specs.Encode.{encode, lengths}
use Rattle.file_encode.specs.Faults.{tables_fault}
use Rattle.file_encode.specs.Fields.{Bytes}
use Rattle.file_encode.specs.Sayable.{Sayable}
use Rattle.file_encode.specs.Trips.{Counted, Encoded, encoded, reads_back}
use Rattle.file_encode.proofs.AsRead.{alike}
use Rattle.file_checks.proofs.Exactly.{judged_one}
use Rattle.file_checks.specs.Judged.{Judged, Accepted as Kept, reference, text, space, circle, list, accepted}
use Rattle.refusals.specs.declared.Refusal.{Refusal}
use Rattle.refusals.specs.declared.Refusal.TheVariants.{Output}
use Rattle.refusals.specs.Laws.{number_one, number_some}
use Rattle.prepare.specs.declared.write.FileCounts.{FileCounts}
use Rattle.prepare.specs.File.{Answer, Means, ill, wrong, right, Reads, order as unlent, refused as not_read, accepted as was_read}
use Rattle.prepare.specs.Writing.{Outcome, unwritten, Writes, order, ill as not_formed, wrong as not_kept, room, written, file_counts, lent_tables, LentAt}

-- ---- one answer

-- a byte string means one thing
pub means_one : {s : List ℕ} {a b : Answer} → Means s a → Means s b → a ≡ b
means_one (ill p n) (ill q m) = ap Err (number_one p q (sym n ∙ m))
means_one (ill p n) (wrong q e j) = absurd (number_some p (sym n ∙ e))
means_one (ill p n) (right e j) = absurd (number_some p (sym n ∙ e))
means_one (wrong p e j) (ill q n) = absurd (number_some q (sym n ∙ e))
means_one (wrong p e j) (wrong q f i) = ap Err (number_one p q (judged_one j i))
means_one (wrong p e j) (right f i) = absurd (number_some p (judged_one j i))
means_one (right e j) (ill q n) = absurd (number_some q (sym n ∙ e))
means_one (right e j) (wrong q f i) = absurd (number_some q (judged_one i j))
means_one (right e j) (right f i) = refl

-- an accepted file is well formed: no refusal of 2 to 5, and all that 6 to 10 ask
pub accepted_well : {s : List ℕ} {n : Counts} → Means s (Ok n) → (form_fault s ≡ 0) × Kept (tables_of s)
accepted_well (right e j) = (e, kept j refl)
  where
    kept : {t : Tables} {k : ℕ} → Judged t k → k ≡ 0 → Kept t
    kept (reference a) z = absurd (omega arith)
    kept (text a b) z = absurd (omega arith)
    kept (space a b c) z = absurd (omega arith)
    kept (circle a b c d) z = absurd (omega arith)
    kept (list a b c d e) z = absurd (omega arith)
    kept (accepted a) z = a

-- ---- round trips

-- an accepted file is the encoding of its tables
pub file_is : {s : List ℕ} {n : Counts} → Bytes s → Means s (Ok n) → encode (tables_of s) ≡ s
file_is z m = (encoded _ z (accepted_well m).0).file

-- no two files mean the same
pub one_file : {s s' : List ℕ} {n n' : Counts} → Bytes s → Bytes s' → Means s (Ok n) → Means s' (Ok n') → tables_of s ≡ tables_of s' → s ≡ s'
one_file z z' m m' e = sym (file_is z m) ∙ ap encode e ∙ file_is z' m'

-- what was written means the tables that were written, with their counts
pub record WrittenFile (t : Tables) (k : ℕ) (s : List ℕ) : Type 0 where
  pub long : k ≡ length (encode t)
  pub file : s ≡ encode t
  pub tables : tables_of s ≡ t
  pub counts : Counted t (counts_of s)
  pub means : Means s (Ok (counts_of s))

pub written_means : {t : Tables} {lent : Type 0} {out out' : List ℕ} {k : ℕ} → Writes t lent out out' (Ok k) → WrittenFile t k (take k out')
written_means {t} {out = out} {out' = out'} (written l z e j h b) =
    let r = reads_back t z e in
    let g : take (length (encode t)) out' ≡ encode t = rw b (take_at (encode t) (drop (length (encode t)) out) (length (encode t)) refl) in
    subst (WrittenFile t (length (encode t))) (sym g)
    (record { long = refl; file = refl; tables = r.tables; counts = r.counts; means = right r.fine (rw r.tables j) })

-- the tables that lent memory holds up to the counts of a file are the file's
pub held_is : (s : List ℕ) (ns : List (List ℕ)) (es xs : List ℕ) (ts : List (List ℕ)) (bs : List ℕ) → Holds (tables_of s) (counts_of s) ns es xs ts bs
    → tables_held (counts_of s) ns es xs ts bs ≡ tables_of s
unfolding tables_of counts_of
held_is s ns es xs ts bs h = rw (h.node_rows, h.edge_list, h.choice_list, h.text_rows, h.byte_list)

same_counts : (m n : FileCounts) → m.nodes ≡ n.nodes → m.edges ≡ n.edges → m.choices ≡ n.choices → m.texts ≡ n.texts
    → m.annotations ≡ n.annotations → m.root.0 ≡ n.root.0 → m.space.0 ≡ n.space.0 → m ≡ n
same_counts m n a b c d e f g =
    fields m.nodes n.nodes m.edges n.edges m.choices n.choices m.texts n.texts m.annotations n.annotations m.root.0 n.root.0 m.space.0 n.space.0 a b c d e f g
  where
    fields : (a a' b b' c c' d d' e e' f f' g g' : ℕ) → a ≡ a' → b ≡ b' → c ≡ c' → d ≡ d' → e ≡ e' → f ≡ f' → g ≡ g'
        → ◌≡◌ {A = FileCounts}
        (record { nodes = a; edges = b; choices = c; texts = d; annotations = e; root = record { 0 = f }; space = record { 0 = g } })
        (record { nodes = a'; edges = b'; choices = c'; texts = d'; annotations = e'; root = record { 0 = f' }; space = record { 0 = g' } })
    fields a a' b b' c c' d d' e e' f f' g g' p q r s t u v = rw (p, q, r, s, t, u, v)

counts_same : (n : FileCounts) (c : Counts) (ns : List (List ℕ)) (es xs : List ℕ) (ts : List (List ℕ)) (bs : List ℕ) → LentAt n ns es xs ts bs
    → Counted (lent_tables n ns es xs ts bs) c → file_counts c ≡ n
counts_same n c ns es xs ts bs l k =
    same_counts (file_counts c) n
    (sym k.nodes ∙ length-take-le n.nodes ns l.nodes_lent)
    (sym k.edges ∙ length-take-le n.edges es l.edges_lent)
    (sym k.choices ∙ length-take-le n.choices xs l.choices_lent)
    (sym k.texts ∙ length-take-le n.texts ts l.texts_lent)
    (sym k.annotations)
    (sym k.root)
    (sym k.space)

-- a file that is read into other memory with the answer r has these counts and these tables
pub record ReadAs (n : FileCounts) (t : Tables) (ns : List (List ℕ)) (es xs : List ℕ) (ts : List (List ℕ)) (bs : List ℕ) (r : Answer) : Type 0 where
  pub told : Counts
  pub is_accepted : r ≡ Ok told
  pub counts : file_counts told ≡ n
  pub text_bytes : told.bytes ≡ length t.bytes
  pub tables : tables_held told ns es xs ts bs ≡ t

written_lent : {t : Tables} {lent : Type 0} {out out' : List ℕ} {k : ℕ} → Writes t lent out out' (Ok k) → lent
written_lent (written a z e j h b) = a

-- what was written and is read again has the same counts and tables
pub read_again : {n : FileCounts} {ns : List (List ℕ)} {es xs : List ℕ} {ts : List (List ℕ)} {bs out out' : List ℕ} {k : ℕ}
    {lent : Type 0} {ns' : List (List ℕ)} {es' xs' : List ℕ} {ts' : List (List ℕ)} {bs' : List ℕ} {r : Answer}
    → Writes (lent_tables n ns es xs ts bs) (LentAt n ns es xs ts bs) out out' (Ok k) → lent → Reads (take k out') lent ns' es' xs' ts' bs' r
    → ReadAs n (lent_tables n ns es xs ts bs) ns' es' xs' ts' bs' r
read_again {n} {ns} {es} {xs} {ts} {bs} {out} {out'} {k} {lent} {ns'} {es'} {xs'} {ts'} {bs'} w l r = go (written_lent w) (written_means w) r
  where
    go : {s : List ℕ} {r : Answer} → LentAt n ns es xs ts bs → WrittenFile (lent_tables n ns es xs ts bs) k s → Reads s lent ns' es' xs' ts' bs' r
        → ReadAs n (lent_tables n ns es xs ts bs) ns' es' xs' ts' bs' r
    go a w (unlent f) = absurd (f l)
    go a w (not_read m f means) = let e = means_one means w.means in let z : ◌≡◌ {A = ℕ} 0 1 = cc in absurd (omega arith)
    go {s} a w (was_read f means h) =
        record {
          told = counts_of s;
          is_accepted = refl;
          counts = counts_same n (counts_of s) ns es xs ts bs a w.counts;
          text_bytes = sym w.counts.bytes;
          tables = held_is s ns' es' xs' ts' bs' h ∙ w.tables;
        }

-- lent memory that holds the tables of an accepted file is lent at its counts, and those are the tables
lent_is : (s : List ℕ) (ns : List (List ℕ)) (es xs : List ℕ) (ts : List (List ℕ)) (bs : List ℕ) → Encoded s → Holds (tables_of s) (counts_of s) ns es xs ts bs
    → lent_tables (file_counts (counts_of s)) ns es xs ts bs ≡ tables_of s
unfolding tables_of counts_of
lent_is s ns es xs ts bs e h =
    let q : lengths (take (counts_of s).texts ts) ≡ (counts_of s).bytes = ap lengths h.text_rows ∙ sym e.sized.bytes ∙ e.counted.bytes in
    rw (q, h.node_rows, h.edge_list, h.choice_list, h.text_rows, h.byte_list)

taken : {A : Type 0} (n : ℕ) (xs ys : List A) → take n xs ≡ ys → length ys ≡ n → n ≤ length xs
taken n xs ys e l = let k : min n (length xs) ≡ n = sym (length-take n xs) ∙ ap length e ∙ l in omega arith

pub lent_at : (s : List ℕ) (ns : List (List ℕ)) (es xs : List ℕ) (ts : List (List ℕ)) (bs : List ℕ) → Encoded s → Holds (tables_of s) (counts_of s) ns es xs ts bs
    → LentAt (file_counts (counts_of s)) ns es xs ts bs
lent_at s ns es xs ts bs e h =
    let c = e.counted in
    let q : lengths (take (counts_of s).texts ts) ≡ (counts_of s).bytes = ap lengths h.text_rows ∙ sym e.sized.bytes ∙ c.bytes in
    record {
      nodes_lent = taken (counts_of s).nodes ns (tables_of s).nodes h.node_rows c.nodes;
      edges_lent = taken (counts_of s).edges es (tables_of s).edges h.edge_list c.edges;
      choices_lent = taken (counts_of s).choices xs (tables_of s).choices h.choice_list c.choices;
      texts_lent = taken (counts_of s).texts ts (tables_of s).texts h.text_rows c.texts;
      bytes_lent = rw q (taken (counts_of s).bytes bs (tables_of s).bytes h.byte_list c.bytes);
    }

-- the outcome for the tables of an accepted file: the same bytes, or 20 with their number
again : {lent : Type 0} {out out' : List ℕ} (s : List ℕ) (t : Tables) {r : Outcome} → lent → encode t ≡ s → tables_fault t ≡ 0 → Judged t 0 → length s ≤ length out → Writes t lent out out' r
    → (r ≡ Ok (length s)) × (out' ≡ s ++ drop (length s) out)
again s t l f e j h (order n g) = absurd (n l)
again s t l f e j h (not_formed p m n g) = absurd (number_some p (sym n ∙ e))
again s t l f e j h (not_kept p m z i g) = absurd (number_some p (judged_one i j))
again s t l f e j h (room m z i k g) = absurd (omega (arith, ap length f))
again s t l f e j h (written m y z i k g) = rw (← f) (refl, g)

-- writing what was read gives the same bytes
pub written_again : {n : Counts} {out out' : List ℕ} {r : Outcome} (s : List ℕ) (ns : List (List ℕ)) (es xs : List ℕ) (ts : List (List ℕ)) (bs : List ℕ)
    → Bytes s → Means s (Ok n) → Holds (tables_of s) (counts_of s) ns es xs ts bs → length s ≤ length out
    → Writes (lent_tables (file_counts (counts_of s)) ns es xs ts bs) (LentAt (file_counts (counts_of s)) ns es xs ts bs) out out' r
    → (r ≡ Ok (length s)) × (out' ≡ s ++ drop (length s) out)
written_again {out = out} {out' = out'} {r = r} s ns es xs ts bs z m h k w =
    let a = accepted_well m in
    let e = encoded s z a.0 in
    let w' : Writes (tables_of s) (LentAt (file_counts (counts_of s)) ns es xs ts bs) out out' r = rw (lent_is s ns es xs ts bs e h) at w in
    again s (tables_of s) (lent_at s ns es xs ts bs e h) e.file e.right (accepted a.1) k w'

-- ---- the writer's refusals

-- what the writer answers to tables, by what the reader says of their file s: the same refusal, or 20 where there is no room, or all is written
pub data AsRead (s : List ℕ) : Outcome → Type 0 where
  refused_too : (p : Refusal) → Means s (Err p) → AsRead s (unwritten p 0)
  no_room : Means s (Ok (counts_of s)) → AsRead s (unwritten Output (length s))
  all_written : Means s (Ok (counts_of s)) → AsRead s (Ok (length s))

-- of tables that bytes can say. The rest (`Sayable`: a kind past a byte, a malformed flat mark, a text that starts elsewhere) is 3 at its place in the order of the file
pub as_read : {t : Tables} {lent : Type 0} {out out' : List ℕ} {r : Outcome} → Sayable t → lent → Writes t lent out out' r → AsRead (encode t) r
as_read y l (order n g) = absurd (n l)
as_read {t} y l (not_formed p m n g) = refused_too p (ill p (alike t y ∙ n))
as_read {t} y l (not_kept p m z j g) = let b = reads_back t y.sized z in refused_too p (wrong p b.fine (rw b.tables j))
as_read {t} y l (room m z j h g) = let b = reads_back t y.sized z in no_room (right b.fine (rw b.tables j))
as_read {t} y l (written m s z j h g) = let b = reads_back t y.sized z in all_written (right b.fine (rw b.tables j))

-- the writer refuses by p (3, 4, 6 to 10) exactly where the reader refuses the file by p
pub refused_as_read : {t : Tables} {lent : Type 0} {out out' : List ℕ} {p : Refusal} {k : ℕ} → Sayable t → lent → Writes t lent out out' (unwritten p k) → (p ≡ Output → ⊥) → Means (encode t) (Err p)
refused_as_read y l w f = go (as_read y l w) f
  where
    go : {s : List ℕ} {p : Refusal} {k : ℕ} → AsRead s (unwritten p k) → (p ≡ Output → ⊥) → Means s (Err p)
    go (refused_too p m) f = m
    go (no_room m) f = absurd (f refl)

pub refuses_as_read : {t : Tables} {lent : Type 0} {out out' : List ℕ} {r : Outcome} {p : Refusal} → Sayable t → lent → Writes t lent out out' r → Means (encode t) (Err p) → r ≡ unwritten p 0
refuses_as_read y l w m = go (as_read y l w) m
  where
    go : {s : List ℕ} {r : Outcome} {p : Refusal} → AsRead s r → Means s (Err p) → r ≡ unwritten p 0
    go (refused_too q n) m = let e = means_one n m in let z : ◌≡◌ {A = Refusal} q _ = cc in ap (λ (x : Refusal). unwritten x 0) z
    go (no_room q) m = let e = means_one q m in let z : ◌≡◌ {A = ℕ} 0 1 = cc in absurd (omega arith)
    go (all_written q) m = let e = means_one q m in let z : ◌≡◌ {A = ℕ} 0 1 = cc in absurd (omega arith)
