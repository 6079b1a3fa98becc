-- The writer refuses tables by 3 and 4 as the reader would their file: of tables that bytes can say (`Sayable`), the reader's refusal of the encoding is the tables'.
-- And what bytes cannot say is refused too: tables without a refusal of 3 and 4 are such.
use Rattle.std.specs.Prelude.{◌≡◌, refl, Bool, true, false, List, [], ◌∷◌, ◌++◌, ℕ, zero, suc, ◌+◌, ◌≤◌, ◌<◌, length, get_or, take, drop, ltb, leb, eqb}
use Rattle.std.proofs.Common.{sym, ap, ◌∙◌, true≢false, append_assoc, append-nil, arith, drop-cons, eq-eqb, ne_eqb, le-leb, leb-true, leb-false, ltb-true}
use Rattle.std.proofs.Math.Seq.{take-length}
use Rattle.std.proofs.lemmas.Bool.{lt-leb}
use Rattle.file_tables.specs.Tables.{Tables, kind, flat_mark, flat_word, width, byte_length, byte_start}
use Rattle.file_fields.specs.declared.Step.{Step}
use Rattle.file_fields.specs.Fields.{pick, got, refused, after, bit, byte_at, field_at, number_at, limited, count_at, formed}
use Rattle.file_fields.specs.Header.{h_map, h_nodes, h_edges, h_texts, h_annotations, h_choices, h_root, h_space, header_at}
use Rattle.file_form.specs.Kinds.{both, map_right, pair_right}
use Rattle.file_form.specs.Nodes.{checked, map_at, kind_at, n_map, n_kind, n_first, n_second, n_flat, n_start, n_length, n_skipped, node_at, after_nodes}
use Rattle.file_form.specs.Numbers.{after_numbers, surplus}
use Rattle.file_form.specs.declared.texts.Run.{Run}
use Rattle.file_form.specs.Texts.{totalled, span_at, t_map, t_width, t_length, t_end, after_texts}
use Rattle.file_form.specs.Form.{f_nodes, f_edges, f_choices, f_texts, f_end, form_fault}
use Rattle.file_encode.specs.Encode.{present, marked, node_map, enc32, enc_field, header_map, enc_header, enc_node, text_map, enc_text, enc_texts, each, encode, lengths, Sized}
use Rattle.file_encode.specs.Faults.{or_else, unless, count_fault, header_fault, node_is_right, nodes_fault, texts_fault, tables_fault}
use Rattle.file_encode.specs.Sayable.{NodeSayable, Starts, Sayable}
use Rattle.file_encode.specs.Fields.{At, at_is, byte_there, field_there, count_there, formed_there}
use Rattle.file_encode.specs.HeaderTrip.{header_there, regroup, map_high}
use Rattle.file_encode.specs.NodeTrip.{or_none, flat_absent, nodes_right_at, nodes_there}
use Rattle.file_encode.specs.NumberTrip.{numbers_there}
use Rattle.file_encode.specs.TextTrip.{ReadTexts, texts_none_yet, texts_step, texts_cons, texts_at, lengths_suc, regroup as regroup3, map_high as map_high2}
use Rattle.file_encode.specs.Trips.{header_in, surplus_there, each_none, texts_none, tables_right}
use Rattle.file_encode.specs.Maps.{at1, at2, at4, at8, at16, at32, at64, bit_is, both_true}

-- ---- a refusal stays

stay : (p q : Step) (m : ℕ) → p.fault ≡ suc m → (after p q).fault ≡ suc m
stay p q m e = rw (ne_eqb p.fault 0 (λ z. omega (arith, e, z))) e

byte_stuck : (s : List ℕ) (p : Step) (m : ℕ) → p.fault ≡ suc m → (byte_at s p).fault ≡ suc m
unfolding byte_at
byte_stuck s p m e = stay p _ m e

field_stuck : (s : List ℕ) (on : Bool) (p : Step) (m : ℕ) → p.fault ≡ suc m → (field_at s on p).fault ≡ suc m
unfolding field_at
field_stuck s on p m e = stay p _ m e

number_stuck : (s : List ℕ) (on : Bool) (p : Step) (m : ℕ) → p.fault ≡ suc m → (number_at s on p).fault ≡ suc m
unfolding number_at
number_stuck s on p m e = stay p _ m e

checked_stuck : (ok : Bool) (p : Step) (m : ℕ) → p.fault ≡ suc m → (checked ok p).fault ≡ suc m
unfolding checked
checked_stuck ok p m e = stay p _ m e

formed_stuck : (high : ℕ) (p : Step) (m : ℕ) → p.fault ≡ suc m → (formed high p).fault ≡ suc m
unfolding formed
formed_stuck high p m e = stay p _ m e

surplus_stuck : (s : List ℕ) (p : Step) (m : ℕ) → p.fault ≡ suc m → (surplus s p).fault ≡ suc m
unfolding surplus
surplus_stuck s p m e = stay p _ m e

count_stuck : (s : List ℕ) (on : Bool) (low high : ℕ) (p : Step) (m : ℕ) → p.fault ≡ suc m → (count_at s on low high p).fault ≡ suc m
unfolding count_at limited
count_stuck s on low high p m e =
    let f = field_stuck s on p m e in
    rw (ne_eqb (field_at s on p).fault 0 (λ z. omega (arith, f, z))) f

totalled_stuck : (total : ℕ) (p : Step) (m : ℕ) → p.fault ≡ suc m → (totalled total p).fault ≡ suc m
unfolding totalled
totalled_stuck total p m e = rw (ne_eqb p.fault 0 (λ z. omega (arith, e, z))) e

span_stuck : (s : List ℕ) (p : Step) (m : ℕ) → p.fault ≡ suc m → (span_at s p).fault ≡ suc m
unfolding span_at
span_stuck s p m e = rw (ne_eqb p.fault 0 (λ z. omega (arith, e, z))) e

-- a refusal at the kind byte, at the map byte, before the record
pub kind_stuck : (s : List ℕ) (p : Step) (m : ℕ) → (n_kind s p).fault ≡ suc m → (node_at s p).next.fault ≡ suc m
unfolding node_at n_first n_second n_flat n_start n_length n_skipped
kind_stuck s p m e =
    field_stuck s _ (n_length s p) m
    (field_stuck s _ (n_start s p) m
    (field_stuck s _ (n_flat s p) m
    (number_stuck s _ (n_second s p) m
    (field_stuck s _ (n_first s p) m
    (field_stuck s _ (n_kind s p) m e)))))

pub map_stuck : (s : List ℕ) (p : Step) (m : ℕ) → (n_map s p).fault ≡ suc m → (node_at s p).next.fault ≡ suc m
unfolding n_kind kind_at
map_stuck s p m e = kind_stuck s p m (checked_stuck _ (byte_at s (n_map s p)) m (byte_stuck s (n_map s p) m e))

pub node_stuck : (s : List ℕ) (p : Step) (m : ℕ) → p.fault ≡ suc m → (node_at s p).next.fault ≡ suc m
unfolding n_map map_at
node_stuck s p m e = map_stuck s p m (checked_stuck _ (byte_at s p) m (byte_stuck s p m e))

nodes_stuck : (s : List ℕ) (p : Step) (k m : ℕ) → p.fault ≡ suc m → (after_nodes s p k).fault ≡ suc m
unfolding after_nodes
nodes_stuck s p zero m e = e
nodes_stuck s p (suc k) m e = node_stuck s (after_nodes s p k) m (nodes_stuck s p k m e)

numbers_stuck : (s : List ℕ) (p : Step) (k m : ℕ) → p.fault ≡ suc m → (after_numbers s p k).fault ≡ suc m
unfolding after_numbers
numbers_stuck s p zero m e = e
numbers_stuck s p (suc k) m e = number_stuck s true (after_numbers s p k) m (numbers_stuck s p k m e)

text_stuck : (s : List ℕ) (total : ℕ) (p : Step) (m : ℕ) → p.fault ≡ suc m → (t_end s total p).fault ≡ suc m
unfolding t_end t_length t_width t_map
text_stuck s total p m e =
    span_stuck s (t_length s total p) m
    (totalled_stuck total _ m
    (field_stuck s _ (t_width s total p) m (field_stuck s _ (t_map s total p) m (formed_stuck 3 (byte_at s p) m (byte_stuck s p m e)))))

texts_stuck : (s : List ℕ) (p : Step) (k m : ℕ) → p.fault ≡ suc m → (after_texts s p k).next.fault ≡ suc m
unfolding after_texts
texts_stuck s p zero m e = e
texts_stuck s p (suc k) m e = text_stuck s (after_texts s p k).total (after_texts s p k).next m (texts_stuck s p k m e)

-- a refusal of the nodes is that of the file, and so is one of the header
pub nodes_refuse : (s : List ℕ) (m : ℕ) → (f_nodes s).fault ≡ suc m → form_fault s ≡ suc m
unfolding form_fault f_end f_texts f_choices f_edges
nodes_refuse s m e =
    let h = header_at s in
    let d = numbers_stuck s (f_nodes s) h.edges m e in
    let c = numbers_stuck s (f_edges s) h.choices m d in
    surplus_stuck s (f_texts s).next m (texts_stuck s (f_choices s) h.texts m c)

pub header_refuses : (s : List ℕ) (m : ℕ) → (header_at s).next.fault ≡ suc m → form_fault s ≡ suc m
unfolding f_nodes
header_refuses s m e = nodes_refuse s m (nodes_stuck s (header_at s).next (header_at s).nodes m e)

-- ---- a count outside its limits

limit_fails : (low high v : ℕ) → both (leb low v) (leb v high) ≡ false → (f : Step) → f.fault ≡ 0 → f.value ≡ v → (limited low high f).fault ≡ 4
unfolding limited
limit_fails low high v e f z w =
    let e' : both (leb low f.value) (leb f.value high) ≡ false = rw w e in
    rw (eq-eqb f.fault 0 z) (go (leb low f.value) (leb f.value high) e')
  where
    go : (a b : Bool) → both a b ≡ false → (pick a (pick b f (refused 4 f.at)) (refused 4 f.at)).fault ≡ 4
    go true true e = absurd (true≢false e)
    go true false e = refl
    go false b e = refl

count_fails : (s : List ℕ) (on : Bool) (low high : ℕ) (p : Step) (v : ℕ) (rest : List ℕ)
    → on ≡ present v → both (leb low v) (leb v high) ≡ false → At s p (enc_field v ++ rest) → (count_at s on low high p).fault ≡ 4
unfolding count_at
count_fails s on low high p v rest o e h =
    let w = field_there s on p v rest o h in
    limit_fails low high v e (field_at s on p) w.next.fine w.value

-- ---- the header's counts, one after the other

-- F is the refusal in the end: that of this count, or R
count_step : (s : List ℕ) (on : Bool) (low high : ℕ) (p : Step) (v : ℕ) (rest : List ℕ) (F R : ℕ)
    → on ≡ present v
    → At s p (enc_field v ++ rest)
    → (At s (count_at s on low high p) rest → F ≡ R)
    → ((m : ℕ) → (count_at s on low high p).fault ≡ suc m → F ≡ suc m)
    → F ≡ or_else (count_fault low high v) R
count_step s on low high p v rest F R o h more stuck = go (both (leb low v) (leb v high)) refl
  where
    go : (b : Bool) → both (leb low v) (leb v high) ≡ b → F ≡ or_else (count_fault low high v) R
    go true e =
        let k = both_true (leb low v) (leb v high) e in
        rw e (more (count_there s on low high p v rest o (leb-true low v k.0) (leb-true v high k.1) h).next)
    go false e = rw e (stuck 3 (count_fails s on low high p v rest o e h))

-- the reader refuses the header of any seven numbers as the writer does
pub header_as_read : (s : List ℕ) (n e x a c r w : ℕ) (rest : List ℕ) → s ≡ enc_header n e x a c r w ++ rest → (header_at s).next.fault ≡ header_fault n e x a c
unfolding header_at h_map h_nodes h_edges h_texts h_annotations h_choices h_root h_space enc_header header_map header_fault
header_as_read s n e x a c r w rest h =
    let b₁ = present n in
    let b₂ = present e in
    let b₃ = present x in
    let b₄ = present a in
    let b₅ = present c in
    let b₆ = present r in
    let b₇ = present w in
    let v = header_map n e x a c r w in
    let m = formed_there s 127 (byte_at s (got 0 0)) v _ (map_high b₁ b₂ b₃ b₄ b₅ b₆ b₇) (byte_there s (got 0 0) v _ (record { fine = refl; inside = omega arith; left = h })) in
    let l = at_is m.next (regroup (enc_field n) (enc_field e) (enc_field x) (enc_field a) (enc_field c) (enc_field r) (enc_field w) rest) in
    let o = (h_map s).value in
    let x₁ : bit o 1 ≡ b₁ = rw m.value (bit_is v 1 b₁ (at1 b₁ (b₂ ∷ b₃ ∷ b₄ ∷ b₅ ∷ b₆ ∷ b₇ ∷ []))) in
    let x₂ : bit o 2 ≡ b₂ = rw m.value (bit_is v 2 b₂ (at2 b₁ b₂ (b₃ ∷ b₄ ∷ b₅ ∷ b₆ ∷ b₇ ∷ []))) in
    let x₃ : bit o 4 ≡ b₃ = rw m.value (bit_is v 4 b₃ (at4 b₁ b₂ b₃ (b₄ ∷ b₅ ∷ b₆ ∷ b₇ ∷ []))) in
    let x₄ : bit o 8 ≡ b₄ = rw m.value (bit_is v 8 b₄ (at8 b₁ b₂ b₃ b₄ (b₅ ∷ b₆ ∷ b₇ ∷ []))) in
    let x₅ : bit o 16 ≡ b₅ = rw m.value (bit_is v 16 b₅ (at16 b₁ b₂ b₃ b₄ b₅ (b₆ ∷ b₇ ∷ []))) in
    let x₆ : bit o 32 ≡ b₆ = rw m.value (bit_is v 32 b₆ (at32 b₁ b₂ b₃ b₄ b₅ b₆ (b₇ ∷ []))) in
    let x₇ : bit o 64 ≡ b₇ = rw m.value (bit_is v 64 b₇ (at64 b₁ b₂ b₃ b₄ b₅ b₆ b₇ [])) in
    let F = (h_space s).fault in
    let t₅ : (k : ℕ) → (h_choices s).fault ≡ suc k → F ≡ suc k = λ k q. field_stuck s _ (h_root s) k (field_stuck s _ (h_choices s) k q) in
    let t₄ : (k : ℕ) → (h_annotations s).fault ≡ suc k → F ≡ suc k = λ k q. t₅ k (count_stuck s _ 0 16384 (h_annotations s) k q) in
    let t₃ : (k : ℕ) → (h_texts s).fault ≡ suc k → F ≡ suc k = λ k q. t₄ k (count_stuck s _ 0 4096 (h_texts s) k q) in
    let t₂ : (k : ℕ) → (h_edges s).fault ≡ suc k → F ≡ suc k = λ k q. t₃ k (count_stuck s _ 1 4096 (h_edges s) k q) in
    let t₁ : (k : ℕ) → (h_nodes s).fault ≡ suc k → F ≡ suc k = λ k q. t₂ k (count_stuck s _ 0 16384 (h_nodes s) k q) in
    count_step s (bit o 1) 1 4096 (h_map s) n _ F _ x₁ l
    (λ l₁. count_step s (bit o 2) 0 16384 (h_nodes s) e _ F _ x₂ l₁
    (λ l₂. count_step s (bit o 4) 1 4096 (h_edges s) x _ F _ x₃ l₂
    (λ l₃. count_step s (bit o 8) 0 4096 (h_texts s) a _ F _ x₄ l₃
    (λ l₄. count_step s (bit o 16) 0 16384 (h_annotations s) c _ F 0 x₅ l₄
    (λ l₅. let f₆ = field_there s (bit o 32) (h_choices s) r _ x₆ l₅ in (field_there s (bit o 64) (h_root s) w rest x₇ f₆.next).next.fine)
    t₅
    ∙ or_none (count_fault 0 16384 c))
    t₄)
    t₃)
    t₂)
    t₁

pub header_alike : (t : Tables) (m : ℕ) → header_fault (length t.nodes) (length t.edges) (length t.texts) t.annotations (length t.choices) ≡ suc m → form_fault (encode t) ≡ suc m
unfolding encode
header_alike t m e =
    header_refuses (encode t) m
    (header_as_read (encode t) (length t.nodes) (length t.edges) (length t.texts) t.annotations (length t.choices) t.root t.space _ refl ∙ e)

-- ---- the texts

total_fails : (total : ℕ) (f : Step) (v : ℕ) → f.fault ≡ 0 → f.value ≡ v → 65536 < total + v → (totalled total f).fault ≡ 4
unfolding totalled
total_fails total f v z w h =
    let k : 65536 < total + f.value = rw w h in
    rw (eq-eqb f.fault 0 z, lt-leb (total + f.value) 65536 k)

-- a text whose length passes the limit is refused at its length
text_fails : (s : List ℕ) (total : ℕ) (p : Step) (row part rest : List ℕ) → 65536 < total + byte_length row → At s p (enc_text row part ++ rest) → (t_end s total p).fault ≡ 4
unfolding t_map t_width t_length t_end enc_text text_map
text_fails s total p row part rest limit h =
    let a = present (width row) in
    let b = present (byte_length row) in
    let o = (t_map s total p).value in
    let m = formed_there s 3 (byte_at s p) (text_map row) _ (map_high2 a b) (byte_there s p (text_map row) _ h) in
    let l = at_is m.next (regroup3 (enc_field (width row)) (enc_field (byte_length row)) part rest) in
    let x₁ : bit o 1 ≡ a = rw m.value (bit_is (text_map row) 1 a (at1 a (b ∷ []))) in
    let x₂ : bit o 2 ≡ b = rw m.value (bit_is (text_map row) 2 b (at2 a b [])) in
    let f₁ = field_there s (bit o 1) (t_map s total p) (width row) _ x₁ l in
    let f₂ = field_there s (bit o 2) (t_width s total p) (byte_length row) (part ++ rest) x₂ f₁.next in
    span_stuck s (t_length s total p) 3 (total_fails total (field_at s (bit o 2) (t_width s total p)) (byte_length row) f₂.next.fine f₂.value limit)

-- after k texts: all were read, or one was refused
data Along (s : List ℕ) (p : Step) (rows : List (List ℕ)) (bytes rest : List ℕ) (k : ℕ) : Type 0 where
  read : ReadTexts s p rows bytes rest k → lengths (take k rows) ≤ 65536 → Along s p rows bytes rest k
  failed : (after_texts s p k).next.fault ≡ 4 → 65536 < lengths (take k rows) → Along s p rows bytes rest k

fails_at : (s : List ℕ) (p : Step) (rows : List (List ℕ)) (bytes rest : List ℕ) (k : ℕ) → k < length rows → ReadTexts s p rows bytes rest k
    → 65536 < lengths (take k rows) + byte_length (get_or rows k []) → (after_texts s p (suc k)).next.fault ≡ 4
unfolding after_texts
fails_at s p rows bytes rest k lt r h =
    let m = lengths (take k rows) in
    let row = get_or rows k [] in
    let e : enc_texts (drop k rows) (drop m bytes) ≡ enc_text row (take (byte_length row) (drop m bytes)) ++ enc_texts (drop (suc k) rows) (drop (byte_length row) (drop m bytes)) =
    ap (λ (x : List (List ℕ)). enc_texts x (drop m bytes)) (drop-cons rows k [] lt) ∙ texts_cons row (drop (suc k) rows) (drop m bytes) in
    text_fails s (after_texts s p k).total (after_texts s p k).next row (take (byte_length row) (drop m bytes)) (enc_texts (drop (suc k) rows) (drop (byte_length row) (drop m bytes)) ++ rest)
    (omega (arith, r.total, h))
    (at_is r.next (ap (λ (x : List ℕ). x ++ rest) e ∙ append_assoc (enc_text row (take (byte_length row) (drop m bytes))) (enc_texts (drop (suc k) rows) (drop (byte_length row) (drop m bytes))) rest))

fails_on : (s : List ℕ) (p : Step) (k : ℕ) → (after_texts s p k).next.fault ≡ 4 → (after_texts s p (suc k)).next.fault ≡ 4
unfolding after_texts
fails_on s p k e = text_stuck s (after_texts s p k).total (after_texts s p k).next 3 e

along_step : (s : List ℕ) (p : Step) (rows : List (List ℕ)) (bytes rest : List ℕ) (k : ℕ)
    → length (get_or rows k []) ≡ 3 → length bytes ≡ lengths rows → k < length rows → byte_start (get_or rows k []) ≡ lengths (take k rows)
    → Along s p rows bytes rest k → Along s p rows bytes rest (suc k)
along_step s p rows bytes rest k wide long lt start (read r h) = go (leb (lengths (take k rows) + byte_length (get_or rows k [])) 65536) refl
  where
    go : (b : Bool) → leb (lengths (take k rows) + byte_length (get_or rows k [])) 65536 ≡ b → Along s p rows bytes rest (suc k)
    go true e =
        let q = leb-true (lengths (take k rows) + byte_length (get_or rows k [])) 65536 e in
        read (texts_step s p rows bytes rest k wide long lt start q r) (omega (arith, q, lengths_suc rows k lt))
    go false e =
        let q = leb-false (lengths (take k rows) + byte_length (get_or rows k [])) 65536 e in
        failed (fails_at s p rows bytes rest k lt r q) (omega (arith, q, lengths_suc rows k lt))
along_step s p rows bytes rest k wide long lt start (failed e h) = failed (fails_on s p k e) (omega (arith, h, lengths_suc rows k lt))

along : (s : List ℕ) (p : Step) (rows : List (List ℕ)) (bytes rest : List ℕ)
    → ((i : ℕ) → i < length rows → length (get_or rows i []) ≡ 3) → Starts rows → length bytes ≡ lengths rows → At s p (enc_texts rows bytes ++ rest)
    → (k : ℕ) → k ≤ length rows → Along s p rows bytes rest k
unfolding lengths
along s p rows bytes rest wide starts long h zero l = read (texts_none_yet s p rows bytes rest h) (omega arith)
along s p rows bytes rest wide starts long h (suc k) l =
    let lt : k < length rows = omega arith in
    along_step s p rows bytes rest k (wide k lt) long lt (starts.start k lt) (along s p rows bytes rest wide starts long h k (omega arith))

-- what the writer says of the texts
texts_fault_is : (total : ℕ) (rows : List (List ℕ)) → ((i : ℕ) → i < length rows → byte_start (get_or rows i []) ≡ total + lengths (take i rows)) → total ≤ 65536
    → texts_fault total rows ≡ unless (leb (total + lengths rows) 65536) 4
unfolding texts_fault lengths
texts_fault_is total [] starts h = let e : total + 0 ≤ 65536 = omega arith in rw (le-leb (total + 0) 65536 e)
texts_fault_is total (x ∷ rows) starts h =
    let b : byte_start x ≡ total = starts 0 (omega arith) ∙ omega arith in
    rw (eq-eqb (byte_start x) total b)
    (go (leb (total + byte_length x) 65536) refl (λ q. texts_fault_is (total + byte_length x) rows (λ i l. starts (suc i) (omega arith) ∙ omega arith) q))
  where
    go : (b : Bool) → leb (total + byte_length x) 65536 ≡ b
        → (total + byte_length x ≤ 65536 → texts_fault (total + byte_length x) rows ≡ unless (leb (total + byte_length x + lengths rows) 65536) 4)
        → or_else (unless (leb (total + byte_length x) 65536) 4) (texts_fault (total + byte_length x) rows) ≡ unless (leb (total + (byte_length x + lengths rows)) 65536) 4
    go true e r =
        let a : total + byte_length x + lengths rows ≡ total + (byte_length x + lengths rows) = omega arith in
        rw (e, ← a) (r (leb-true (total + byte_length x) 65536 e))
    go false e r =
        let q : 65536 < total + (byte_length x + lengths rows) = omega (arith, leb-false (total + byte_length x) 65536 e) in
        rw (e, lt-leb (total + (byte_length x + lengths rows)) 65536 q)

-- a refusal of the texts is that of the file
texts_end : (s : List ℕ) (p : Step) (rows : List (List ℕ)) (bytes : List ℕ) → Starts rows → Along s p rows bytes [] (length rows)
    → (surplus s (after_texts s p (length rows)).next).fault ≡ texts_fault 0 rows
texts_end s p rows bytes starts (read r h) =
    let g : lengths (take (length rows) rows) ≡ lengths rows = ap lengths (take-length rows) in
    let q : 0 + lengths rows ≤ 65536 = omega arith in
    surplus_there s (after_texts s p (length rows)).next (at_is r.next (texts_none rows _ []))
    ∙ sym (texts_fault_is 0 rows (λ i l. starts.start i l ∙ omega arith) (omega arith) ∙ rw (le-leb (0 + lengths rows) 65536 q))
texts_end s p rows bytes starts (failed e h) =
    let g : lengths (take (length rows) rows) ≡ lengths rows = ap lengths (take-length rows) in
    let q : 65536 < 0 + lengths rows = omega arith in
    surplus_stuck s (after_texts s p (length rows)).next 3 e
    ∙ sym (texts_fault_is 0 rows (λ i l. starts.start i l ∙ omega arith) (omega arith) ∙ rw (lt-leb (0 + lengths rows) 65536 q))

-- ---- the whole

pub alike_at : (s : List ℕ) (t : Tables) → Sized t → header_fault (length t.nodes) (length t.edges) (length t.texts) t.annotations (length t.choices) ≡ 0
    → nodes_fault t.nodes ≡ 0 → Starts t.texts
    → s ≡ enc_header (length t.nodes) (length t.edges) (length t.texts) t.annotations (length t.choices) t.root t.space
    ++ (each enc_node t.nodes ++ (each enc32 t.edges ++ (each enc32 t.choices ++ enc_texts t.texts t.bytes)))
    → form_fault s ≡ texts_fault 0 t.texts
unfolding form_fault f_end f_texts f_choices f_edges f_nodes
alike_at s t z h q starts is =
    let he = header_there s (length t.nodes) (length t.edges) (length t.texts) t.annotations (length t.choices) t.root t.space _ (header_in _ _ _ _ _ h) is in
    let no = nodes_there s (header_at s).next t.nodes _ z.node_rows q he.next (length t.nodes) (omega arith) in
    let p₁ = after_nodes s (header_at s).next (length t.nodes) in
    let ed = numbers_there s p₁ t.edges _ (at_is no.next (each_none enc_node t.nodes _)) (length t.edges) (omega arith) in
    let p₂ = after_numbers s p₁ (length t.edges) in
    let ch = numbers_there s p₂ t.choices _ (at_is ed.next (each_none enc32 t.edges _)) (length t.choices) (omega arith) in
    let p₃ = after_numbers s p₂ (length t.choices) in
    let al = along s p₃ t.texts t.bytes [] z.text_rows starts z.bytes (at_is ch.next (each_none enc32 t.choices _ ∙ sym (append-nil _))) (length t.texts) (omega arith) in
    let e₁ : f_nodes s ≡ p₁ = ap (after_nodes s (header_at s).next) he.nodes in
    let e₂ : f_edges s ≡ p₂ = ap (λ (x : Step). after_numbers s x (header_at s).edges) e₁ ∙ ap (after_numbers s p₁) he.edges in
    let e₃ : f_choices s ≡ p₃ = ap (λ (x : Step). after_numbers s x (header_at s).choices) e₂ ∙ ap (after_numbers s p₂) he.choices in
    let e₄ : f_texts s ≡ after_texts s p₃ (length t.texts) = ap (λ (x : Step). after_texts s x (header_at s).texts) e₃ ∙ ap (after_texts s p₃) he.texts in
    ap (λ (x : Run). (surplus s x.next).fault) e₄ ∙ texts_end s p₃ t.texts t.bytes starts al

-- ---- tables that are right can be said

kind_below : (m k : ℕ) → pair_right m k ≡ true → k < 12
unfolding pair_right
kind_below m k e = ltb-true k 12 (both_true (ltb k 12) _ e).0

node_sayable : (row : List ℕ) → node_is_right row ≡ true → NodeSayable row
unfolding node_is_right
node_sayable row e =
    let b₁ = both_true (map_right (node_map row)) _ e in
    let b₂ = both_true (pair_right (node_map row) (kind row)) _ b₁.1 in
    let b₃ = both_true (leb (flat_mark row) 1) _ b₂.1 in
    record {
      kind_byte = omega (arith, kind_below (node_map row) (kind row) b₂.0);
      mark_bit = omega (arith, leb-true (flat_mark row) 1 b₃.0);
      unmarked = λ z. flat_absent (flat_word row) (marked row) b₃.1 (ap (λ (m : ℕ). eqb m 1) z);
    }

pub right_sayable : (t : Tables) → Sized t → tables_fault t ≡ 0 → Sayable t
right_sayable t z e =
    let r = tables_right t e in
    record {
      sized = z;
      nodes = λ i l. node_sayable (get_or t.nodes i []) (nodes_right_at t.nodes i r.nodes l);
      texts = record { start = λ i l. (texts_at 0 t.texts i r.texts l).0 ∙ omega arith };
    }
