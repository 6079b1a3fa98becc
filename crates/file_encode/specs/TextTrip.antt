-- The text records, both ways.
use Rattle.std.specs.Prelude.{◌≡◌, refl, Bool, true, false, List, [], ◌∷◌, ◌++◌, ℕ, zero, suc, ◌+◌, ◌-◌, ◌≤◌, ◌<◌, length, get_or, take, drop, eqb, leb}
use Rattle.std.proofs.Common.{sym, ap, ◌∙◌, append_assoc, append-nil, arith, length-append, length-drop, take-append-drop, drop-cons, take-suc, take_at, drop_at, take-add, drop-drop, length-take-le, take_all, eq-eqb, eqb-true, le-leb, leb-true}
use Rattle.std.proofs.lemmas.List.{take-append-le, drop-append-le}
use Rattle.std.proofs.lemmas.Bool.{eqb-false}
use Rattle.file_tables.specs.Tables.{width, byte_length, byte_start}
use Rattle.file_fields.specs.declared.Step.{Step}
use Rattle.file_fields.specs.Fields.{pick, got, refused, bit, byte_at, field_at}
use Rattle.file_form.specs.Texts.{totalled, span_at, t_map, t_width, t_length, t_end, text_row, text_part, after_texts, read_text_rows, text_bytes}
use Rattle.file_encode.specs.Encode.{present, map_of, enc_field, text_map, enc_text, enc_texts, lengths}
use Rattle.file_encode.specs.Faults.{or_else, unless, texts_fault}
use Rattle.file_encode.specs.Fields.{Bytes, Took, and_then, field_back, At, at_is, Read, byte_there, field_there, formed_there}
use Rattle.file_encode.specs.Maps.{at1, at2, flag_le, bit_is, whole2}
use Rattle.file_encode.specs.NodeTrip.{or_zero, or_is, unless_true, unless_is, wide_snoc}
use Rattle.file_encode.specs.HeaderTrip.{formed_byte}

-- ---- sums of lengths

pub lengths_snoc : (rows : List (List ℕ)) (row : List ℕ) → lengths (rows ++ (row ∷ [])) ≡ lengths rows + byte_length row
unfolding lengths
lengths_snoc [] row = omega arith
lengths_snoc (x ∷ rows) row = omega (arith, lengths_snoc rows row)

-- bytes past those of the texts do not matter
texts_more : (rows : List (List ℕ)) (bytes more : List ℕ) → lengths rows ≤ length bytes → enc_texts rows (bytes ++ more) ≡ enc_texts rows bytes
unfolding enc_texts lengths
texts_more [] bytes more h = refl
texts_more (row ∷ rows) bytes more h =
    let l : byte_length row ≤ length bytes = omega arith in
    let k : lengths rows ≤ length (drop (byte_length row) bytes) = simp length-drop (omega arith) in
    rw (take-append-le (byte_length row) bytes more l, drop-append-le (byte_length row) bytes more l, texts_more rows (drop (byte_length row) bytes) more k)

-- one text more, at the end
pub texts_snoc : (rows : List (List ℕ)) (row bytes : List ℕ)
    → enc_texts (rows ++ (row ∷ [])) bytes ≡ enc_texts rows bytes ++ enc_text row (take (byte_length row) (drop (lengths rows) bytes))
unfolding enc_texts lengths
texts_snoc [] row bytes = append-nil (enc_text row (take (byte_length row) bytes))
texts_snoc (x ∷ rows) row bytes =
    rw (texts_snoc rows row (drop (byte_length x) bytes), drop-drop (lengths rows) (byte_length x) bytes)
    (sym (append_assoc (enc_text x (take (byte_length x) bytes)) (enc_texts rows (drop (byte_length x) bytes)) (enc_text row (take (byte_length row) (drop (byte_length x + lengths rows) bytes)))))

-- ---- one record

totalled_back : (total : ℕ) (f : Step) → (totalled total f).fault ≡ 0 → (totalled total f ≡ f) × (total + f.value ≤ 65536)
unfolding totalled
totalled_back total f h = go (eqb f.fault 0) (leb (total + f.value) 65536) refl refl h
  where
    go : (a b : Bool) → eqb f.fault 0 ≡ a → leb (total + f.value) 65536 ≡ b
        → (pick a (pick b f (refused 4 f.at)) (refused f.fault f.at)).fault ≡ 0
        → (pick a (pick b f (refused 4 f.at)) (refused f.fault f.at) ≡ f) × (total + f.value ≤ 65536)
    go true true ea eb h = (refl, leb-true (total + f.value) 65536 eb)
    go true false ea eb h = absurd (omega arith)
    go false b ea eb h = absurd (eqb-false f.fault 0 ea h)

span_in_back : (s : List ℕ) (l : Step) → (span_at s l).fault ≡ 0 → (l.fault ≡ 0) × (l.at + l.value ≤ length s)
unfolding span_at
span_in_back s l h = go (eqb l.fault 0) (leb (l.at + l.value) (length s)) refl refl h
  where
    go : (a b : Bool) → eqb l.fault 0 ≡ a → leb (l.at + l.value) (length s) ≡ b
        → (pick a (pick b (got l.value (l.at + l.value)) (refused 2 l.at)) (refused l.fault l.at)).fault ≡ 0
        → (l.fault ≡ 0) × (l.at + l.value ≤ length s)
    go true true ea eb h = (eqb-true l.fault 0 ea, leb-true (l.at + l.value) (length s) eb)
    go true false ea eb h = absurd (omega arith)
    go false b ea eb h = absurd (eqb-false l.fault 0 ea h)

span_is : (s : List ℕ) (l : Step) → l.fault ≡ 0 → l.at + l.value ≤ length s → span_at s l ≡ got l.value (l.at + l.value)
unfolding span_at
span_is s l f h = rw (eq-eqb l.fault 0 f, le-leb (l.at + l.value) (length s) h)

span_took : (s : List ℕ) (l : Step) → l.fault ≡ 0 → l.at + l.value ≤ length s → Took s l (span_at s l) (take l.value (drop l.at s))
span_took s l f h =
    rw (span_is s l f h)
    (record { prior = f; bytes = sym (take-append-drop l.value (drop l.at s)) ∙ ap (λ (x : List ℕ). take l.value (drop l.at s) ++ x) (drop-drop l.value l.at s) })

-- an accepted record is the encoding of its row and its bytes
record TookText (s : List ℕ) (total : ℕ) (p : Step) : Type 0 where
  took : Took s p (t_end s total p) (enc_text (text_row s total p) (text_part s total p))
  limit : total + (t_end s total p).value ≤ 65536
  long : length (text_part s total p) ≡ (t_end s total p).value

text_back : (s : List ℕ) (total : ℕ) (p : Step) → Bytes s → (t_end s total p).fault ≡ 0 → TookText s total p
unfolding t_map t_width t_length t_end text_row text_part enc_text text_map span_at
text_back s total p z h =
    let m = (t_map s total p).value in
    let sp = span_in_back s (t_length s total p) h in
    let te = totalled_back total (field_at s (bit m 2) (t_width s total p)) sp.0 in
    let f₂ = field_back s (bit m 2) (t_width s total p) z (rw te.0 at sp.0) in
    let f₁ = field_back s (bit m 1) (t_map s total p) z f₂.took.prior in
    let b = formed_byte s 3 p f₁.took.prior in
    let t₂ : Took s (t_width s total p) (t_length s total p) (enc_field (t_length s total p).value) = rw te.0 f₂.took in
    let x₂ : bit m 2 ≡ present (t_length s total p).value = rw te.0 f₂.shown in
    let le : total + (t_length s total p).value ≤ 65536 = rw te.0 te.1 in
    let ev : (t_end s total p).value ≡ (t_length s total p).value = ap (λ (q : Step). q.value) (span_is s (t_length s total p) sp.0 sp.1) in
    let e : map_of (present (t_width s total p).value ∷ present (t_length s total p).value ∷ []) ≡ m = rw (← f₁.shown, ← x₂) (whole2 m b.1) in
    let k : length (take (t_length s total p).value (drop (t_length s total p).at s)) ≡ (t_length s total p).value =
    length-take-le (t_length s total p).value (drop (t_length s total p).at s) (simp length-drop (omega (arith, sp.1))) in
    record {
      took = rw (ev, e) (and_then b.0 (and_then f₁.took (and_then t₂ (span_took s (t_length s total p) sp.0 sp.1))));
      limit = rw ev le;
      long = rw ev k;
    }

-- the record at p is the row and the part, and the rest follows
record ReadText (s : List ℕ) (total : ℕ) (p : Step) (row part rest : List ℕ) : Type 0 where
  row_is : text_row s total p ≡ row
  part_is : text_part s total p ≡ part
  value : (t_end s total p).value ≡ byte_length row
  next : At s (t_end s total p) rest

row3 : (row : List ℕ) → length row ≡ 3 → width row ∷ byte_length row ∷ byte_start row ∷ [] ≡ row
row3 [] e = absurd (omega arith)
row3 (a ∷ []) e = absurd (omega arith)
row3 (a ∷ b ∷ []) e = absurd (omega arith)
row3 (a ∷ b ∷ c ∷ []) e = refl
row3 (a ∷ b ∷ c ∷ d ∷ r) e = absurd (omega arith)

three : (a b c a' b' c' : ℕ) → a ≡ a' → b ≡ b' → c ≡ c' → a ∷ b ∷ c ∷ [] ≡ a' ∷ b' ∷ c' ∷ []
three a b c a' b' c' p q r = rw (p, q, r)

pub regroup : (a b c rest : List ℕ) → (a ++ (b ++ c)) ++ rest ≡ a ++ (b ++ (c ++ rest))
regroup a b c rest = simp append_assoc

pub map_high : (a b : Bool) → map_of (a ∷ b ∷ []) ≤ 3
unfolding map_of
map_high a b = omega (arith, flag_le a, flag_le b)

totalled_there : (s : List ℕ) (total : ℕ) (f : Step) (v : ℕ) (rest : List ℕ) → total + v ≤ 65536 → Read s f v rest → Read s (totalled total f) v rest
unfolding totalled
totalled_there s total f v rest h r =
    let m : total + f.value ≤ 65536 = rw r.value h in
    rw (eq-eqb f.fault 0 r.next.fine, le-leb (total + f.value) 65536 m) r

-- the bytes of a text are there
record ReadSpan (s : List ℕ) (l : Step) (part rest : List ℕ) : Type 0 where
  part_is : take (span_at s l).value (drop l.at s) ≡ part
  value : (span_at s l).value ≡ l.value
  next : At s (span_at s l) rest

span_there : (s : List ℕ) (l : Step) (part rest : List ℕ) → length part ≡ l.value → At s l (part ++ rest) → ReadSpan s l part rest
span_there s l part rest e h =
    let n : length s - l.at ≡ length part + length rest = sym (length-drop l.at s) ∙ ap length h.left ∙ length-append part rest in
    let k : l.at + l.value ≤ length s = omega (arith, h.inside) in
    let g = span_is s l h.fine k in
    let d : At s (got l.value (l.at + l.value)) rest =
    record { fine = refl; inside = k; left = sym (drop-drop l.value l.at s) ∙ rw h.left (drop_at part rest l.value e) } in
    record { part_is = rw (g, h.left) (take_at part rest l.value e); value = ap (λ (q : Step). q.value) g; next = rw g d }

text_there : (s : List ℕ) (total : ℕ) (p : Step) (row part rest : List ℕ) → length row ≡ 3 → byte_start row ≡ total → total + byte_length row ≤ 65536
    → length part ≡ byte_length row → At s p (enc_text row part ++ rest) → ReadText s total p row part rest
unfolding t_map t_width t_length t_end text_row text_part enc_text text_map
text_there s total p row part rest wide start limit long h =
    let a = present (width row) in
    let b = present (byte_length row) in
    let o = (t_map s total p).value in
    let m = formed_there s 3 (byte_at s p) (text_map row) _ (map_high a b) (byte_there s p (text_map row) _ h) in
    let l = at_is m.next (regroup (enc_field (width row)) (enc_field (byte_length row)) part rest) in
    let x₁ : bit o 1 ≡ a = rw m.value (bit_is (text_map row) 1 a (at1 a (b ∷ []))) in
    let x₂ : bit o 2 ≡ b = rw m.value (bit_is (text_map row) 2 b (at2 a b [])) in
    let f₁ = field_there s (bit o 1) (t_map s total p) (width row) _ x₁ l in
    let f₂ = field_there s (bit o 2) (t_width s total p) (byte_length row) (part ++ rest) x₂ f₁.next in
    let t = totalled_there s total (field_at s (bit o 2) (t_width s total p)) (byte_length row) (part ++ rest) limit f₂ in
    let q = span_there s (t_length s total p) part rest (long ∙ sym t.value) t.next in
    let v : (t_end s total p).value ≡ byte_length row = q.value ∙ t.value in
    record {
      row_is = three (t_width s total p).value (t_end s total p).value total (width row) (byte_length row) (byte_start row) f₁.value v (sym start) ∙ row3 row wide;
      part_is = q.part_is;
      value = v;
      next = q.next;
    }

-- ---- runs of records

-- an accepted run of records is the encoding of its rows and bytes, which are right
pub record TookTexts (s : List ℕ) (p : Step) (k : ℕ) : Type 0 where
  pub took : Took s p (after_texts s p k).next (enc_texts (read_text_rows s p k) (text_bytes s p k))
  pub right : texts_fault 0 (read_text_rows s p k) ≡ 0
  pub count : length (read_text_rows s p k) ≡ k
  pub wide : (i : ℕ) → i < k → length (get_or (read_text_rows s p k) i []) ≡ 3
  pub long : length (text_bytes s p k) ≡ (after_texts s p k).total
  pub total : lengths (read_text_rows s p k) ≡ (after_texts s p k).total

texts_right_snoc : (total : ℕ) (rows : List (List ℕ)) (row : List ℕ) → texts_fault total rows ≡ 0 → byte_start row ≡ total + lengths rows
    → total + lengths rows + byte_length row ≤ 65536 → texts_fault total (rows ++ (row ∷ [])) ≡ 0
unfolding texts_fault lengths
texts_right_snoc total [] row e b l =
    let z : byte_start row ≡ total = omega arith in
    let k : total + byte_length row ≤ 65536 = omega arith in
    or_is _ _ (unless_is (eqb (byte_start row) total) 3 (eq-eqb (byte_start row) total z)) (or_is _ 0 (unless_is (leb (total + byte_length row) 65536) 4 (le-leb (total + byte_length row) 65536 k)) refl)
texts_right_snoc total (x ∷ rows) row e b l =
    let o = or_zero (unless (eqb (byte_start x) total) 3) (or_else (unless (leb (total + byte_length x) 65536) 4) (texts_fault (total + byte_length x) rows)) e in
    let q = or_zero (unless (leb (total + byte_length x) 65536) 4) (texts_fault (total + byte_length x) rows) o.1 in
    or_is _ _ o.0 (or_is _ _ q.0 (texts_right_snoc (total + byte_length x) rows row q.1 (omega arith) (omega arith)))

-- a text's row is its width, the length of its part, and the running total
row_facts : (s : List ℕ) (total : ℕ) (p : Step) → (length (text_row s total p) ≡ 3) × ((byte_length (text_row s total p) ≡ (t_end s total p).value) × (byte_start (text_row s total p) ≡ total))
unfolding text_row
row_facts s total p = (refl, (refl, refl))

start : (s : List ℕ) (p : Step) → p.fault ≡ 0 → TookTexts s p zero
unfolding after_texts read_text_rows text_bytes enc_texts texts_fault lengths
start s p h = record { took = record { prior = h; bytes = refl }; right = refl; count = refl; wide = λ i l. absurd (omega arith); long = refl; total = refl }

pub texts_back : (s : List ℕ) (p : Step) (k : ℕ) → Bytes s → (after_texts s p k).next.fault ≡ 0 → TookTexts s p k
unfolding after_texts read_text_rows text_bytes
texts_back s p zero z h = start s p h
texts_back s p (suc k) z h =
    let a = after_texts s p k in
    let n = text_back s a.total a.next z h in
    let r = texts_back s p k z n.took.prior in
    let row = text_row s a.total a.next in
    let part = text_part s a.total a.next in
    let f = row_facts s a.total a.next in
    let bl : byte_length row ≡ (t_end s a.total a.next).value = f.1.0 in
    let e₁ : enc_texts (read_text_rows s p k) (text_bytes s p k ++ part) ≡ enc_texts (read_text_rows s p k) (text_bytes s p k) = texts_more (read_text_rows s p k) (text_bytes s p k) part (omega (arith, r.long, r.total)) in
    let e₂ : drop (lengths (read_text_rows s p k)) (text_bytes s p k ++ part) ≡ part = drop_at (text_bytes s p k) part (lengths (read_text_rows s p k)) (r.long ∙ sym r.total) in
    let e₃ : take (byte_length row) part ≡ part = take_all (byte_length row) part (omega (arith, n.long, bl)) in
    let e : enc_texts (read_text_rows s p k ++ (row ∷ [])) (text_bytes s p k ++ part) ≡ enc_texts (read_text_rows s p k) (text_bytes s p k) ++ enc_text row part =
    texts_snoc (read_text_rows s p k) row (text_bytes s p k ++ part) ∙ rw (e₁, e₂, e₃) in
    record {
      took = rw e (and_then r.took n.took);
      right = texts_right_snoc 0 (read_text_rows s p k) row r.right (omega (arith, f.1.1, r.total)) (omega (arith, r.total, n.limit, bl));
      count = length-append (read_text_rows s p k) (row ∷ []) ∙ omega (arith, r.count);
      wide = wide_snoc 3 (read_text_rows s p k) row k r.count f.0 r.wide;
      long = length-append (text_bytes s p k) part ∙ omega (arith, r.long, n.long);
      total = lengths_snoc (read_text_rows s p k) row ∙ omega (arith, r.total, bl);
    }

text_first : (total : ℕ) (x : List ℕ) (rows : List (List ℕ)) → texts_fault total (x ∷ rows) ≡ 0
    → (byte_start x ≡ total) × ((total + byte_length x ≤ 65536) × (texts_fault (total + byte_length x) rows ≡ 0))
unfolding texts_fault
text_first total x rows e =
    let o = or_zero (unless (eqb (byte_start x) total) 3) (or_else (unless (leb (total + byte_length x) 65536) 4) (texts_fault (total + byte_length x) rows)) e in
    let q = or_zero (unless (leb (total + byte_length x) 65536) 4) (texts_fault (total + byte_length x) rows) o.1 in (
      eqb-true (byte_start x) total (unless_true (eqb (byte_start x) total) 2 o.0),
      (leb-true (total + byte_length x) 65536 (unless_true (leb (total + byte_length x) 65536) 3 q.0), q.1),
    )

pub texts_at : (total : ℕ) (rows : List (List ℕ)) (k : ℕ) → texts_fault total rows ≡ 0 → k < length rows
    → (byte_start (get_or rows k []) ≡ total + lengths (take k rows)) × (total + lengths (take k rows) + byte_length (get_or rows k []) ≤ 65536)
unfolding lengths
texts_at total [] k e h = absurd (omega arith)
texts_at total (x ∷ rows) zero e h = let f = text_first total x rows e in (omega (arith, f.0), omega (arith, f.1.0))
texts_at total (x ∷ rows) (suc k) e h =
    let r = texts_at (total + byte_length x) rows k (text_first total x rows e).1.1 (omega arith) in
    (omega (arith, r.0), omega (arith, r.1))

pub lengths_within : (rows : List (List ℕ)) (k : ℕ) → k < length rows → lengths (take k rows) + byte_length (get_or rows k []) ≤ lengths rows
unfolding lengths
lengths_within [] k h = absurd (omega arith)
lengths_within (x ∷ rows) zero h = omega arith
lengths_within (x ∷ rows) (suc k) h = omega (arith, lengths_within rows k (omega arith))

pub lengths_suc : (rows : List (List ℕ)) (k : ℕ) → k < length rows → lengths (take (suc k) rows) ≡ lengths (take k rows) + byte_length (get_or rows k [])
lengths_suc rows k h = ap lengths (take-suc rows k [] h) ∙ lengths_snoc (take k rows) (get_or rows k [])

pub texts_cons : (row : List ℕ) (rows : List (List ℕ)) (bytes : List ℕ)
    → enc_texts (row ∷ rows) bytes ≡ enc_text row (take (byte_length row) bytes) ++ enc_texts rows (drop (byte_length row) bytes)
unfolding enc_texts
texts_cons row rows bytes = refl

-- the first k of the texts are read back, and the others follow
pub record ReadTexts (s : List ℕ) (p : Step) (rows : List (List ℕ)) (bytes rest : List ℕ) (k : ℕ) : Type 0 where
  pub next : At s (after_texts s p k).next (enc_texts (drop k rows) (drop (lengths (take k rows)) bytes) ++ rest)
  pub total : (after_texts s p k).total ≡ lengths (take k rows)
  pub rows_are : read_text_rows s p k ≡ take k rows
  pub bytes_are : text_bytes s p k ≡ take (lengths (take k rows)) bytes

-- one text more is read back
pub texts_step : (s : List ℕ) (p : Step) (rows : List (List ℕ)) (bytes rest : List ℕ) (k : ℕ)
    → length (get_or rows k []) ≡ 3 → length bytes ≡ lengths rows → k < length rows
    → byte_start (get_or rows k []) ≡ lengths (take k rows) → lengths (take k rows) + byte_length (get_or rows k []) ≤ 65536
    → ReadTexts s p rows bytes rest k → ReadTexts s p rows bytes rest (suc k)
unfolding after_texts read_text_rows text_bytes
texts_step s p rows bytes rest k wide long lt start limit r =
    let a = after_texts s p k in
    let row = get_or rows k [] in
    let m = lengths (take k rows) in
    let n = byte_length row in
    let w = lengths_within rows k lt in
    let part = take n (drop m bytes) in
    let g : length part ≡ n = length-take-le n (drop m bytes) (simp length-drop (omega arith)) in
    let e : enc_texts (drop k rows) (drop m bytes) ≡ enc_text row part ++ enc_texts (drop (suc k) rows) (drop (m + n) bytes) =
    ap (λ (x : List (List ℕ)). enc_texts x (drop m bytes)) (drop-cons rows k [] lt) ∙ texts_cons row (drop (suc k) rows) (drop m bytes)
    ∙ ap (λ (x : List ℕ). enc_text row part ++ enc_texts (drop (suc k) rows) x) (drop-drop n m bytes) in
    let t = text_there s a.total a.next row part (enc_texts (drop (suc k) rows) (drop (m + n) bytes) ++ rest) wide (omega (arith, start, r.total)) (omega (arith, limit, r.total)) g
    (at_is r.next (ap (λ (x : List ℕ). x ++ rest) e ∙ append_assoc (enc_text row part) (enc_texts (drop (suc k) rows) (drop (m + n) bytes)) rest)) in
    let q : lengths (take (suc k) rows) ≡ m + n = lengths_suc rows k lt in
    record {
      next = at_is t.next (ap (λ (x : ℕ). enc_texts (drop (suc k) rows) (drop x bytes) ++ rest) (sym q));
      total = omega (arith, r.total, t.value, q);
      rows_are = rw (r.rows_are, t.row_is) (sym (take-suc rows k [] lt));
      bytes_are = rw (r.bytes_are, t.part_is) (sym (take-add m n bytes)) ∙ ap (λ (x : ℕ). take x bytes) (sym q);
    }

pub texts_none_yet : (s : List ℕ) (p : Step) (rows : List (List ℕ)) (bytes rest : List ℕ) → At s p (enc_texts rows bytes ++ rest) → ReadTexts s p rows bytes rest zero
unfolding after_texts read_text_rows text_bytes lengths
texts_none_yet s p rows bytes rest h = record { next = h; total = refl; rows_are = refl; bytes_are = refl }

pub texts_there : (s : List ℕ) (p : Step) (rows : List (List ℕ)) (bytes rest : List ℕ)
    → ((i : ℕ) → i < length rows → length (get_or rows i []) ≡ 3) → texts_fault 0 rows ≡ 0 → length bytes ≡ lengths rows → At s p (enc_texts rows bytes ++ rest)
    → (k : ℕ) → k ≤ length rows → ReadTexts s p rows bytes rest k
texts_there s p rows bytes rest wide right long h zero l = texts_none_yet s p rows bytes rest h
texts_there s p rows bytes rest wide right long h (suc k) l =
    let lt : k < length rows = omega arith in
    let f = texts_at 0 rows k right lt in
    texts_step s p rows bytes rest k (wide k lt) long lt (omega (arith, f.0)) (omega (arith, f.1)) (texts_there s p rows bytes rest wide right long h k (omega arith))

pub texts_total : (total : ℕ) (rows : List (List ℕ)) → total ≤ 65536 → texts_fault total rows ≡ 0 → total + lengths rows ≤ 65536
unfolding lengths
texts_total total [] h e = omega arith
texts_total total (x ∷ rows) h e =
    let f = text_first total x rows e in
    omega (arith, texts_total (total + byte_length x) rows f.1.0 f.1.1)
