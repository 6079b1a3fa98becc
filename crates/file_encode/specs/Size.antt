-- How long the file of right tables can be: 339,997 bytes at most.
use Rattle.std.specs.Prelude.{◌≡◌, Bool, true, false, List, [], ◌∷◌, ◌++◌, ℕ, ◌+◌, ◌*◌, ◌≤◌, length, take, drop}
use Rattle.std.proofs.Common.{sym, ap, ◌∙◌, arith, length-append, take-append-drop}
use Rattle.file_tables.specs.Tables.{Tables, first, second, flat_word, choice_start, choice_length, skipped, width, byte_length}
use Rattle.file_encode.specs.Encode.{present, marked, enc32, enc_if, enc_field, enc_header, enc_node, enc_text, enc_texts, each, encode, Sized}
use Rattle.file_encode.specs.Faults.{tables_fault}
use Rattle.file_encode.specs.TextTrip.{texts_total}
use Rattle.file_encode.specs.Trips.{tables_right}

-- at most m bytes
record Long (a : List ℕ) (m : ℕ) : Type 0 where
  is : length a ≤ m

joined : {a b : List ℕ} {m n : ℕ} → Long a m → Long b n → Long (a ++ b) (m + n)
joined {a} {b} h k = record { is = omega (arith, length-append a b, h.is, k.is) }

if_long : (on : Bool) (v : ℕ) → Long (enc_if on v) 4
if_long true v = record { is = omega arith }
if_long false v = record { is = omega arith }

field_long : (v : ℕ) → Long (enc_field v) 4
field_long v = if_long (present v) v

header_long : (n e x a c r w : ℕ) → Long (enc_header n e x a c r w) 29
unfolding enc_header
header_long n e x a c r w =
    let h = joined (field_long n) (joined (field_long e) (joined (field_long x) (joined (field_long a) (joined (field_long c) (joined (field_long r) (field_long w)))))) in
    record { is = omega (arith, h.is) }

node_long : (row : List ℕ) → Long (enc_node row) 26
unfolding enc_node
node_long row =
    let h = joined (field_long (first row)) (joined (field_long (second row)) (joined (if_long (marked row) (flat_word row)) (joined (field_long (choice_start row)) (joined (field_long (choice_length row)) (field_long (skipped row)))))) in
    record { is = omega (arith, h.is) }

text_long : (row part : List ℕ) → Long (enc_text row part) (9 + length part)
unfolding enc_text
text_long row part =
    let p : Long part (length part) = record { is = omega arith } in
    let h = joined (field_long (width row)) (joined (field_long (byte_length row)) p) in
    record { is = omega (arith, h.is) }

nodes_long : (rows : List (List ℕ)) → length (each enc_node rows) ≤ 26 * length rows
unfolding each
nodes_long [] = omega arith
nodes_long (row ∷ rows) = omega (arith, length-append (enc_node row) (each enc_node rows), (node_long row).is, nodes_long rows)

numbers_long : (xs : List ℕ) → length (each enc32 xs) ≤ 4 * length xs
unfolding each
numbers_long [] = omega arith
numbers_long (x ∷ xs) = omega (arith, numbers_long xs)

texts_long : (rows : List (List ℕ)) (bytes : List ℕ) → length (enc_texts rows bytes) ≤ 9 * length rows + length bytes
unfolding enc_texts
texts_long [] bytes = omega arith
texts_long (row ∷ rows) bytes =
    let n = byte_length row in
    let e : length bytes ≡ length (take n bytes) + length (drop n bytes) = ap length (sym (take-append-drop n bytes)) ∙ length-append (take n bytes) (drop n bytes) in
    omega (arith, length-append (enc_text row (take n bytes)) (enc_texts rows (drop n bytes)), (text_long row (take n bytes)).is, texts_long rows (drop n bytes), e)

pub file_most : (t : Tables) → Sized t → tables_fault t ≡ 0 → length (encode t) ≤ 339997
unfolding encode
file_most t z e =
    let r = tables_right t e in
    let w = r.within in
    let k = texts_total 0 t.texts (omega arith) r.texts in
    let h₁ = header_long (length t.nodes) (length t.edges) (length t.texts) t.annotations (length t.choices) t.root t.space in
    let h₂ : Long (each enc_node t.nodes) 106496 = record { is = omega (arith, nodes_long t.nodes, w.nodes_high) } in
    let h₃ : Long (each enc32 t.edges) 65536 = record { is = omega (arith, numbers_long t.edges, w.edges_high) } in
    let h₄ : Long (each enc32 t.choices) 65536 = record { is = omega (arith, numbers_long t.choices, w.choices_high) } in
    let h₅ : Long (enc_texts t.texts t.bytes) 102400 = record { is = omega (arith, texts_long t.texts t.bytes, w.texts_high, k, z.bytes) } in
    (joined h₁ (joined h₂ (joined h₃ (joined h₄ h₅)))).is
