-- Tables that bytes can say are said in bytes: every byte of their encoding is below 256.
use Rattle.std.specs.Prelude.{Bool, true, false, List, [], ◌∷◌, ◌++◌, ℕ, zero, suc, ◌≤◌, ◌<◌, length, get_or, take, drop}
use Rattle.std.proofs.Common.{arith}
use Rattle.file_tables.specs.Tables.{Tables, kind, first, second, flat_word, choice_start, choice_length, skipped, width, byte_length}
use Rattle.file_encode.specs.Encode.{present, marked, map_of, enc32, enc_if, enc_field, header_map, enc_header, node_map, enc_node, text_map, enc_text, enc_texts, each, encode}
use Rattle.file_encode.specs.Sayable.{Sayable, Ranged}
use Rattle.file_encode.specs.Fields.{Bytes}
use Rattle.file_encode.specs.Maps.{flag_le}
use Rattle.file_encode.specs.HeaderTrip.{map_high}
use Rattle.file_encode.specs.TextTrip.{map_high as map_high2}

-- ---- bytes one after the other

none : Bytes []
none = record { byte = λ i. omega arith }

cons : {a : ℕ} {s : List ℕ} → a < 256 → Bytes s → Bytes (a ∷ s)
cons {a} {s} h z = record { byte = go }
  where
    go : (i : ℕ) → get_or (a ∷ s) i 0 < 256
    go zero = h
    go (suc i) = z.byte i

rest : {a : ℕ} {s : List ℕ} → Bytes (a ∷ s) → Bytes s
rest z = record { byte = λ i. z.byte (suc i) }

join : (a : List ℕ) {b : List ℕ} → Bytes a → Bytes b → Bytes (a ++ b)
join [] y z = z
join (x ∷ a) y z = cons (y.byte 0) (join a (rest y) z)

taken : (n : ℕ) (s : List ℕ) → Bytes s → Bytes (take n s)
taken zero s z = none
taken (suc n) [] z = none
taken (suc n) (x ∷ s) z = cons (z.byte 0) (taken n s (rest z))

dropped : (n : ℕ) (s : List ℕ) → Bytes s → Bytes (drop n s)
dropped zero s z = z
dropped (suc n) [] z = none
dropped (suc n) (x ∷ s) z = dropped n s (rest z)

-- ---- records

word_bytes : (v : ℕ) → v < 4294967296 → Bytes (enc32 v)
word_bytes v h = cons (omega arith) (cons (omega arith) (cons (omega arith) (cons (omega arith) none)))

if_bytes : (on : Bool) (v : ℕ) → v < 4294967296 → Bytes (enc_if on v)
if_bytes true v h = word_bytes v h
if_bytes false v h = none

field_bytes : (v : ℕ) → v < 4294967296 → Bytes (enc_field v)
field_bytes v h = if_bytes (present v) v h

header_bytes : (n e x a c r w : ℕ)
    → n < 4294967296 → e < 4294967296 → x < 4294967296 → a < 4294967296 → c < 4294967296 → r < 4294967296 → w < 4294967296 → Bytes (enc_header n e x a c r w)
unfolding enc_header header_map
header_bytes n e x a c r w hn he hx ha hc hr hw =
    cons (omega (arith, map_high (present n) (present e) (present x) (present a) (present c) (present r) (present w)))
    (join (enc_field n) (field_bytes n hn)
    (join (enc_field e) (field_bytes e he)
    (join (enc_field x) (field_bytes x hx)
    (join (enc_field a) (field_bytes a ha) (join (enc_field c) (field_bytes c hc) (join (enc_field r) (field_bytes r hr) (field_bytes w hw)))))))

map_high6 : (a b c d e f : Bool) → map_of (a ∷ b ∷ c ∷ d ∷ e ∷ f ∷ []) ≤ 63
unfolding map_of
map_high6 a b c d e f = omega (arith, flag_le a, flag_le b, flag_le c, flag_le d, flag_le e, flag_le f)

node_bytes : (row : List ℕ) → kind row < 256 → ((k : ℕ) → get_or row k 0 < 4294967296) → Bytes (enc_node row)
unfolding enc_node node_map
node_bytes row h w =
    cons (omega (arith, map_high6 (present (first row)) (present (second row)) (marked row) (present (choice_start row)) (present (choice_length row)) (present (skipped row))))
    (cons h
    (join (enc_field (first row)) (field_bytes (first row) (w 1))
    (join (enc_field (second row)) (field_bytes (second row) (w 2))
    (join (enc_if (marked row) (flat_word row)) (if_bytes (marked row) (flat_word row) (w 4))
    (join (enc_field (choice_start row)) (field_bytes (choice_start row) (w 5))
    (join (enc_field (choice_length row)) (field_bytes (choice_length row) (w 6)) (field_bytes (skipped row) (w 7))))))))

text_bytes : (row part : List ℕ) → ((k : ℕ) → get_or row k 0 < 4294967296) → Bytes part → Bytes (enc_text row part)
unfolding enc_text text_map
text_bytes row part w z =
    cons (omega (arith, map_high2 (present (width row)) (present (byte_length row))))
    (join (enc_field (width row)) (field_bytes (width row) (w 0)) (join (enc_field (byte_length row)) (field_bytes (byte_length row) (w 1)) z))

-- ---- runs of records

nodes_bytes : (rows : List (List ℕ)) → ((i : ℕ) → i < length rows → kind (get_or rows i []) < 256) → ((i k : ℕ) → get_or (get_or rows i []) k 0 < 4294967296) → Bytes (each enc_node rows)
unfolding each
nodes_bytes [] h w = none
nodes_bytes (row ∷ rows) h w = join (enc_node row) (node_bytes row (h 0 (omega arith)) (w 0)) (nodes_bytes rows (λ i l. h (suc i) (omega arith)) (λ i. w (suc i)))

numbers_bytes : (xs : List ℕ) → ((i : ℕ) → get_or xs i 0 < 4294967296) → Bytes (each enc32 xs)
unfolding each
numbers_bytes [] w = none
numbers_bytes (x ∷ xs) w = join (enc32 x) (word_bytes x (w 0)) (numbers_bytes xs (λ i. w (suc i)))

texts_bytes : (rows : List (List ℕ)) (bytes : List ℕ) → ((i k : ℕ) → get_or (get_or rows i []) k 0 < 4294967296) → Bytes bytes → Bytes (enc_texts rows bytes)
unfolding enc_texts
texts_bytes [] bytes w z = none
texts_bytes (row ∷ rows) bytes w z =
    join (enc_text row (take (byte_length row) bytes)) (text_bytes row (take (byte_length row) bytes) (w 0) (taken (byte_length row) bytes z))
    (texts_bytes rows (drop (byte_length row) bytes) (λ i. w (suc i)) (dropped (byte_length row) bytes z))

pub in_bytes : (t : Tables) → Sayable t → Ranged t → Bytes (encode t)
unfolding encode
in_bytes t y r =
    join _ (header_bytes _ _ _ _ _ _ _ r.node_count r.edge_count r.text_count r.annotations r.choice_count r.root r.space)
    (join (each enc_node t.nodes) (nodes_bytes t.nodes (λ i l. (y.nodes i l).kind_byte) r.nodes)
    (join (each enc32 t.edges) (numbers_bytes t.edges r.edges)
    (join (each enc32 t.choices) (numbers_bytes t.choices r.choices) (texts_bytes t.texts t.bytes r.texts (record { byte = r.bytes })))))
