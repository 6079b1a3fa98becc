-- Laws for this crate's functions: bytes that are put one after the other.
use mathlib.Core.Path.{◌≡◌, refl, sym, ap, ◌∙◌}
use mathlib.Core.List.{List, [], ◌∷◌, ◌++◌}
use Prim.Native.Nat.{ℕ, suc, ◌+◌, ◌-◌, ◌*◌, ◌≤◌, ◌<◌}
use native.Mathlib.Omega.{arith}
use native.Mathlib.Numerals.{add-one}
use lib.ListN.{length, get_or, take, drop, set, length-append, length-drop}
use lib.Seq.{take-suc, take_all, length-take-le, sets}
use lib.Dec.{ltb}
use borrow.Author.Tests.{ltb-true}
use Rattle.file_tables.specs.Tables.{kind, first, second, flat_word, choice_start, choice_length, skipped, width, byte_length, tables}
use Rattle.file_encode.specs.Encode.{marked, node_map, text_map, header_map, enc32, enc_if, enc_field, enc_header, enc_node, enc_text, enc_texts, each, lengths, encode}
use Rattle.file_encode.specs.Faults.{node_is_right, nodes_fault}
use Rattle.std.specs.List.{sum_by}
use Rattle.std.proofs.lemmas.List.Recursion.{is_sum_by}
use Rattle.file_put.specs.Put.{Put}
use Rattle.file_encode.specs.Trips.{Right}
use Rattle.file_encode.specs.TextTrip.{texts_total}
use Rattle.file_form.specs.Kinds.{map_right, pair_right}
use Rattle.file_encode.specs.Maps.{both_true}
use Rattle.file_encode.specs.NodeTrip.{each_snoc, nodes_right_at}
use Rattle.file_encode.specs.TextTrip.{texts_snoc, lengths_suc}

-- ---- bytes put one after the other

pub sets_append : (l a b : List ℕ) (i j : ℕ) → j ≡ i + length a → sets (sets l i a) j b ≡ sets l i (a ++ b)
sets_append l [] b i j e = let e' : j ≡ i = omega arith in rw e'
sets_append l (x ∷ a) b i j e = sets_append (set l i x) a b (suc i) j (omega arith)

-- one part of a file after another
pub and_then : {o o₁ o₂ a b : List ℕ} {i j k : ℕ} → Put o o₁ i j a → Put o₁ o₂ j k b → Put o o₂ i k (a ++ b)
and_then {o = o} {a = a} {b = b} {i = i} {j = j} p q =
    record {
      bytes = q.bytes ∙ rw p.bytes (sets_append o a b i j p.next);
      next = omega (arith, p.next, q.next, length-append a b);
    }

-- nothing, one byte
pub none : (o : List ℕ) (i : ℕ) → Put o o i i []
none o i = record { bytes = refl; next = omega arith }

pub one : (o o₁ : List ℕ) (i a : ℕ) → o₁ ≡ set o i a → Put o o₁ i (i + 1) (a ∷ [])
one o o₁ i a p = record { bytes = p; next = omega arith }

-- a node's bytes: two bytes, then six fields
pub node_put : (row : List ℕ) (o o₁ o₂ : List ℕ) (at m : ℕ) {o₃ o₄ o₅ o₆ o₇ o₈ : List ℕ} {a b c d e r : ℕ}
    → m ≡ node_map row
    → o₁ ≡ set o at m
    → o₂ ≡ set o₁ (at + 1) (kind row)
    → Put o₂ o₃ (at + 2) a (enc_field (first row)) × (a ≤ at + 2 + 4)
    → Put o₃ o₄ a b (enc_field (second row)) × (b ≤ a + 4)
    → Put o₄ o₅ b c (enc_if (marked row) (flat_word row)) × (c ≤ b + 4)
    → Put o₅ o₆ c d (enc_field (choice_start row)) × (d ≤ c + 4)
    → Put o₆ o₇ d e (enc_field (choice_length row)) × (e ≤ d + 4)
    → Put o₇ o₈ e r (enc_field (skipped row)) × (r ≤ e + 4)
    → Put o o₈ at r (enc_node row) × (r ≤ at + 26)
unfolding enc_node
node_put row o o₁ o₂ at m em p q f₁ f₂ f₃ f₄ f₅ f₆ =
    let two : Put o o₂ at (at + 2) (node_map row ∷ kind row ∷ []) =
    rw (← em) (record { bytes = q ∙ rw (p, add-one at); next = omega arith }) in (
      and_then two (and_then f₁.0 (and_then f₂.0 (and_then f₃.0 (and_then f₄.0 (and_then f₅.0 f₆.0))))),
      omega (arith, f₁.1, f₂.1, f₃.1, f₄.1, f₅.1, f₆.1),
    )

-- a header's bytes: one byte, then seven fields
pub header_put : (n e x a c r w : ℕ) (o o₁ : List ℕ) (m : ℕ) {o₂ o₃ o₄ o₅ o₆ o₇ o₈ : List ℕ} {p₁ p₂ p₃ p₄ p₅ p₆ q : ℕ}
    → m ≡ header_map n e x a c r w
    → o₁ ≡ set o 0 m
    → Put o₁ o₂ 1 p₁ (enc_field n) × (p₁ ≤ 1 + 4)
    → Put o₂ o₃ p₁ p₂ (enc_field e) × (p₂ ≤ p₁ + 4)
    → Put o₃ o₄ p₂ p₃ (enc_field x) × (p₃ ≤ p₂ + 4)
    → Put o₄ o₅ p₃ p₄ (enc_field a) × (p₄ ≤ p₃ + 4)
    → Put o₅ o₆ p₄ p₅ (enc_field c) × (p₅ ≤ p₄ + 4)
    → Put o₆ o₇ p₅ p₆ (enc_field r) × (p₆ ≤ p₅ + 4)
    → Put o₇ o₈ p₆ q (enc_field w) × (q ≤ p₆ + 4)
    → Put o o₈ 0 q (enc_header n e x a c r w) × (q ≤ 29)
unfolding enc_header
header_put n e x a c r w o o₁ m em p f₁ f₂ f₃ f₄ f₅ f₆ f₇ =
    let one_byte : Put o o₁ 0 1 (header_map n e x a c r w ∷ []) = rw (← em) (record { bytes = p; next = refl }) in (
      and_then one_byte (and_then f₁.0 (and_then f₂.0 (and_then f₃.0 (and_then f₄.0 (and_then f₅.0 (and_then f₆.0 f₇.0)))))),
      omega (arith, f₁.1, f₂.1, f₃.1, f₄.1, f₅.1, f₆.1, f₇.1),
    )

-- a text's bytes: one byte, two fields, and its part
pub text_put : (row part o o₁ : List ℕ) (at m : ℕ) {o₂ o₃ o₄ : List ℕ} {a b r : ℕ}
    → m ≡ text_map row
    → o₁ ≡ set o at m
    → Put o₁ o₂ (at + 1) a (enc_field (width row)) × (a ≤ at + 1 + 4)
    → Put o₂ o₃ a b (enc_field (byte_length row)) × (b ≤ a + 4)
    → Put o₃ o₄ b r part
    → Put o o₄ at r (enc_text row part) × (r ≤ at + 9 + length part)
unfolding enc_text
text_put row part o o₁ at m em p f₁ f₂ f₃ =
    let one_byte : Put o o₁ at (at + 1) (text_map row ∷ []) = rw (← em) (one o o₁ at m p) in
    (and_then one_byte (and_then f₁.0 (and_then f₂.0 f₃)), omega (arith, f₁.1, f₂.1, f₃.next))

-- ---- one turn of each loop

pub nodes_turn : (o o₁ o₂ : List ℕ) (at next r : ℕ) (rows : List (List ℕ)) (i : ℕ)
    → Put o o₁ at next (each enc_node (take i rows)) → i < length rows → Put o₁ o₂ next r (enc_node (get_or rows i []))
    → Put o o₂ at r (each enc_node (take (i + 1) rows))
nodes_turn o o₁ o₂ at next r rows i p h q =
    rw (add-one i, take-suc rows i [] h, each_snoc enc_node (take i rows) (get_or rows i [])) (and_then p q)

pub numbers_turn : (o o₁ o₂ : List ℕ) (at next r : ℕ) (xs : List ℕ) (i : ℕ)
    → Put o o₁ at next (each enc32 (take i xs)) → i < length xs → Put o₁ o₂ next r (enc32 (get_or xs i 0))
    → Put o o₂ at r (each enc32 (take (i + 1) xs))
numbers_turn o o₁ o₂ at next r xs i p h q =
    rw (add-one i, take-suc xs i 0 h, each_snoc enc32 (take i xs) (get_or xs i 0)) (and_then p q)

pub bytes_turn : (o o₁ o₂ : List ℕ) (at : ℕ) (part : List ℕ) (i : ℕ)
    → Put o o₁ at (at + i) (take i part) → i < length part → o₂ ≡ set o₁ (at + i) (get_or part i 0)
    → Put o o₂ at (at + (i + 1)) (take (i + 1) part)
bytes_turn o o₁ o₂ at part i p h q =
    let e : at + i + 1 ≡ at + (i + 1) = omega arith in
    rw (add-one i, take-suc part i 0 h) (rw (← add-one i, ← e) (and_then p (one o₁ o₂ (at + i) (get_or part i 0) q)))

pub texts_turn : (o o₁ o₂ : List ℕ) (at next r : ℕ) (rows : List (List ℕ)) (bytes : List ℕ) (i total len : ℕ)
    → Put o o₁ at next (enc_texts (take i rows) bytes) → total ≡ lengths (take i rows) → len ≡ byte_length (get_or rows i []) → i < length rows
    → Put o₁ o₂ next r (enc_text (get_or rows i []) (take len (drop total bytes)))
    → Put o o₂ at r (enc_texts (take (i + 1) rows) bytes) × (total + len ≡ lengths (take (i + 1) rows))
texts_turn o o₁ o₂ at next r rows bytes i total len p et el h q = (
  rw (add-one i, take-suc rows i [] h, texts_snoc (take i rows) (get_or rows i []) bytes) (and_then p (rw (et, el) at q)),
  rw (add-one i, et, el) (sym (lengths_suc rows i h)),
)

-- a row that is right has a kind of one byte
pub kind_byte : (rows : List (List ℕ)) (i : ℕ) → nodes_fault rows ≡ 0 → i < length rows → kind (get_or rows i []) < 256
unfolding node_is_right pair_right
kind_byte rows i e h =
    let row = get_or rows i [] in
    let b₁ = both_true (map_right (node_map row)) _ (nodes_right_at rows i e h) in
    let b₂ = both_true (pair_right (node_map row) (kind row)) _ b₁.1 in
    let b₃ = both_true (ltb (kind row) 12) _ b₂.0 in
    omega (arith, ltb-true (kind row) 12 b₃.0)

-- the part of a text, as it is lent
pub part_length : (bytes : List ℕ) (total len : ℕ) → total + len ≤ length bytes → length (take (total + len - total) (drop total bytes)) ≡ len
part_length bytes total len h =
    let e : total + len - total ≡ len = omega arith in
    rw e (length-take-le len (drop total bytes) (simp length-drop (omega arith)))

pub part_is : {o o₁ : List ℕ} {at r : ℕ} (row bytes : List ℕ) (total len : ℕ) → Put o o₁ at r (enc_text row (take (total + len - total) (drop total bytes)))
    → Put o o₁ at r (enc_text row (take len (drop total bytes)))
part_is row bytes total len p = let e : total + len - total ≡ len = omega arith in rw e at p

pub texts_whole : (o o₁ : List ℕ) (at next : ℕ) (rows : List (List ℕ)) (bytes : List ℕ) (i total : ℕ) → i ≡ length rows → length bytes ≡ lengths rows
    → Put o o₁ at next (enc_texts (take i rows) bytes) → next ≤ at + 9 * i + total → total ≡ lengths (take i rows)
    → Put o o₁ at next (enc_texts rows bytes) × (next ≤ at + 9 * length rows + length bytes)
texts_whole o o₁ at next rows bytes i total e l p n t =
    let g : take i rows ≡ rows = take_all i rows (omega arith) in
    (rw g at p, omega (arith, t, ap lengths g, l, n, e))

-- the parts of a whole file
pub tables_put : (ns : List (List ℕ)) (es xs : List ℕ) (ts : List (List ℕ)) (bs : List ℕ) (a r w : ℕ) {o o₁ o₂ o₃ o₄ o₅ : List ℕ} {p q u v z : ℕ}
    → Put o o₁ 0 p (enc_header (length ns) (length es) (length ts) a (length xs) r w) × (p ≤ 29)
    → Put o₁ o₂ p q (each enc_node ns) × (q ≤ p + 26 * length ns)
    → Put o₂ o₃ q u (each enc32 es) × (u ≤ q + 4 * length es)
    → Put o₃ o₄ u v (each enc32 xs) × (v ≤ u + 4 * length xs)
    → Put o₄ o₅ v z (enc_texts ts bs) × (z ≤ v + 9 * length ts + length bs)
    → Right (tables ns es xs ts bs a r w)
    → length bs ≡ lengths ts
    → Put o o₅ 0 z (encode (tables ns es xs ts bs a r w)) × (z ≤ 339997)
unfolding encode
tables_put ns es xs ts bs a r w f₁ f₂ f₃ f₄ f₅ g l =
    let k = texts_total 0 ts (omega arith) g.texts in
    let i = g.within in (
      and_then f₁.0 (and_then f₂.0 (and_then f₃.0 (and_then f₄.0 f₅.0))),
      omega (arith, f₁.1, f₂.1, f₃.1, f₄.1, f₅.1, k, l, i.nodes_high, i.edges_high, i.choices_high, i.texts_high),
    )

pub lengths_sum : (rows : List (List ℕ)) → lengths rows ≡ sum_by byte_length rows
unfolding lengths
lengths_sum rows = is_sum_by lengths byte_length refl (λ _ _. refl) rows
