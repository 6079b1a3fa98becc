-- The one file of tables (document 01, "Prepared file"): each record by its map byte and the fields that are not absent, in file order.
use Rattle.std.specs.Prelude.{ℕ, ◌+◌, ◌*◌, ◌/◌, ◌%◌, ◌<◌, ◌≡◌, List, [], ◌∷◌, ◌++◌, Bool, true, false, length, take, drop, get_or, ltb, eqb}
use Rattle.file_tables.specs.Tables.{Tables, kind, first, second, flat_mark, flat_word, choice_start, choice_length, skipped, width, byte_length}

-- a number's four bytes, low byte first
abbrev pub enc32 : ℕ → List ℕ
enc32 v = v % 256 ∷ v / 256 % 256 ∷ v / 65536 % 256 ∷ v / 16777216 ∷ []

-- a field of value 0 is absent
abbrev pub present : ℕ → Bool
present v = ltb 0 v

-- the flat node is present where its mark says so
abbrev pub marked : List ℕ → Bool
marked row = eqb (flat_mark row) 1

-- a number where it is present, nothing where it is absent
abbrev pub enc_if : Bool → ℕ → List ℕ
enc_if true v = enc32 v
enc_if false v = []

abbrev pub enc_field : ℕ → List ℕ
enc_field v = enc_if (present v) v

-- a map byte: by ascending bit, which fields are present
abbrev pub flag : Bool → ℕ
flag true = 1
flag false = 0

unfoldable pub map_of : List Bool → ℕ
map_of [] = 0
map_of (b ∷ bs) = flag b + 2 * map_of bs

-- ---- the header: nodes, edges, texts, annotations, choice edges, root, space text

unfoldable pub header_map : ℕ → ℕ → ℕ → ℕ → ℕ → ℕ → ℕ → ℕ
header_map n e x a c r w = map_of (present n ∷ present e ∷ present x ∷ present a ∷ present c ∷ present r ∷ present w ∷ [])

unfoldable pub enc_header : ℕ → ℕ → ℕ → ℕ → ℕ → ℕ → ℕ → List ℕ
enc_header n e x a c r w =
    header_map n e x a c r w ∷ (enc_field n ++ (enc_field e ++ (enc_field x ++ (enc_field a ++ (enc_field c ++ (enc_field r ++ enc_field w))))))

-- ---- a node

unfoldable pub node_map : List ℕ → ℕ
node_map row =
    map_of
    (present (first row)
    ∷ present (second row)
    ∷ marked row
    ∷ present (choice_start row)
    ∷ present (choice_length row)
    ∷ present (skipped row)
    ∷ [])

unfoldable pub enc_node : List ℕ → List ℕ
enc_node row =
    node_map row
    ∷ kind row
    ∷ (enc_field (first row)
    ++ (enc_field (second row)
    ++ (enc_if (marked row) (flat_word row) ++ (enc_field (choice_start row) ++ (enc_field (choice_length row) ++ enc_field (skipped row))))))

-- ---- a text and its bytes

unfoldable pub text_map : List ℕ → ℕ
text_map row = map_of (present (width row) ∷ present (byte_length row) ∷ [])

unfoldable pub enc_text : List ℕ → List ℕ → List ℕ
enc_text row part = text_map row ∷ (enc_field (width row) ++ (enc_field (byte_length row) ++ part))

-- the texts, each with its part of the bytes that are left
unfoldable pub enc_texts : List (List ℕ) → List ℕ → List ℕ
enc_texts [] bytes = []
enc_texts (row ∷ rows) bytes = enc_text row (take (byte_length row) bytes) ++ enc_texts rows (drop (byte_length row) bytes)

-- ---- the whole

-- the bytes of each, one after the other
unfoldable pub each : {A : Type 0} → (A → List ℕ) → List A → List ℕ
each f [] = []
each f (x ∷ xs) = f x ++ each f xs

unfoldable pub encode : Tables → List ℕ
encode t =
    enc_header (length t.nodes) (length t.edges) (length t.texts) t.annotations (length t.choices) t.root t.space
    ++ (each enc_node t.nodes ++ (each enc32 t.edges ++ (each enc32 t.choices ++ enc_texts t.texts t.bytes)))

-- how many bytes the texts have together
unfoldable pub lengths : List (List ℕ) → ℕ
lengths [] = 0
lengths (row ∷ rows) = byte_length row + lengths rows

-- the first n rows have w words each
abbrev pub Wide : ℕ → List (List ℕ) → ℕ → Type 0
Wide w rows n = (i : ℕ) → i < n → length (get_or rows i []) ≡ w

-- tables as they stand in lent memory: rows of eight and of three words, and as many bytes as the texts have together
pub record Sized (t : Tables) : Type 0 where
  pub node_rows : Wide 8 t.nodes (length t.nodes)
  pub text_rows : Wide 3 t.texts (length t.texts)
  pub bytes : length t.bytes ≡ lengths t.texts
