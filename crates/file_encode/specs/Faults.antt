-- The refusals 3 and 4 of tables (document 01, "Prepared file"): the writer refuses tables as the reader would their file, field by field in file order.
-- Words that no field can carry are 3 at the place of their record.
use Rattle.std.specs.Prelude.{ℕ, zero, suc, ◌+◌, List, [], ◌∷◌, Bool, true, false, length, leb, eqb}
use Rattle.file_tables.specs.Tables.{Tables, kind, flat_mark, flat_word, byte_length, byte_start}
use Rattle.file_form.specs.Kinds.{both, only, map_right, pair_right}
use Rattle.file_encode.specs.Encode.{present, marked, node_map}

-- the first refusal of two in a row
abbrev pub or_else : ℕ → ℕ → ℕ
or_else zero b = b
or_else (suc a) b = suc a

abbrev pub unless : Bool → ℕ → ℕ
unless true n = 0
unless false n = n

-- a node's row: its map byte and its kind are right together, the flat node's mark is 0 or 1, and an absent flat node is 0
unfoldable pub node_is_right : List ℕ → Bool
node_is_right row =
    both (map_right (node_map row))
    (both (pair_right (node_map row) (kind row)) (both (leb (flat_mark row) 1) (only (present (flat_word row)) (marked row))))

-- the rows of the nodes, in order
unfoldable pub nodes_fault : List (List ℕ) → ℕ
nodes_fault [] = 0
nodes_fault (row ∷ rows) = or_else (unless (node_is_right row) 3) (nodes_fault rows)

-- the rows of the texts, in order, where the lengths before them come to total: a start is the running total (3), which stays within 65,536 (4)
unfoldable pub texts_fault : ℕ → List (List ℕ) → ℕ
texts_fault total [] = 0
texts_fault total (row ∷ rows) =
    or_else (unless (eqb (byte_start row) total) 3)
    (or_else (unless (leb (total + byte_length row) 65536) 4) (texts_fault (total + byte_length row) rows))

-- a count from low to high (4)
abbrev pub count_fault : ℕ → ℕ → ℕ → ℕ
count_fault low high n = unless (both (leb low n) (leb n high)) 4

-- the counts, in the header's order: nodes, edges, texts, annotations, choice edges
unfoldable pub header_fault : ℕ → ℕ → ℕ → ℕ → ℕ → ℕ
header_fault n e x a c =
    or_else (count_fault 1 4096 n)
    (or_else (count_fault 0 16384 e) (or_else (count_fault 1 4096 x) (or_else (count_fault 0 4096 a) (count_fault 0 16384 c))))

-- the first refusal of 3 and 4, or 0
unfoldable pub tables_fault : Tables → ℕ
tables_fault t =
    or_else (header_fault (length t.nodes) (length t.edges) (length t.texts) t.annotations (length t.choices))
    (or_else (nodes_fault t.nodes) (texts_fault 0 t.texts))
