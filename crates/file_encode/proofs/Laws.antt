-- Laws for this crate's functions.
use mathlib.Core.Path.{◌≡◌}
use mathlib.Core.Bool.{true, false}
use mathlib.Core.List.{List, []}
use Prim.Native.Nat.{ℕ, ◌+◌, ◌≤◌, ◌<◌}
use native.Mathlib.Numerals.{add-one}
use lib.ListN.{length, get_or, drop, drop_of_length-le}
use lib.Seq.{drop-cons}
use borrow.Author.Tests.{eq-eqb, ne_eqb, le-leb, lt-leb}
use Rattle.file_tables.specs.Tables.{byte_length, byte_start}
use Rattle.file_encode.specs.Faults.{node_is_right, nodes_fault, texts_fault}

-- ---- faults, in order

pub nodes_wrong : (rows : List (List ℕ)) (i : ℕ) → i < length rows → node_is_right (get_or rows i []) ≡ false → nodes_fault (drop i rows) ≡ 3
unfolding nodes_fault
nodes_wrong rows i h e = rw (drop-cons rows i [] h, e)

pub nodes_on : (rows : List (List ℕ)) (i : ℕ) → i < length rows → node_is_right (get_or rows i []) ≡ true → nodes_fault (drop i rows) ≡ nodes_fault (drop (i + 1) rows)
unfolding nodes_fault
nodes_on rows i h e = rw (add-one i, drop-cons rows i [] h, e)

pub nodes_end : (rows : List (List ℕ)) (i : ℕ) → length rows ≤ i → nodes_fault (drop i rows) ≡ 0
unfolding nodes_fault
nodes_end rows i h = rw (drop_of_length-le rows h)

pub texts_start : (rows : List (List ℕ)) (total i : ℕ) → i < length rows → (byte_start (get_or rows i []) ≡ total → ⊥) → texts_fault total (drop i rows) ≡ 3
unfolding texts_fault
texts_start rows total i h n = rw (drop-cons rows i [] h, ne_eqb (byte_start (get_or rows i [])) total n)

pub texts_limit : (rows : List (List ℕ)) (total i : ℕ) → i < length rows → byte_start (get_or rows i []) ≡ total → 65536 < total + byte_length (get_or rows i []) → texts_fault total (drop i rows) ≡ 4
unfolding texts_fault
texts_limit rows total i h e l = rw (drop-cons rows i [] h, eq-eqb (byte_start (get_or rows i [])) total e, lt-leb (total + byte_length (get_or rows i [])) 65536 l)

pub texts_on : (rows : List (List ℕ)) (total i : ℕ) → i < length rows → byte_start (get_or rows i []) ≡ total → total + byte_length (get_or rows i []) ≤ 65536
    → texts_fault total (drop i rows) ≡ texts_fault (total + byte_length (get_or rows i [])) (drop (i + 1) rows)
unfolding texts_fault
texts_on rows total i h e l = rw (add-one i, drop-cons rows i [] h, eq-eqb (byte_start (get_or rows i [])) total e, le-leb (total + byte_length (get_or rows i [])) 65536 l)

pub texts_end : (rows : List (List ℕ)) (total i : ℕ) → length rows ≤ i → texts_fault total (drop i rows) ≡ 0
unfolding texts_fault
texts_end rows total i h = rw (drop_of_length-le rows h)
