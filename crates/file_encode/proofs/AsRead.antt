-- What the reader refuses in the encoding of tables that bytes can say: just what the writer does. Its nodes, and the whole.
use Rattle.std.specs.Prelude.{◌≡◌, refl, Bool, true, false, List, [], ◌++◌, ℕ, zero, suc, ◌≤◌, ◌<◌, length, get_or, take, drop, eqb}
use Rattle.std.proofs.Common.{sym, ap, ◌∙◌, true≢false, arith, take-suc, eq-eqb, le-leb}
use Rattle.std.proofs.Math.Seq.{take-length}
use Rattle.std.proofs.lemmas.Bool.{eqb-false}
use Rattle.file_tables.specs.Tables.{Tables, kind, flat_mark, flat_word}
use Rattle.file_fields.specs.declared.Step.{Step}
use Rattle.file_fields.specs.Fields.{byte_at}
use Rattle.file_fields.specs.Header.{header_at}
use Rattle.file_form.specs.Kinds.{only, map_right, pair_right}
use Rattle.file_form.specs.Nodes.{checked, map_at, kind_at, n_map, n_kind, node_at, after_nodes, read_node_rows}
use Rattle.file_form.specs.Form.{f_nodes, form_fault}
use Rattle.file_encode.specs.Encode.{present, marked, node_map, enc_node, each, encode}
use Rattle.file_encode.specs.Faults.{or_else, unless, header_fault, node_is_right, nodes_fault, texts_fault, tables_fault}
use Rattle.file_encode.specs.Sayable.{NodeSayable, Sayable}
use Rattle.file_encode.specs.Fields.{At, byte_there, checked_there}
use Rattle.file_encode.specs.HeaderTrip.{header_there}
use Rattle.file_encode.specs.NodeTrip.{nodes_fault_snoc, ReadNodes, nodes_next, nodes_on}
use Rattle.file_encode.specs.Trips.{header_in}
use Rattle.file_encode.specs.Maps.{both_is}
use Rattle.file_encode.specs.AsRead.{kind_stuck, map_stuck, node_stuck, nodes_refuse, header_alike, alike_at}

-- ---- the nodes

checked_fails : (ok : Bool) (f : Step) → ok ≡ false → f.fault ≡ 0 → (checked ok f).fault ≡ 3
unfolding checked
checked_fails ok f e z = rw (eq-eqb f.fault 0 z, e)

-- an unmarked flat node is absent
flat_right : (row : List ℕ) → NodeSayable row → only (present (flat_word row)) (marked row) ≡ true
flat_right row y = go (eqb (flat_mark row) 1) refl
  where
    go : (b : Bool) → eqb (flat_mark row) 1 ≡ b → only (present (flat_word row)) b ≡ true
    go true e = refl
    go false e =
        let n = eqb-false (flat_mark row) 1 e in
        let z : flat_mark row ≡ 0 = omega (arith, y.mark_bit, n) in
        rw (y.unmarked z)

-- of a row that bytes can say, what is wrong is its map byte or its kind
node_right : (row : List ℕ) → NodeSayable row → map_right (node_map row) ≡ true → pair_right (node_map row) (kind row) ≡ true → node_is_right row ≡ true
unfolding node_is_right
node_right row y a b = both_is _ _ a (both_is _ _ b (both_is _ _ (le-leb (flat_mark row) 1 (omega (arith, y.mark_bit))) (flat_right row y)))

node_fails : (s : List ℕ) (p : Step) (row rest : List ℕ) → NodeSayable row → node_is_right row ≡ false → At s p (enc_node row ++ rest) → (node_at s p).next.fault ≡ 3
unfolding n_map n_kind map_at kind_at enc_node
node_fails s p row rest y w h = go (map_right (node_map row)) (pair_right (node_map row) (kind row)) refl refl
  where
    go : (a b : Bool) → map_right (node_map row) ≡ a → pair_right (node_map row) (kind row) ≡ b → (node_at s p).next.fault ≡ 3
    go false b ea eb =
        let m₀ = byte_there s p (node_map row) _ h in
        map_stuck s p 2 (checked_fails (map_right (byte_at s p).value) (byte_at s p) (rw m₀.value ea) m₀.next.fine)
    go true false ea eb =
        let m₀ = byte_there s p (node_map row) _ h in
        let m = checked_there s (map_right (byte_at s p).value) (byte_at s p) (node_map row) _ (rw m₀.value ea) m₀ in
        let k₀ = byte_there s (n_map s p) (kind row) _ m.next in
        kind_stuck s p 2 (checked_fails (pair_right (n_map s p).value (byte_at s (n_map s p)).value) (byte_at s (n_map s p)) (rw (k₀.value, m.value) eb) k₀.next.fine)
    go true true ea eb = absurd (true≢false (sym (node_right row y ea eb) ∙ w))

-- after k nodes: all were read, or one was refused
data AlongNodes (s : List ℕ) (p : Step) (rows : List (List ℕ)) (rest : List ℕ) (k : ℕ) : Type 0 where
  read : nodes_fault (take k rows) ≡ 0 → ReadNodes s p rows rest k → AlongNodes s p rows rest k
  failed : nodes_fault (take k rows) ≡ 3 → (after_nodes s p k).fault ≡ 3 → AlongNodes s p rows rest k

one_more : (rows : List (List ℕ)) (k : ℕ) → k < length rows → nodes_fault (take (suc k) rows) ≡ or_else (nodes_fault (take k rows)) (unless (node_is_right (get_or rows k [])) 3)
one_more rows k lt = rw (take-suc rows k [] lt) (nodes_fault_snoc (take k rows) (get_or rows k []))

nodes_step : (s : List ℕ) (p : Step) (rows : List (List ℕ)) (rest : List ℕ) (k : ℕ)
    → length (get_or rows k []) ≡ 8 → NodeSayable (get_or rows k []) → k < length rows → AlongNodes s p rows rest k → AlongNodes s p rows rest (suc k)
unfolding after_nodes
nodes_step s p rows rest k wide y lt (failed e f) = failed (one_more rows k lt ∙ rw e) (node_stuck s (after_nodes s p k) 2 f)
nodes_step s p rows rest k wide y lt (read e r) = go (node_is_right (get_or rows k [])) refl
  where
    go : (b : Bool) → node_is_right (get_or rows k []) ≡ b → AlongNodes s p rows rest (suc k)
    go true w = read (one_more rows k lt ∙ rw (e, w)) (nodes_on s p rows rest k wide w lt r)
    go false w =
        failed (one_more rows k lt ∙ rw (e, w))
        (node_fails s (after_nodes s p k) (get_or rows k []) (each enc_node (drop (suc k) rows) ++ rest) y w (nodes_next s p rows rest k lt r))

along_nodes : (s : List ℕ) (p : Step) (rows : List (List ℕ)) (rest : List ℕ)
    → ((i : ℕ) → i < length rows → length (get_or rows i []) ≡ 8) → ((i : ℕ) → i < length rows → NodeSayable (get_or rows i [])) → At s p (each enc_node rows ++ rest)
    → (k : ℕ) → k ≤ length rows → AlongNodes s p rows rest k
unfolding after_nodes read_node_rows nodes_fault
along_nodes s p rows rest wide y h zero l = read refl (record { next = h; rows_are = refl })
along_nodes s p rows rest wide y h (suc k) l =
    let lt : k < length rows = omega arith in
    nodes_step s p rows rest k (wide k lt) (y k lt) lt (along_nodes s p rows rest wide y h k (omega arith))

-- ---- the whole

-- where the nodes are refused the file is, and otherwise its refusal is that of the texts
nodes_end : (s : List ℕ) (t : Tables) (rest : List ℕ) → (header_at s).nodes ≡ length t.nodes → AlongNodes s (header_at s).next t.nodes rest (length t.nodes)
    → (nodes_fault t.nodes ≡ 0 → form_fault s ≡ texts_fault 0 t.texts) → form_fault s ≡ or_else (nodes_fault t.nodes) (texts_fault 0 t.texts)
unfolding f_nodes
nodes_end s t rest e (read z r) more = let q = sym (ap nodes_fault (take-length t.nodes)) ∙ z in rw q (more q)
nodes_end s t rest e (failed z f) more =
    let q = sym (ap nodes_fault (take-length t.nodes)) ∙ z in
    rw q (nodes_refuse s 2 (ap (λ (k : ℕ). (after_nodes s (header_at s).next k).fault) e ∙ f))

fine_alike : (t : Tables) → Sayable t → header_fault (length t.nodes) (length t.edges) (length t.texts) t.annotations (length t.choices) ≡ 0
    → form_fault (encode t) ≡ or_else (nodes_fault t.nodes) (texts_fault 0 t.texts)
unfolding encode
fine_alike t y e =
    let he = header_there (encode t) (length t.nodes) (length t.edges) (length t.texts) t.annotations (length t.choices) t.root t.space _ (header_in _ _ _ _ _ e) refl in
    nodes_end (encode t) t _ he.nodes
    (along_nodes (encode t) (header_at (encode t)).next t.nodes _ y.sized.node_rows y.nodes he.next (length t.nodes) (omega arith))
    (λ q. alike_at (encode t) t y.sized e q y.texts refl)

-- the refusal of tables that bytes can say is that of their file
pub alike : (t : Tables) → Sayable t → form_fault (encode t) ≡ tables_fault t
unfolding tables_fault
alike t y = go (header_fault (length t.nodes) (length t.edges) (length t.texts) t.annotations (length t.choices)) refl
  where
    go : (f : ℕ) → header_fault (length t.nodes) (length t.edges) (length t.texts) t.annotations (length t.choices) ≡ f
        → form_fault (encode t) ≡ or_else (header_fault (length t.nodes) (length t.edges) (length t.texts) t.annotations (length t.choices)) (or_else (nodes_fault t.nodes) (texts_fault 0 t.texts))
    go zero e = rw e (fine_alike t y e)
    go (suc m) e = rw e (header_alike t m e)
