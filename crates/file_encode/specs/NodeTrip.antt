-- The node records, both ways.
use Rattle.std.specs.Prelude.{◌≡◌, refl, Bool, true, false, List, [], ◌∷◌, ◌++◌, ℕ, zero, suc, ◌/◌, ◌%◌, ◌≤◌, ◌<◌, length, get_or, take, drop, leb}
use Rattle.std.proofs.Common.{sym, ap, ◌∙◌, true≢false, append_assoc, append-nil, arith, length-append, drop-cons, take-suc, le-leb, lt-ltb, leb-true}
use Rattle.file_tables.specs.Tables.{kind, first, second, flat_mark, flat_word, choice_start, choice_length, skipped}
use Rattle.file_fields.specs.declared.Step.{Step}
use Rattle.file_fields.specs.Fields.{bit, byte_at}
use Rattle.file_form.specs.Kinds.{only, map_right, pair_right}
use Rattle.file_form.specs.Nodes.{checked, map_at, kind_at, n_map, n_kind, n_first, n_second, n_flat, n_start, n_length, n_skipped, node_at, after_nodes, read_node_rows}
use Rattle.file_encode.specs.Encode.{present, marked, map_of, enc_if, enc_field, node_map, enc_node, each}
use Rattle.file_encode.specs.Faults.{or_else, unless, node_is_right, nodes_fault}
use Rattle.file_encode.specs.Fields.{Bytes, Took, and_then, byte_back, field_back, number_back, checked_back, bit_flag, At, at_is, byte_there, field_there, number_there, checked_there}
use Rattle.file_encode.specs.Maps.{at1, at2, at4, at8, at16, at32, bit_is, whole6, both_true, both_is, map_le}

-- ---- what was read

checked_byte : (s : List ℕ) (ok : Bool) (p : Step) → (checked ok (byte_at s p)).fault ≡ 0 → Took s p (checked ok (byte_at s p)) ((checked ok (byte_at s p)).value ∷ [])
checked_byte s ok p h = let e = checked_back ok (byte_at s p) h in rw e.0 (byte_back s p (rw e.0 at h))

-- an absent flat node is 0
absent_flat : (v : ℕ) (on : Bool) → (on ≡ false → v ≡ 0) → only (present v) on ≡ true
absent_flat v true h = refl
absent_flat v false h = rw (h refl)

-- an accepted record is the encoding of its row, which is right
pub record TookNode (s : List ℕ) (p : Step) : Type 0 where
  pub took : Took s p (node_at s p).next (enc_node (node_at s p).row)
  pub right : node_is_right (node_at s p).row ≡ true

pub node_back : (s : List ℕ) (p : Step) → Bytes s → (node_at s p).next.fault ≡ 0 → TookNode s p
unfolding node_at n_map n_kind n_first n_second n_flat n_start n_length n_skipped map_at kind_at enc_node node_map node_is_right
node_back s p z h =
    let f₆ = field_back s (bit (n_map s p).value 32) (n_length s p) z h in
    let f₅ = field_back s (bit (n_map s p).value 16) (n_start s p) z f₆.took.prior in
    let f₄ = field_back s (bit (n_map s p).value 8) (n_flat s p) z f₅.took.prior in
    let f₃ = number_back s (bit (n_map s p).value 4) (n_second s p) z f₄.took.prior in
    let f₂ = field_back s (bit (n_map s p).value 2) (n_first s p) z f₃.took.prior in
    let f₁ = field_back s (bit (n_map s p).value 1) (n_kind s p) z f₂.took.prior in
    let k = checked_byte s (pair_right (n_map s p).value (byte_at s (n_map s p)).value) (n_map s p) f₁.took.prior in
    let ek = checked_back (pair_right (n_map s p).value (byte_at s (n_map s p)).value) (byte_at s (n_map s p)) f₁.took.prior in
    let m = checked_byte s (map_right (byte_at s p).value) p k.prior in
    let em = checked_back (map_right (byte_at s p).value) (byte_at s p) k.prior in
    let mv : (n_map s p).value ≡ (byte_at s p).value = ap (λ (q : Step). q.value) em.0 in
    let kv : (n_kind s p).value ≡ (byte_at s (n_map s p)).value = ap (λ (q : Step). q.value) ek.0 in
    let right : map_right (n_map s p).value ≡ true = rw mv em.1 in
    let pair : pair_right (n_map s p).value (n_kind s p).value ≡ true = rw kv ek.1 in
    let e : map_of (present (n_first s p).value ∷ present (n_second s p).value ∷ bit (n_map s p).value 4 ∷ present (n_start s p).value ∷ present (n_length s p).value ∷ present (n_skipped s p).value ∷ []) ≡ (n_map s p).value =
    rw (← f₁.shown, ← f₂.shown, ← f₄.shown, ← f₅.shown, ← f₆.shown) (whole6 (n_map s p).value (map_le (n_map s p).value right)) in
    record {
      took = rw e (and_then m (and_then k (and_then f₁.took (and_then f₂.took (and_then f₃.took (and_then f₄.took (and_then f₅.took f₆.took)))))));
      right = rw e (both_is _ _ right (both_is _ _ pair (both_is _ _ (le-leb ((n_map s p).value / 4 % 2) 1 (omega arith)) (absent_flat (n_flat s p).value (bit (n_map s p).value 4) f₃.absent))));
    }

-- ---- what was written

-- the record at p is the row, and the rest follows
pub record ReadNode (s : List ℕ) (p : Step) (row rest : List ℕ) : Type 0 where
  pub row_is : (node_at s p).row ≡ row
  pub next : At s (node_at s p).next rest

regroup : (a b c d e f rest : List ℕ) → (a ++ (b ++ (c ++ (d ++ (e ++ f))))) ++ rest ≡ a ++ (b ++ (c ++ (d ++ (e ++ (f ++ rest)))))
regroup a b c d e f rest = simp append_assoc

eight : (a b c d e f g h a' b' c' d' e' f' g' h' : ℕ) → a ≡ a' → b ≡ b' → c ≡ c' → d ≡ d' → e ≡ e' → f ≡ f' → g ≡ g' → h ≡ h'
    → a ∷ b ∷ c ∷ d ∷ e ∷ f ∷ g ∷ h ∷ [] ≡ a' ∷ b' ∷ c' ∷ d' ∷ e' ∷ f' ∷ g' ∷ h' ∷ []
eight a b c d e f g h a' b' c' d' e' f' g' h' p q r s t u v w = rw (p, q, r, s, t, u, v, w)

-- a row of eight words
row8 : (row : List ℕ) → length row ≡ 8
    → kind row ∷ first row ∷ second row ∷ flat_mark row ∷ flat_word row ∷ choice_start row ∷ choice_length row ∷ skipped row ∷ [] ≡ row
row8 [] e = absurd (omega arith)
row8 (a ∷ []) e = absurd (omega arith)
row8 (a ∷ b ∷ []) e = absurd (omega arith)
row8 (a ∷ b ∷ c ∷ []) e = absurd (omega arith)
row8 (a ∷ b ∷ c ∷ d ∷ []) e = absurd (omega arith)
row8 (a ∷ b ∷ c ∷ d ∷ f ∷ []) e = absurd (omega arith)
row8 (a ∷ b ∷ c ∷ d ∷ f ∷ g ∷ []) e = absurd (omega arith)
row8 (a ∷ b ∷ c ∷ d ∷ f ∷ g ∷ h ∷ []) e = absurd (omega arith)
row8 (a ∷ b ∷ c ∷ d ∷ f ∷ g ∷ h ∷ i ∷ []) e = refl
row8 (a ∷ b ∷ c ∷ d ∷ f ∷ g ∷ h ∷ i ∷ j ∷ r) e = absurd (omega arith)

pub flat_absent : (v : ℕ) (on : Bool) → only (present v) on ≡ true → on ≡ false → v ≡ 0
flat_absent v true e z = absurd (true≢false z)
flat_absent zero false e z = refl
flat_absent (suc v) false e z = let h : present (suc v) ≡ true = lt-ltb 0 (suc v) (omega arith) in absurd (true≢false (sym (rw h at e)))

pub node_there : (s : List ℕ) (p : Step) (row rest : List ℕ) → length row ≡ 8 → node_is_right row ≡ true → At s p (enc_node row ++ rest) → ReadNode s p row rest
unfolding node_at n_map n_kind n_first n_second n_flat n_start n_length n_skipped map_at kind_at enc_node node_map node_is_right
node_there s p row rest wide right h =
    let b₁ = both_true (map_right (node_map row)) _ right in
    let b₂ = both_true (pair_right (node_map row) (kind row)) _ b₁.1 in
    let b₃ = both_true (leb (flat_mark row) 1) _ b₂.1 in
    let m₀ = byte_there s p (node_map row) _ h in
    let m = checked_there s (map_right (byte_at s p).value) (byte_at s p) (node_map row) _ (rw m₀.value b₁.0) m₀ in
    let k₀ = byte_there s (n_map s p) (kind row) _ m.next in
    let k = checked_there s (pair_right (n_map s p).value (byte_at s (n_map s p)).value) (byte_at s (n_map s p)) (kind row) _ (rw (k₀.value, m.value) b₂.0) k₀ in
    let l = at_is k.next (regroup (enc_field (first row)) (enc_field (second row)) (enc_if (marked row) (flat_word row)) (enc_field (choice_start row)) (enc_field (choice_length row)) (enc_field (skipped row)) rest) in
    let a = present (first row) in
    let b = present (second row) in
    let c = marked row in
    let d = present (choice_start row) in
    let e = present (choice_length row) in
    let f = present (skipped row) in
    let n = (n_map s p).value in
    let x₁ : bit n 1 ≡ a = rw m.value (bit_is (node_map row) 1 a (at1 a (b ∷ c ∷ d ∷ e ∷ f ∷ []))) in
    let x₂ : bit n 2 ≡ b = rw m.value (bit_is (node_map row) 2 b (at2 a b (c ∷ d ∷ e ∷ f ∷ []))) in
    let x₃ : bit n 4 ≡ c = rw m.value (bit_is (node_map row) 4 c (at4 a b c (d ∷ e ∷ f ∷ []))) in
    let x₄ : bit n 8 ≡ d = rw m.value (bit_is (node_map row) 8 d (at8 a b c d (e ∷ f ∷ []))) in
    let x₅ : bit n 16 ≡ e = rw m.value (bit_is (node_map row) 16 e (at16 a b c d e (f ∷ []))) in
    let x₆ : bit n 32 ≡ f = rw m.value (bit_is (node_map row) 32 f (at32 a b c d e f [])) in
    let mark : n / 4 % 2 ≡ flat_mark row = rw m.value (at4 a b c (d ∷ e ∷ f ∷ []) ∙ bit_flag (flat_mark row) (omega (arith, leb-true (flat_mark row) 1 b₃.0))) in
    let f₁ = field_there s (bit n 1) (n_kind s p) (first row) _ x₁ l in
    let f₂ = field_there s (bit n 2) (n_first s p) (second row) _ x₂ f₁.next in
    let f₃ = number_there s (bit n 4) (n_second s p) (flat_word row) _ (λ z. flat_absent (flat_word row) (marked row) b₃.1 (sym x₃ ∙ z)) (rw (← x₃) at f₂.next) in
    let f₄ = field_there s (bit n 8) (n_flat s p) (choice_start row) _ x₄ f₃.next in
    let f₅ = field_there s (bit n 16) (n_start s p) (choice_length row) _ x₅ f₄.next in
    let f₆ = field_there s (bit n 32) (n_length s p) (skipped row) rest x₆ f₅.next in
    record {
      row_is =
          eight (n_kind s p).value (n_first s p).value (n_second s p).value (n / 4 % 2) (n_flat s p).value (n_start s p).value (n_length s p).value (n_skipped s p).value
          (kind row) (first row) (second row) (flat_mark row) (flat_word row) (choice_start row) (choice_length row) (skipped row)
          k.value f₁.value f₂.value mark f₃.value f₄.value f₅.value f₆.value
          ∙ row8 row wide;
      next = f₆.next;
    }

-- ---- runs of records

pub or_zero : (a b : ℕ) → or_else a b ≡ 0 → (a ≡ 0) × (b ≡ 0)
or_zero zero b e = (refl, e)
or_zero (suc a) b e = absurd (omega arith)

pub or_is : (a b : ℕ) → a ≡ 0 → b ≡ 0 → or_else a b ≡ 0
or_is a b ea eb = rw (ea, eb)

pub unless_true : (b : Bool) (n : ℕ) → unless b (suc n) ≡ 0 → b ≡ true
unless_true true n e = refl
unless_true false n e = absurd (omega arith)

pub unless_is : (b : Bool) (n : ℕ) → b ≡ true → unless b n ≡ 0
unless_is b n e = rw e

-- one more, at the front, at the end
pub each_cons : {A : Type 0} (f : A → List ℕ) (x : A) (xs : List A) → each f (x ∷ xs) ≡ f x ++ each f xs
unfolding each
each_cons f x xs = refl

pub each_snoc : {A : Type 0} (f : A → List ℕ) (xs : List A) (y : A) → each f (xs ++ (y ∷ [])) ≡ each f xs ++ f y
unfolding each
each_snoc f [] y = append-nil (f y)
each_snoc f (x ∷ xs) y = rw (each_snoc f xs y) (sym (append_assoc (f x) (each f xs) (f y)))

pub or_none : (a : ℕ) → or_else a 0 ≡ a
or_none zero = refl
or_none (suc a) = refl

or_assoc : (a b c : ℕ) → or_else a (or_else b c) ≡ or_else (or_else a b) c
or_assoc zero b c = refl
or_assoc (suc a) b c = refl

pub nodes_fault_snoc : (rows : List (List ℕ)) (row : List ℕ) → nodes_fault (rows ++ (row ∷ [])) ≡ or_else (nodes_fault rows) (unless (node_is_right row) 3)
unfolding nodes_fault
nodes_fault_snoc [] row = or_none (unless (node_is_right row) 3)
nodes_fault_snoc (x ∷ rows) row = rw (nodes_fault_snoc rows row) (or_assoc (unless (node_is_right x) 3) (nodes_fault rows) (unless (node_is_right row) 3))

nodes_right_snoc : (rows : List (List ℕ)) (row : List ℕ) → nodes_fault rows ≡ 0 → node_is_right row ≡ true → nodes_fault (rows ++ (row ∷ [])) ≡ 0
nodes_right_snoc rows row e r = nodes_fault_snoc rows row ∙ or_is _ _ e (unless_is (node_is_right row) 3 r)

pub nodes_right_at : (rows : List (List ℕ)) (k : ℕ) → nodes_fault rows ≡ 0 → k < length rows → node_is_right (get_or rows k []) ≡ true
unfolding nodes_fault
nodes_right_at [] k e h = absurd (omega arith)
nodes_right_at (x ∷ rows) zero e h = unless_true (node_is_right x) 2 (or_zero (unless (node_is_right x) 3) (nodes_fault rows) e).0
nodes_right_at (x ∷ rows) (suc k) e h = nodes_right_at rows k (or_zero (unless (node_is_right x) 3) (nodes_fault rows) e).1 (omega arith)

-- an accepted run of records is the encoding of its rows, which are right
pub record TookNodes (s : List ℕ) (p : Step) (k : ℕ) : Type 0 where
  pub took : Took s p (after_nodes s p k) (each enc_node (read_node_rows s p k))
  pub right : nodes_fault (read_node_rows s p k) ≡ 0
  pub count : length (read_node_rows s p k) ≡ k
  pub wide : (i : ℕ) → i < k → length (get_or (read_node_rows s p k) i []) ≡ 8

pub wide_snoc : (n : ℕ) (rows : List (List ℕ)) (row : List ℕ) (k : ℕ) → length rows ≡ k → length row ≡ n → ((i : ℕ) → i < k → length (get_or rows i []) ≡ n)
    → (i : ℕ) → i < suc k → length (get_or (rows ++ (row ∷ [])) i []) ≡ n
wide_snoc n [] row k e l w zero h = l
wide_snoc n [] row k e l w (suc i) h = absurd (omega arith)
wide_snoc n (x ∷ rows) row zero e l w i h = absurd (omega arith)
wide_snoc n (x ∷ rows) row (suc k) e l w zero h = w 0 (omega arith)
wide_snoc n (x ∷ rows) row (suc k) e l w (suc i) h = wide_snoc n rows row k (omega arith) l (λ j g. w (suc j) (omega arith)) i (omega arith)

eight_long : (s : List ℕ) (q : Step) → length (node_at s q).row ≡ 8
unfolding node_at
eight_long s q = refl

pub nodes_back : (s : List ℕ) (p : Step) (k : ℕ) → Bytes s → (after_nodes s p k).fault ≡ 0 → TookNodes s p k
unfolding after_nodes read_node_rows each nodes_fault
nodes_back s p zero z h = record { took = record { prior = h; bytes = refl }; right = refl; count = refl; wide = λ i l. absurd (omega arith) }
nodes_back s p (suc k) z h =
    let n = node_back s (after_nodes s p k) z h in
    let r = nodes_back s p k z n.took.prior in
    record {
      took = rw (each_snoc enc_node (read_node_rows s p k) (node_at s (after_nodes s p k)).row) (and_then r.took n.took);
      right = nodes_right_snoc (read_node_rows s p k) (node_at s (after_nodes s p k)).row r.right n.right;
      count = length-append (read_node_rows s p k) ((node_at s (after_nodes s p k)).row ∷ []) ∙ omega (arith, r.count);
      wide = wide_snoc 8 (read_node_rows s p k) (node_at s (after_nodes s p k)).row k r.count (eight_long s (after_nodes s p k)) r.wide;
    }

-- the first k of the rows are read back, and the others follow
pub record ReadNodes (s : List ℕ) (p : Step) (rows : List (List ℕ)) (rest : List ℕ) (k : ℕ) : Type 0 where
  pub next : At s (after_nodes s p k) (each enc_node (drop k rows) ++ rest)
  pub rows_are : read_node_rows s p k ≡ take k rows

-- the next record, where the first k are read back
pub nodes_next : (s : List ℕ) (p : Step) (rows : List (List ℕ)) (rest : List ℕ) (k : ℕ) → k < length rows → ReadNodes s p rows rest k
    → At s (after_nodes s p k) (enc_node (get_or rows k []) ++ (each enc_node (drop (suc k) rows) ++ rest))
nodes_next s p rows rest k lt r =
    let e : each enc_node (drop k rows) ≡ enc_node (get_or rows k []) ++ each enc_node (drop (suc k) rows) = ap (each enc_node) (drop-cons rows k [] lt) ∙ each_cons enc_node (get_or rows k []) (drop (suc k) rows) in
    at_is r.next (rw e (append_assoc (enc_node (get_or rows k [])) (each enc_node (drop (suc k) rows)) rest))

-- one node more is read back
pub nodes_on : (s : List ℕ) (p : Step) (rows : List (List ℕ)) (rest : List ℕ) (k : ℕ)
    → length (get_or rows k []) ≡ 8 → node_is_right (get_or rows k []) ≡ true → k < length rows → ReadNodes s p rows rest k → ReadNodes s p rows rest (suc k)
unfolding after_nodes read_node_rows
nodes_on s p rows rest k wide right lt r =
    let n = node_there s (after_nodes s p k) (get_or rows k []) (each enc_node (drop (suc k) rows) ++ rest) wide right (nodes_next s p rows rest k lt r) in
    record { next = n.next; rows_are = rw (r.rows_are, n.row_is) (sym (take-suc rows k [] lt)) }

pub nodes_there : (s : List ℕ) (p : Step) (rows : List (List ℕ)) (rest : List ℕ)
    → ((i : ℕ) → i < length rows → length (get_or rows i []) ≡ 8) → nodes_fault rows ≡ 0 → At s p (each enc_node rows ++ rest)
    → (k : ℕ) → k ≤ length rows → ReadNodes s p rows rest k
unfolding after_nodes read_node_rows
nodes_there s p rows rest wide right h zero l = record { next = h; rows_are = refl }
nodes_there s p rows rest wide right h (suc k) l =
    let lt : k < length rows = omega arith in
    nodes_on s p rows rest k (wide k lt) (nodes_right_at rows k right lt) lt (nodes_there s p rows rest wide right h k (omega arith))
