-- One turn of each loop that fills a table.
use mathlib.Core.Path.{◌≡◌, refl, ap, ◌∙◌}
use mathlib.Core.List.{List, [], ◌∷◌}
use mathlib.Core.Bool.{Bool, true, false}
use Prim.Native.Nat.{ℕ, ◌+◌, ◌≤◌, ◌<◌}
use native.Mathlib.Omega.{arith}
use native.Mathlib.Numerals.{add-one}
use lib.ListN.{length, take, drop, set, length-drop}
use lib.Seq.{take-suc-set, sets, length-take-le}
use lib.Dec.{leb, eqb}
use borrow.Author.Tests.{leb-true}
use Rattle.file_fields.specs.declared.Step.{Step}
use Rattle.file_fields.specs.Fields.{pick, got, refused, number_at, field_at, bit}
use Rattle.file_form.specs.declared.nodes.Node.{Node}
use Rattle.file_form.specs.declared.texts.Head.{Head}
use Rattle.file_form.specs.declared.texts.Run.{Run}
use Rattle.file_form.specs.Nodes.{node_at, after_nodes, read_node_rows}
use Rattle.file_form.specs.Numbers.{after_numbers, numbers}
use Rattle.file_form.specs.Texts.{totalled, span_at, t_map, t_width, t_length, text_head, t_end, text_row, text_part, after_texts, read_text_rows, text_bytes}
use Rattle.file_form.proofs.Lists.{take_sets}

pub node_turn :
    (s : List ℕ) (p : Step) (i : ℕ) (t : List (List ℕ)) (q : Step) (n : Node)
    → q ≡ after_nodes s p i → take i t ≡ read_node_rows s p i → n ≡ node_at s q → i < length t
    → (n.next ≡ after_nodes s p (i + 1)) × (take (i + 1) (set t i n.row) ≡ read_node_rows s p (i + 1))
unfolding after_nodes read_node_rows
node_turn s p i t q n eq et en h =
    let e : n ≡ node_at s (after_nodes s p i) = en ∙ ap (node_at s) eq in
    (rw (add-one i) (ap (λ (m : Node). m.next) e), rw (add-one i, take-suc-set t i n.row h, et, e))

pub number_turn :
    (s : List ℕ) (p : Step) (i : ℕ) (t : List ℕ) (q r : Step)
    → q ≡ after_numbers s p i → take i t ≡ numbers s p i → r ≡ number_at s true q → i < length t
    → (r ≡ after_numbers s p (i + 1)) × (take (i + 1) (set t i r.value) ≡ numbers s p (i + 1))
unfolding after_numbers numbers
number_turn s p i t q r eq et er h =
    let e : r ≡ number_at s true (after_numbers s p i) = er ∙ ap (number_at s true) eq in
    (rw (add-one i) e, rw (add-one i, take-suc-set t i r.value h, et, e))

-- ---- texts

-- the running total stays within its limit
pub totalled_le : (total : ℕ) (f : Step) → total ≤ 65536 → total + (totalled total f).value ≤ 65536
unfolding totalled
totalled_le total f h = go (eqb f.fault 0) (leb (total + f.value) 65536) refl
  where
    go : (a b : Bool) → leb (total + f.value) 65536 ≡ b → total + (pick a (pick b f (refused 4 f.at)) (refused f.fault f.at)).value ≤ 65536
    go true true e = leb-true (total + f.value) 65536 e
    go true false e = omega arith
    go false b e = omega arith

pub head_le : (s : List ℕ) (total : ℕ) (p : Step) (h : Head) → h ≡ text_head s total p → total ≤ 65536 → total + h.len.value ≤ 65536
unfolding text_head t_length
head_le s total p h e l = rw e (totalled_le total (field_at s (bit (t_map s total p).value 2) (t_width s total p)) l)

-- a span is no longer than the length before it, and lies in the file
pub span_in : (s : List ℕ) (l : Step) → ((span_at s l).value ≤ l.value) × (length (take (span_at s l).value (drop l.at s)) ≡ (span_at s l).value)
unfolding span_at
span_in s l = go (eqb l.fault 0) (leb (l.at + l.value) (length s)) refl
  where
    go : (a b : Bool) → leb (l.at + l.value) (length s) ≡ b
        → ((pick a (pick b (got l.value (l.at + l.value)) (refused 2 l.at)) (refused l.fault l.at)).value ≤ l.value)
        × (length (take (pick a (pick b (got l.value (l.at + l.value)) (refused 2 l.at)) (refused l.fault l.at)).value (drop l.at s))
        ≡ (pick a (pick b (got l.value (l.at + l.value)) (refused 2 l.at)) (refused l.fault l.at)).value)
    go true true e = (omega arith, length-take-le l.value (drop l.at s) (let k = leb-true (l.at + l.value) (length s) e in simp length-drop (omega arith)))
    go true false e = (omega arith, refl)
    go false b e = (omega arith, refl)

pub record Texts (s : List ℕ) (p : Step) (i : ℕ) (t : List (List ℕ)) (bytes : List ℕ) (total : ℕ) (q : Step) : Type 0 where
  pub run : record { total = total; next = q } ≡ after_texts s p i
  pub limit : total ≤ 65536
  pub rows : take i t ≡ read_text_rows s p i
  pub held : take total bytes ≡ text_bytes s p i

pub text_turn :
    (s : List ℕ) (p : Step) (i : ℕ) (t : List (List ℕ)) (bytes bytes' : List ℕ) (total : ℕ) (q : Step) (h : Head) (e : Step)
    → Texts s p i t bytes total q
    → h ≡ text_head s total q
    → e ≡ span_at s h.len
    → bytes' ≡ sets bytes total (take (span_at s h.len).value (drop h.len.at s))
    → i < length t
    → 65536 ≤ length bytes
    → Texts s p (i + 1) (set t i (h.width ∷ e.value ∷ total ∷ [])) bytes' (total + e.value) e
unfolding after_texts read_text_rows text_bytes text_row text_part t_end text_head
text_turn s p i t bytes bytes' total q h e v eh ee eb hi hb =
    let le : total + h.len.value ≤ 65536 = head_le s total q h eh v.limit in
    let sp = span_in s h.len in
    let ev : e.value ≡ (span_at s h.len).value = ap (λ (x : Step). x.value) ee in
    let et : total ≡ (after_texts s p i).total = ap (λ (r : Run). r.total) v.run in
    let en : q ≡ (after_texts s p i).next = ap (λ (r : Run). r.next) v.run in
    record {
      run = rw (add-one i, ee, eh, et, en);
      limit = omega arith;
      rows = rw (add-one i, take-suc-set t i (h.width ∷ e.value ∷ total ∷ []) hi, v.rows, ee, eh, et, en);
      held = rw (add-one i, eb, take_sets bytes (take (span_at s h.len).value (drop h.len.at s)) total (total + e.value) (omega arith) (omega arith), v.held, eh, et, en);
    }
