-- What the parts of `write` say of the whole.
use mathlib.Core.Path.{◌≡◌, refl, sym, ap, ◌∙◌}
use mathlib.Core.List.{List, ◌++◌}
use Prim.Native.Nat.{ℕ, zero, suc, ◌+◌, ◌≤◌, ◌<◌}
use native.Mathlib.Omega.{arith}
use lib.ListN.{length, take, drop}
use lib.Seq.{sets-eq, length-take-le}
use Rattle.file_tables.specs.Tables.{Tables, tables}
use Rattle.file_encode.specs.Encode.{encode, lengths, Sized}
use Rattle.file_encode.specs.Faults.{or_else, header_fault, nodes_fault, texts_fault, tables_fault}
use Rattle.file_encode.specs.Trips.{tables_right, texts_inside}
use Rattle.file_put.specs.Put.{Put}
use Rattle.file_checks.specs.Judged.{Formed, Judged}
use Rattle.std.specs.Prelude.{Ok}
use Rattle.refusals.specs.declared.Refusal.{Refusal}
use Rattle.refusals.specs.declared.Refusal.TheVariants.{Output}
use Rattle.refusals.specs.Numbers.{number_of}
use Rattle.refusals.specs.Laws.{number_some}
use Rattle.prepare.specs.Writing.{Outcome, unwritten, Writes, order, ill, wrong, room, written}

-- a refusal is the first of those that follow
or_first : (a b : ℕ) → (a ≡ 0 → ⊥) → or_else a b ≡ a
or_first zero b n = absurd (n refl)
or_first (suc a) b n = refl

module _ (t : Tables) where
  pub header_first : (p : Refusal) → number_of p ≡ header_fault (length t.nodes) (length t.edges) (length t.texts) t.annotations (length t.choices) → number_of p ≡ tables_fault t
  unfolding tables_fault
  header_first p h = rw (← h) (sym (or_first (number_of p) _ (number_some p)))

  pub nodes_first : (p : Refusal) → 0 ≡ header_fault (length t.nodes) (length t.edges) (length t.texts) t.annotations (length t.choices) → number_of p ≡ nodes_fault t.nodes
      → number_of p ≡ tables_fault t
  unfolding tables_fault
  nodes_first p h n = rw (← h, ← n) (sym (or_first (number_of p) _ (number_some p)))

  pub texts_last : {k : ℕ} → 0 ≡ header_fault (length t.nodes) (length t.edges) (length t.texts) t.annotations (length t.choices) → 0 ≡ nodes_fault t.nodes
      → k ≡ texts_fault 0 t.texts → k ≡ tables_fault t
  unfolding tables_fault
  texts_last h n e = rw (← h, ← n) e

-- right tables are fit for the rules
pub formed_by : (t : Tables) → length t.bytes ≡ lengths t.texts → tables_fault t ≡ 0 → Formed t
formed_by t l e =
    let r = tables_right t e in
    record { nodes = r.within.nodes_high; texts = record { inside = texts_inside t l r.texts } }

pub choices_few : (t : Tables) → tables_fault t ≡ 0 → length t.choices ≤ 16384
choices_few t e = (tables_right t e).within.choices_high

module _ (t : Tables) (lent : Type 0) (l : lent) where
  pub answer_ill : (o : List ℕ) (p : Refusal) → number_of p ≡ tables_fault t → Writes t lent o o (unwritten p 0)
  answer_ill o p e = ill p l (sym e) refl

  pub answer_room : (o b b' : List ℕ) (size : ℕ) → tables_fault t ≡ 0 → Judged t 0 → Put b b' 0 size (encode t) → length o < size → Writes t lent o o (unwritten Output size)
  answer_room o b b' size e j p h =
      let g : size ≡ length (encode t) = p.next ∙ omega arith in
      rw g (room l e j (omega arith) refl)

  pub answer_written : (o o' b b' : List ℕ) (size done : ℕ) → Sized t → tables_fault t ≡ 0 → Judged t 0 → Put b b' 0 size (encode t) → size ≤ length o → Put o o' 0 done (encode t)
      → Writes t lent o o' (Ok done)
  answer_written o o' b b' size done s e j p h q =
      let g : size ≡ length (encode t) = p.next ∙ omega arith in
      let d : done ≡ length (encode t) = q.next ∙ omega arith in
      let k : 0 + length (encode t) ≤ length o = omega arith in
      let z : 0 + length (encode t) ≡ length (encode t) = omega arith in
      rw d (written l s e j (omega arith) (q.bytes ∙ sets-eq (encode t) o 0 k ∙ ap (λ (x : ℕ). encode t ++ drop x o) z))

-- the same outcome under the same condition, said otherwise
pub writes_map : {t : Tables} {lent lent' : Type 0} {o o' : List ℕ} {r : Outcome} → (lent → lent') → (lent' → lent) → Writes t lent o o' r → Writes t lent' o o' r
writes_map f g (order n e) = order (λ l. n (g l)) e
writes_map f g (ill p l n e) = ill p (f l) n e
writes_map f g (wrong p l z j e) = wrong p (f l) z j e
writes_map f g (room l z j h e) = room (f l) z j h e
writes_map f g (written l s z j h e) = written (f l) s z j h e

pub cut_is : (ns : List (List ℕ)) (es xs : List ℕ) (ts : List (List ℕ)) (bs : List ℕ) (a r w total : ℕ) (o o' : List ℕ) (q : Outcome)
    → total ≡ lengths ts → total ≤ length bs
    → Writes (tables ns es xs ts (take total bs) a r w) (length (take total bs) ≡ lengths ts) o o' q
    → Writes (tables ns es xs ts (take (lengths ts) bs) a r w) (lengths ts ≤ length bs) o o' q
cut_is ns es xs ts bs a r w total o o' q e h p =
    let k : lengths ts ≤ length bs = omega arith in
    writes_map (λ _. k) (λ _. length-take-le (lengths ts) bs k) (rw e at p)
