-- What the parts of `read` say of the whole.
use mathlib.Core.Path.{◌≡◌, refl, sym, ◌∙◌}
use mathlib.Core.List.{List}
use Prim.Native.Nat.{ℕ, ◌≤◌}
use native.Mathlib.Omega.{arith}
use lib.ListN.{length, take}
use Rattle.file_tables.specs.Tables.{Tables}
use Rattle.file_form.specs.declared.fill.Counts.{Counts}
use Rattle.file_form.specs.declared.fill.Filled.{Filled}
use Rattle.file_form.specs.Form.{form_fault, tables_of, counts_of, tables_held, Filling}
use Rattle.file_encode.specs.Encode.{Sized}
use Rattle.file_encode.specs.Fields.{Bytes}
use Rattle.file_encode.specs.TextTrip.{texts_total}
use Rattle.file_encode.specs.Trips.{Encoded, encoded, Right, tables_right, texts_inside}
use Rattle.file_checks.specs.Judged.{Formed, Judged}
use Rattle.std.specs.Prelude.{Result, Ok, Err}
use Rattle.std.specs.Result.{IsErrAnd}
use Rattle.std.proofs.lemmas.Result.{err_from_is_err_and}
use Rattle.refusals.specs.declared.Refusal.{Refusal}
use Rattle.refusals.specs.Numbers.{number_of}
use Rattle.prepare.specs.File.{ill, wrong, right, Reads, refused, accepted}
pub use Rattle.prepare.specs.Laws.{held_is}

-- what a `?` hands on
pub err_is : {A E : Type 0} {r : Result A E} {d : E} → IsErrAnd r (λ (e : E). e ≡ d) → r ≡ Err d
err_is {r = r} h = let p = err_from_is_err_and r h in rw (p.1, p.2) refl

-- the counts of an accepted file, each within its limit
pub record Bounds (n : Counts) : Type 0 where
  pub nodes : n.nodes ≤ 4096
  pub edges : n.edges ≤ 16384
  pub choices : n.choices ≤ 16384
  pub texts : n.texts ≤ 4096
  pub bytes : n.bytes ≤ 65536

formed_of : (t : Tables) → Sized t → Right t → Formed t
formed_of t z r = record { nodes = r.within.nodes_high; texts = record { inside = texts_inside t z.bytes r.texts } }

bounds_of : (s : List ℕ) → Encoded s → Bounds (counts_of s)
bounds_of s e =
    let r = tables_right (tables_of s) e.right in
    let c = e.counted in
    record {
      nodes = omega (arith, r.within.nodes_high, c.nodes);
      edges = omega (arith, r.within.edges_high, c.edges);
      choices = omega (arith, r.within.choices_high, c.choices);
      texts = omega (arith, r.within.texts_high, c.texts);
      bytes = omega (arith, texts_total 0 (tables_of s).texts (omega arith) r.texts, c.bytes, e.sized.bytes);
    }

module _ (s : List ℕ) (f : Filled) (ns : List (List ℕ)) (es xs : List ℕ) (ts : List (List ℕ)) (bs : List ℕ) (g : Filling s f ns es xs ts bs) where
  same : tables_held f.counts ns es xs ts bs ≡ tables_of s
  same = rw g.counts (held_is s ns es xs ts bs g.held)

  pub well : f.fault ≡ 0 → form_fault s ≡ 0
  well e = sym g.fault ∙ e

  pub bounds : Bytes s → f.fault ≡ 0 → Bounds f.counts
  bounds z e = rw g.counts (bounds_of s (encoded s z (well e)))

  pub formed : Bytes s → f.fault ≡ 0 → Formed (tables_held f.counts ns es xs ts bs)
  formed z e = let k = encoded s z (well e) in rw same (formed_of (tables_of s) k.sized (tables_right (tables_of s) k.right))

  pub few : Bytes s → f.fault ≡ 0 → length (take f.counts.choices xs) ≤ 16384
  few z e = let k = encoded s z (well e) in rw (g.counts, g.held.choice_list) (tables_right (tables_of s) k.right).within.choices_high

  pub answer_ill : {lent : Type 0} → lent → (p : Refusal) → number_of p ≡ f.fault → Reads s lent ns es xs ts bs (Err p)
  answer_ill l p e = refused p l (ill p (sym (e ∙ g.fault)))

  pub answer_wrong : {lent : Type 0} → lent → f.fault ≡ 0 → (p : Refusal) → Judged (tables_held f.counts ns es xs ts bs) (number_of p) → Reads s lent ns es xs ts bs (Err p)
  answer_wrong l e p j = refused p l (wrong p (well e) (rw same at j))

  pub answer_right : {lent : Type 0} → lent → f.fault ≡ 0 → Judged (tables_held f.counts ns es xs ts bs) 0 → Reads s lent ns es xs ts bs (Ok f.counts)
  answer_right l e j = rw g.counts (accepted l (right (well e) (rw same at j)) g.held)
