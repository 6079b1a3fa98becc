-- A batch is its documents' single calls in the same order: each on what is free, with the record of the one before.
use Rattle.std.proofs.Common.{sym, subst, append-nil, append_assoc}
use Rattle.std.specs.Prelude.{List, [], ◌∷◌, ◌++◌, ℕ}
use Rattle.solve_workspace.specs.declared.Bounds.{Bounds}
use Rattle.solve_workspace.specs.declared.RenderOptions.{RenderOptions}
use Rattle.render.specs.declared.order.Lengths.{Lengths}
use Rattle.batch.specs.Batch.{Batch, One, Filed, none, more}

module _ (d : ℕ) (o : RenderOptions) (b : Bounds) (l : Lengths) where
  -- single calls, the first one first
  pub data Singles : List (List ℕ) → Batch → Batch → Type 0 where
    no_call : {F : Batch} → Singles [] F F
    first_call : {file : List ℕ} {files : List (List ℕ)} {F G H : Batch} → One d o b l file F G → Singles files G H → Singles (file ∷ files) F H

  -- two batches, one after the other
  pub record Parted (xs ys : List (List ℕ)) (F H : Batch) : Type 0 where
    pub between : Batch
    pub before : Filed d o b l xs F between
    pub behind : Filed d o b l ys between H

module _ {d : ℕ} {o : RenderOptions} {b : Bounds} {l : Lengths} where
  -- a batch of xs and then that of ys on what is left is the batch of xs ++ ys
  pub joined : {xs ys : List (List ℕ)} {F G H : Batch} → Filed d o b l xs F G → Filed d o b l ys G H → Filed d o b l (xs ++ ys) F H
  joined {xs} {F = F} {H = H} f none = subst (λ (zs : List (List ℕ)). Filed d o b l zs F H) (sym (append-nil xs)) f
  joined {xs} {F = F} {H = H} f (more {files = ys} {file = y} g h) = subst (λ (zs : List (List ℕ)). Filed d o b l zs F H) (append_assoc xs ys (y ∷ [])) (more (joined f g) h)

  last_call : {files : List (List ℕ)} {file : List ℕ} {F G H : Batch} → Singles d o b l files F G → One d o b l file G H → Singles d o b l (files ++ file ∷ []) F H
  last_call no_call h = first_call h no_call
  last_call (first_call g s) h = first_call g (last_call s h)

  pub in_sequence : {files : List (List ℕ)} {F G : Batch} → Filed d o b l files F G → Singles d o b l files F G
  in_sequence none = no_call
  in_sequence (more f h) = last_call (in_sequence f) h

  pub sequence_filed : {files : List (List ℕ)} {F G : Batch} → Singles d o b l files F G → Filed d o b l files F G
  sequence_filed no_call = none
  sequence_filed (first_call h s) = joined (more none h) (sequence_filed s)

  -- and the other way round
  parted_calls : (xs : List (List ℕ)) {ys : List (List ℕ)} {F H : Batch} → Singles d o b l (xs ++ ys) F H → Parted d o b l xs ys F H
  parted_calls [] s = record { between = _; before = none; behind = sequence_filed s }
  parted_calls (x ∷ xs) (first_call h s) = let p = parted_calls xs s in record { between = p.between; before = joined (more none h) p.before; behind = p.behind }

  pub parted : (xs : List (List ℕ)) {ys : List (List ℕ)} {F H : Batch} → Filed d o b l (xs ++ ys) F H → Parted d o b l xs ys F H
  parted xs f = parted_calls xs (in_sequence f)
