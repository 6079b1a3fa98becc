-- An answer, told in words, with the settings, sizes and counts that were given in words.
use mathlib.Core.Path.{◌≡◌, ap, subst, ◌∙◌}
use mathlib.Core.List.{List}
use Prim.Native.Nat.{ℕ}
use lib.ListN.{get_or}
use Rattle.solve_workspace.specs.declared.Bounds.{Bounds}
use Rattle.solve_workspace.specs.declared.RenderOptions.{RenderOptions}
use Rattle.materialize.specs.Rows.{Row}
use Rattle.prepare.specs.declared.write.FileCounts.{FileCounts}
use Rattle.std.specs.Prelude.{Result}
use Rattle.prepare.specs.declared.write.Unwritten.{Unwritten}
use Rattle.prepare.specs.Writing.{Writes, lent_tables, LentAt}
use Rattle.render.specs.declared.order.Lengths.{Lengths}
use Rattle.desks.specs.declared.Desks.{Desks}
use Rattle.desks.specs.declared.DeskAnswer.{DeskAnswer}
use Rattle.desks.specs.Desks.{charged}
use Rattle.desks.specs.Lent.{work_in}
use Rattle.desks.specs.Calls.{DeskRendering}
use Rattle.call_words.specs.Words.{words}
use Rattle.call_words.specs.Accounts.{desks_at, desk_words}
use Rattle.gannozhi.specs.Words.{Answered, write_size, write_number, Wrote}

pub answered : (d : ℕ) (was file : List ℕ) {o o' : RenderOptions} {b b' : Bounds} {D : Desks} (l : Lengths) (output₀ output : List ℕ) (rows₀ rows : List Row) (r : DeskAnswer) {is answer : List ℕ} {number : ℕ} → o ≡ o' → b ≡ b' → D ≡ desks_at was
    → DeskRendering d D file o b l output₀ output rows₀ rows r.answer × (r.desks ≡ charged D d (work_in r.answer)) → is ≡ desk_words r.desks → answer ≡ words r.answer → number ≡ get_or (words r.answer) 0 0
    → Answered d was is file o' b' l output₀ output rows₀ rows answer number
answered d was file {o} {o'} {b} {D = D} l output₀ output rows₀ rows r h e f g i a n = record {
  told = r.answer;
  rendering = subst (λ (x : Bounds). DeskRendering d (desks_at was) file o' x l output₀ output rows₀ rows r.answer) e
      (subst (λ (x : RenderOptions). DeskRendering d (desks_at was) file x b l output₀ output rows₀ rows r.answer) h
      (subst (λ (x : Desks). DeskRendering d x file o b l output₀ output rows₀ rows r.answer) f g.0));
  desks_are = i ∙ ap desk_words g.1 ∙ ap (λ (x : Desks). desk_words (charged x d (work_in r.answer))) f;
  answer_is = a;
  number_is = n;
}

pub wrote : {n n' : FileCounts} (nodes : List (List ℕ)) (edges choices : List ℕ) (texts : List (List ℕ)) (bytes out₀ out : List ℕ) (r : Result ℕ Unwritten) {size number : ℕ} → n ≡ n'
    → Writes (lent_tables n nodes edges choices texts bytes) (LentAt n nodes edges choices texts bytes) out₀ out r → size ≡ write_size r → number ≡ write_number r
    → Wrote (lent_tables n' nodes edges choices texts bytes) (LentAt n' nodes edges choices texts bytes) out₀ out size number
wrote nodes edges choices texts bytes out₀ out r e w s m =
    record { told = r; writes = subst (λ n. Writes (lent_tables n nodes edges choices texts bytes) (LentAt n nodes edges choices texts bytes) out₀ out r) e w; size_is = s; number_is = m }
