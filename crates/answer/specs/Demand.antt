-- Every answer is as promised; under sizes and limits none smaller a page stays the same page, counts too; so it does under just the sizes that it needs, and under less of one kind it is that kind's refusal; the counts balance.
use Rattle.std.specs.Prelude.{◌≡◌, refl, List, ℕ, ◌≤◌, length}
use Rattle.std.proofs.Common.{subst, arith}
use Rattle.file_encode.specs.Fields.{Bytes}
use Rattle.machine.specs.Events.{Bounds, Counts, Kind, size, need_of}
use Rattle.machine.specs.Materializer.{Rendered}
use Rattle.machine.specs.Answer.{Answer, paged, answer}
use Rattle.machine.specs.Balance.{Balanced, counts_in}
use Rattle.machine.proofs.Balance.{balanced_answer}
use Rattle.machine.specs.Larger.{Larger, larger_answer}
use Rattle.machine.specs.Just.{just, Smaller, Short, RefusedBy}
use Rattle.machine.proofs.Just.{within_answer, just_answer, short_answer, less_answer}
use Rattle.machine_right.specs.Pruned.{Fair, fair_answer}
use Rattle.machine_right.specs.FirstLeaf.{Used, used}
use Rattle.machine_right.specs.PageSizes.{output_is, spans_are}
use Rattle.file_form.specs.Form.{counts_of}
use Rattle.std.specs.Prelude.{Ok}
use Rattle.prepare.specs.File.{Means}
use Rattle.answer.specs.Answer.{Settings, Ordered, rules_of, document_of, lent_as, Answers, out_of_order, wrong_file, laid_out}
use Rattle.answer.specs.Ready.{means_ready}
use Rattle.answer.specs.Exactly.{answers_one}

-- ---- under sizes and limits none smaller

module _ {lent wider : Type 0} {file : List ℕ} {c : Settings} {b d : Bounds} (L : Larger b d) (w : wider) where
  larger_page : {a : Answer} (r : Rendered) (k : Counts) → Answers lent file c b a → a ≡ paged r k → Answers wider file c d (paged r k)
  larger_page r k (out_of_order n) e = let z : ◌≡◌ {A = ℕ} 0 1 = cc in absurd (omega arith)
  larger_page r k (wrong_file n o m) e = let z : ◌≡◌ {A = ℕ} 0 1 = cc in absurd (omega arith)
  larger_page r k (laid_out o m) e =
      subst (λ (a : Answer). Answers wider file c d a) (larger_answer b d L (rules_of c) (document_of file) r k e)
      (laid_out (lent_as w o) m)

  -- the answer is the same page, with the same counts, and no other
  pub same_page : {r : Rendered} {k : Counts} → Answers lent file c b (paged r k) → Answers wider file c d (paged r k)
  same_page {r} {k} a = larger_page r k a refl

  pub only_page : {r : Rendered} {k : Counts} {a : Answer} → Answers lent file c b (paged r k) → Answers wider file c d a → a ≡ paged r k
  only_page p q = answers_one q (same_page p)

-- ---- under just the sizes that a page needs, and under less (document 02, change 10)

-- how a page came about
record LaidOut (lent : Type 0) (file : List ℕ) (c : Settings) (b : Bounds) (a : Answer) : Type 0 where
  pub ordered : Ordered lent c
  pub means : Means file (Ok (counts_of file))
  pub is : answer (rules_of c) (document_of file) b ≡ a

module _ {lent : Type 0} {file : List ℕ} {c : Settings} {b : Bounds} {r : Rendered} {k : Counts} where
  laid_page : {a : Answer} → Answers lent file c b a → a ≡ paged r k → LaidOut lent file c b (paged r k)
  laid_page (out_of_order n) e = let z : ◌≡◌ {A = ℕ} 0 1 = cc in absurd (omega arith)
  laid_page (wrong_file n o m) e = let z : ◌≡◌ {A = ℕ} 0 1 = cc in absurd (omega arith)
  laid_page (laid_out o m) e = record { ordered = o; means = m; is = e }

  -- a page is an accepted file's
  pub accepted_page : Answers lent file c b (paged r k) → Means file (Ok (counts_of file))
  accepted_page p = (laid_page p refl).means

  -- what is needed was lent
  pub needs_within : Answers lent file c b (paged r k) → (x : Kind) → need_of k.needs x ≤ size b x
  needs_within p = let h = laid_page p refl in within_answer (rules_of c) (document_of file) b r k h.is

  -- of output and spans, what the page has
  pub needs_page : Answers lent file c b (paged r k) → (k.needs.output ≡ length r.bytes) × (k.needs.spans ≡ length r.spans)
  needs_page p = let h = laid_page p refl in (output_is (rules_of c) (document_of file) b r k h.is, spans_are (rules_of c) (document_of file) b r k h.is)

  -- of each kind but depth, output and spans something is needed
  pub needs_used : Bytes file → Answers lent file c b (paged r k) → Used k.needs
  needs_used z p = let h = laid_page p refl in used (rules_of c) (document_of file) (means_ready file z h.means) b r k h.is

  module _ {other : Type 0} (w : other) (p : Answers lent file c b (paged r k)) where
    pub just_answered : Answers other file c (just k.needs b) (paged r k)
    just_answered =
        let h = laid_page p refl in
        let same = just_answer (rules_of c) (document_of file) b r k h.is in
        subst (λ (a : Answer). Answers other file c (just k.needs b) a) same (laid_out (lent_as w h.ordered) h.means)

    -- the same page, the same counts and needs, and no other answer
    pub just_page : {a : Answer} → Answers other file c (just k.needs b) a → a ≡ paged r k
    just_page q = answers_one q just_answered

    refused_so : (x : Kind) (d : Bounds) → RefusedBy x k.needs d (answer (rules_of c) (document_of file) d) → {a : Answer} → Answers other file c d a → RefusedBy x k.needs d a
    refused_so x d own q =
        let h = laid_page p refl in
        subst (λ (a : Answer). RefusedBy x k.needs d a) (answers_one (laid_out (lent_as w h.ordered) h.means) q) own

    -- less of one kind, and of everything else enough
    pub short_refused : (x : Kind) (d : Bounds) → Short x k.needs b d → {a : Answer} → Answers other file c d a → RefusedBy x k.needs d a
    short_refused x d s q = refused_so x d (short_answer (rules_of c) (document_of file) b r k (laid_page p refl).is x d s) q

    pub less_refused : (x : Kind) (d : Bounds) → Smaller x k.needs b d → {a : Answer} → Answers other file c d a → RefusedBy x k.needs d a
    less_refused x d s q = refused_so x d (less_answer (rules_of c) (document_of file) b r k (laid_page p refl).is x d s) q

-- ---- the counts

-- work = hits + misses + generated, at every answer
pub balanced : {lent : Type 0} {file : List ℕ} {c : Settings} {b : Bounds} {a : Answer} → Answers lent file c b a → Balanced (counts_in a)
balanced (out_of_order n) = record { sum = refl }
balanced (wrong_file n o m) = record { sum = refl }
balanced {file = file} {c = c} {b = b} (laid_out o m) = balanced_answer (rules_of c) (document_of file) b

-- pruned ≤ generated, likewise
pub fair : {lent : Type 0} {file : List ℕ} {c : Settings} {b : Bounds} {a : Answer} → Answers lent file c b a → Fair (counts_in a)
fair (out_of_order n) = record { fewer = omega arith }
fair (wrong_file n o m) = record { fewer = omega arith }
fair {file = file} {c = c} {b = b} (laid_out o m) = fair_answer (rules_of c) (document_of file) b
