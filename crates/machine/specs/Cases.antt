-- Worked cases, computed: pages that tell readings apart, and each refusal 11 to 22, 25 and 26, with their counts. Pages, counts and needed sizes are the Rust's wherever it can show them.
-- Document 01's starred cases are in crate answer, Starred.
use Rattle.std.specs.Prelude.{◌≡◌, refl, cond, List, [], ◌∷◌, map, ℕ, zero, suc, ◌+◌, eqb, get_or, length}
use Rattle.std.proofs.Math.Option.{Option, none, some}
use Rattle.cost.specs.Cost.{cheap, cheaper}
use Rattle.cost.specs.Charge.{charged}
use Rattle.memo.specs.Entries.{same}
use Rattle.layout.specs.Document.{Word}
use Rattle.layout.specs.Rules.{charging}
use Rattle.layout.specs.Spans.{Span}
use Rattle.layout.specs.Frontier.{covers}
use Rattle.layout.specs.Frontier.{present as presented}
use Rattle.layout.specs.Table.{Node, Empty, Break, HardLine, Text, Seq, Fill, Group, Align, Nest, Choice, Annotate, Penalty}
use Rattle.machine.specs.Events.{Bounds, Counts, Needs, no_needs}
use Rattle.machine.specs.Model.{Prepared, ExactChoice, plan_at}
use Rattle.machine.specs.Solver.{push_exact_task, push_exact_result, push_pending, checked_add, present, present_all, additional_plans, committed, finish_builder, singleton, present_range, union_ranges, present_wrapped, wrap_range, memo_insert, complete_node, push_joined, build_pending}
use Rattle.machine.specs.Solver.{checked_text, push_gaps, fill_boundary, push_child, complete_singleton, begin_empty, begin_text, begin_newline, begin_sequence, begin_union, begin_group, begin_nest, skip_choices, push_alternatives, begin_choice, begin_kind, begin_known, begin_node}
use Rattle.machine.specs.Solver.{complete_alias, complete_union, present_ranges, complete_choice_set, complete_wrapped, push_right, gap_if_fill, next_child, continue_sequence, next_left, complete_sequence_right, execute_task, step}
use Rattle.machine.specs.Solve.{rights, continued, work_off, work_off_all, evaluated, rest, before, least_key, solve_tasks, take_best, solve}
use Rattle.machine.specs.Materializer.{append_each, visit_plan, materialize, render}
use Rattle.machine.specs.Answer.{Answer, paged, refused, answer}

-- ---- tables, bounds, and answers as numbers

abbrev word : ℕ → List ℕ → Word
word w bs = record { width = w; bytes = bs }

pub record Given : Type 0 where
  pub of : ℕ
  pub choice : ExactChoice

abbrev given : ℕ → List ℕ → ℕ → Given
given n l k = record { of = n; choice = record { alternatives = l; skipped = k } }

abbrev flat_in : List (List ℕ) → ℕ → Option ℕ
flat_in [] n = none
flat_in (r ∷ rs) n = cond (eqb (get_or r 0 0) n) (some (get_or r 1 0)) (flat_in rs n)

abbrev choice_in : List Given → ℕ → Option ExactChoice
choice_in [] n = none
choice_in (g ∷ gs) n = cond (eqb g.of n) (some g.choice) (choice_in gs n)

-- root, nodes, texts (the first is the space), flat nodes, choice lists
abbrev prepared : ℕ → List Node → List Word → List (List ℕ) → List Given → Prepared
prepared root nodes texts flats lists = record {
  table = record { node = λ n. get_or nodes n Empty; flat = flat_in flats; texts = λ t. get_or texts t (word 0 []); space = get_or texts 0 (word 0 []) };
  choices = choice_in lists;
  root = root;
  space_text = 0;
  depth = length nodes;
}

abbrev bounds : ℕ → ℕ → ℕ → ℕ → ℕ → ℕ → ℕ → ℕ → ℕ → ℕ → ℕ → Bounds
bounds s m k f p v d o n w l = record {
  stack = s;
  memo = m;
  kept = k;
  frontier = f;
  plans = p;
  visit = v;
  depth = d;
  output = o;
  spans = n;
  work_limit = w;
  visit_limit = l;
}

abbrev ample : Bounds
ample = bounds 64 64 64 16 64 32 8 64 8 1000 1000

-- work, hits, misses, generated, pruned, peak, entries, plan nodes, visits
abbrev counted : ℕ → ℕ → ℕ → ℕ → ℕ → ℕ → ℕ → ℕ → ℕ → List ℕ
counted w h m g p t e n v = w ∷ h ∷ m ∷ g ∷ p ∷ t ∷ e ∷ n ∷ v ∷ []

abbrev counts_of : Counts → List ℕ
counts_of k = counted k.work_items k.memo_hits k.memo_misses k.candidates_generated k.candidates_pruned k.peak_frontier k.memo_entries k.plan_nodes k.visits

abbrev parent_of : Option ℕ → ℕ
parent_of none = 0
parent_of (some n) = suc n

-- annotation, start, end, and 0 or one more than the parent
abbrev span_of : Span → List ℕ
span_of s = s.annotation ∷ s.start ∷ s.end ∷ parent_of s.parent ∷ []

abbrev page : List ℕ → ℕ → ℕ → List ℕ → List (List ℕ) → List (List ℕ)
page bytes overflow burden counts spans = bytes ∷ (overflow ∷ burden ∷ []) ∷ counts ∷ spans

-- number, needed size, counts
abbrev refusal : ℕ → ℕ → List ℕ → List (List ℕ)
refusal n m counts = (n ∷ m ∷ []) ∷ counts ∷ []

abbrev said : Answer → List (List ℕ)
said (paged p k) = page p.bytes p.cost.overflow p.cost.burden (counts_of k) (map span_of p.spans)
said (refused n m k) = refusal n m (counts_of k)

-- under a cost rule, at a width, a newline cost and a policy; the line names all that a case computes with
under : ℕ → ℕ → ℕ → ℕ → Prepared → Bounds → List (List ℕ)
unfolding cheap cheaper charged same covers presented plan_at push_exact_task push_exact_result push_pending checked_add present present_all additional_plans committed finish_builder singleton present_range union_ranges present_wrapped wrap_range memo_insert complete_node push_joined build_pending checked_text push_gaps fill_boundary push_child complete_singleton begin_empty begin_text begin_newline begin_sequence begin_union begin_group begin_nest skip_choices push_alternatives begin_choice begin_kind begin_known begin_node complete_alias complete_union present_ranges complete_choice_set complete_wrapped push_right gap_if_fill next_child continue_sequence next_left complete_sequence_right execute_task step rights continued work_off work_off_all evaluated rest before least_key solve_tasks take_best solve append_each visit_plan materialize render answer
under r w n p d b = said (answer (charging r w n p) d b)

-- under rule 1
tried : ℕ → ℕ → ℕ → Prepared → Bounds → List (List ℕ)
unfolding under
tried = under 1

-- the needs that a page comes with, in the order of 13 to 21; and the frontier's beside peak_frontier
abbrev needs_in : Answer → Needs
needs_in (paged p k) = k.needs
needs_in (refused n m k) = no_needs

needing : ℕ → Prepared → List ℕ
unfolding cheap cheaper charged same covers presented plan_at push_exact_task push_exact_result push_pending checked_add present present_all additional_plans committed finish_builder singleton present_range union_ranges present_wrapped wrap_range memo_insert complete_node push_joined build_pending checked_text push_gaps fill_boundary push_child complete_singleton begin_empty begin_text begin_newline begin_sequence begin_union begin_group begin_nest skip_choices push_alternatives begin_choice begin_kind begin_known begin_node complete_alias complete_union present_ranges complete_choice_set complete_wrapped push_right gap_if_fill next_child continue_sequence next_left complete_sequence_right execute_task step rights continued work_off work_off_all evaluated rest before least_key solve_tasks take_best solve append_each visit_plan materialize render answer
needing w d =
    let q = needs_in (answer (charging 1 w 1 0) d ample) in
    q.stack ∷ q.memo ∷ q.kept ∷ q.frontier ∷ q.plans ∷ q.visit ∷ q.depth ∷ q.output ∷ q.spans ∷ []

-- ---- the cases

abbrev ab_doc : Prepared
ab_doc = prepared 0 (Text 1 ∷ [])
    (word 1 (32 ∷ []) ∷ word 2 (97 ∷ 98 ∷ []) ∷ []) ([]) ([])

abbrev abc_1_doc : Prepared
abc_1_doc = prepared 0 (Text 1 ∷ [])
    (word 1 (32 ∷ []) ∷ word 3 (97 ∷ 98 ∷ 99 ∷ []) ∷ []) ([]) ([])

-- rule 1 charges the square of the excess, rule 2 the excess
abc_1 : tried 1 1 0 abc_1_doc ample ≡ page (97 ∷ 98 ∷ 99 ∷ []) 4 0 (counted 2 0 1 1 0 1 1 1 1) ([])
unfolding tried
abc_1 = refl

abc_1_excess : under 2 1 1 0 abc_1_doc ample ≡ page (97 ∷ 98 ∷ 99 ∷ []) 2 0 (counted 2 0 1 1 0 1 1 1 1) ([])
unfolding under
abc_1_excess = refl

-- `abcd`, or `abc` on two lines
abbrev one_or_two_doc : Prepared
one_or_two_doc = prepared 4 (Text 1 ∷ Text 2 ∷ HardLine ∷ Seq (1 ∷ 2 ∷ 1 ∷ []) ∷ Choice 0 3 ∷ [])
    (word 1 (32 ∷ []) ∷ word 4 (97 ∷ 98 ∷ 99 ∷ 100 ∷ []) ∷ word 3 (97 ∷ 98 ∷ 99 ∷ []) ∷ []) ([]) ([])

-- the page differs: rule 1 charges 9 and 4 + 4, rule 2 charges 3 and 2 + 2
one_or_two : tried 1 0 0 one_or_two_doc ample ≡ page (97 ∷ 98 ∷ 99 ∷ 10 ∷ 97 ∷ 98 ∷ 99 ∷ []) 8 0 (counted 13 1 5 7 1 1 5 5 5) ([])
unfolding tried
one_or_two = refl

one_or_two_excess : under 2 1 0 0 one_or_two_doc ample ≡ page (97 ∷ 98 ∷ 99 ∷ 100 ∷ []) 3 0 (counted 13 1 5 7 0 2 5 5 1) ([])
unfolding under
one_or_two_excess = refl

-- Group of `ab` Break `cd`, flat `ab cd`
abbrev group_doc : Prepared
group_doc = prepared 6 (Text 1 ∷ Text 2 ∷ Break ∷ Seq (0 ∷ 2 ∷ 1 ∷ []) ∷ Text 0 ∷ Seq (0 ∷ 4 ∷ 1 ∷ []) ∷ Group 3 ∷ [])
    (word 1 (32 ∷ []) ∷ word 2 (97 ∷ 98 ∷ []) ∷ word 2 (99 ∷ 100 ∷ []) ∷ []) ((3 ∷ 5 ∷ []) ∷ []) ([])

-- Fill of `a`, `b`
abbrev fill_doc : Prepared
fill_doc = prepared 2 (Text 1 ∷ Text 2 ∷ Fill (0 ∷ 1 ∷ []) ∷ [])
    (word 1 (32 ∷ []) ∷ word 1 (97 ∷ []) ∷ word 1 (98 ∷ []) ∷ []) ([]) ([])

-- HardLine in Nest 3
abbrev hardline_doc : Prepared
hardline_doc = prepared 1 (HardLine ∷ Nest 3 0 ∷ [])
    (word 1 (32 ∷ []) ∷ []) ([]) ([])

abbrev list_doc : Prepared
list_doc = prepared 4 (Text 1 ∷ HardLine ∷ Empty ∷ Choice 1 2 ∷ Choice 0 3 ∷ [])
    (word 1 (32 ∷ []) ∷ word 2 (97 ∷ 98 ∷ []) ∷ []) ([]) (given 4 (0 ∷ 1 ∷ 2 ∷ []) 1 ∷ [])

-- with its list, and without: the same page, other counts
choice_list : tried 1 1 0 list_doc ample ≡ page ([]) 0 0 (counted 11 0 5 6 2 1 4 3 1) ([])
unfolding tried
choice_list = refl

abbrev nested_doc : Prepared
nested_doc = prepared 4 (Text 1 ∷ HardLine ∷ Empty ∷ Choice 1 2 ∷ Choice 0 3 ∷ [])
    (word 1 (32 ∷ []) ∷ word 2 (97 ∷ 98 ∷ []) ∷ []) ([]) ([])

choice_nested : tried 1 1 0 nested_doc ample ≡ page ([]) 0 0 (counted 12 0 5 7 2 1 5 3 1) ([])
unfolding tried
choice_nested = refl

abbrev every_doc : Prepared
every_doc = prepared 10 (Text 1 ∷ Break ∷ Nest 2 1 ∷ Seq (0 ∷ 2 ∷ []) ∷ Annotate 7 3 ∷ Penalty 5 4 ∷ Annotate 9 5 ∷ Seq ([]) ∷ Group 0 ∷ Align 8 ∷ Seq (6 ∷ 7 ∷ 9 ∷ []) ∷ [])
    (word 1 (32 ∷ []) ∷ word 2 (97 ∷ 98 ∷ []) ∷ []) ([]) ([])

-- annotations, a penalty, a Group without flat node, Align, an empty Seq
every_kind : tried 2 1 0 every_doc ample ≡ page (97 ∷ 98 ∷ 10 ∷ 32 ∷ 32 ∷ 97 ∷ 98 ∷ []) 4 6 (counted 22 0 12 10 0 1 12 10 12) ((9 ∷ 0 ∷ 5 ∷ 0 ∷ []) ∷ (7 ∷ 0 ∷ 5 ∷ 1 ∷ []) ∷ [])
unfolding tried
every_kind = refl

-- 21 comes before 19
spans_first : tried 2 1 0 every_doc (bounds 64 64 64 16 64 32 1 64 1 1000 1000) ≡ refusal 21 2 (counted 22 0 12 10 0 1 12 10 5)
unfolding tried
spans_first = refl

-- `ab`, then an Align over Nest 2^32 − 2 over Empty
abbrev aligned_doc : Prepared
aligned_doc = prepared 4 (Text 1 ∷ Empty ∷ Nest 4294967294 1 ∷ Align 2 ∷ Seq (0 ∷ 3 ∷ []) ∷ [])
    (word 1 (32 ∷ []) ∷ word 2 (97 ∷ 98 ∷ []) ∷ []) ([]) ([])

-- 25: the sum is tested before it is lowered
aligned_nest : tried 80 1 1 aligned_doc ample ≡ refusal 25 0 (counted 5 0 4 1 0 1 1 0 0)
unfolding tried
aligned_nest = refl

abbrev wide_doc : Prepared
wide_doc = prepared 2 (Text 1 ∷ Text 2 ∷ Seq (0 ∷ 1 ∷ []) ∷ [])
    (word 1 (32 ∷ []) ∷ word 4294967295 (97 ∷ []) ∷ word 1 (98 ∷ []) ∷ []) ([]) ([])

-- Seq of widths 2^32 − 1 and 1: 11, or 12 before it
wide_4 : tried 80 1 0 wide_doc (bounds 64 64 64 16 64 32 8 64 8 4 1000) ≡ refusal 11 0 (counted 4 0 3 1 0 1 1 0 0)
unfolding tried
wide_4 = refl

wide_3 : tried 80 1 0 wide_doc (bounds 64 64 64 16 64 32 8 64 8 3 1000) ≡ refusal 12 0 (counted 3 0 2 1 0 1 1 0 0)
unfolding tried
wide_3 = refl

abbrev choice_doc : Prepared
choice_doc = prepared 4 (Empty ∷ Text 1 ∷ Text 2 ∷ Seq (1 ∷ 2 ∷ []) ∷ Choice 0 3 ∷ [])
    (word 1 (32 ∷ []) ∷ word 4294967295 (97 ∷ []) ∷ word 1 (98 ∷ []) ∷ []) ([]) ([])

-- 11 although a page would exist
choice_11 : tried 80 1 0 choice_doc ample ≡ refusal 11 0 (counted 7 0 5 2 0 1 2 0 0)
unfolding tried
choice_11 = refl

abbrev page_doc : Prepared
page_doc = prepared 4 (Empty ∷ Text 1 ∷ Choice 0 1 ∷ Text 2 ∷ Seq (2 ∷ 3 ∷ []) ∷ [])
    (word 1 (32 ∷ []) ∷ word 4294967295 (97 ∷ []) ∷ word 1 (98 ∷ []) ∷ []) ([]) ([])

-- and a page although some layout passes 2^32 columns
choice_page : tried 80 1 0 page_doc ample ≡ page (98 ∷ []) 0 0 (counted 11 0 5 6 1 1 5 4 3) ([])
unfolding tried
choice_page = refl

-- a Fill's space past 2^32 − 1
abbrev gap_doc : Prepared
gap_doc = prepared 2 (Text 1 ∷ Empty ∷ Fill (0 ∷ 1 ∷ []) ∷ [])
    (word 1 (32 ∷ []) ∷ word 4294967295 (97 ∷ []) ∷ []) ([]) ([])

gap_11 : tried 80 1 0 gap_doc ample ≡ refusal 11 0 (counted 3 0 2 1 0 1 1 0 0)
unfolding tried
gap_11 = refl

-- an indent that has its place leaves none for the text after a newline to it: 11, not 25
abbrev deep_doc : Prepared
deep_doc = prepared 3 (HardLine ∷ Text 1 ∷ Seq (0 ∷ 1 ∷ []) ∷ Nest 4294967295 2 ∷ [])
    (word 1 (32 ∷ []) ∷ word 1 (97 ∷ []) ∷ []) ([]) ([])

deep_11 : tried 80 1 0 deep_doc ample ≡ refusal 11 0 (counted 5 0 4 1 0 1 1 0 0)
unfolding tried
deep_11 = refl

-- two Nests past 2^32 − 1 beside two texts past it: what is met first
abbrev nests_doc : List ℕ → Prepared
nests_doc order = prepared 5 (Text 1 ∷ Text 2 ∷ Empty ∷ Nest 4294967295 2 ∷ Nest 1 3 ∷ Seq order ∷ [])
    (word 1 (32 ∷ []) ∷ word 4294967295 (97 ∷ []) ∷ word 1 (98 ∷ []) ∷ []) ([]) ([])

nests_first : tried 80 1 0 (nests_doc (4 ∷ 0 ∷ 1 ∷ [])) ample ≡ refusal 25 0 (counted 3 0 3 0 0 0 0 0 0)
unfolding tried
nests_first = refl

texts_first : tried 80 1 0 (nests_doc (0 ∷ 1 ∷ 4 ∷ [])) ample ≡ refusal 11 0 (counted 4 0 3 1 0 1 1 0 0)
unfolding tried
texts_first = refl

-- Seqs of node k twice, of that twice, and so on
abbrev doublings : ℕ → ℕ → List Node
doublings k zero = []
doublings k (suc n) = Seq (k ∷ k ∷ []) ∷ doublings (suc k) n

abbrev fines_doc : ℕ → Prepared
fines_doc n = prepared (1 + n) (Empty ∷ Penalty 4294967295 0 ∷ doublings 1 n)
    (word 1 (32 ∷ []) ∷ []) ([]) ([])

-- 26 by the burden; one doubling less has its place, and the plan is walked
fines_33 : tried 80 1 0 (fines_doc 33) ample ≡ refusal 26 0 (counted 102 33 35 34 0 1 34 0 0)
unfolding tried
fines_33 = refl

fines_32 : tried 80 1 0 (fines_doc 32) (bounds 64 64 64 16 64 64 8 64 8 1000 0) ≡ refusal 22 0 (counted 100 32 34 34 0 1 34 34 0)
unfolding tried
fines_32 = refl

abbrev vast : Bounds
vast = bounds 256 256 256 16 256 256 8 64 8 1000 1000

abbrev lines_doc : ℕ → Prepared
lines_doc n = prepared (1 + n) (HardLine ∷ Nest 4294967295 0 ∷ doublings 1 n)
    (word 1 (32 ∷ []) ∷ []) ([]) ([])

-- 26 by the overflow
lines_65 : tried 1 0 0 (lines_doc 65) vast ≡ refusal 26 0 (counted 391 128 133 130 0 1 132 0 0)
unfolding tried
lines_65 = refl

-- 12
ab_work_1 : tried 80 1 0 ab_doc (bounds 64 64 64 16 64 32 8 64 8 1 1000) ≡ refusal 12 0 (counted 1 0 1 0 0 0 0 0 0)
unfolding tried
ab_work_1 = refl

ab_work_2 : tried 80 1 0 ab_doc (bounds 64 64 64 16 64 32 8 64 8 2 1000) ≡ page (97 ∷ 98 ∷ []) 0 0 (counted 2 0 1 1 0 1 1 1 1) ([])
unfolding tried
ab_work_2 = refl

ab_work_0 : tried 80 1 0 ab_doc (bounds 64 64 64 16 64 32 8 64 8 0 1000) ≡ refusal 12 0 (counted 0 0 0 0 0 0 0 0 0)
unfolding tried
ab_work_0 = refl

-- 13 before 12; and the third task
stack_0 : tried 80 1 0 ab_doc (bounds 0 64 64 16 64 32 8 64 8 0 1000) ≡ refusal 13 1 (counted 0 0 0 0 0 0 0 0 0)
unfolding tried
stack_0 = refl

stack_2 : tried 5 1 0 group_doc (bounds 2 64 64 16 64 32 8 64 8 1000 1000) ≡ refusal 13 3 (counted 1 0 1 0 0 0 0 0 0)
unfolding tried
stack_2 = refl

-- 14
memo_0 : tried 80 1 0 ab_doc (bounds 64 0 64 16 64 32 8 64 8 1000 1000) ≡ refusal 14 1 (counted 2 0 1 1 0 1 0 0 0)
unfolding tried
memo_0 = refl

-- 15
kept_0 : tried 80 1 0 ab_doc (bounds 64 64 0 16 64 32 8 64 8 1000 1000) ≡ refusal 15 1 (counted 2 0 1 1 0 0 0 0 0)
unfolding tried
kept_0 = refl

-- 16; and where a second candidate survives
frontier_0 : tried 80 1 0 ab_doc (bounds 64 64 64 0 64 32 8 64 8 1000 1000) ≡ refusal 16 1 (counted 2 0 1 1 0 0 0 0 0)
unfolding tried
frontier_0 = refl

frontier_1 : tried 3 1 0 fill_doc (bounds 64 64 64 1 64 32 8 64 8 1000 1000) ≡ refusal 16 2 (counted 5 0 2 3 0 1 1 0 0)
unfolding tried
frontier_1 = refl

-- 17: counted before they are made
plans_0 : tried 80 1 0 ab_doc (bounds 64 64 64 16 0 32 8 64 8 1000 1000) ≡ refusal 17 1 (counted 2 0 1 1 0 0 0 0 0)
unfolding tried
plans_0 = refl

plans_3 : tried 3 1 0 fill_doc (bounds 64 64 64 16 3 32 8 64 8 1000 1000) ≡ refusal 17 5 (counted 7 0 2 5 0 2 1 0 0)
unfolding tried
plans_3 = refl

-- 18 before 22
visit_0 : tried 80 1 0 ab_doc (bounds 64 64 64 16 64 0 8 64 8 1000 0) ≡ refusal 18 1 (counted 2 0 1 1 0 1 1 1 0)
unfolding tried
visit_0 = refl

visit_1 : tried 3 1 0 fill_doc (bounds 64 64 64 16 64 1 8 64 8 1000 1000) ≡ refusal 18 2 (counted 13 0 4 9 0 2 4 9 1)
unfolding tried
visit_1 = refl

abbrev marked_doc : Prepared
marked_doc = prepared 1 (Text 1 ∷ Annotate 3 0 ∷ [])
    (word 1 (32 ∷ []) ∷ word 2 (97 ∷ 98 ∷ []) ∷ []) ([]) ([])

-- 19
depth_0 : tried 80 1 0 marked_doc (bounds 64 64 64 16 64 32 0 64 8 1000 1000) ≡ refusal 19 1 (counted 4 0 2 2 0 1 2 2 1)
unfolding tried
depth_0 = refl

-- 20: a text needs all its bytes, a newline one at a time
output_1 : tried 80 1 0 ab_doc (bounds 64 64 64 16 64 32 8 1 8 1000 1000) ≡ refusal 20 2 (counted 2 0 1 1 0 1 1 1 1)
unfolding tried
output_1 = refl

output_newline : tried 80 1 0 hardline_doc (bounds 64 64 64 16 64 32 8 2 8 1000 1000) ≡ refusal 20 3 (counted 3 0 2 1 0 1 2 1 1)
unfolding tried
output_newline = refl

-- 21
spans_0 : tried 80 1 0 marked_doc (bounds 64 64 64 16 64 32 8 64 0 1000 1000) ≡ refusal 21 1 (counted 4 0 2 2 0 1 2 2 1)
unfolding tried
spans_0 = refl

-- 22
visits_spent : tried 3 1 0 fill_doc (bounds 64 64 64 16 64 32 8 64 8 1000 3) ≡ refusal 22 0 (counted 13 0 4 9 0 2 4 9 3)
unfolding tried
visits_spent = refl

-- ---- needs (document 02, change 10)

-- one Empty: the smallest
abbrev empty_doc : Prepared
empty_doc = prepared 0 (Empty ∷ [])
    (word 1 (32 ∷ []) ∷ []) ([]) ([])

needs_empty : needing 80 empty_doc ≡ 1 ∷ 1 ∷ 1 ∷ 1 ∷ 1 ∷ 1 ∷ 0 ∷ 0 ∷ 0 ∷ []
unfolding needing
needs_empty = refl

needs_marked : needing 80 marked_doc ≡ 2 ∷ 2 ∷ 2 ∷ 1 ∷ 2 ∷ 2 ∷ 1 ∷ 2 ∷ 1 ∷ []
unfolding needing
needs_marked = refl

-- a list of Penalty 1 over `a`, Penalty 1 over `bb`, Empty: the frontier holds 1, 2, then 1 candidate, and peak_frontier is 1
abbrev falling_doc : Prepared
falling_doc = prepared 6 (Text 1 ∷ Text 2 ∷ Penalty 1 0 ∷ Penalty 1 1 ∷ Empty ∷ Choice 3 4 ∷ Choice 2 5 ∷ [])
    (word 1 (32 ∷ []) ∷ word 1 (97 ∷ []) ∷ word 2 (98 ∷ 98 ∷ []) ∷ []) ([]) (given 6 (2 ∷ 3 ∷ 4 ∷ []) 1 ∷ [])

falling : tried 80 1 0 falling_doc ample ≡ page ([]) 0 0 (counted 15 0 7 8 2 1 6 5 1) ([])
unfolding tried
falling = refl

needs_falling : needing 80 falling_doc ≡ 5 ∷ 6 ∷ 6 ∷ 2 ∷ 5 ∷ 1 ∷ 0 ∷ 0 ∷ 0 ∷ []
unfolding needing
needs_falling = refl

falling_16 : tried 80 1 0 falling_doc (bounds 64 64 64 1 64 32 8 64 8 1000 1000) ≡ refusal 16 2 (counted 14 0 7 7 0 1 5 0 0)
unfolding tried
falling_16 = refl

-- the stack's need is of tasks (three Aligns over Empty), of results (a list of four whose last is a list of three: tasks come to 5), of pending (a Seq of two Choices of three widths each)
abbrev aligns_doc : Prepared
aligns_doc = prepared 3 (Empty ∷ Align 0 ∷ Align 1 ∷ Align 2 ∷ [])
    (word 1 (32 ∷ []) ∷ []) ([]) ([])

needs_aligns : needing 80 aligns_doc ≡ 4 ∷ 4 ∷ 1 ∷ 1 ∷ 1 ∷ 1 ∷ 0 ∷ 0 ∷ 0 ∷ []
unfolding needing
needs_aligns = refl

abbrev lists_doc : Prepared
lists_doc = prepared 5 (Empty ∷ Choice 0 0 ∷ Choice 0 1 ∷ Choice 0 2 ∷ Choice 0 3 ∷ Choice 0 4 ∷ [])
    (word 1 (32 ∷ []) ∷ []) ([]) (given 2 (0 ∷ 0 ∷ 0 ∷ []) 1 ∷ given 5 (0 ∷ 0 ∷ 0 ∷ 2 ∷ []) 2 ∷ [])

needs_lists : needing 80 lists_doc ≡ 6 ∷ 3 ∷ 3 ∷ 1 ∷ 1 ∷ 1 ∷ 0 ∷ 0 ∷ 0 ∷ []
unfolding needing
needs_lists = refl

abbrev widths_doc : Prepared
widths_doc = prepared 5 (Text 1 ∷ Text 2 ∷ Text 3 ∷ Choice 1 2 ∷ Choice 0 3 ∷ Seq (4 ∷ 4 ∷ []) ∷ [])
    (word 1 (32 ∷ []) ∷ word 1 (97 ∷ []) ∷ word 2 (98 ∷ 98 ∷ []) ∷ word 3 (99 ∷ 99 ∷ 99 ∷ []) ∷ []) ([]) ([])

needs_widths : needing 80 widths_doc ≡ 9 ∷ 21 ∷ 37 ∷ 5 ∷ 17 ∷ 2 ∷ 0 ∷ 2 ∷ 0 ∷ []
unfolding needing
needs_widths = refl
