-- How a worked case is shown: the file's bytes are computed from its tables and read back by the round trip, 6 to 10 are tested, and the answer is computed.
use Rattle.std.specs.Prelude.{◌≡◌, refl, Bool, true, false, not, ◌||◌, List, [], ◌∷◌, ℕ, zero, suc, ◌+◌, ◌≤◌, ◌<◌, ltb, leb, eqb, length, get_or}
use Rattle.std.proofs.Common.{sym, ap, ◌∙◌, subst, arith, ltb-true, leb-true, eqb-true, eq-eqb}
use Rattle.std.proofs.Math.Option.{some}
use Rattle.std.proofs.lemmas.Bool.{eqb-false, not-true}
use Rattle.cost.specs.Cost.{cheap, cheaper}
use Rattle.cost.specs.Charge.{charged}
use Rattle.memo.specs.Entries.{same}
use Rattle.layout.specs.Frontier.{covers}
use Rattle.layout.specs.Frontier.{present as presented}
use Rattle.file_tables.specs.Tables.{Tables, kind, first, second, flat, flat_mark, flat_word, if_marked, choice_length, node_row, width}
use Rattle.file_form.specs.Kinds.{both, only, named, has_first, has_second, map_right, pair_right}
use Rattle.file_form.specs.Tests.{both_true, only_true, all_below, at_below}
use Rattle.file_form.specs.Form.{form_fault, tables_of}
use Rattle.file_encode.specs.Encode.{map_of, header_map, enc_header, node_map, enc_node, text_map, enc_text, enc_texts, each, encode, lengths, Sized}
use Rattle.file_encode.specs.Faults.{node_is_right, nodes_fault, texts_fault, header_fault, tables_fault}
use Rattle.file_encode.specs.Trips.{reads_back}
use Rattle.file_utf8.specs.Bytewise.{low, high, well}
use Rattle.file_utf8.specs.Bytewise.{more as more_bytes}
use Rattle.file_utf8.specs.Bytewise.{rest as rest_bytes}
use Rattle.file_utf8.proofs.Rows.{utf8_well}
use Rattle.file_checks.specs.References.{Child, of_group, of_nest, of_align, preferred, alternative, of_annotate, of_penalty, Ranged, seq, fill, lengths_of, Named, References}
use Rattle.file_checks.specs.Texts.{TextsOk, SpaceOk, text_bytes}
use Rattle.file_checks.specs.Circle.{Refers, child, edge, flat_of_child, Leads, one, more, Circle}
use Rattle.file_checks.specs.Choice.{ListsRight}
use Rattle.machine_input.specs.Reading.{node_of_row, choice_of_row, prepared}
use Rattle.machine.specs.Events.{Bounds, Counts, no_needs, with_needs}
use Rattle.machine.specs.Model.{plan_at}
use Rattle.machine.specs.Solver.{push_exact_task, push_exact_result, push_pending, checked_add, present, present_all, additional_plans, committed, finish_builder, singleton, present_range, union_ranges, present_wrapped, wrap_range, memo_insert, complete_node, push_joined, build_pending}
use Rattle.machine.specs.Solver.{checked_text, push_gaps, fill_boundary, push_child, complete_singleton, begin_empty, begin_text, begin_newline, begin_sequence, begin_union, begin_group, begin_nest, skip_choices, push_alternatives, begin_choice, begin_kind, begin_known, begin_node}
use Rattle.machine.specs.Solver.{complete_alias, complete_union, present_ranges, complete_choice_set, complete_wrapped, push_right, gap_if_fill, next_child, continue_sequence, next_left, complete_sequence_right, execute_task, step}
use Rattle.machine.specs.Solve.{rights, continued, work_off, work_off_all, evaluated, rest, before, least_key, solve_tasks, take_best, solve}
use Rattle.machine.specs.Materializer.{append_each, visit_plan, materialize, render}
use Rattle.machine.specs.Answer.{Answer, answer}
use Rattle.answer.specs.Answer.{Settings, rules_of}

-- ---- what a case computes: the bytes of tables, and the answer to a call

unfoldable pub bytes_of : Tables → List ℕ
unfolding map_of header_map enc_header node_map enc_node text_map enc_text enc_texts each encode
bytes_of t = encode t

unfoldable pub tried : Tables → Settings → Bounds → Answer
unfolding cheap cheaper charged same covers presented plan_at push_exact_task push_exact_result push_pending checked_add present present_all additional_plans committed finish_builder singleton present_range union_ranges present_wrapped wrap_range memo_insert complete_node push_joined build_pending checked_text push_gaps fill_boundary push_child complete_singleton begin_empty begin_text begin_newline begin_sequence begin_union begin_group begin_nest skip_choices push_alternatives begin_choice begin_kind begin_known begin_node complete_alias complete_union present_ranges complete_choice_set complete_wrapped push_right gap_if_fill next_child continue_sequence next_left complete_sequence_right execute_task step rights continued work_off work_off_all evaluated rest before least_key solve_tasks take_best solve append_each visit_plan materialize render answer node_of_row choice_of_row
tried t c b = answer (rules_of c) (prepared t) b

-- the sizes of `page`, and a limit of work
abbrev pub page_bounds : ℕ → Bounds
page_bounds work = record {
  stack = 512;
  memo = 1024;
  kept = 1024;
  frontier = 256;
  plans = 2048;
  visit = 512;
  depth = 64;
  output = 32768;
  spans = 512;
  work_limit = work;
  visit_limit = 1000000;
}

-- work, hits, misses, generated, pruned, peak, entries, plan nodes, visits
abbrev pub counted : ℕ → ℕ → ℕ → ℕ → ℕ → ℕ → ℕ → ℕ → ℕ → Counts
counted w h m g p t e n v = record {
  work_items = w;
  memo_hits = h;
  memo_misses = m;
  candidates_generated = g;
  candidates_pruned = p;
  peak_frontier = t;
  memo_entries = e;
  plan_nodes = n;
  visits = v;
  needs = no_needs;
}

-- and a page's needs: stack, memo, kept, frontier, plans, visit, depth, output, spans
abbrev pub needing : Counts → ℕ → ℕ → ℕ → ℕ → ℕ → ℕ → ℕ → ℕ → ℕ → Counts
needing k s m p f l v d o n = with_needs k (record { stack = s; memo = m; kept = p; frontier = f; plans = l; visit = v; depth = d; output = o; spans = n })

-- ---- a test for tables in which every number of a node names an earlier one, and which have no choice list

abbrev all : List Bool → Bool
all [] = true
all (b ∷ bs) = both b (all bs)

all_at : (bs : List Bool) → all bs ≡ true → (k : ℕ) → get_or bs k true ≡ true
all_at [] e k = refl
all_at (b ∷ bs) e zero = (both_true b (all bs) e).0
all_at (b ∷ bs) e (suc k) = all_at bs (both_true b (all bs) e).1 k

-- kinds whose first, whose second is a child, whose two are a range of edges
abbrev one_child : ℕ → Bool
one_child κ = eqb κ 5 || (eqb κ 8 || eqb κ 9)

abbrev two_child : ℕ → Bool
two_child κ = eqb κ 7 || (eqb κ 9 || (eqb κ 10 || eqb κ 11))

abbrev ranged : ℕ → Bool
ranged κ = eqb κ 4 || eqb κ 6

abbrev edge_below : Tables → ℕ → List ℕ → ℕ → Bool
edge_below t i row k = ltb (get_or t.edges (first row + k) 0) i

abbrev row_tests : Tables → ℕ → List ℕ → List Bool
row_tests t i row = only (eqb (kind row) 1) (ltb (first row) (length t.texts))
    ∷ only (eqb (kind row) 10) (ltb (first row) t.annotations)
    ∷ only (one_child (kind row)) (ltb (first row) i)
    ∷ only (two_child (kind row)) (ltb (second row) i)
    ∷ only (ranged (kind row)) (leb (first row + second row) (length t.edges))
    ∷ only (ranged (kind row)) (all_below (second row) (edge_below t i row))
    ∷ only (eqb (flat_mark row) 1) (ltb (flat_word row) i)
    ∷ eqb (choice_length row) 0
    ∷ eqb (length row) 8
    ∷ []

abbrev row_sound : Tables → ℕ → Bool
row_sound t i = all (row_tests t i (node_row t i))

abbrev text_sized : Tables → ℕ → Bool
text_sized t i = eqb (length (get_or t.texts i [])) 3

abbrev edge_in : Tables → ℕ → Bool
edge_in t k = ltb (get_or t.edges k 0) (length t.nodes)

abbrev tests : Tables → List Bool
tests t = all_below (length t.nodes) (row_sound t)
    ∷ all_below (length t.texts) (text_sized t)
    ∷ all_below (length t.edges) (edge_in t)
    ∷ eqb (length t.choices) 0
    ∷ eqb (length t.bytes) (lengths t.texts)
    ∷ ltb t.root (length t.nodes)
    ∷ ltb t.space (length t.texts)
    ∷ eqb (tables_fault t) 0
    ∷ []

-- neither 3 or 4 nor 6, 9 or 10
unfoldable pub sound : Tables → Bool
unfolding named has_first has_second map_right pair_right map_of node_map node_is_right nodes_fault texts_fault header_fault tables_fault lengths
sound t = all (tests t)

-- nor 7
abbrev no_ten : List ℕ → ℕ → Bool
no_ten bytes k = not (eqb (get_or bytes k 0) 10)

abbrev text_ok : List ℕ → Bool
text_ok bytes = both (all_below (length bytes) (no_ten bytes)) (well bytes)

unfoldable pub texted : Tables → Bool
unfolding more_bytes low high rest_bytes
texted t = all_below (length t.texts) (λ i. text_ok (text_bytes t.texts t.bytes i))

-- nor 8
abbrev space_bytes : Tables → List ℕ
space_bytes t = text_bytes t.texts t.bytes t.space

abbrev space_tests : Tables → List Bool
space_tests t = eqb (width (get_or t.texts t.space [])) 1 ∷ eqb (length (space_bytes t)) 1 ∷ eqb (get_or (space_bytes t) 0 0) 32 ∷ []

abbrev pub spaced : Tables → Bool
spaced t = all (space_tests t)

-- neither 7 nor 8
abbrev pub texts_fine : Tables → Bool
texts_fine t = both (texted t) (spaced t)

-- nor 1
abbrev pub ordered : Settings → Bool
ordered c = both (leb 1 c.width) (both (leb c.policy 1) (both (leb 1 c.rule) (leb c.rule 2)))

-- what a sound row has
record RowSound (t : Tables) (i : ℕ) (row : List ℕ) : Type 0 where
  text : kind row ≡ 1 → first row < length t.texts
  annotation : kind row ≡ 10 → first row < t.annotations
  one_below : one_child (kind row) ≡ true → first row < i
  two_below : two_child (kind row) ≡ true → second row < i
  range_in : ranged (kind row) ≡ true → first row + second row ≤ length t.edges
  edges_below : ranged (kind row) ≡ true → (k : ℕ) → k < second row → get_or t.edges (first row + k) 0 < i
  flat_below : (j : ℕ) → flat row ≡ some j → j < i
  no_list : choice_length row ≡ 0
  words : length row ≡ 8

stood : (b : Bool) (n j : ℕ) → if_marked b n ≡ some j → (b ≡ true) × (n ≡ j)
stood true n j e = (refl, cc)
stood false n j e = let z : ◌≡◌ {A = ℕ} 0 1 = cc in absurd (omega arith)

row_is : (t : Tables) (i : ℕ) → row_sound t i ≡ true → RowSound t i (node_row t i)
row_is t i e =
    let row = node_row t i in
    let test = all_at (row_tests t i row) e in
    record {
      text = λ q. ltb-true _ _ (only_true _ _ (test 0) (eq-eqb _ _ q));
      annotation = λ q. ltb-true _ _ (only_true _ _ (test 1) (eq-eqb _ _ q));
      one_below = λ q. ltb-true _ _ (only_true _ _ (test 2) q);
      two_below = λ q. ltb-true _ _ (only_true _ _ (test 3) q);
      range_in = λ q. leb-true _ _ (only_true _ _ (test 4) q);
      edges_below = λ q k h. ltb-true _ _ (at_below (second row) (edge_below t i row) (only_true _ _ (test 5) q) k h);
      flat_below = λ j h. let m = stood (eqb (flat_mark row) 1) (flat_word row) j h in subst (λ (n : ℕ). n < i) m.1 (ltb-true _ _ (only_true _ _ (test 6) m.0));
      no_list = eqb-true _ _ (test 7);
      words = eqb-true _ _ (test 8);
    }

pub record TablesSound (t : Tables) : Type 0 where
  rows : (i : ℕ) → i < length t.nodes → RowSound t i (node_row t i)
  sized : Sized t
  edges : (k : ℕ) → k < length t.edges → get_or t.edges k 0 < length t.nodes
  no_choices : length t.choices ≡ 0
  root : t.root < length t.nodes
  space : t.space < length t.texts
  fine : tables_fault t ≡ 0

pub tables_are : (t : Tables) → sound t ≡ true → TablesSound t
unfolding sound
tables_are t e =
    let test = all_at (tests t) e in
    let texts_at : (i : ℕ) → i < length t.texts → text_sized t i ≡ true = at_below (length t.texts) (text_sized t) (test 1) in
    let rows_at : (i : ℕ) → i < length t.nodes → RowSound t i (node_row t i) = λ i h. row_is t i (at_below (length t.nodes) (row_sound t) (test 0) i h) in
    record {
      rows = rows_at;
      sized = record {
        node_rows = λ i h. (rows_at i h).words;
        text_rows = λ i h. eqb-true _ _ (texts_at i h);
        bytes = eqb-true _ _ (test 4);
      };
      edges = λ k h. ltb-true _ _ (at_below (length t.edges) (edge_in t) (test 2) k h);
      no_choices = eqb-true _ _ (test 3);
      root = ltb-true _ _ (test 5);
      space = ltb-true _ _ (test 6);
      fine = eqb-true _ _ (test 7);
    }

only_byte : (bytes : List ℕ) → length bytes ≡ 1 → get_or bytes 0 0 ≡ 32 → bytes ≡ 32 ∷ []
only_byte [] e f = absurd (omega arith)
only_byte (x ∷ []) e f = ap (λ (y : ℕ). y ∷ []) f
only_byte (x ∷ y ∷ l) e f = absurd (omega arith)

pub texts_right : (t : Tables) → texted t ≡ true → TextsOk t.texts t.bytes
unfolding texted
texts_right t e =
    record {
      each = λ i h.
          let bytes = text_bytes t.texts t.bytes i in
          let b = both_true (all_below (length bytes) (no_ten bytes)) (well bytes) (at_below (length t.texts) (λ j. text_ok (text_bytes t.texts t.bytes j)) e i h) in
          record { no_newline = record { none = λ k l. eqb-false _ _ (not-true _ (at_below (length bytes) (no_ten bytes) b.0 k l)) }; well_formed = (utf8_well bytes).1 b.1 };
    }

pub space_is : (t : Tables) → spaced t ≡ true → SpaceOk t.texts t.bytes t.space
space_is t e =
    let test = all_at (space_tests t) e in
    record { wide = eqb-true _ _ (test 0); byte = only_byte (space_bytes t) (eqb-true _ _ (test 1)) (eqb-true _ _ (test 2)) }

-- ---- so 6, 9 and 10 do not hold of them

module _ (t : Tables) (z : TablesSound t) where
  child_below : (i j : ℕ) → i < length t.nodes → Child (node_row t i) j → j < i
  child_below i j h (of_group e) = (z.rows i h).one_below (ap one_child e)
  child_below i j h (of_nest e) = (z.rows i h).two_below (ap two_child e)
  child_below i j h (of_align e) = (z.rows i h).one_below (ap one_child e)
  child_below i j h (preferred e) = (z.rows i h).one_below (ap one_child e)
  child_below i j h (alternative e) = (z.rows i h).two_below (ap two_child e)
  child_below i j h (of_annotate e) = (z.rows i h).two_below (ap two_child e)
  child_below i j h (of_penalty e) = (z.rows i h).two_below (ap two_child e)

  is_ranged : (row : List ℕ) → Ranged row → ranged (kind row) ≡ true
  is_ranged row (seq e) = ap ranged e
  is_ranged row (fill e) = ap ranged e

  refers_below : (i j : ℕ) → i < length t.nodes → Refers t.nodes t.edges i j → j < i
  refers_below i j h (child c) = child_below i j h c
  refers_below i j h (edge k g b) = (z.rows i h).edges_below (is_ranged (node_row t i) g) k b
  refers_below i j h (flat_of_child e f) =
      let l = child_below i (first (node_row t i)) h (of_group e) in
      omega (arith, (z.rows (first (node_row t i)) (omega arith)).flat_below j f)

  leads_below : (i j : ℕ) → i < length t.nodes → Leads t.nodes t.edges i j → j < i
  leads_below i j h (one r) = refers_below i j h r
  leads_below i j h (more {j = k} w r) = let l = leads_below i k h w in omega (arith, refers_below k j (omega arith) r)

  pub no_circle : Circle t.nodes t.edges → ⊥
  no_circle c = omega (arith, leads_below c.node c.node c.inside c.back)

  row_named : (i : ℕ) → i < length t.nodes → Named (lengths_of t) (node_row t i)
  row_named i h = record {
    by_kind = record {
      text = (z.rows i h).text;
      annotation = (z.rows i h).annotation;
      child = λ j c. omega (arith, child_below i j h c);
      edge_range = λ g. (z.rows i h).range_in (is_ranged (node_row t i) g);
    };
    flat_node = λ j e. omega (arith, (z.rows i h).flat_below j e);
    choice_range = λ ne. absurd (ne (z.rows i h).no_list);
  }

  pub references : References t
  references = record {
    root = z.root;
    space = z.space;
    edges = record { below = z.edges };
    choices = record { below = λ k h. absurd (omega (arith, z.no_choices)) };
    nodes = record { each = row_named };
  }

  pub lists : ListsRight t.nodes t.choices
  lists = record { each = λ i h ne. absurd (ne (z.rows i h).no_list) }

-- ---- the answer to a call

-- the file of the tables is read back
pub file_read : (t : Tables) (file : List ℕ) → bytes_of t ≡ file → sound t ≡ true → (form_fault file ≡ 0) × (tables_of file ≡ t)
unfolding bytes_of
file_read t file e s = let z = tables_are t s in let r = reads_back t z.sized z.fine in (ap form_fault (sym e) ∙ r.fine, ap tables_of (sym e) ∙ r.tables)

-- nor is it 6
pub references_right : (t : Tables) → sound t ≡ true → References t
references_right t s = references t (tables_are t s)
