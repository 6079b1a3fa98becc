-- Document 01, "Checked by hand (★ proved)": its starred cases in one list, in its order, and one theorem that each comes to what document 01 says (11 for two Nests became 25 by document 02, change 3).
-- Files, pages, numbers and counts are those of the frozen sample; that such an answer is the only one, and its page the rule's, are theorems (Exactly, Demand).
use Rattle.std.specs.Prelude.{◌≡◌, List, [], ◌∷◌, ℕ, length}
use Rattle.file_tables.specs.Tables.{Tables, tables}
use Rattle.machine.specs.Events.{Counts, no_counts, done, run}
use Rattle.machine.specs.Model.{PlanEmpty, Made, Scratch, scratch, blank_state, with_builder}
use Rattle.machine.specs.Solver.{present_all, ranked}
use Rattle.machine.specs.Answer.{Answer, paged, refused}
use Rattle.answer.specs.Answer.{Settings, Answers}
use Rattle.answer.specs.Worked.{page_bounds, counted, needing}

-- ---- the files, a record a line: header, nodes, edges, texts (the first is the space)

abbrev empty_file : List ℕ
empty_file = 5 ∷ 1 ∷ 0 ∷ 0 ∷ 0 ∷ 1 ∷ 0 ∷ 0 ∷ 0
    ∷ 0 ∷ 0
    ∷ 3 ∷ 1 ∷ 0 ∷ 0 ∷ 0 ∷ 1 ∷ 0 ∷ 0 ∷ 0 ∷ 32
    ∷ []

-- one Text
abbrev ab_file : List ℕ
ab_file = 5 ∷ 1 ∷ 0 ∷ 0 ∷ 0 ∷ 2 ∷ 0 ∷ 0 ∷ 0
    ∷ 1 ∷ 1 ∷ 1 ∷ 0 ∷ 0 ∷ 0
    ∷ 3 ∷ 1 ∷ 0 ∷ 0 ∷ 0 ∷ 1 ∷ 0 ∷ 0 ∷ 0 ∷ 32
    ∷ 3 ∷ 2 ∷ 0 ∷ 0 ∷ 0 ∷ 2 ∷ 0 ∷ 0 ∷ 0 ∷ 97 ∷ 98
    ∷ []

-- Texts and Break, the Seqs `ab cd` and `ab` Break `cd`, whose flat node is the first, and the Group
abbrev group_file : List ℕ
group_file = 39 ∷ 7 ∷ 0 ∷ 0 ∷ 0 ∷ 6 ∷ 0 ∷ 0 ∷ 0 ∷ 3 ∷ 0 ∷ 0 ∷ 0 ∷ 6 ∷ 0 ∷ 0 ∷ 0
    ∷ 1 ∷ 1 ∷ 1 ∷ 0 ∷ 0 ∷ 0
    ∷ 0 ∷ 2
    ∷ 1 ∷ 1 ∷ 2 ∷ 0 ∷ 0 ∷ 0
    ∷ 0 ∷ 1
    ∷ 2 ∷ 4 ∷ 3 ∷ 0 ∷ 0 ∷ 0
    ∷ 7 ∷ 4 ∷ 3 ∷ 0 ∷ 0 ∷ 0 ∷ 3 ∷ 0 ∷ 0 ∷ 0 ∷ 4 ∷ 0 ∷ 0 ∷ 0
    ∷ 1 ∷ 5 ∷ 5 ∷ 0 ∷ 0 ∷ 0
    ∷ 0 ∷ 0 ∷ 0 ∷ 0 ∷ 3 ∷ 0 ∷ 0 ∷ 0 ∷ 2 ∷ 0 ∷ 0 ∷ 0 ∷ 0 ∷ 0 ∷ 0 ∷ 0 ∷ 1 ∷ 0 ∷ 0 ∷ 0 ∷ 2 ∷ 0 ∷ 0 ∷ 0
    ∷ 3 ∷ 1 ∷ 0 ∷ 0 ∷ 0 ∷ 1 ∷ 0 ∷ 0 ∷ 0 ∷ 32
    ∷ 3 ∷ 2 ∷ 0 ∷ 0 ∷ 0 ∷ 2 ∷ 0 ∷ 0 ∷ 0 ∷ 97 ∷ 98
    ∷ 3 ∷ 2 ∷ 0 ∷ 0 ∷ 0 ∷ 2 ∷ 0 ∷ 0 ∷ 0 ∷ 99 ∷ 100
    ∷ []

abbrev fill_file : List ℕ
fill_file = 39 ∷ 3 ∷ 0 ∷ 0 ∷ 0 ∷ 2 ∷ 0 ∷ 0 ∷ 0 ∷ 3 ∷ 0 ∷ 0 ∷ 0 ∷ 2 ∷ 0 ∷ 0 ∷ 0
    ∷ 1 ∷ 1 ∷ 1 ∷ 0 ∷ 0 ∷ 0
    ∷ 1 ∷ 1 ∷ 2 ∷ 0 ∷ 0 ∷ 0
    ∷ 2 ∷ 6 ∷ 2 ∷ 0 ∷ 0 ∷ 0
    ∷ 0 ∷ 0 ∷ 0 ∷ 0 ∷ 1 ∷ 0 ∷ 0 ∷ 0
    ∷ 3 ∷ 1 ∷ 0 ∷ 0 ∷ 0 ∷ 1 ∷ 0 ∷ 0 ∷ 0 ∷ 32
    ∷ 3 ∷ 1 ∷ 0 ∷ 0 ∷ 0 ∷ 1 ∷ 0 ∷ 0 ∷ 0 ∷ 97
    ∷ 3 ∷ 1 ∷ 0 ∷ 0 ∷ 0 ∷ 1 ∷ 0 ∷ 0 ∷ 0 ∷ 98
    ∷ []

-- Empty, Nest 2^32 − 1, Nest 1
abbrev nests_file : List ℕ
nests_file = 37 ∷ 3 ∷ 0 ∷ 0 ∷ 0 ∷ 1 ∷ 0 ∷ 0 ∷ 0 ∷ 2 ∷ 0 ∷ 0 ∷ 0
    ∷ 0 ∷ 0
    ∷ 1 ∷ 7 ∷ 255 ∷ 255 ∷ 255 ∷ 255
    ∷ 3 ∷ 7 ∷ 1 ∷ 0 ∷ 0 ∷ 0 ∷ 1 ∷ 0 ∷ 0 ∷ 0
    ∷ 3 ∷ 1 ∷ 0 ∷ 0 ∷ 0 ∷ 1 ∷ 0 ∷ 0 ∷ 0 ∷ 32
    ∷ []

-- HardLine, Nest 3
abbrev line_file : List ℕ
line_file = 37 ∷ 2 ∷ 0 ∷ 0 ∷ 0 ∷ 1 ∷ 0 ∷ 0 ∷ 0 ∷ 1 ∷ 0 ∷ 0 ∷ 0
    ∷ 0 ∷ 3
    ∷ 1 ∷ 7 ∷ 3 ∷ 0 ∷ 0 ∷ 0
    ∷ 3 ∷ 1 ∷ 0 ∷ 0 ∷ 0 ∷ 1 ∷ 0 ∷ 0 ∷ 0 ∷ 32
    ∷ []

-- ---- the table

-- a call under the sizes and limits of `page`: file, settings, answer; or candidates presented in turn to an empty frontier, those that are left, and the counts
pub data Row : Type 0 where
  call : List ℕ → Settings → Answer → Row
  presents : List Scratch → List Scratch → Counts → Row

-- page width, newline cost, policy; document 01 has rule 1
abbrev at : ℕ → ℕ → ℕ → Settings
at w n p = record { width = w; newline_cost = n; policy = p; rule = 1 }

-- a page without spans: its bytes, overflow, burden
abbrev shows : List ℕ → ℕ → ℕ → Counts → Answer
shows bytes o b k = paged (record { bytes = bytes; spans = []; cost = record { overflow = o; burden = b } }) k

-- a candidate: overflow, burden, column
abbrev priced : ℕ → ℕ → ℕ → Scratch
priced o b c = scratch (record { overflow = o; burden = b }) c (Made PlanEmpty)

-- Counts: work, hits, misses, generated, pruned, peak, entries, plan nodes, visits; and what is needed of each kind (document 02, change 10). Where document 01 names no width it is 80, no newline cost 1, no policy 0
abbrev pub starred : List Row
starred =
    -- "★ One Empty: no bytes, work 2."
    call empty_file (at 80 1 0) (shows [] 0 0 (needing (counted 2 0 1 1 0 1 1 1 1) 1 1 1 1 1 1 0 0 0))
    -- "★ `ab`, W 2: overflow 0; ★ W 1: overflow 1."
    ∷ call ab_file (at 2 1 0) (shows (97 ∷ 98 ∷ []) 0 0 (needing (counted 2 0 1 1 0 1 1 1 1) 1 1 1 1 1 1 0 2 0))
    ∷ call ab_file (at 1 1 0) (shows (97 ∷ 98 ∷ []) 1 0 (needing (counted 2 0 1 1 0 1 1 1 1) 1 1 1 1 1 1 0 2 0))
    -- "Group of `ab` Break `cd`, flat `ab cd`, newline cost 1: ★ W 5 flat; ★ W 4 broken, cost (0, 1). ★ Newline cost 0, W 5: flat."
    ∷ call group_file (at 5 1 0) (shows (97 ∷ 98 ∷ 32 ∷ 99 ∷ 100 ∷ []) 0 0 (needing (counted 20 1 8 11 0 2 8 9 5) 4 8 11 2 9 3 0 5 0))
    ∷ call group_file (at 4 1 0) (shows (97 ∷ 98 ∷ 10 ∷ 99 ∷ 100 ∷ []) 0 1 (needing (counted 20 1 8 11 1 1 8 9 5) 4 8 10 1 9 3 0 5 0))
    ∷ call group_file (at 5 0 0) (shows (97 ∷ 98 ∷ 32 ∷ 99 ∷ 100 ∷ []) 0 0 (needing (counted 20 1 8 11 0 2 8 9 5) 4 8 11 2 9 3 0 5 0))
    -- "★ Presented (0,5) at 3, (0,5) at 7, (0,6) at 7, (0,4) at 2: one left, three pruned."
    ∷ presents (priced 0 5 3 ∷ priced 0 5 7 ∷ priced 0 6 7 ∷ priced 0 4 2 ∷ []) (ranked 3 (priced 0 4 2) ∷ []) (needing (counted 4 0 0 4 3 0 0 0 0) 0 0 0 2 0 0 0 0 0)
    -- "★ Fill of `a`, `b`, newline cost 1: W 3 `a b`; W 2 two lines."
    ∷ call fill_file (at 3 1 0) (shows (97 ∷ 32 ∷ 98 ∷ []) 0 0 (needing (counted 13 0 4 9 0 2 4 9 5) 2 4 9 2 9 3 0 3 0))
    ∷ call fill_file (at 2 1 0) (shows (97 ∷ 10 ∷ 98 ∷ []) 0 1 (needing (counted 13 0 4 9 1 2 4 8 5) 2 4 8 2 8 3 0 3 0))
    -- "★ Nest 1 over Nest 2^32 − 1 over Empty, W 80: 11 under either policy." By document 02, change 3, it is 25
    ∷ call nests_file (at 80 1 0) (refused 25 0 (counted 2 0 2 0 0 0 0 0 0))
    ∷ call nests_file (at 80 1 1) (refused 25 0 (counted 2 0 2 0 0 0 0 0 0))
    -- "★ HardLine in Nest 3, W 3: 3 spaces, policy 1: 2."
    ∷ call line_file (at 3 1 0) (shows (10 ∷ 32 ∷ 32 ∷ 32 ∷ []) 0 1 (needing (counted 3 0 2 1 0 1 2 1 1) 2 2 1 1 1 1 0 4 0))
    ∷ call line_file (at 3 1 1) (shows (10 ∷ 32 ∷ 32 ∷ []) 0 1 (needing (counted 3 0 2 1 0 1 2 1 1) 2 2 1 1 1 1 0 3 0))
    ∷ []

abbrev pub Holds : Row → Type 0
Holds (call file c a) = Answers (Unit {0}) file c (page_bounds 1000000) a
Holds (presents cs left k) = run (page_bounds 1000000) no_counts (present_all cs blank_state) ≡ done k (with_builder left (length cs) blank_state)

infixr 20 ◌also◌
pub data Every : List Row → Type 0 where
  none : Every []
  ◌also◌ : {r : Row} {rs : List Row} → Holds r → Every rs → Every (r ∷ rs)

-- ---- the tables of the files, and the proof

-- a node without flat node and list
abbrev node : ℕ → ℕ → ℕ → List ℕ
node k a b = k ∷ a ∷ b ∷ 0 ∷ 0 ∷ 0 ∷ 0 ∷ 0 ∷ []

abbrev space : List ℕ
space = 1 ∷ 1 ∷ 0 ∷ []

abbrev pub empty_tables : Tables
empty_tables = tables (node 0 0 0 ∷ []) [] [] (space ∷ []) (32 ∷ []) 0 0 0

abbrev pub ab_tables : Tables
ab_tables = tables (node 1 1 0 ∷ []) [] [] (space ∷ (2 ∷ 2 ∷ 1 ∷ []) ∷ []) (32 ∷ 97 ∷ 98 ∷ []) 0 0 0

abbrev pub group_tables : Tables
group_tables =
    tables (node 1 1 0 ∷ node 2 0 0 ∷ node 1 2 0 ∷ node 1 0 0 ∷ node 4 0 3 ∷ (4 ∷ 3 ∷ 3 ∷ 1 ∷ 4 ∷ 0 ∷ 0 ∷ 0 ∷ []) ∷ node 5 5 0 ∷ [])
    (0 ∷ 3 ∷ 2 ∷ 0 ∷ 1 ∷ 2 ∷ []) [] (space ∷ (2 ∷ 2 ∷ 1 ∷ []) ∷ (2 ∷ 2 ∷ 3 ∷ []) ∷ []) (32 ∷ 97 ∷ 98 ∷ 99 ∷ 100 ∷ []) 0 6 0

abbrev pub fill_tables : Tables
fill_tables = tables (node 1 1 0 ∷ node 1 2 0 ∷ node 6 0 2 ∷ []) (0 ∷ 1 ∷ []) [] (space ∷ (1 ∷ 1 ∷ 1 ∷ []) ∷ (1 ∷ 1 ∷ 2 ∷ []) ∷ []) (32 ∷ 97 ∷ 98 ∷ []) 0 2 0

abbrev pub nests_tables : Tables
nests_tables = tables (node 0 0 0 ∷ node 7 4294967295 0 ∷ node 7 1 1 ∷ []) [] [] (space ∷ []) (32 ∷ []) 0 2 0

abbrev pub line_tables : Tables
line_tables = tables (node 3 0 0 ∷ node 7 3 0 ∷ []) [] [] (space ∷ []) (32 ∷ []) 0 1 0
